use Rattle.std.proofs.Common.{◌≡◌, ◌≤◌, rules, length}
use Rattle.vg_cscope.specs.Scopes.{seen_at}
use Rattle.vg_cscope.specs.Tables as tables
use Rattle.vg_cscope.specs.Views.{walked}
use Rattle.vg_cscope.proofs.Finding.{found_so}
use Rattle.vg_cscope.proofs.table.Table.found.Goals as goal

pub returns-in-Some : goal.returns-in-Some
returns-in-Some c =
    let stack = c.args.self.now.stack.items in
    let top : tables.at stack (length stack) ≡ seen_at c.args.walk.now.standings.now c.args.n = search rules in
    let low : length stack ≤ length c.args.walk.now.tree.now.nodes = search rules in
    found_so (walked c.args.walk.now) c.args.wanted stack c.args.self.now.heads.items c.requires c.args.n c.nearest.result top low c.nearest.ensures
