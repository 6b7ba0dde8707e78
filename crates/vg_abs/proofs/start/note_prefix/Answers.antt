use Rattle.std.proofs.Common.{◌∙◌, ap, ℕ, true, Bool}
use Rattle.std.specs.Prelude.{is_some}
use Rattle.std.specs.Ordering.{nat_cmp}
use Rattle.std.specs.FinMap.{FinMap, get, insert}
use Rattle.vg_abs.proofs.Starting.{noted}
use Rattle.vg_abs.proofs.start.note_prefix.Goals as goal

pub returns-in_ok-insert : goal.returns-in_ok-insert
returns-in_ok-insert c = λ prefix.
    ap (λ (table : FinMap nat_cmp Bool). is_some (get table prefix)) (c.in_ok-insert.ensures.inserted
    ∙ ap (λ (k : ℕ). insert c.args.later.now k true) c.prefix_of.ensures)
    ∙ noted c.args.table prefix c.args.route c.args.later.now c.if-route-table.true
