use Rattle.std.proofs.Common.{◌∙◌}
use Rattle.vg_doubles.proofs.PageRoles.{role_at-get}
use Rattle.vg_doubles.proofs.pages.free_page.Goals as goal

pub returns-then-is_free-clause-free : goal.returns-then-is_free-clause-free
returns-then-is_free-clause-free c =
    rw c.loop-page.invariant.index (role_at-get c.args.pages.now c.loop-page.page-index c.page-item.result c.loop-page-test.true c.page-item.is
    ∙ c.is_free.ensures.0 c.if-is_free.true)
