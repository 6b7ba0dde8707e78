use Rattle.std.proofs.Common.{◌∙◌, sym, arith}
use Rattle.vg_doubles.proofs.PageRoles.{made_here, made_passed, made_on-passed}
use Rattle.vg_doubles.proofs.pages.first_made.Goals as goal

pub returns-then-is_for-clause-first : goal.returns-then-is_for-clause-first
returns-then-is_for-clause-first c =
    rw c.loop-page.invariant.index (made_here c.args.name.now c.args.pages.now c.loop-page.page-index c.page-item.result c.loop-page-test.true
    c.page-item.is c.loop-page.invariant.first (sym c.if-is_for.ensures))

pub loop-page-preserved : goal.loop-page-preserved
loop-page-preserved c =
    let before = c.loop-page.invariant in
    record {
      index = omega (arith, before.index);
      none = made_on-passed c.args.name.now c.args.pages.now c.loop-page.page-index c.page-item.result c.loop-page-test.true c.page-item.is
          before.first (sym c.if-is_for.ensures) ∙ before.none;
      first = made_passed c.args.name.now c.args.pages.now c.loop-page.page-index c.page-item.result c.loop-page-test.true c.page-item.is before.first
          (sym c.if-is_for.ensures);
    }
