use Rattle.std.proofs.Common.{◌≡◌, ◌≤◌, subst, arith}
use Rattle.vg_term.specs.Equality.{IsLowEqual}
use Rattle.vg_term.proofs.Equalities.{low_more, low_all}
use Rattle.vg_term.proofs.terms.Terms.equal.Goals as goal

pub loop-at-preserved : goal.loop-at-preserved
loop-at-preserved c =
    let i = c.loop-at.invariant in
    let first = c.run_end.ensures.run in
    let second = c.run_end-in-loop-at.ensures.run in
    let some : c.loop-at.at ≤ c.min-end.result = omega (arith, first.some, second.some, c.min-end.ensures) in
    let most : c.min-end.result ≤ c.width-width.result = omega (arith, c.run_end.ensures.end, c.min-end.ensures) in
    let more =
    low_more c.args.self.now c.loop-at.self c.piece.new.self c.piece-in-loop-at.new.self c.both_equal.new.self c.args.a c.args.b c.in_ok-x.x
    c.in_ok-y.y c.loop-at.all c.in_ok-all-2.all c.in-Some.left c.in-Some-wires.right c.width-width.result c.loop-at.at c.min-end.result
    c.requires.made c.requires.first c.requires.second c.in-Some.ensures.carry c.in-Some-wires.ensures.carry i.0 i.1 some most
    c.piece.ensures.builds.grown c.in_ok-x.ensures.builds.wired c.piece-in-loop-at.ensures.builds.grown c.in_ok-y.ensures.builds.wired
    c.both_equal.ensures.joins.grown c.in_ok-all-2.ensures.joins.both in (
      more.0,
      more.1,
      most,
      record {
        cuts = omega (arith, i.3.cuts, c.piece.ensures.spends.cuts, c.piece-in-loop-at.ensures.spends.cuts);
        few = omega (arith, i.3.few, some, c.piece.ensures.spends.few, c.piece-in-loop-at.ensures.spends.few, c.both_equal.ensures.few);
      },
    )

pub returns-clause-builds : goal.returns-clause-builds
returns-clause-builds c =
    let i = c.loop-at.invariant in
    let end : c.loop-at.at ≡ c.width-width.result = omega (arith, i.2, c.loop-at-test.false) in
    low_all c.args.self.now c.loop-at.self c.args.a c.args.b c.loop-at.all c.width-width.result i.0 c.requires.first c.requires.second
    c.requires.alike c.width-width.ensures.width
    (subst (λ n. IsLowEqual c.loop-at.self c.loop-at.all c.args.a c.args.b n) end i.1)
