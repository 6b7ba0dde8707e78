use Rattle.std.proofs.Common.{◌≡◌, ◌<◌, length, Some, sym, arith}
use Rattle.vg_blast.specs.Disjuncts.{sides_of}
use Rattle.vg_blast.proofs.Splits.{StandsPart, sides_stand, split_none, split_place, split_long, split_more, split_on, split_done}
use Rattle.vg_blast.proofs.disjuncts.disjuncts.Goals.{then-loop-at-test+else-len-lt-MOST_PARTS, else-loop-at-test}
use Rattle.vg_blast.proofs.disjuncts.disjuncts.Goals as goal

pub loop-at-init : goal.loop-at-init
loop-at-init c = split_none c.as_part.ensures.made c.args.id c.new-parts.result.items c.push.new.self.items c.as_part.result c.requires
    c.new-parts.ensures.items c.as_part.ensures.part c.in_ok-push.ensures.items

pub sides-requires : goal.sides-requires
sides-requires c =
    let within : c.loop-at.at < length c.loop-at.parts.items = omega (arith, c.loop-at-test.true, c.len.ensures, c.loop-at.parts.ok.0) in
    split_place (StandsPart c.args.terms.now) c.loop-at.parts.items c.loop-at.at c.index-whole.result.now c.loop-at.invariant.stand within c.index-whole.ensures

pub as_part-requires-in-Some : goal.as_part-requires-in-Some
as_part-requires-in-Some c =
    let within : c.loop-at.at < length c.loop-at.parts.items = omega (arith, c.loop-at-test.true, c.len.ensures, c.loop-at.parts.ok.0) in
    let stands = split_place (StandsPart c.args.terms.now) c.loop-at.parts.items c.loop-at.at c.index-whole.result.now c.loop-at.invariant.stand
    within c.index-whole.ensures in
    (sides_stand c.in-Some.ensures.made c.index-whole.result.now c.in-Some.a c.in-Some.b stands (sym c.in-Some.ensures.sides)).0

pub as_part-requires-in-Some-2 : goal.as_part-requires-in-Some-2
as_part-requires-in-Some-2 c =
    let within : c.loop-at.at < length c.loop-at.parts.items = omega (arith, c.loop-at-test.true, c.len.ensures, c.loop-at.parts.ok.0) in
    let stands = split_place (StandsPart c.args.terms.now) c.loop-at.parts.items c.loop-at.at c.index-whole.result.now c.loop-at.invariant.stand
    within c.index-whole.ensures in
    (sides_stand c.in-Some.ensures.made c.index-whole.result.now c.in-Some.a c.in-Some.b stands (sym c.in-Some.ensures.sides)).1

pub loop-at-smaller-in-Continue-branch-2 : goal.loop-at-smaller-in-Continue-branch-2
loop-at-smaller-in-Continue-branch-2 c =
    let within : c.loop-at.at < length c.loop-at.parts.items = omega (arith, c.loop-at-test.true, c.len.ensures, c.loop-at.parts.ok.0) in
    let few : length c.loop-at.parts.items < 128 = omega (arith, c.if-len-lt-MOST_PARTS.true, c.len-in-loop-at.ensures, c.loop-at.parts.ok.0) in
    let long = split_long c.loop-at.parts.items c.push-in-Some.new.self.items c.loop-at.at c.as_part-in-Some.result c.as_part-in-Some-2.result
    c.in_ok-push-in-Some.ensures.items in
    omega (arith, within, few, long)

pub loop-at-preserved-in-Continue-branch-2 : goal.loop-at-preserved-in-Continue-branch-2
loop-at-preserved-in-Continue-branch-2 c =
    let within : c.loop-at.at < length c.loop-at.parts.items = omega (arith, c.loop-at-test.true, c.len.ensures, c.loop-at.parts.ok.0) in
    let few : length c.loop-at.parts.items < 128 = omega (arith, c.if-len-lt-MOST_PARTS.true, c.len-in-loop-at.ensures, c.loop-at.parts.ok.0) in
    let two : sides_of c.args.terms.now c.index-whole.result.now ≡ Some (c.in-Some.a, c.in-Some.b) = sym c.in-Some.ensures.sides in
    split_more c.in-Some.ensures.made c.args.id c.loop-at.parts.items c.push-in-Some.new.self.items c.loop-at.at c.index-whole.result.now
    c.as_part-in-Some.result c.as_part-in-Some-2.result c.in-Some.a c.in-Some.b within few c.index-whole.ensures two
    c.as_part-in-Some.ensures.part c.as_part-in-Some-2.ensures.part c.in_ok-push-in-Some.ensures.items c.loop-at.invariant

pub loop-at-smaller : goal.loop-at-smaller
loop-at-smaller c =
    let within : c.loop-at.at < length c.loop-at.parts.items = omega (arith, c.loop-at-test.true, c.len.ensures, c.loop-at.parts.ok.0) in
    let few : length c.loop-at.parts.items < 128 = omega (arith, c.if-len-lt-MOST_PARTS.true, c.len-in-loop-at.ensures, c.loop-at.parts.ok.0) in
    omega (arith, within, few)

pub loop-at-preserved : goal.loop-at-preserved
loop-at-preserved c =
    let within : c.loop-at.at < length c.loop-at.parts.items = omega (arith, c.loop-at-test.true, c.len.ensures, c.loop-at.parts.ok.0) in
    split_on c.args.terms.now c.args.id c.loop-at.parts.items c.loop-at.at c.index-whole.result.now within c.index-whole.ensures
    (sym c.in-None.ensures.sides) c.loop-at.invariant

pub returns : goal.returns
returns c =
    split_done c.args.terms.now c.args.id c.loop-at.parts.items c.loop-at.at
    (λ few.
    elim c.loop-at-test.branch [
      | then-loop-at-test+else-len-lt-MOST_PARTS w ↦ let none : ⊥ = omega (
        arith,
        few,
        w.if-len-lt-MOST_PARTS.false,
        w.len-in-loop-at.ensures,
        c.loop-at.parts.ok.0,
      ) in absurd none
      | else-loop-at-test w ↦ omega (arith, w.loop-at-test.false, c.len.ensures, c.loop-at.parts.ok.0)
    ])
    c.loop-at.invariant
