use Rattle.std.proofs.Common.{refl, arith, ◌∷◌, []}
use Rattle.vg_term.specs.Wiring.{Carries, IsBitwise}
use Rattle.vg_term.specs.declared.wire.Wire.{Wire}
use Rattle.vg_term.proofs.Following.{if_some, carries_bits, carries_left_none, carries_left, carries_right_none, carries_right}
use Rattle.vg_term.proofs.terms.Terms.wire_of_two.Goals as goal

pub returns-then-from-by : goal.returns-then-from-by
returns-then-from-by c = carries_left_none c.args.self.now c.args.op c.args.a c.args.b c.args.at c.in_ok-by-in-Shl.by c.in_ok-by-in-Shl.ensures.word
    c.in-Shl.is (omega (arith, c.if-at-width.false, c.width-width.ensures.width)) (omega (arith, c.if-from-by.true, c.from.ensures))

pub returns-then-by-from : goal.returns-then-by-from
returns-then-by-from c = carries_right_none c.args.self.now c.args.op c.args.a c.args.b c.args.at c.in_ok-by-in-Lshr.by
    c.in_ok-by-in-Lshr.ensures.word c.width-width.ensures.made c.requires.first c.in-Lshr.is
    (omega (arith, c.if-at-width.false, c.width-width.ensures.width, c.if-by-from.true, c.from-in-Lshr.ensures))

pub returns-in-And : goal.returns-in-And
returns-in-And c =
    if_some (λ (w : Wire). IsBitwise c.args.op c.followed-x.result c.followed-y.result w) (λ (w : Wire). Carries c.args.self.now c.args.op
    (c.args.a ∷ c.args.b ∷ []) c.args.at w) c.bitwise.result
    (λ w is. carries_bits c.args.self.now c.args.op c.args.a c.args.b c.args.at c.followed-x.result c.followed-y.result w c.followed-x.ensures
    c.followed-y.ensures is) c.bitwise.ensures

pub returns-else-from-by : goal.returns-else-from-by
returns-else-from-by c = carries_left c.args.self.now c.args.op c.args.a c.args.b c.args.at c.in_ok-by-in-Shl.by c.in_ok-by-in-Shl.ensures.word
    c.in-Shl.is (omega (arith, c.if-at-width.false, c.width-width.ensures.width)) (omega (arith, c.if-from-by.false, c.from.ensures))
    c.in_ok-by-in-Shl.by.value c.followed.result refl c.followed.ensures

pub returns-else-by-from : goal.returns-else-by-from
returns-else-by-from c = carries_right c.args.self.now c.args.op c.args.a c.args.b c.args.at c.in_ok-by-in-Lshr.by c.in_ok-by-in-Lshr.ensures.word
    c.in-Lshr.is c.in_ok-by-in-Lshr.by.value c.followed-in-Lshr.result refl c.followed-in-Lshr.ensures
