use Rattle.std.proofs.Common.{refl}
use Rattle.vg_term.specs.declared.node.Op.TheVariants as ops
use Rattle.vg_term.specs.declared.node.Parts.TheVariants as held
use Rattle.vg_term.proofs.Building.{or_for_sum}
use Rattle.vg_term.proofs.Compared.{same_answers, zeros_for_sign, shift_for_sign}
use Rattle.vg_term.proofs.terms.Terms.as_wiring.Goals as goal

pub returns-then-are_apart : goal.returns-then-are_apart
returns-then-are_apart c = or_for_sum c.args.self.now c.args.op c.args.parts c.in-Add-Two.a c.in-Add-Two.b c.in-Add-Two.is-0 c.in-Add-Two.is-1
    c.requires.made c.requires.parts_stand c.requires.fits (c.if-are_apart.ensures refl)

pub returns-then-is_nonnegative : goal.returns-then-is_nonnegative
returns-then-is_nonnegative c =
    same_answers c.args.self.now c.args.op (ops.Sext c.in-Sext-One.width) (ops.Zext c.in-Sext-One.width) c.args.parts (held.One c.in-Sext-One.a)
    c.in-Sext-One.is-0 c.in-Sext-One.is-1 c.requires.parts_stand c.requires.fits
    (λ stand fits. zeros_for_sign c.args.self.now c.in-Sext-One.width c.in-Sext-One.a c.requires.made (c.if-is_nonnegative.ensures refl) stand fits)

pub returns-then-is_nonnegative-2 : goal.returns-then-is_nonnegative-2
returns-then-is_nonnegative-2 c =
    same_answers c.args.self.now c.args.op ops.Ashr ops.Lshr c.args.parts (held.Two c.in-Ashr-Two.a c.in-Ashr-Two.field-1-1) c.in-Ashr-Two.is-0
    c.in-Ashr-Two.is-1 c.requires.parts_stand c.requires.fits
    (λ stand fits. shift_for_sign c.args.self.now c.in-Ashr-Two.a c.in-Ashr-Two.field-1-1 c.requires.made (c.if-is_nonnegative-2.ensures refl) stand fits)
