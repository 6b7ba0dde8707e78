use Rattle.std.proofs.Common.{◌-◌, arith}
use Rattle.vg_term.proofs.Compared.{nonnegative}
use Rattle.vg_term.proofs.terms.Terms.is_nonnegative.Goals as goal

pub returns : goal.returns
returns c = λ yes. nonnegative c.args.self.now c.args.term (c.width-at.result - 1) c.followed.result c.width-at.ensures.made c.requires
    (omega (arith, c.width-at.ensures.width, c.width-at.ensures.some)) c.followed.ensures (c.is_off.ensures yes)
