use Rattle.vg_term.proofs.Equalities.{joins_equal}
use Rattle.vg_term.proofs.terms.Terms.both_equal.Goals as goal

pub returns-clause-joins : goal.returns-clause-joins
returns-clause-joins c =
    joins_equal c.args.self.now c.simple.new.self c.simple-2.new.self c.args.fact c.args.a c.args.b c.in_ok-equal.equal c.simple-2.result
    c.requires.made c.requires.fact c.requires.bit c.requires.first c.requires.second
    (record { made = c.simple.ensures.builds.made; grows = c.simple.ensures.builds.grows }) c.in_ok-equal.ensures.builds.means c.simple-2.ensures.builds
