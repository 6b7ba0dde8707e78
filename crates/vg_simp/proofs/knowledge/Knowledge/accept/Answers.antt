use Rattle.std.proofs.Common.{refl}
use Rattle.vg_simp.specs.declared.knowledge.Knowledge.{Knowledge}
use Rattle.vg_simp.proofs.Knowing.{known_more}
use Rattle.vg_simp.proofs.knowledge.Knowledge.accept.Goals as goal

pub returns-clause-known : goal.returns-clause-known
returns-clause-known c =
    let after : Knowledge = record { facts = c.push.new.list; same = c.args.self.now.same; bounds = c.args.self.now.bounds; gaps = c.args.self.now.gaps } in
    known_more c.args.terms.now c.args.self.now after c.args.fact c.requires.known c.requires.stands c.in_ok-push.ensures refl refl refl
