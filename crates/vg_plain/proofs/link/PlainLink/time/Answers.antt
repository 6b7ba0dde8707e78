use Rattle.std.proofs.Common.{◌<◌, ◌∙◌, ap, sym, subst, arith}
use Rattle.std.specs.FinMap.{get}
use Rattle.vg_plain.specs.PlainTables.{joined}
use Rattle.vg_plain.specs.LinkStates.{LinkState}
use Rattle.vg_plain.proofs.LinkLaws.{time_at}
use Rattle.vg_plain.proofs.link.PlainLink.time.Goals as goal

pub returns : goal.returns
returns c =
    let inside : c.args.index < c.self.inside.capacity = subst (λ (s : LinkState). c.args.index < s.link.capacity) (sym c.self.view_is) c.requires in
    c.index.ensures ∙ time_at c.self.inside.times.items c.args.index c.index.result.now (omega (arith, inside, c.self.invariant.places))
    ∙ ap (λ (s : LinkState). joined (get s.link.times c.args.index)) c.self.view_is
