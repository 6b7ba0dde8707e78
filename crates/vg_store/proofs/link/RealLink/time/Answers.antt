use Rattle.std.proofs.Common.{◌∙◌, ap, sym}
use Rattle.std.specs.FinMap.{get}
use Rattle.vg_plain.specs.PlainTables.{joined}
use Rattle.vg_store.specs.RealLinks.{Parts, link_of}
use Rattle.vg_store.proofs.TableLaws.{age_joined}
use Rattle.vg_store.proofs.link.RealLink.time.Goals as goal

pub returns : goal.returns
returns c = c.time.ensures ∙ sym (age_joined c.self.inside.ages.entries c.args.index) ∙ ap
    (λ (p : Parts). joined (get (link_of p).times c.args.index)) c.self.view_is
