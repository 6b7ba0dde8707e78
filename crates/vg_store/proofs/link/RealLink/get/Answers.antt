use Rattle.std.proofs.Common.{◌∙◌, ap, sym}
use Rattle.std.specs.FinMap.{get}
use Rattle.vg_plain.specs.PlainTables.{joined}
use Rattle.vg_store.specs.RealLinks.{Parts, link_of}
use Rattle.vg_store.proofs.TableLaws.{key_joined}
use Rattle.vg_store.proofs.link.RealLink.get.Goals as goal

pub returns : goal.returns
returns c = c.get.ensures ∙ sym (key_joined c.self.inside.keys.indices c.args.key.now) ∙ ap
    (λ (p : Parts). joined (get (link_of p).keys c.args.key.now)) c.self.view_is
