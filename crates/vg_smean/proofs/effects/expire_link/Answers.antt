use Rattle.std.proofs.Common.{◌∙◌, sym, ap, ◌-◌, length}
use Rattle.vg_abs.specs.contracts.object.LinkTable.{the_view}
use Rattle.vg_smean.specs.Expiring.{expired_link}
use Rattle.vg_smean.proofs.ExpiryLaws.{left}
use Rattle.vg_smean.proofs.effects.expire_link.Goals as goal

pub returns : goal.returns
returns c =
    left (the_view c.link.inside) c.args.bound _ _ _ _ _ _ _ _ c.in_ok-indices.ensures c.deref.ensures.value c.deref-2.ensures.value c.clear_keys.ensures
    c.clear_times.ensures
    (c.fewer-link-inside.ensures ∙ ap (λ n. c.link.inside.size - n) (c.len.ensures ∙ sym c.deref.ensures.len ∙ ap length c.deref.ensures.value))
    (c.fewer-link-inside-2.ensures ∙ ap (λ n. c.link.inside.count - n) (c.len-2.ensures ∙ sym c.deref.ensures.len ∙ ap length c.deref.ensures.value))
    c.new.ensures
    ∙ ap (λ link. expired_link link c.args.bound) c.link.view_is
