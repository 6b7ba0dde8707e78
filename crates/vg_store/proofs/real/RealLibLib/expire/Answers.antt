use Rattle.std.proofs.Common.{◌∙◌, List, sym, ap, subst}
use Rattle.vg_dchain.specs.ChainState.{ChainState}
use Rattle.vg_abs.specs.Tables.{Link}
use Rattle.vg_abs.specs.Library.{Expires}
use Rattle.vg_plain.specs.declared.object.PlainObject.{PlainObject}
use Rattle.vg_plain.specs.LinkStates.{IsKeyed}
use Rattle.vg_plain.proofs.StateLaws.{as_library, link_is, expires_so}
use Rattle.vg_store.specs.declared.object.RealObject.TheVariants.{Map}
use Rattle.vg_store.specs.RealLinks.{seen, after_expiry}
use Rattle.vg_store.specs.RealStates.{plainly}
use Rattle.vg_store.proofs.RealLaws.{set_plainly, real_within, real_stands, stands_plain, real_no_map, ages_here, ages_now}
use Rattle.vg_store.proofs.real.RealLibLib.expire.Goals as goal

pub expire-requires : goal.expire-requires
expire-requires c =
    let items = c.args.self.now.objects.items in
    let inside = real_within items (c.args.link) c.requires.map in
    let here = real_stands items (c.args.link) c.index_mut.result.now (Map c.in-Map.link) inside c.index_mut.ensures.value c.in-Map.is in
    let plainly_here = stands_plain items (c.args.link) (Map c.in-Map.link) here in
    subst (λ (l : Link). IsKeyed l) (link_is (plainly items) c.args.link (seen c.in-Map.link) plainly_here) c.requires.ready.keys

pub unreachable-requires : goal.unreachable-requires
unreachable-requires c = real_no_map c.args.self.now.objects.items (c.args.link) c.index_mut.result.now c.requires.map c.index_mut.ensures.value
    c.in_default.not-Map

pub returns-clause-row : goal.returns-clause-row
returns-clause-row c =
    let items = c.args.self.now.objects.items in
    let inside = real_within items (c.args.link) c.requires.map in
    let here = real_stands items (c.args.link) c.index_mut.result.now (Map c.in-Map.link) inside c.index_mut.ensures.value c.in-Map.is in
    let plainly_here = stands_plain items (c.args.link) (Map c.in-Map.link) here in
    set_plainly (λ (kept : List PlainObject). Expires (as_library (plainly items)) (as_library kept) c.args.link c.args.before c.expire.result) items
    c.args.link (Map c.expire.new.self)
    (expires_so (plainly items) c.args.link c.args.before c.expire.result (seen c.in-Map.link) (seen c.expire.new.self) plainly_here
    c.expire.ensures.freed c.expire.ensures.expired)

pub returns-clause-oldest : goal.returns-clause-oldest
returns-clause-oldest c =
    let items = c.args.self.now.objects.items in
    let inside = real_within items (c.args.link) c.requires.map in
    let here = real_stands items (c.args.link) c.index_mut.result.now (Map c.in-Map.link) inside c.index_mut.ensures.value c.in-Map.is in
    let plainly_here = stands_plain items (c.args.link) (Map c.in-Map.link) here in
    ages_now items c.args.link c.expire.new.self inside ∙ c.expire.ensures.oldest ∙ ap (λ (a : ChainState). after_expiry a c.expire.result)
    (sym (ages_here items c.args.link c.in-Map.link here))
