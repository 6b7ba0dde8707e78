use Rattle.std.proofs.Common.{length, None, sym, ◌∙◌, ap, arith}
use Rattle.std.specs.FinMap as map
use Rattle.std.proofs.lemmas.List.{get_or_default}
use Rattle.vg_map.proofs.SlotLists.{length-slots_of}
use Rattle.vg_map.proofs.Tables.{ends_in, table_get, at_within}
use Rattle.vg_map.proofs.fixed.HashMapFixed.get.Goals as goal

pub index-requires : goal.index-requires
index-requires c = omega (
  arith,
  c.find-at.ensures.within,
  length-slots_of (length c.args.key.now) c.deref.result.now c.deref-2.result.now,
  c.deref-2.ensures.len,
)

pub returns : goal.returns
returns c =
    let a = c.self.inside in
    let key = c.args.key.now in
    let at = c.find-at.result in
    let ends = ends_in a.key_len a.homes a.keys.items c.deref.result.now a.indices.items c.deref-2.result.now key c.of.result at c.deref.ensures.value
    c.deref-2.ensures.value
    (c.requires ∙ sym (ap (λ m. m.key_len) c.self.view_is)) c.of.ensures.home c.find-at.ensures in
    c.index.ensures
    ∙ get_or_default a.indices.items at c.index.result.now None (at_within a.homes a.key_len a.capacity a.size a.keys.items a.indices.items key _ at ends)
    ∙ sym (table_get a.homes a.key_len a.capacity a.size a.keys.items a.indices.items key at c.self.invariant ends)
    ∙ ap (λ m. map.get m.indices key) c.self.view_is
