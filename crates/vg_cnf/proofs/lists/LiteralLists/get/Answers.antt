use Rattle.std.proofs.Common.{◌≡◌, ◌<◌, sym, ap, ◌∙◌, arith, length, Some}
use Rattle.std.specs.Prelude.{slice_get, slice_range, slice_index}
use Rattle.std.proofs.lemmas.List.{get_or_read}
use Rattle.vg_cnf.specs.Lists.{start_of}
use Rattle.vg_cnf.proofs.Pieces.{length-pieces, piece-start, piece-end, piece-is}
use Rattle.vg_cnf.proofs.lists.LiteralLists.get.Goals as goal

pub start_at-start-requires : goal.start_at-start-requires
start_at-start-requires c =
    omega (arith, c.deref.ensures.len, length-pieces c.self.inside.literals.items 0 c.self.inside.ends.items, ap length c.self.view_is)

pub index-end-requires : goal.index-end-requires
index-end-requires c = omega (arith, length-pieces c.self.inside.literals.items 0 c.self.inside.ends.items, ap length c.self.view_is)

pub part-requires : goal.part-requires
part-requires c =
    let items = c.self.inside.literals.items in
    let ends = c.self.inside.ends.items in
    let within : c.args.at < length ends = omega (arith, length-pieces items 0 ends, ap length c.self.view_is) in
    let start : c.start_at-start.result ≡ start_of 0 ends c.args.at = c.start_at-start.ensures ∙ ap (λ xs. start_of 0 xs c.args.at) c.deref.ensures.value in
    let end : c.index-end.result.now ≡ slice_index ends c.args.at = get_or_read ends c.args.at c.index-end.result.now within c.index-end.ensures 0 in
    record {
      order = omega (arith, start, end, piece-start (length items) 0 ends c.args.at c.self.invariant within);
      within = omega (arith, end, ap length c.deref-2.ensures.value, piece-end (length items) 0 ends c.args.at c.self.invariant within);
    }

pub returns : goal.returns
returns c =
    let items = c.self.inside.literals.items in
    let ends = c.self.inside.ends.items in
    let within : c.args.at < length ends = omega (arith, length-pieces items 0 ends, ap length c.self.view_is) in
    let start : c.start_at-start.result ≡ start_of 0 ends c.args.at = c.start_at-start.ensures ∙ ap (λ xs. start_of 0 xs c.args.at) c.deref.ensures.value in
    let end : c.index-end.result.now ≡ slice_index ends c.args.at = get_or_read ends c.args.at c.index-end.result.now within c.index-end.ensures 0 in
    ap (λ xs. slice_get xs c.args.at) (sym c.self.view_is)
    ∙ piece-is items 0 ends c.args.at within
    ∙ ap (λ k. Some (slice_range items k (slice_index ends c.args.at))) (sym start)
    ∙ ap (λ k. Some (slice_range items c.start_at-start.result k)) (sym end)
    ∙ ap (λ xs. Some (slice_range xs c.start_at-start.result c.index-end.result.now)) (sym c.deref-2.ensures.value)
    ∙ ap (λ xs. Some xs) (sym c.part.ensures)
