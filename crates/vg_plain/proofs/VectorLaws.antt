-- What a call on a vector makes of the library.
use Rattle.std.proofs.Common.{◌≡◌, ℕ, ◌+◌, ◌-◌, ◌<◌, ◌≢◌, List, [], ◌++◌, length, take, drop, map, set, get_or, Option, Some, None, slice_get, refl}
use Rattle.std.proofs.Common.{sym, ◌∙◌, ap, subst, arith, Bool, true, false, cond, inl, inr}
use Rattle.std.specs.Prelude.{is_none, nat_lt, unwrap_or, ◌⊎◌}
use Rattle.std.specs.Option.{option_map}
use Rattle.std.specs.FinMap.{get}
use Rattle.std.proofs.lemmas.Bool.{cases_eq, cases_lt, lt-ltb, le-ltb}
use Rattle.std.proofs.lemmas.List.{length-set}
use Rattle.std.proofs.lemmas.Option.{slice_get_within, slice_get-get_or, slice_get-map}
use Rattle.vg_abs.specs.declared.object.Object.TheVariants as objects
use Rattle.vg_abs.specs.Tables.{Link, Vector}
use Rattle.vg_abs.specs.State.{State, vector_in, vector_of}
use Rattle.vg_abs.specs.Effects.{with_link, with_cell, with_bytes, with_bytes_in}
use Rattle.vg_abs.specs.Library.{IsMapIn, IsVector, IsVectorIn, Becomes, ChangesLoan, Lends, TakesBack, Stores}
use Rattle.vg_vector.specs.Cells as cells
use Rattle.vg_vector.specs.Cells.{CellList}
use Rattle.vg_plain.specs.declared.object.PlainObject.{PlainObject}
use Rattle.vg_plain.specs.declared.object.PlainObject.TheVariants.{Map, Chain, Keys, Cells, Prefixes}
use Rattle.vg_plain.specs.PlainTables.{cell_table}
use Rattle.vg_plain.specs.LinkStates as links
use Rattle.vg_plain.specs.LinkStates.{LinkState}
use Rattle.vg_plain.specs.PlainStates.{object_of, state_of, lent_of_link, lent_at, lent_in, holder_by, holder_of}
use Rattle.vg_plain.proofs.ListPlaces.{some_is, none_some, set_here, set_other, lent_inside}
use Rattle.vg_plain.proofs.Places.{cell_is, cell_set}
use Rattle.vg_plain.proofs.StateLaws.{as_library, seen_at, link_is, set_state, same_state, not_missed, becomes}

-- a vector of its own
pub record OwnVector (kept : List PlainObject) (vector : ℕ) : Type 0 where
  pub own : CellList
  pub there : slice_get kept vector ≡ Some (Cells own)
  pub holder : holder_of kept vector ≡ vector

-- the vector of a link
pub record LinkVector (kept : List PlainObject) (vector : ℕ) (link : LinkState) : Type 0 where
  pub keys : slice_get kept vector ≡ Some Keys
  pub there : slice_get kept (vector - 2) ≡ Some (Map link)
  pub above : 1 < vector
  pub holder : holder_of kept vector ≡ vector - 2

map_there : (kept : List PlainObject) (i : ℕ) → IsMapIn (slice_get (map object_of kept) i) → (link : LinkState) × (slice_get kept i ≡ Some (Map link))
map_there kept i is = go (slice_get kept i) refl
  where
    seen : (object : PlainObject) → slice_get kept i ≡ Some object → IsMapIn (Some (object_of object))
    seen object there = subst IsMapIn (seen_at kept i object there) is

    go : (found : Option PlainObject) → slice_get kept i ≡ found → (link : LinkState) × (slice_get kept i ≡ Some (Map link))
    go None there = absurd (subst IsMapIn (slice_get-map object_of kept i ∙ ap (λ f. option_map object_of f) there) is)
    go (Some (Map link)) there = (link, there)
    go (Some Chain) there = absurd (seen Chain there)
    go (Some Keys) there = absurd (seen Keys there)
    go (Some (Cells own)) there = absurd (seen (Cells own) there)
    go (Some (Prefixes routes)) there = absurd (seen (Prefixes routes) there)

pub vector_is : (kept : List PlainObject) (vector : ℕ) → IsVector (as_library kept) vector → OwnVector kept vector
    ⊎ ((link : LinkState) × LinkVector kept vector link)
vector_is kept vector is = go (slice_get kept vector) refl
  where
    seen : (object : PlainObject) → slice_get kept vector ≡ Some object → IsVectorIn (as_library kept) vector (Some (object_of object))
    seen object there = subst (IsVectorIn (as_library kept) vector) (seen_at kept vector object there) is

    go : (found : Option PlainObject) → slice_get kept vector ≡ found → OwnVector kept vector ⊎ ((link : LinkState) × LinkVector kept vector link)
    go None there = absurd (subst (IsVectorIn (as_library kept) vector) (slice_get-map object_of kept vector ∙ ap (λ f. option_map object_of f) there) is)
    go (Some (Map link)) there = absurd (seen (Map link) there)
    go (Some Chain) there = absurd (seen Chain there)
    go (Some Keys) there = (let of_link = seen Keys there in let at = map_there kept (vector - 2) of_link.1 in
        inr (at.0, record { keys = there; there = at.1; above = of_link.0; holder = ap (λ f. holder_by vector f) there }))
    go (Some (Cells own)) there = inl (record { own = own; there = there; holder = ap (λ f. holder_by vector f) there })
    go (Some (Prefixes routes)) there = absurd (seen (Prefixes routes) there)

-- what of a vector is seen
pub own_seen : (kept : List PlainObject) (vector : ℕ) (own : CellList) → slice_get kept vector ≡ Some (Cells own)
    → vector_of (state_of kept) vector ≡ record { cell_count = length own.cells; cells = cell_table 0 own.cells }
own_seen kept vector own there = ap (λ o. vector_in (state_of kept) vector o) (seen_at kept vector (Cells own) there)

pub link_seen : (kept : List PlainObject) (vector : ℕ) (link : LinkState) (v : LinkVector kept vector link)
    → vector_of (state_of kept) vector ≡ record { cell_count = link.link.capacity; cells = link.link.cells }
link_seen kept vector link v =
    ap (λ o. vector_in (state_of kept) vector o) (seen_at kept vector Keys v.keys)
    ∙ ap (λ (l : Link). record { cell_count = l.capacity; cells = l.cells }) (link_is kept (vector - 2) link v.there)

pub own_lent : (kept : List PlainObject) (vector index : ℕ) (own : CellList) → slice_get kept vector ≡ Some (Cells own)
    → lent_in kept vector index ≡ unwrap_or (slice_get own.lent index) false
own_lent kept vector index own there = ap (λ o. lent_at kept vector index o) there

keys_lent : (kept : List PlainObject) (vector index : ℕ) (link : LinkState) → slice_get kept vector ≡ Some Keys
    → slice_get kept (vector - 2) ≡ Some (Map link) → 1 < vector → lent_in kept vector index ≡ unwrap_or (slice_get link.lent index) false
keys_lent kept vector index link keys there above =
    ap (λ o. lent_at kept vector index o) keys ∙ ap (λ b. cond b (lent_of_link (slice_get kept (vector - 2)) index) false) (lt-ltb 1 vector above)
    ∙ ap (λ o. lent_of_link o index) there

pub link_lent : (kept : List PlainObject) (vector index : ℕ) (link : LinkState) (v : LinkVector kept vector link)
    → lent_in kept vector index ≡ unwrap_or (slice_get link.lent index) false
link_lent kept vector index link v = keys_lent kept vector index link v.keys v.there v.above

-- other vectors' loans stay
other_link : (kept : List PlainObject) (i : ℕ) (own next : CellList) (j index : ℕ) → slice_get kept i ≡ Some (Cells own)
    → lent_of_link (slice_get (set kept i (Cells next)) j) index ≡ lent_of_link (slice_get kept j) index
other_link kept i own next j index there = elim (cases_eq j i) [
  | inl same ↦ ap (λ (k : ℕ). lent_of_link (slice_get (set kept i (Cells next)) k) index) same
      ∙ ap (λ o. lent_of_link o index) (set_here kept i (Cells next) (slice_get_within kept i (Cells own) there))
      ∙ sym (ap (λ (k : ℕ). lent_of_link (slice_get kept k) index) same ∙ ap (λ o. lent_of_link o index) there)
  | inr ne ↦ ap (λ o. lent_of_link o index) (set_other kept i j (Cells next) ne)
]

alike_at : (kept now : List PlainObject) (vector index : ℕ) (o : Option PlainObject) → (1 < vector
    → lent_of_link (slice_get now (vector - 2)) index ≡ lent_of_link (slice_get kept (vector - 2)) index)
    → lent_at now vector index o ≡ lent_at kept vector index o
alike_at kept now vector index None same = refl
alike_at kept now vector index (Some (Map link)) same = refl
alike_at kept now vector index (Some Chain) same = refl
alike_at kept now vector index (Some Keys) same = elim (cases_lt 1 vector) [
  | inl above ↦ ap (λ b. cond (nat_lt 1 vector) b false) (same above)
  | inr below ↦ (let off = le-ltb 1 vector below in ap (λ b. cond b (lent_of_link (slice_get now (vector - 2)) index) false) off
      ∙ sym (ap (λ b. cond b (lent_of_link (slice_get kept (vector - 2)) index) false) off))
]
alike_at kept now vector index (Some (Cells own)) same = refl
alike_at kept now vector index (Some (Prefixes routes)) same = refl

-- one loan of a vector of its own
pub own_loan : (kept : List PlainObject) (vector index : ℕ) (own next : CellList) (is_lent : Bool) → slice_get kept vector ≡ Some (Cells own)
    → next ≡ cells.with_loan own index is_lent → unwrap_or (slice_get next.lent index) false ≡ is_lent →
    ChangesLoan (as_library kept) (as_library (set kept vector (Cells next))) vector index is_lent
own_loan kept vector index own next is_lent there is now = record {
  this = own_lent (set kept vector (Cells next)) vector index next (set_here kept vector (Cells next) (slice_get_within kept vector (Cells own) there)) ∙ now;
  other_cells = λ other ne. own_lent (set kept vector (Cells next)) vector other next (set_here kept vector (Cells next)
      (slice_get_within kept vector (Cells own) there))
      ∙ ap (λ (l : List Bool). unwrap_or (slice_get l other) false) (ap (λ (c : CellList). c.lent) is)
      ∙ ap (λ o. unwrap_or o false) (set_other own.lent index other is_lent ne) ∙ sym (own_lent kept vector other own there);
  other_vectors = λ other cell ne. ap (λ o. lent_at (set kept vector (Cells next)) other cell o) (set_other kept vector other (Cells next) ne)
      ∙ alike_at kept (set kept vector (Cells next)) other cell (slice_get kept other) (λ _. other_link kept vector own next (other - 2) cell there);
  same_state = same_state kept vector (Cells own) (Cells next) there (ap (λ (c : CellList). object_of (Cells c)) is);
  same_choices = refl;
}

-- one loan of the vector of a link
pub link_loan : (kept : List PlainObject) (vector index : ℕ) (link : LinkState) (v : LinkVector kept vector link) (next : LinkState) (is_lent : Bool)
    → next ≡ links.with_lent link index is_lent → unwrap_or (slice_get next.lent index) false ≡ is_lent →
    ChangesLoan (as_library kept) (as_library (set kept (vector - 2) (Map next))) vector index is_lent
link_loan kept vector index link v next is_lent is now = record {
  this = now_lent index ∙ now;
  other_cells = λ other ne. now_lent other ∙ ap (λ (l : List Bool). unwrap_or (slice_get l other) false) (ap (λ (s : LinkState). s.lent) is)
      ∙ ap (λ o. unwrap_or o false) (set_other link.lent index other is_lent ne) ∙ sym (link_lent kept vector other link v);
  other_vectors = λ other cell ne. elsewhere other cell ne;
  same_state = same_state kept (vector - 2) (Map link) (Map next) v.there (ap (λ (s : LinkState). objects.Map s.link) is);
  same_choices = refl;
}
  where
    inside : vector - 2 < length kept
    inside = slice_get_within kept (vector - 2) (Map link) v.there

    apart : vector ≢ vector - 2
    apart same = (let more : 1 < vector = v.above in absurd (omega arith))

    now_lent : (other : ℕ) → lent_in (set kept (vector - 2) (Map next)) vector other ≡ unwrap_or (slice_get next.lent other) false
    now_lent other = keys_lent (set kept (vector - 2) (Map next)) vector other next (set_other kept (vector - 2) vector (Map next) apart ∙ v.keys)
        (set_here kept (vector - 2) (Map next) inside) v.above

    elsewhere : (other cell : ℕ) → other ≢ vector → lent_in (set kept (vector - 2) (Map next)) other cell ≡ lent_in kept other cell
    elsewhere other cell ne = elim (cases_eq other (vector - 2)) [
      | inl same ↦ ap (λ (k : ℕ). lent_in (set kept (vector - 2) (Map next)) k cell) same ∙ ap
          (λ o. lent_at (set kept (vector - 2) (Map next)) (vector - 2) cell o) (set_here kept (vector - 2) (Map next) inside)
          ∙ sym (ap (λ (k : ℕ). lent_in kept k cell) same ∙ ap (λ o. lent_at kept (vector - 2) cell o) v.there)
      | inr differs ↦ ap (λ o. lent_at (set kept (vector - 2) (Map next)) other cell o) (set_other kept (vector - 2) other (Map next) differs)
          ∙ alike_at kept (set kept (vector - 2) (Map next)) other cell (slice_get kept other)
          (λ above. ap (λ o. lent_of_link o cell) (set_other kept (vector - 2) (other - 2) (Map next)
          (λ same. (let more : 1 < vector = v.above in ne (omega arith)))))
    ]

-- stores
pub own_store : (kept : List PlainObject) (vector index from : ℕ) (bytes : List ℕ) (own next : CellList) → slice_get kept vector ≡ Some (Cells own)
    → index < length own.cells →
    ((cell : List ℕ) → slice_get own.cells index ≡ Some cell → next ≡ cells.with_cell own index (take from cell ++ bytes ++ drop (from + length bytes) cell)) →
    Stores (as_library kept) (as_library (set kept vector (Cells next))) vector index from bytes
own_store kept vector index from bytes own next there inside is = record {
  stays = λ missed. not_missed missed;
  untold = λ none. absurd (none_some (get_or own.cells index []) (sym none ∙ read ∙ slice_get-get_or own.cells index [] inside));
  told = λ _ cell cell_there. stored cell (sym read ∙ cell_there);
}
  where
    read : get (vector_of (state_of kept) vector).cells index ≡ slice_get own.cells index
    read = ap (λ (v : Vector). get v.cells index) (own_seen kept vector own there) ∙ cell_is own.cells index

    within : vector < length kept
    within = slice_get_within kept vector (Cells own) there

    same_loan : (other at : ℕ) → (other ≡ vector) ⊎ (other ≢ vector) → (cell : List ℕ) → slice_get own.cells index ≡ Some cell
        → lent_in (set kept vector (Cells next)) other at ≡ lent_in kept other at
    same_loan other at (inl same) cell cell_there =
        ap (λ (k : ℕ). lent_in (set kept vector (Cells next)) k at) same ∙ own_lent (set kept vector (Cells next)) vector at next
        (set_here kept vector (Cells next) within)
        ∙ ap (λ (c : CellList). unwrap_or (slice_get c.lent at) false) (is cell cell_there)
        ∙ sym (ap (λ (k : ℕ). lent_in kept k at) same ∙ own_lent kept vector at own there)
    same_loan other at (inr ne) cell cell_there =
        ap (λ o. lent_at (set kept vector (Cells next)) other at o) (set_other kept vector other (Cells next) ne)
        ∙ alike_at kept (set kept vector (Cells next)) other at (slice_get kept other) (λ _. other_link kept vector own next (other - 2) at there)

    stored : (cell : List ℕ) → slice_get own.cells index ≡ Some cell → Becomes (as_library kept) (as_library (set kept vector (Cells next)))
        (with_bytes (state_of kept) vector index (take from cell ++ bytes ++ drop (from + length bytes) cell))
    stored cell cell_there = record {
      state_is = set_state kept vector (Cells next)
          ∙ ap (λ (c : CellList). record (state_of kept) { objects = set (map object_of kept) vector (object_of (Cells c)) }) (is cell cell_there)
          ∙ ap (λ (n : ℕ). record (state_of kept) {
            objects = set (map object_of kept) vector
                (objects.Cells (record {
                  cell_count = n;
                  cells =
                      cell_table 0 (set own.cells index (take from cell ++ bytes ++ drop (from + length bytes) cell));
                }));
          }) (length-set own.cells index _)
          ∙ ap (λ t. record (state_of kept)
          { objects = set (map object_of kept) vector (objects.Cells (record { cell_count = length own.cells; cells = t })) })
          (cell_set own.cells index (take from cell ++ bytes ++ drop (from + length bytes) cell) inside)
          ∙ sym (ap (λ o. with_bytes_in (state_of kept) vector index (take from cell ++ bytes ++ drop (from + length bytes) cell) o)
          (seen_at kept vector (Cells own) there));
      same_lent = λ other at. same_loan other at (cases_eq other vector) cell cell_there;
      same_choices = refl;
      same_missed = refl;
    }

pub link_store : (kept : List PlainObject) (vector index from : ℕ) (bytes : List ℕ) (link : LinkState) (v : LinkVector kept vector link)
    (next : LinkState) (read_cell : List ℕ) → get link.link.cells index ≡ Some read_cell →
    ((cell : List ℕ) → get link.link.cells index ≡ Some cell → next ≡ links.with_link link
    (with_cell link.link index (take from cell ++ bytes ++ drop (from + length bytes) cell))) →
    Stores (as_library kept) (as_library (set kept (vector - 2) (Map next))) vector index from bytes
link_store kept vector index from bytes link v next read_cell cell_is_there is = record {
  stays = λ missed. not_missed missed;
  untold = λ none. absurd (none_some read_cell (sym none ∙ read ∙ cell_is_there));
  told = λ _ cell cell_there. subst (λ (s : State). Becomes (as_library kept) (as_library (set kept (vector - 2) (Map next))) s)
      (ap (λ (l : Link). with_link (state_of kept) (vector - 2) (with_cell l index (take from cell ++ bytes ++ drop (from + length bytes) cell)))
      (sym (link_is kept (vector - 2) link v.there))
      ∙ sym (ap (λ o. with_bytes_in (state_of kept) vector index (take from cell ++ bytes ++ drop (from + length bytes) cell) o)
      (seen_at kept vector Keys v.keys)))
      (becomes kept (vector - 2) link next (with_cell link.link index (take from cell ++ bytes ++ drop (from + length bytes) cell)) v.there
      (is cell (sym read ∙ cell_there)));
}
  where
    read : get (vector_of (state_of kept) vector).cells index ≡ get link.link.cells index
    read = ap (λ (s : Vector). get s.cells index) (link_seen kept vector link v)

-- which object holds the cells
object_at : (kept : List PlainObject) (holder : ℕ) (found object other : PlainObject) → slice_get kept holder ≡ Some other
    → found ≡ get_or kept holder found → found ≡ object → other ≡ object
object_at kept holder found object other there read is =
    some_is other object (sym there ∙ slice_get-get_or kept holder found (slice_get_within kept holder other there) ∙ ap Some (sym read ∙ is))

pub own_arm : (kept : List PlainObject) (vector holder : ℕ) (found : PlainObject) (own : CellList) → IsVector (as_library kept) vector
    → holder ≡ holder_of kept vector → found ≡ get_or kept holder found → found ≡ Cells own →
    (slice_get kept vector ≡ Some (Cells own)) × (holder ≡ vector)
own_arm kept vector holder found own is holder_is read found_is = elim (vector_is kept vector is) [
  | inl o ↦ (let place : holder ≡ vector = holder_is ∙ o.holder in
      (o.there ∙ ap Some (object_at kept holder found (Cells own) (Cells o.own) (ap (λ (k : ℕ). slice_get kept k) place ∙ o.there) read found_is), place))
  | inr l ↦ absurd (let other = object_at kept holder found (Cells own) (Map l.0) (ap (λ (k : ℕ). slice_get kept k) (holder_is ∙ l.1.holder)
      ∙ l.1.there) read found_is in cc)
]

pub link_arm : (kept : List PlainObject) (vector holder : ℕ) (found : PlainObject) (link : LinkState) → IsVector (as_library kept) vector
    → holder ≡ holder_of kept vector → found ≡ get_or kept holder found → found ≡ Map link →
    LinkVector kept vector link × (holder ≡ vector - 2)
link_arm kept vector holder found link is holder_is read found_is = elim (vector_is kept vector is) [
  | inl o ↦ absurd (let other = object_at kept holder found (Map link) (Cells o.own) (ap (λ (k : ℕ). slice_get kept k) (holder_is ∙ o.holder)
      ∙ o.there) read found_is in cc)
  | inr l ↦ (let place : holder ≡ vector - 2 = holder_is ∙ l.1.holder in
      let same = object_at kept holder found (Map link) (Map l.0) (ap (λ (k : ℕ). slice_get kept k) place ∙ l.1.there) read found_is in
      (record { keys = l.1.keys; there = l.1.there ∙ ap Some same; above = l.1.above; holder = l.1.holder }, place))
]

pub no_arm : (kept : List PlainObject) (vector holder : ℕ) (found : PlainObject) → IsVector (as_library kept) vector → holder ≡ holder_of kept vector
    → found ≡ get_or kept holder found →
    ((link : LinkState) → found ≡ Map link → ⊥) → ((own : CellList) → found ≡ Cells own → ⊥) → ⊥
no_arm kept vector holder found is holder_is read no_link no_own = elim (vector_is kept vector is) [
  | inl o ↦ (let there = ap (λ (k : ℕ). slice_get kept k) (holder_is ∙ o.holder) ∙ o.there in
      no_own o.own (sym (object_at kept holder found found (Cells o.own) there read refl)))
  | inr l ↦ (let there = ap (λ (k : ℕ). slice_get kept k) (holder_is ∙ l.1.holder) ∙ l.1.there in
      no_link l.0 (sym (object_at kept holder found found (Map l.0) there read refl)))
]

-- lending
pub own_lends : (kept : List PlainObject) (vector holder index : ℕ) (own next : CellList) → holder ≡ vector → slice_get kept vector ≡ Some (Cells own)
    → index < length own.cells → next ≡ cells.with_loan own index true →
    unwrap_or (slice_get next.lent index) false ≡ true → Lends (as_library kept) (as_library (set kept holder (Cells next))) vector index
own_lends kept vector holder index own next place there inside is now =
    subst (λ (h : ℕ). Lends (as_library kept) (as_library (set kept h (Cells next))) vector index) (sym place) (record {
      loan = own_loan kept vector index own next true there is now;
      asked = sym (ap is_none (ap (λ (v : Vector). get v.cells index) (own_seen kept vector own there) ∙ cell_is own.cells index
          ∙ slice_get-get_or own.cells index [] inside));
    })

pub link_lends : (kept : List PlainObject) (vector holder index : ℕ) (link next : LinkState) → holder ≡ vector - 2 → LinkVector kept vector link
    → (cell : List ℕ) → get link.link.cells index ≡ Some cell → next ≡ links.with_lent link index true →
    unwrap_or (slice_get next.lent index) false ≡ true → Lends (as_library kept) (as_library (set kept holder (Map next))) vector index
link_lends kept vector holder index link next place v cell there is now =
    subst (λ (h : ℕ). Lends (as_library kept) (as_library (set kept h (Map next))) vector index) (sym place) (record {
      loan = link_loan kept vector index link v next true is now;
      asked = sym (ap is_none (ap (λ (s : Vector). get s.cells index) (link_seen kept vector link v) ∙ there));
    })

-- giving back
taken : (lent : List Bool) (index : ℕ) → unwrap_or (slice_get lent index) false ≡ true → unwrap_or (slice_get (set lent index false) index) false ≡ false
taken lent index was = ap (λ o. unwrap_or o false) (set_here lent index false (lent_inside lent index was))

pub own_back : (kept : List PlainObject) (vector holder index : ℕ) (own next : CellList) → holder ≡ vector → slice_get kept vector ≡ Some (Cells own)
    → unwrap_or (slice_get own.lent index) false ≡ true → next ≡ cells.with_loan own index false →
    TakesBack (as_library kept) (as_library (set kept holder (Cells next))) vector index
own_back kept vector holder index own next place there was is =
    subst (λ (h : ℕ). TakesBack (as_library kept) (as_library (set kept h (Cells next))) vector index) (sym place)
    (own_loan kept vector index own next false there is (ap (λ (c : CellList). unwrap_or (slice_get c.lent index) false) is ∙ taken own.lent index was), refl)

pub link_back : (kept : List PlainObject) (vector holder index : ℕ) (link next : LinkState) → holder ≡ vector - 2 → LinkVector kept vector link
    → unwrap_or (slice_get link.lent index) false ≡ true → next ≡ links.with_lent link index false →
    TakesBack (as_library kept) (as_library (set kept holder (Map next))) vector index
link_back kept vector holder index link next place v was is =
    subst (λ (h : ℕ). TakesBack (as_library kept) (as_library (set kept h (Map next))) vector index) (sym place)
    (link_loan kept vector index link v next false is (ap (λ (s : LinkState). unwrap_or (slice_get s.lent index) false) is ∙ taken link.lent index was), refl)

-- what was lent
pub own_was : (kept : List PlainObject) (vector index : ℕ) (own : CellList) (is_lent : Bool) → slice_get kept vector ≡ Some (Cells own)
    → lent_in kept vector index ≡ is_lent → unwrap_or (slice_get own.lent index) false ≡ is_lent
own_was kept vector index own is_lent there was = sym (own_lent kept vector index own there) ∙ was

pub link_was : (kept : List PlainObject) (vector index : ℕ) (link : LinkState) (is_lent : Bool) → LinkVector kept vector link
    → lent_in kept vector index ≡ is_lent → unwrap_or (slice_get link.lent index) false ≡ is_lent
link_was kept vector index link is_lent v was = sym (link_lent kept vector index link v) ∙ was

pub lent_given : (kept : List PlainObject) (vector index : ℕ) → (lent_in kept vector index ≡ true) ⊎ (false ≡ true) → lent_in kept vector index ≡ true
lent_given kept vector index (inl is) = is
lent_given kept vector index (inr missed) = not_missed missed

pub own_stores : (kept : List PlainObject) (vector holder index from : ℕ) (bytes : List ℕ) (own next : CellList) → holder ≡ vector
    → slice_get kept vector ≡ Some (Cells own) → (read_cell : List ℕ) → slice_get own.cells index ≡ Some read_cell →
    ((cell : List ℕ) → slice_get own.cells index ≡ Some cell → next ≡ cells.with_cell own index (take from cell ++ bytes ++ drop (from + length bytes) cell)) →
    Stores (as_library kept) (as_library (set kept holder (Cells next))) vector index from bytes
own_stores kept vector holder index from bytes own next place there read_cell cell_there is =
    subst (λ (h : ℕ). Stores (as_library kept) (as_library (set kept h (Cells next))) vector index from bytes) (sym place)
    (own_store kept vector index from bytes own next there (slice_get_within own.cells index read_cell cell_there) is)

pub link_stores : (kept : List PlainObject) (vector holder index from : ℕ) (bytes : List ℕ) (link next : LinkState) → holder ≡ vector - 2
    → LinkVector kept vector link → (read_cell : List ℕ) → get link.link.cells index ≡ Some read_cell →
    ((cell : List ℕ) → get link.link.cells index ≡ Some cell → next ≡ links.with_link link
    (with_cell link.link index (take from cell ++ bytes ++ drop (from + length bytes) cell))) →
    Stores (as_library kept) (as_library (set kept holder (Map next))) vector index from bytes
link_stores kept vector holder index from bytes link next place v read_cell cell_there is =
    subst (λ (h : ℕ). Stores (as_library kept) (as_library (set kept h (Map next))) vector index from bytes) (sym place)
    (link_store kept vector index from bytes link v next read_cell cell_there is)
