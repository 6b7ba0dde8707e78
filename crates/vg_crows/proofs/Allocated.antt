-- An index that is handed out, and its store.
use Rattle.std.proofs.Common.{◌≡◌, ◌∙◌, sym, ap, subst, refl, ℕ, ◌-◌, Bool, true, false, if◌then◌else◌, List, All, Option, Some, None, Result, Ok, Err, OnErr}
use Rattle.std.specs.Prelude.{slice_get}
use Rattle.std.specs.FinMap.{get}
use Rattle.vg_core.specs.declared.reason.Reason.{Reason}
use Rattle.vg_cint.specs.Tests.{tested}
use Rattle.vg_cmemory.specs.declared.object.Object.{Object}
use Rattle.vg_cmemory.specs.declared.object.Object.TheVariants as objects
use Rattle.vg_cmemory.specs.declared.object.Pointer.{Pointer}
use Rattle.vg_cmemory.specs.Access.{leaves}
use Rattle.vg_cmemory.specs.Cells.{write_tests_with}
use Rattle.vg_abs.specs.declared.object.Object as tables_objects
use Rattle.vg_abs.specs.declared.object.Object.TheVariants.{Map, Chain, Keys, Cells, Prefixes}
use Rattle.vg_cmemory.specs.State as memory
use Rattle.vg_abs.specs.Tables.{Vector}
use Rattle.vg_abs.specs.State as tables
use Rattle.vg_abs.specs.State.{link_of_chain, link_in, vector_of}
use Rattle.vg_abs.specs.Effects.{with_link, with_index}
use Rattle.vg_abs.specs.Library.{Library, IsMapIn, IsVector, IsChain}
use Rattle.vg_abs.specs.Rows.{ChainAllocate, is_used_up, effect, allocation}
use Rattle.vg_crows.specs.declared.answer.Answer.TheVariants as answers
use Rattle.vg_crows.specs.declared.answer.Answer.{Answer}
use Rattle.vg_crows.specs.declared.answer.Stop.{Stop}
use Rattle.vg_crows.specs.declared.book.Cell.{Cell}
use Rattle.vg_crows.specs.Record.{Record, with_handed, marked, is_lent_as}
use Rattle.vg_crows.specs.State.{State, and_then, or_wrong}
use Rattle.vg_crows.specs.Access.{octets_of, store}
use Rattle.vg_crows.specs.Rows.{Outcome, Target, granted, told, may_store, after_place, choice_of, concluded, done, noted, target, may_write, with_answer}
use Rattle.vg_crows.specs.Rows.{word_of}
use Rattle.vg_crows.specs.Views.{CellsAreThere, beside, gives, yes_of, is_untold}
use Rattle.vg_crows.proofs.Kept.{Recut, vectors_kept, still_vector}
use Rattle.vg_crows.proofs.Answered.{stored_answer}

-- the link of a chain is in its place
recut_by : (s : tables.State) (m : ℕ) (o : Option tables_objects.Object) (choice now : ℕ) → slice_get s.objects m ≡ o → IsMapIn o →
    Recut s m (link_in (slice_get s.objects m)) (with_index (link_in (slice_get s.objects m)) choice now)
recut_by s m None choice now e is = absurd is
recut_by s m (Some (Map link)) choice now e is =
    record { is = e ∙ ap (λ (o : Option tables_objects.Object). Some (Map (link_in o))) (sym e); cells = refl; capacity = refl }
recut_by s m (Some Chain) choice now e is = absurd is
recut_by s m (Some Keys) choice now e is = absurd is
recut_by s m (Some (Cells cells)) choice now e is = absurd is
recut_by s m (Some (Prefixes prefixes)) choice now e is = absurd is

recut : (l : Library) (chain choice now : ℕ) → IsChain l chain → Recut l.state (chain - 1) (link_of_chain l.state chain)
    (with_index (link_of_chain l.state chain) choice now)
recut l chain choice now is = recut_by l.state (chain - 1) (slice_get l.state.objects (chain - 1)) choice now refl is.map

-- what the effect is, where an index is free
pub effect_is : (s : tables.State) (chain now choice : ℕ) → is_used_up s chain ≡ false →
    effect s (ChainAllocate chain now) choice ≡ with_link s (chain - 1) (with_index (link_of_chain s chain) choice now)
effect_is s chain now choice used = rw used refl

vectors_same : (l : Library) (chain now choice v : ℕ) → IsChain l chain → is_used_up l.state chain ≡ false →
    vector_of (effect l.state (ChainAllocate chain now) choice) v ≡ vector_of l.state v
vectors_same l chain now choice v is used =
    ap (λ (s : tables.State). vector_of s v) (effect_is l.state chain now choice used)
    ∙ vectors_kept l.state (chain - 1) v (link_of_chain l.state chain) (with_index (link_of_chain l.state chain) choice now) (recut l chain choice now is)

cells_by : (b : Bool) (book one two : Record) → one.cells ≡ book.cells → two.cells ≡ book.cells → (if b then one else two).cells ≡ book.cells
cells_by true book one two e f = e
cells_by false book one two e f = f

noted_cells : (s : State) (chain now choice : ℕ) → (noted s (ChainAllocate chain now) choice).cells ≡ s.book.cells
noted_cells s chain now choice = cells_by (is_used_up s.library chain) s.book s.book (with_handed (marked s.book (chain - 1)) chain choice) refl refl

octets_same : (l : Library) (s : State) (o : Object) (chain now choice : ℕ) → s.library ≡ l.state → IsChain l chain → is_used_up l.state chain ≡ false →
    octets_of (done s (ChainAllocate chain now) choice) o ≡ octets_of s o
octets_same l s (objects.Declared node number) chain now choice e is used = refl
octets_same l s (objects.Chunk number) chain now choice e is used = refl
octets_same l s (objects.Cell v index number) chain now choice e is used =
    let cells = noted_cells s chain now choice in
    let vector : vector_of (effect s.library (ChainAllocate chain now) choice) v ≡ vector_of s.library v =
    subst (λ (x : tables.State). vector_of (effect x (ChainAllocate chain now) choice) v ≡ vector_of x v) (sym e) (vectors_same l chain now choice v is used) in
    λ i. if is_lent_as (record s.book { cells = cells i }) v index number then get (vector i).cells index else None

write_same : (l : Library) (own : memory.State) (book : Record) (p : Pointer) (size chain now choice : ℕ) → IsChain l chain → is_used_up l.state chain ≡ false →
    may_write (done (beside own l book) (ChainAllocate chain now) choice) p size ≡ may_write (beside own l book) p size
write_same l own book p size chain now choice is used =
    ap (λ (octets : Option (List ℕ)). or_wrong (tested (write_tests_with octets own p None size size) (tt {0})))
    (octets_same l (beside own l book) p.object chain now choice refl is used)

-- the index is stored, and the answer is 1
pub handed_out : (l : Library) (own : memory.State) (book : Record) (p : Pointer) (chain now choice : ℕ) (t : State) (r : Result (Unit {0}) Reason) → IsChain
    l chain →
    is_used_up l.state chain ≡ false → may_write (beside own l book) p 4 ≡ Ok (tt {0}) →
    leaves r t ≡ store (done (beside own l book) (ChainAllocate chain now) choice) p None 4 4 choice →
    gives (yes_of r) t ≡ Ok (concluded (beside own l book) (ChainAllocate chain now) (target p 4) choice)
handed_out l own book p chain now choice t r is used writable e =
    let s = beside own l book in
    let left = done s (ChainAllocate chain now) choice in
    stored_answer left t p 4 choice r e
    ∙ (ap (λ (x : Result (Unit {0}) Stop). and_then x (λ _. Ok (answers.Word 1, with_answer left (target p 4) (Some choice))))
    (write_same l own book p 4 chain now choice is used ∙ writable)
    ∙ sym (ap (λ (b : Bool). Ok (word_of (allocation b choice).answer, with_answer left (target p 4) (allocation b choice).stored)) used))

-- what is chosen, and then that
pub placed : (choices : List ℕ) (s : State) (chain now choice : ℕ) (p : Pointer) (o : Outcome) → choice_of choices s (ChainAllocate chain now) ≡ Ok choice →
    o ≡ Ok (concluded s (ChainAllocate chain now) (target p 4) choice) → o ≡ after_place choices s (ChainAllocate chain now) (target p 4)
placed choices s chain now choice p o e f =
    f ∙ sym (ap (λ (r : Result ℕ Stop). and_then r (λ c. Ok (concluded s (ChainAllocate chain now) (target p 4) c))) e)

-- no cell has gone
pub cells_stay : (l t : Library) (book new : Record) (chain now choice : ℕ) → IsChain l chain → is_used_up l.state chain ≡ false →
    t.state ≡ effect l.state (ChainAllocate chain now) choice → new.cells ≡ book.cells → CellsAreThere l book → CellsAreThere t new
cells_stay l t book new chain now choice is used e f there =
    let changed = e ∙ effect_is l.state chain now choice used in
    let link = recut l chain choice now is in
    record {
      vectors = subst (λ (cells : List Cell). All (λ (cell : Cell). IsVector t cell.vector) cells) (sym f)
          (λ k d b. still_vector l t (chain - 1) _ (link_of_chain l.state chain) (with_index (link_of_chain l.state chain) choice now) changed link
          (there.vectors k d b));
      short = λ vector index bytes told. there.short vector index bytes
          (subst (λ (cells : Vector). get cells.cells index ≡ Some bytes)
          (ap (λ (s : tables.State). vector_of s vector) e ∙ vectors_same l chain now choice vector is used) told);
    }

pub noted_same : (own : memory.State) (l : Library) (book : Record) (chain now choice : ℕ) (t : Library) (new : Record) →
    beside own t new ≡ done (beside own l book) (ChainAllocate chain now) choice →
    (t.state ≡ effect l.state (ChainAllocate chain now) choice) × (new.cells ≡ book.cells)
noted_same own l book chain now choice t new e =
    (ap (λ (s : State). s.library) e, ap (λ (s : State). s.book.cells) e ∙ noted_cells (beside own l book) chain now choice)

pub yes_told : (r : Result (Unit {0}) Reason) → is_untold (yes_of r) ≡ false
yes_told (Ok done) = refl
yes_told (Err reason) = refl

gives_ok : (P : Type 0) (r : Result Answer Stop) (t : State) (x : Answer × State) → gives r t ≡ Ok x → OnErr r P
gives_ok P (Ok answer) t x e = tt
gives_ok P (Err stop) t x e = cc

pub is_no_stop : (P : Type 0) (r : Result Answer Stop) (t : State) (x : Answer × State) → gives r t ≡ Ok x → OnErr r P
is_no_stop P r t x e = gives_ok P r t x e

-- ---- the row, case by case

abbrev granted_by : (choices : List ℕ) → State → (chain now : ℕ) → Target → Bool → Outcome
granted_by choices s chain now t b =
    and_then (told (Some (if b then 0 else 1))) (λ _.
    and_then (may_store s (Some t) (allocation b 0).stored) (λ _. after_place choices s (ChainAllocate chain now) (Some t)))

pub granted_used : (choices : List ℕ) (s : State) (chain now : ℕ) (t : Target) → is_used_up s.library chain ≡ true →
    granted choices s (ChainAllocate chain now) (Some t) ≡ Ok (answers.Word 0, s)
granted_used choices s chain now t used = rw used refl

pub granted_free : (choices : List ℕ) (s : State) (chain now : ℕ) (t : Target) → is_used_up s.library chain ≡ false →
    granted choices s (ChainAllocate chain now) (Some t) ≡ and_then (may_write s t.pointer t.size)
    (λ _. after_place choices s (ChainAllocate chain now) (Some t))
granted_free choices s chain now t used = ap (granted_by choices s chain now t) used

pub granted_stop : (choices : List ℕ) (s : State) (chain now : ℕ) (t : Target) (stop : Stop) → is_used_up s.library chain ≡ false →
    may_write s t.pointer t.size ≡ Err stop → granted choices s (ChainAllocate chain now) (Some t) ≡ Err stop
granted_stop choices s chain now t stop used e =
    granted_free choices s chain now t used ∙ ap (λ r. and_then r (λ _. after_place choices s (ChainAllocate chain now) (Some t))) e

pub granted_go : (choices : List ℕ) (s : State) (chain now : ℕ) (t : Target) → is_used_up s.library chain ≡ false →
    may_write s t.pointer t.size ≡ Ok (tt {0}) → granted choices s (ChainAllocate chain now) (Some t) ≡ after_place choices s (ChainAllocate chain now) (Some t)
granted_go choices s chain now t used e =
    granted_free choices s chain now t used ∙ ap (λ r. and_then r (λ _. after_place choices s (ChainAllocate chain now) (Some t))) e
