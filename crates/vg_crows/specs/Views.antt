-- What contracts see of what calls work on.
use Rattle.std.specs.Prelude.{ℕ, ◌≡◌, Bool, true, false, List, length, map, take, drop, All, ◌≤◌, ◌==◌, Some, Result, Ok, Err, OnErr}
use Rattle.std.specs.FinMap.{get}
use Rattle.std.specs.List.{list_any}
use Rattle.vg_cmemory.specs.State.{Own}
use Rattle.vg_cmemory.specs.State as memory
use Rattle.vg_abs.specs.Library.{Library, IsMap, IsChain, IsVector}
use Rattle.vg_abs.specs.State.{link_of_map, link_of_chain, vector_of}
use Rattle.vg_abs.specs.Rows.{is_lent}
use Rattle.vg_core.specs.declared.reason.Reason.{Reason}
use Rattle.vg_crows.specs.declared.answer.Answer.{Answer}
use Rattle.vg_crows.specs.declared.answer.Answer.TheVariants as answers
use Rattle.vg_crows.specs.declared.answer.Stop.{Stop}
use Rattle.vg_crows.specs.declared.answer.Stop.TheVariants as stops
use Rattle.vg_crows.specs.declared.request.Handle.{Handle}
use Rattle.vg_crows.specs.Record.{Record, so_far}
use Rattle.vg_crows.specs.State.{State}
use Rattle.vg_crows.specs.Rows.{Outcome}

abbrev pub beside : memory.State → Library → Record → State
beside own l book = record { memory = own; library = l.state; book = book }

abbrev pub seen : Own → (frame : List ℕ) → Library → Record → State
seen own frame l book = beside (record { own = own; frame = frame }) l book

-- a call that stopped has changed neither the library's state nor the book
abbrev pub StopsWithState : {A : Type 0} → Result A Stop → (l m : Library) → (old new : Record) → Type 0
StopsWithState result l m old new = OnErr result ((m.state ≡ l.state) × (new ≡ old))

-- what a call gave, and left
abbrev pub gives : Result Answer Stop → State → Outcome
gives (Ok answer) s = Ok (answer, s)
gives (Err stop) s = Err stop

-- what was done to a value, where it was done
abbrev pub with_value : {A B : Type 0} → Result A Stop → B → Result B Stop
with_value (Ok done) b = Ok b
with_value (Err stop) b = Err stop

abbrev pub bit : Bool → ℕ
bit true = 1
bit false = 0

-- what the store of an answer comes to
abbrev pub yes_of : Result (Unit {0}) Reason → Result Answer Stop
yes_of (Ok done) = Ok (answers.Word 1)
yes_of (Err reason) = Err (stops.Wrong reason)

abbrev pub is_untold : {A : Type 0} → Result A Stop → Bool
is_untold (Err stops.Untold) = true
is_untold _ = false

-- choices fit what a run was handed, and, where the library tells which are left, they are these
pub record Guides (l : Library) (book : Record) (choices : List ℕ) : Type 0 where
  pub begins : take (length book.handed) choices ≡ map (λ handed. handed.1) book.handed
  pub rest : (left : List ℕ) → l.choices ≡ Some left → drop (length book.handed) choices ≡ left

-- a struct of a specification has at most so many bytes
abbrev pub most_key_bytes : ℕ
most_key_bytes = 64

-- the library has lent the cells that the book has
abbrev pub SameLent : Library → Record → Type 0
SameLent l book = (vector index : ℕ) → l.lent vector index ≡ is_lent (so_far book) vector index

-- each cell that is lent is one of a vector, and cells are short
pub record CellsAreThere (l : Library) (book : Record) : Type 0 where
  pub vectors : All (λ cell. IsVector l cell.vector) book.cells
  pub short : (vector index : ℕ) (bytes : List ℕ) → get (vector_of l.state vector).cells index ≡ Some bytes → length bytes ≤ most_key_bytes

-- the library is as it was, but for what it missed
pub record IsUntouched (l m : Library) : Type 0 where
  pub state_is : m.state ≡ l.state
  pub same_lent : (vector index : ℕ) → m.lent vector index ≡ l.lent vector index
  pub same_choices : m.choices ≡ l.choices

-- a call that stopped has changed nothing
abbrev pub StopsWith : {A : Type 0} → Result A Stop → (l m : Library) → (old new : Record) → Type 0
StopsWith result l m old new = OnErr result (IsUntouched l m × (new ≡ old))

-- ---- handles name objects of the library, with their sizes

pub record NamesMap (l : Library) (map : Handle) : Type 0 where
  pub of_map : IsMap l map.number
  pub count : (link_of_map l.state map.number).capacity ≡ map.count
  pub key_length : (link_of_map l.state map.number).key_length ≡ map.key_length
  pub short : map.key_length ≤ most_key_bytes

pub record NamesChain (l : Library) (chain : Handle) : Type 0 where
  pub of_chain : IsChain l chain.number
  pub count : (link_of_chain l.state chain.number).capacity ≡ chain.count

pub record NamesVector (l : Library) (vector : Handle) : Type 0 where
  pub of_vector : IsVector l vector.number
  pub count : (vector_of l.state vector.number).cell_count ≡ vector.count

-- as long as a link wasn't changed in this frame, the cell of each index that is told as allocated is a key mapped to that index
abbrev pub IsTiedUnlessChanged : Library → Record → (map : ℕ) → Type 0
IsTiedUnlessChanged l book map = list_any (λ changed. changed == map) (so_far book).changed ≡ false → (index time : ℕ) →
    get (link_of_map l.state map).times index ≡ Some (Some time) →
    (key : List ℕ) × (get (link_of_map l.state map).cells index ≡ Some key) × (get (link_of_map l.state map).keys key ≡ Some (Some index))
