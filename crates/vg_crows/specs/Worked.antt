-- A worked frame: calls one after the other on a library with one link of two keys of one byte, and what each answers.
use Rattle.std.specs.Prelude.{ℕ, ◌≡◌, true, false, List, [], ◌∷◌, Option, Some, None, Ok, Err}
use Rattle.std.specs.FinMap.{empty, insert}
use Rattle.vg_core.specs.declared.reason.Reason.TheVariants as reasons
use Rattle.vg_cmemory.specs.declared.object.Object.TheVariants as objects
use Rattle.vg_cmemory.specs.declared.object.Pointer.{Pointer}
use Rattle.vg_cmemory.specs.State.{Own, Slot, start}
use Rattle.vg_abs.specs.declared.object.Object.TheVariants.{Map, Chain, Keys}
use Rattle.vg_abs.specs.Tables.{Link}
use Rattle.vg_abs.specs.State as library
use Rattle.vg_crows.specs.declared.answer.Answer.{Answer}
use Rattle.vg_crows.specs.declared.answer.Answer.TheVariants as answers
use Rattle.vg_crows.specs.declared.answer.Stop.{Stop}
use Rattle.vg_crows.specs.declared.answer.Stop.TheVariants as stops
use Rattle.vg_crows.specs.declared.request.Handle.{Handle}
use Rattle.vg_crows.specs.declared.request.Request.{Request}
use Rattle.vg_crows.specs.declared.request.Request.TheVariants as requests
use Rattle.vg_crows.specs.State.{State, full}
use Rattle.vg_crows.specs.Rows.{Outcome, perform}

-- ---- what stands at first: a key of the byte 7, a number of four bytes that isn't set, a frame of three bytes, and nothing in the library

abbrev pub variable : (number : ℕ) → List (Option ℕ) → Slot
variable number bytes = record { size = 0; life = Some (record { number = number; bytes = bytes; points = None }) }

abbrev pub objects_at_first : Own
objects_at_first = record (start []) {
  slots = variable 1 (Some 7 ∷ []) ∷ variable 2 (None ∷ None ∷ None ∷ None ∷ []) ∷ [];
  born = 3;
}

abbrev pub empty_link : Link
empty_link = record {
  capacity = 2;
  key_length = 1;
  keys = empty;
  times = empty;
  cells = insert empty 0 (0 ∷ []);
  size = 0;
  count = 0;
  highest = 3;
  bounds = empty;
}

abbrev pub tables_at_first : library.State
tables_at_first = record { full = true; objects = Map empty_link ∷ Chain ∷ Keys ∷ [] }

abbrev pub at_first : State
at_first = full objects_at_first (1 ∷ 2 ∷ 3 ∷ []) tables_at_first (record { handed = []; cells = []; changed = false ∷ false ∷ false ∷ [] })

abbrev pub key : Pointer
key = record { object = objects.Declared 0 1; offset = 0 }

abbrev pub place : Pointer
place = record { object = objects.Declared 1 2; offset = 0 }

abbrev pub handle : ℕ → Handle
handle number = record { number = number; count = 2; key_length = 1 }

abbrev pub cell : (index number : ℕ) → Pointer
cell index number = record { object = objects.Cell 2 index number; offset = 0 }

-- ---- calls one after the other

-- what each answers, up to the first that comes to no end, and why that is
abbrev pub Told : Type 0
Told = List Answer × Option Stop

abbrev pub told_after : Outcome → (State → Told) → Told
told_after (Err stop) more = ([], Some stop)
told_after (Ok done) more = (done.0 ∷ (more done.1).0, (more done.1).1)

abbrev pub told_of : (choices : List ℕ) → State → List Request → Told
told_of choices s [] = ([], None)
told_of choices s (request ∷ requests) = told_after (perform choices s request) (λ t. told_of choices t requests)

abbrev pub wrong : (row : ℕ) → Option Stop
wrong row = Some (stops.Wrong (reasons.Before row))

abbrev pub yes : Answer
yes = answers.Word 1

abbrev pub no : Answer
no = answers.Word 0

-- ---- a loan ends by its own name alone, and an expiry comes neither behind a change nor while a cell is lent
abbrev pub expiry : Request
expiry = requests.ExpireItems (handle 0) (handle 1) (handle 2) 9

abbrev pub lending : Request
lending = requests.VectorBorrow (handle 2) 0

abbrev pub LoansAndChanges : Type 0
LoansAndChanges =
    (told_of (0 ∷ []) at_first (requests.ChainAllocate (handle 1) place 5 ∷ expiry ∷ []) ≡ (yes ∷ [], wrong 12))
    × (told_of [] at_first (lending ∷ expiry ∷ []) ≡ (answers.Address (cell 0 3) ∷ [], wrong 12))
    × (told_of [] at_first (lending ∷ lending ∷ []) ≡ (answers.Address (cell 0 3) ∷ [], wrong 13))
    × (told_of [] at_first (lending ∷ requests.VectorReturn (handle 2) (cell 0 4) ∷ []) ≡ (answers.Address (cell 0 3) ∷ [], wrong 14))
    × (told_of [] at_first (lending ∷ requests.VectorReturn (handle 2) (cell 0 3) ∷ requests.VectorReturn (handle 2) (cell 0 3) ∷ []) ≡
    (answers.Address (cell 0 3) ∷ answers.Nothing ∷ [], wrong 14))

-- ---- what isn't met is told in the table's order: numbers before the key is read, and the place of an answer before its index is chosen
abbrev pub RefusalsComeInOrder : Type 0
RefusalsComeInOrder =
    (told_of [] at_first (requests.MapPut (handle 0) place 2 ∷ []) ≡ ([], wrong 5))
    × (told_of [] at_first (requests.MapPut (handle 0) (record { object = objects.Declared 0 1; offset = 1 }) 1 ∷ []) ≡
    ([], Some (stops.Wrong reasons.OutOfObject)))
    × (told_of [] at_first (requests.MapErase (handle 0) place ∷ []) ≡ ([], Some (stops.Wrong reasons.Unset)))
    × (told_of [] at_first (requests.MapErase (handle 0) key ∷ []) ≡ ([], wrong 6))
    × (told_of [] at_first (requests.ChainAllocate (handle 1) key 2 ∷ []) ≡ ([], wrong 8))
    × (told_of [] at_first (requests.ChainAllocate (handle 1) key 5 ∷ []) ≡ ([], Some (stops.Wrong reasons.OutOfObject)))
    × (told_of [] at_first (requests.ChainAllocate (handle 1) place 5 ∷ []) ≡ ([], Some stops.Untold))
    × (told_of (2 ∷ []) at_first (requests.ChainAllocate (handle 1) place 5 ∷ []) ≡ ([], Some stops.Untold))
    × (told_of [] at_first (requests.ChainRejuvenate (handle 1) 0 2 ∷ []) ≡ ([], wrong 10))
    × (told_of [] at_first (requests.VectorBorrow (handle 2) 2 ∷ []) ≡ ([], wrong 13))
    × (told_of [] at_first (requests.MapGet (handle 0) key (cell 0 3) ∷ []) ≡ (no ∷ [], None))
