-- The rows of the library's calls on memory, frame and library: what each needs and where, what it answers, and what it leaves. Needs, cases, answers
-- and effects are those of the library's tables; here stand the pointers, and the order in which all of it comes.
use Rattle.std.specs.Prelude.{ℕ, ◌-◌, Bool, true, false, ◌&&◌, not, nat_eq, List, [], ◌∷◌, length, filter, slice_get, Option, Some, None}
use Rattle.std.specs.Prelude.{Result, Ok, Err, if◌then◌else◌}
use Rattle.vg_core.specs.declared.reason.Reason.{Reason}
use Rattle.vg_core.specs.declared.reason.Reason.TheVariants as reasons
use Rattle.vg_cint.specs.Tests.{tested}
use Rattle.vg_cmemory.specs.declared.object.Object.{Object}
use Rattle.vg_cmemory.specs.declared.object.Object.TheVariants as objects
use Rattle.vg_cmemory.specs.declared.object.Pointer.{Pointer}
use Rattle.vg_cmemory.specs.Loans as frame
use Rattle.vg_cmemory.specs.State.{Own}
use Rattle.vg_cmemory.specs.Cells.{next_name, with_name}
use Rattle.vg_abs.specs.State.{link_of_map}
use Rattle.vg_abs.specs.Rows.{Call, Need, Reply, needs, is_met, is_of_key, is_used_up, case_of, may_hand_out, reply, effect, row_of}
use Rattle.vg_abs.specs.Rows as library
use Rattle.vg_crows.specs.declared.answer.Answer.{Answer}
use Rattle.vg_crows.specs.declared.answer.Answer.TheVariants as answers
use Rattle.vg_crows.specs.declared.answer.Stop.{Stop}
use Rattle.vg_crows.specs.declared.answer.Stop.TheVariants as stops
use Rattle.vg_crows.specs.declared.book.Cell.{Cell}
use Rattle.vg_crows.specs.declared.request.Request.{Request}
use Rattle.vg_crows.specs.declared.request.Request.TheVariants as requests
use Rattle.vg_crows.specs.Record.{Record, so_far, marked, with_handed, with_cell, without_cell, is_lent_as}
use Rattle.vg_crows.specs.State.{State, and_then, or_wrong}
use Rattle.vg_crows.specs.Access.{bytes_behind, write_tests, stored}

-- what a call gives, and what it leaves
abbrev pub Outcome : Type 0
Outcome = Result (Answer × State) Stop

-- ---- needs: the first that isn't met is the reason, with the number of the row

abbrev pub decided : (row : ℕ) → Option Bool → Result (Unit {0}) Stop
decided row None = Err stops.Untold
decided row (Some false) = Err (stops.Wrong (reasons.Before row))
decided row (Some true) = Ok tt

abbrev pub all_met : State → (row : ℕ) → List Need → Result (Unit {0}) Stop
all_met s row [] = Ok tt
all_met s row (need ∷ needs) = and_then (decided row (is_met s.library (so_far s.book) need)) (λ _. all_met s row needs)

-- those that are asked before a key is read, and those that are asked of it
abbrev pub meets_numbers : State → Call → Result (Unit {0}) Stop
meets_numbers s call = all_met s (row_of call) (filter (λ need. not (is_of_key need)) (needs call))

abbrev pub meets_key : State → Call → Result (Unit {0}) Stop
meets_key s call = all_met s (row_of call) (filter is_of_key (needs call))

-- ---- case, choice and answer

-- which case it is, where that is told
abbrev pub told : Option ℕ → Result ℕ Stop
told None = Err stops.Untold
told (Some case) = Ok case

-- where an answer is stored, and in how many bytes
pub record Target : Type 0 where
  pub pointer : Pointer
  pub size : ℕ

-- whether so many bytes may be written, at the alignment of a type of that size
abbrev pub may_write : State → Pointer → (size : ℕ) → Result (Unit {0}) Stop
may_write s p size = or_wrong (tested (write_tests s p None size size) (tt {0}))

-- a write of an answer has the alignment of its type. Where nothing is stored, nothing is asked of the place
abbrev pub may_store : State → Option Target → Option ℕ → Result (Unit {0}) Stop
may_store s None value = Ok tt
may_store s (Some target) None = Ok tt
may_store s (Some target) (Some value) = may_write s target.pointer target.size

abbrev pub with_answer : State → Option Target → Option ℕ → State
with_answer s None value = s
with_answer s (Some target) None = s
with_answer s (Some target) (Some value) = stored s target.pointer target.size value

-- a question whose answer is stored, where there is one
abbrev pub answered : State → Option Target → Option ℕ → Outcome
answered s target None = Ok (answers.Word 0, s)
answered s target (Some value) = and_then (may_store s target (Some value)) (λ _. Ok (answers.Word 1, with_answer s target (Some value)))

-- the next of the choices, which must be an index that can be handed out
abbrev pub as_choice : ℕ → Option Bool → Result ℕ Stop
as_choice choice (Some true) = Ok choice
as_choice choice _ = Err stops.Untold

abbrev pub chosen : State → (chain : ℕ) → Option ℕ → Result ℕ Stop
chosen s chain None = Err stops.Untold
chosen s chain (Some choice) = as_choice choice (may_hand_out s.library chain choice)

abbrev pub choice_of : (choices : List ℕ) → State → Call → Result ℕ Stop
choice_of choices s (library.ChainAllocate chain time) =
    if is_used_up s.library chain then Ok 0 else chosen s chain (slice_get choices (length s.book.handed))
choice_of choices s call = Ok 0

-- ---- what is left

-- a cell is lent as the next object
abbrev pub next_cell : State → (vector index : ℕ) → Cell
next_cell s vector index = record { vector = vector; index = index; number = next_name s.memory.own }

abbrev pub start_of_cell : Cell → Pointer
start_of_cell cell = record { object = objects.Cell cell.vector cell.index cell.number; offset = 0 }

-- what a run has done, after a call; `choice` is the index that was allocated, if one was
abbrev pub noted : State → Call → (choice : ℕ) → Record
noted s (library.MapPut map key index) choice = marked s.book map
noted s (library.MapErase map key) choice = marked s.book map
noted s (library.ChainAllocate chain time) choice =
    if is_used_up s.library chain then s.book else with_handed (marked s.book (chain - 1)) chain choice
noted s (library.ChainRejuvenate chain index time) choice = marked s.book (chain - 1)
noted s (library.ChainFree chain index) choice = marked s.book (chain - 1)
noted s (library.ExpireItems map chain vector before) choice = marked s.book map
noted s (library.VectorBorrow vector index) choice = with_cell s.book (next_cell s vector index)
noted s (library.VectorReturn vector index) choice = without_cell s.book vector index
noted s call choice = s.book

abbrev pub named : State → Call → State
named s (library.VectorBorrow vector index) = record s { memory = record s.memory { own = with_name s.memory.own } }
named s call = s

abbrev pub done : State → Call → (choice : ℕ) → State
done s call choice = record (named s call) { library = effect s.library call choice; book = noted s call choice }

abbrev pub word_of : Option ℕ → Answer
word_of None = answers.Nothing
word_of (Some word) = answers.Word word

abbrev pub answer_of : State → Call → Reply → Answer
answer_of s (library.VectorBorrow vector index) reply = answers.Address (start_of_cell (next_cell s vector index))
answer_of s call reply = word_of reply.answer

-- ---- a call whose needs are met: its case, then the place of its answer, then its choice; and only then its effect and the store of its answer

abbrev pub concluded : State → Call → Option Target → (choice : ℕ) → Answer × State
concluded s call target choice =
    (answer_of s call (reply s.library call choice), with_answer (done s call choice) target (reply s.library call choice).stored)

-- the choice, the effect and the store, where the place of the answer was tested
abbrev pub after_place : (choices : List ℕ) → State → Call → Option Target → Outcome
after_place choices s call target = and_then (choice_of choices s call) (λ choice. Ok (concluded s call target choice))

abbrev pub granted : (choices : List ℕ) → State → Call → Option Target → Outcome
granted choices s call target =
    and_then (told (case_of s.library call)) (λ _.
    and_then (may_store s target (reply s.library call 0).stored) (λ _.
    after_place choices s call target))

-- a call without a key
abbrev pub by_numbers : (choices : List ℕ) → State → Call → Option Target → Outcome
by_numbers choices s call target = and_then (meets_numbers s call) (λ _. granted choices s call target)

-- a call with a key, which is read after its numbers were compared
abbrev pub by_key : (choices : List ℕ) → State → (map : ℕ) → (key : Pointer) → (List ℕ → Call) → Option Target → Outcome
by_key choices s map key call target =
    and_then (meets_numbers s (call [])) (λ _.
    and_then (or_wrong (bytes_behind s key (link_of_map s.library map).key_length)) (λ bytes.
    and_then (meets_key s (call bytes)) (λ _. granted choices s (call bytes) target)))

-- ---- the calls for the frame

abbrev pub on_frame : State → Answer → Result Own Reason → Outcome
on_frame s answer (Err reason) = Err (stops.Wrong reason)
on_frame s answer (Ok own) = Ok (answer, record s { memory = record s.memory { own = own } })

-- ---- `vector_return`: the start of a cell of the vector that is lent

abbrev pub is_start_in : State → (vector offset : ℕ) → Object → Bool
is_start_in s vector offset (objects.Cell of index number) = nat_eq offset 0 && (nat_eq of vector && is_lent_as s.book of index number)
is_start_in s vector offset object = false

abbrev pub index_in : Object → ℕ
index_in (objects.Cell of index number) = index
index_in object = 0

abbrev pub vector_return : State → (vector : ℕ) → Pointer → Outcome
vector_return s vector p =
    and_then (decided 14 (Some (is_start_in s vector p.offset p.object)))
    (λ _. by_numbers [] s (library.VectorReturn vector (index_in p.object)) None)

-- ---- all of them

abbrev pub target : Pointer → (size : ℕ) → Option Target
target pointer size = Some (record { pointer = pointer; size = size })

abbrev pub perform : (choices : List ℕ) → State → Request → Outcome
perform choices s requests.PacketLength = Ok (answers.Word (length s.memory.frame), s)
perform choices s (requests.PacketBorrow count) =
    on_frame s (answers.Address (frame.start_of_loan s.memory.own)) (frame.borrow s.memory.own (length s.memory.frame) count)
perform choices s (requests.PacketReturn chunk) = on_frame s answers.Nothing (frame.give_back s.memory.own chunk)
perform choices s (requests.MapGet map key index) =
    by_key choices s map.number key (λ bytes. library.MapGet map.number bytes) (target index 4)
perform choices s (requests.MapPut map key index) = by_key choices s map.number key (λ bytes. library.MapPut map.number bytes index) None
perform choices s (requests.MapErase map key) = by_key choices s map.number key (λ bytes. library.MapErase map.number bytes) None
perform choices s (requests.MapSize map) = by_numbers choices s (library.MapSize map.number) None
perform choices s (requests.ChainAllocate chain index time) =
    by_numbers choices s (library.ChainAllocate chain.number time) (target index 4)
perform choices s (requests.ChainIsAllocated chain index) = by_numbers choices s (library.ChainIsAllocated chain.number index) None
perform choices s (requests.ChainRejuvenate chain index time) =
    by_numbers choices s (library.ChainRejuvenate chain.number index time) None
perform choices s (requests.ChainFree chain index) = by_numbers choices s (library.ChainFree chain.number index) None
perform choices s (requests.ExpireItems map chain vector before) =
    by_numbers choices s (library.ExpireItems map.number chain.number vector.number before) None
perform choices s (requests.VectorBorrow vector index) = by_numbers choices s (library.VectorBorrow vector.number index) None
perform choices s (requests.VectorReturn vector cell) = vector_return s vector.number cell
perform choices s (requests.PrefixLookup table address value) =
    by_numbers choices s (library.PrefixLookup table.number address) (target value 2)
