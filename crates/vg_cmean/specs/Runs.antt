-- A run of `nf_process` on a frame, whole.
use Rattle.std.specs.Prelude.{◌≡◌, ℕ, zero, suc, ◌-◌, List, [], ◌∷◌, ◌++◌, length, slice_get, Option, Some, None, ℤ, Bool, true, false, ◌||◌}
use Rattle.vg_core.specs.Syntax.{listed}
use Rattle.vg_core.specs.Layouts.{layout}
use Rattle.vg_core.specs.Units.{Typed}
use Rattle.vg_core.specs.declared.reason.Reason.TheVariants as reasons
use Rattle.vg_core.specs.declared.tree.Node.{Node}
use Rattle.vg_core.specs.declared.tree.Kind.{Kind}
use Rattle.vg_core.specs.declared.tree.Kind.TheVariants as nodes
use Rattle.vg_core.specs.declared.types.CType.{CType}
use Rattle.vg_core.specs.declared.types.CType.TheVariants as types
use Rattle.vg_cint.specs.Types.{int, without_sign}
use Rattle.vg_cint.specs.Values.{reading}
use Rattle.vg_cmemory.specs.State.{Own, State, sizes}
use Rattle.vg_cmemory.specs.State as memory
use Rattle.vg_cmean.specs.declared.datum.Datum.{Datum}
use Rattle.vg_cmean.specs.declared.datum.Datum.TheVariants as data_of
use Rattle.vg_cmean.specs.declared.machine.Done.{Done}
use Rattle.vg_cmean.specs.declared.machine.Done.TheVariants as ends
use Rattle.vg_cmean.specs.Outcomes.{Outcome, Next, Gives, Wrong, Untold, after, full}
use Rattle.vg_cmean.specs.Typings.{kind_at, type_at}
use Rattle.vg_cmean.specs.Values.{word_of, number}
use Rattle.vg_cmean.specs.Meaning.{meaning, parameter, answer_as, closing, end_of}

-- ---- how many bytes the objects of each declaration have

-- a pointer variable has no bytes: its pointer is kept apart
abbrev pub bytes_of : Typed → CType → ℕ
bytes_of u (types.Pointer target) = 0
bytes_of u type = (layout u.notes type).size

-- nor has a parameter that is a struct, since nothing can be given for it
abbrev pub bytes_of_parameter : Typed → CType → ℕ
bytes_of_parameter u (types.Struct tag) = 0
bytes_of_parameter u type = bytes_of u type

-- of a variable, parameter or counter
abbrev pub bytes_declared : Typed → ℕ → Kind → ℕ
bytes_declared u n (nodes.Param base pointer name) = bytes_of_parameter u (type_at u n)
bytes_declared u n (nodes.Declare base pointer name count value) = bytes_of u (type_at u n)
bytes_declared u n (nodes.For type counter start tested bound stepped step body) = bytes_of u (type_at u n)
bytes_declared u n kind = 0

-- of the nodes below one
unfoldable pub sizes_below : Typed → ℕ → List ℕ
sizes_below u zero = []
sizes_below u (suc n) = sizes_below u n ++ bytes_declared u n (kind_at u n) ∷ []

abbrev pub sizes_in : Typed → List ℕ
sizes_in u = sizes_below u (length u.tree.nodes)

abbrev pub start : Typed → Own
start u = memory.start (sizes_in u)

-- ---- a machine: what the last run left
abbrev pub IsMadeFor : Own → Typed → Type 0
IsMadeFor own u = sizes own ≡ sizes_in u

-- ---- objects of the library come with it, and so do texts that name them

abbrev pub is_extern : Kind → Bool
is_extern (nodes.ExternHandle handle name) = true
is_extern (nodes.ExternNumber type name) = true
is_extern _ = false

abbrev pub has_extern : List Node → Bool
has_extern [] = false
has_extern (node ∷ nodes) = is_extern node.kind || has_extern nodes

-- ---- `nf_process` is the last item of the text

abbrev pub last_of : List ℕ → Option ℕ
last_of items = slice_get items (length items - 1)

abbrev pub process_in : Typed → Kind → Option ℕ
process_in u (nodes.Unit items) = last_of (listed u.tree.items items)
process_in u kind = None

abbrev pub process_of : Typed → Option ℕ
process_of u = process_in u (kind_at u (length u.tree.nodes - 1))

abbrev pub unsigned : (bits word : ℕ) → Datum
unsigned bits word = data_of.Word (number (without_sign bits) word)

-- its parameters: the port, of 16 bits, and the time, of 64
abbrev pub arguments : Typed → List ℕ → (port now : ℕ) → State → Outcome
arguments u (p ∷ t ∷ []) port now s = after (parameter u p (unsigned 16 port) s) (parameter u t (unsigned 64 now))
arguments u ps port now s = Next s

abbrev pub run_of : Typed → Kind → (port now : ℕ) → State → Outcome
run_of u (nodes.Function is_static is_inline answer name params body) port now s =
    after (arguments u (listed u.tree.items params) port now s)
    (λ t. answer_as answer (end_of (kind_at u body)) (closing (listed u.tree.items params) ((meaning u body).does t)))
run_of u kind port now s = Wrong 0 reasons.Unset s

abbrev pub run_at : Typed → Option ℕ → (port now : ℕ) → State → Outcome
run_at u None port now s = Wrong 0 reasons.Unset s
run_at u (Some f) port now s = run_of u (kind_at u f) port now s

-- what comes of a frame that a port gets at a time
abbrev pub run : Typed → (port now : ℕ) → List ℕ → Outcome
run u port now frame = run_at u (process_of u) port now (full (start u) frame)

-- ---- what is told of a run: the value that was returned, the steps, and the chunks that weren't given back; or where it goes wrong, and why

abbrev pub int_of : (word : ℕ) → ℤ
int_of word = reading int word

abbrev pub returned_with : Datum → State → Done
returned_with d s = ends.Ret (int_of (word_of d).word) s.own.steps (length s.own.chunks)

-- nothing is told of a run that asks what isn't told
abbrev pub done_of : Outcome → Option Done
done_of (Next s) = Some (returned_with data_of.Nothing s)
done_of (Gives d s) = Some (returned_with d s)
done_of (Wrong at reason s) = Some (ends.Wrong at reason)
done_of (Untold s) = None

-- the frame after a run; after a wrong one as the run left it
abbrev pub frame_of : Outcome → List ℕ
frame_of (Next s) = s.frame
frame_of (Gives d s) = s.frame
frame_of (Wrong at reason s) = s.frame
frame_of (Untold s) = s.frame
