-- The lvalues that expressions name: variables, elements and members (C11 6.5.1, 6.5.2.1, 6.5.2.3, 6.5.3.2).
use Rattle.std.specs.Prelude.{ℕ, ◌+◌, ◌*◌, ◌%◌, ◌^◌, nat_eq, Bool, false, ◌&&◌, ◌||◌, List, [], ◌∷◌, ℤ, pos, neg_ℤ, int_le, Option, Some, None, if◌then◌else◌}
use Rattle.vg_core.specs.Units.{Typed}
use Rattle.vg_core.specs.declared.reason.Reason.TheVariants as reasons
use Rattle.vg_core.specs.declared.types.CType.{CType}
use Rattle.vg_core.specs.declared.types.CType.TheVariants as types
use Rattle.vg_core.specs.Layouts.{layout}
use Rattle.vg_core.specs.declared.unit.Referent.{Referent}
use Rattle.vg_core.specs.declared.unit.Referent.TheVariants as referents
use Rattle.vg_cint.specs.Tests.{Test, test, tested}
use Rattle.vg_cint.specs.Types.{with_sign}
use Rattle.vg_cint.specs.Values.{reading, converted}
use Rattle.vg_cint.specs.declared.value.Value.{Value}
use Rattle.vg_cmemory.specs.declared.object.Pointer.{Pointer}
use Rattle.vg_cmemory.specs.declared.object.Room.{Room}
use Rattle.vg_cmemory.specs.Access.{lies_in, ends_at}
use Rattle.vg_cmemory.specs.State.{Own, State, start_of}
use Rattle.vg_cmean.specs.declared.datum.Datum.{Datum}
use Rattle.vg_cmean.specs.declared.datum.Datum.TheVariants as data_of
use Rattle.vg_cmean.specs.declared.datum.Lvalue.{Lvalue}
use Rattle.vg_cmean.specs.Outcomes.{Outcome, Gives, or_wrong}
use Rattle.vg_cmean.specs.Typings.{type_at, referent_at, offset_at, is_packed, is_array, is_pointer}
use Rattle.vg_cmean.specs.Values.{read, word_of, pointer_of}

-- an lvalue that no array's bounds are asked of
abbrev pub lvalue_at : Pointer → CType → ℕ → Lvalue
lvalue_at pointer type at = record { pointer = pointer; of = type; loose = false; room = None; past = false; at = at }

-- what a declaration declares, named at a place of the text: a pointer variable is held apart from the bytes of the others
abbrev pub declared : Typed → (node at : ℕ) → Own → Datum
declared u node at own =
    if is_pointer (type_at u node) then data_of.PointerVariable node at else data_of.Lvalue (lvalue_at (start_of own node) (type_at u node) at)

abbrev pub named : Typed → Option Referent → ℕ → Own → Datum
named u (Some (referents.Declared node)) at own = declared u node at own
named u _ at own = data_of.Nothing

-- ---- pointers

-- so many bytes further, in 64 bits
abbrev pub moved : Pointer → ℕ → Pointer
moved p bytes = record { object = p.object; offset = (p.offset + bytes) % 2 ^ 64 }

-- where the elements or members of something begin: an array or struct is there itself, a pointer points there
abbrev pub start_under : Datum → Pointer
start_under (data_of.Lvalue place) = place.pointer
start_under d = pointer_of d

abbrev pub is_loose : Datum → Bool
is_loose (data_of.Lvalue place) = place.loose
is_loose d = false

-- ---- elements

-- an array is indexed where it stands; of anything else the value is taken, which is a pointer
abbrev pub indexed : Datum → State → Outcome
indexed (data_of.Lvalue place) s = if is_array place.of then Gives (data_of.Lvalue place) s else read (data_of.Lvalue place) s
indexed d s = read d s

abbrev pub is_near : (bound : ℕ) → ℤ → Bool
is_near bound z = int_le (neg_ℤ (pos bound)) z && int_le z (pos bound)

-- an index beyond 262,144 to either side, or one on a pointer that stands beyond 2 ^ 40 bytes from its object, is outside of every object
abbrev pub index_tests : Pointer → Value → List Test
index_tests p i =
    test reasons.OutOfObject (is_near 262144 (reading i.of i.word))
    ∷ test reasons.OutOfObject (is_near (2 ^ 40) (reading (with_sign 64) p.offset))
    ∷ []

abbrev pub element_of : Pointer → (size : ℕ) → Value → Pointer
element_of p size i = moved p (converted (with_sign 64) i.of i.word * size % 2 ^ 64)

abbrev pub length_of : CType → ℕ
length_of (types.Array target length) = length
length_of _ = 0

-- where an array stands, by its declared length
abbrev pub room_of_array : (size : ℕ) → Lvalue → Room
room_of_array size array = record { from = array.pointer.offset; size = size * length_of array.of }

-- an array that isn't whole in the one around it lies outside of that, and nothing is left
abbrev pub narrowed : Option Room → Room → Room
narrowed outer inner = if lies_in outer inner.from inner.size then inner else record inner { size = 0 }

-- an element of an array lies in that array (6.5.6); one that a pointer leads to, in its object alone
abbrev pub room_of_element : (size : ℕ) → Datum → Option Room
room_of_element size (data_of.Lvalue array) = Some (narrowed array.room (room_of_array size array))
room_of_element size d = None

-- whether an element is the one just past the last of an array that is whole in those around it
abbrev pub stands_behind : Option Room → Room → Pointer → Bool
stands_behind outer room element = lies_in outer room.from room.size && nat_eq element.offset ((room.from + room.size) % 2 ^ 64)

abbrev pub is_past : (size : ℕ) → Datum → Pointer → Bool
is_past size (data_of.Lvalue array) element = stands_behind array.room (room_of_array size array) element
is_past size d element = false

abbrev pub element_at : (size : ℕ) → CType → (at : ℕ) → Datum → Pointer → Lvalue
element_at size type at array p =
    record (lvalue_at p type at) { loose = is_loose array; room = room_of_element size array; past = is_past size array p }

abbrev pub element : (size : ℕ) → CType → (at index_at : ℕ) → Datum → Datum → State → Outcome
element size type at index_at array index s =
    or_wrong (tested (index_tests (start_under array) (word_of index)) (element_of (start_under array) size (word_of index))) index_at s
    (λ p. Gives (data_of.Lvalue (element_at size type at array p)) s)

-- ---- members

abbrev pub offset_of : Typed → Option Referent → ℕ
offset_of u (Some (referents.Declared field)) = offset_at u field
offset_of u _ = 0

abbrev pub room_under : Datum → Option Room
room_under (data_of.Lvalue place) = place.room
room_under d = None

-- a member of a packed struct, or a part of such a member, may stand at any offset. A member of an element lies in that element's array
abbrev pub member : Typed → (n whole at : ℕ) → Datum → Datum
member u n whole at d =
    data_of.Lvalue (record (lvalue_at (moved (start_under d) (offset_of u (referent_at u n))) (type_at u n) at) {
      loose = is_loose d || is_packed u (type_at u whole);
      room = room_under d;
    })

-- what a pointer points to (6.5.3.2)
abbrev pub pointed_to : CType → ℕ → Datum → Datum
pointed_to type at d = data_of.Lvalue (lvalue_at (pointer_of d) type at)

-- ---- the address of an lvalue (6.5.3.2): its own bytes lie in the arrays that its path names, or it is the element just past an array's last, where its
-- object ends too (6.5.6 p8)

abbrev pub may_be_pointed_to : (size : ℕ) → Lvalue → State → Bool
may_be_pointed_to size place s = lies_in place.room place.pointer.offset size || (place.past && ends_at s place.pointer)

abbrev pub address_tests : (size : ℕ) → Lvalue → State → List Test
address_tests size place s = test reasons.OutOfObject (may_be_pointed_to size place s) ∷ []

abbrev pub address : Typed → Datum → State → Outcome
address u (data_of.Lvalue place) s =
    or_wrong (tested (address_tests (layout u.notes place.of).size place s) place.pointer) place.at s (λ p. Gives (data_of.Address p) s)
address u d s = Gives (data_of.Address (pointer_of d)) s
