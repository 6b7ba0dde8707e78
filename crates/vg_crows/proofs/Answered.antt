-- Answers that are stored.
use Rattle.std.proofs.Common.{◌≡◌, ◌∙◌, ap, refl, ℕ, List, [], Option, Some, None, Result, Ok, Err}
use Rattle.vg_core.specs.declared.reason.Reason.{Reason}
use Rattle.vg_cint.specs.Tests.{first_against, unless}
use Rattle.vg_cmemory.specs.Access.{leaves}
use Rattle.vg_cmemory.specs.declared.object.Pointer.{Pointer}
use Rattle.vg_abs.specs.Rows as library
use Rattle.vg_abs.specs.Rows.{case_by, with_stored}
use Rattle.std.specs.Prelude.{Bool, is_some, option_map}
use Rattle.vg_abs.specs.Answers.{index_of, time_of, match_in}
use Rattle.vg_abs.specs.State.{link_of_map, link_of_chain, prefixes_of}
use Rattle.vg_crows.specs.declared.answer.Answer.TheVariants as answers
use Rattle.vg_crows.specs.declared.answer.Stop.{Stop}
use Rattle.vg_crows.specs.declared.answer.Stop.TheVariants as stops
use Rattle.vg_crows.specs.State.{State, and_then, or_wrong}
use Rattle.vg_crows.specs.Access.{write_tests, stored, store, bytes_behind}
use Rattle.vg_crows.specs.Rows.{Outcome, Target, answered, granted, told, may_store, with_answer, word_of, by_key, meets_key, meets_numbers, target}
use Rattle.vg_crows.specs.Views.{bit, gives, yes_of}

abbrev said : Result State Reason → Outcome
said (Ok t) = Ok (answers.Word 1, t)
said (Err reason) = Err (stops.Wrong reason)

said_left : (r : Result (Unit {0}) Reason) (t : State) → gives (yes_of r) t ≡ said (leaves r t)
said_left (Ok done) t = refl
said_left (Err reason) t = refl

said_unless : (o : Option Reason) (x : State) → said (unless o x) ≡ and_then (or_wrong (unless o (tt {0}))) (λ _. Ok (answers.Word 1, x))
said_unless None x = refl
said_unless (Some reason) x = refl

-- the store of an answer, as the row has it
pub stored_answer : (s t : State) (place : Pointer) (size value : ℕ) (r : Result (Unit {0}) Reason) → leaves r t ≡ store s place None size size value →
    gives (yes_of r) t ≡ answered s (target place size) (Some value)
stored_answer s t place size value r e =
    said_left r t ∙ ap said e ∙ said_unless (first_against (write_tests s place None size size)) (stored s place size value)

-- ---- a question whose answer is stored

abbrev questioned : State → Option Target → Option (Option ℕ) → Outcome
questioned s t q =
    and_then (told (case_by q)) (λ _.
    and_then (may_store s t (with_stored q).stored) (λ _. Ok (word_of (with_stored q).answer, with_answer s t (with_stored q).stored)))

questioned_told : (s : State) (t : Target) (found : Option ℕ) → questioned s (Some t) (Some found) ≡ answered s (Some t) found
questioned_told s t None = refl
questioned_told s t (Some value) = refl

pub get_told : (choices : List ℕ) (s : State) (map : ℕ) (key : List ℕ) (t : Target) (found : Option ℕ)
    → index_of s.library.full (link_of_map s.library map) key ≡ Some found →
    granted choices s (library.MapGet map key) (Some t) ≡ answered s (Some t) found
get_told choices s map key t found e = ap (questioned s (Some t)) e ∙ questioned_told s t found

pub get_untold : (choices : List ℕ) (s : State) (map : ℕ) (key : List ℕ) (t : Target)
    → index_of s.library.full (link_of_map s.library map) key ≡ None →
    granted choices s (library.MapGet map key) (Some t) ≡ Err stops.Untold
get_untold choices s map key t e = ap (questioned s (Some t)) e

-- ---- a key is read

pub key_stop : (choices : List ℕ) (s : State) (map : ℕ) (key : Pointer) (call : List ℕ → library.Call) (t : Option Target) (stop : Stop) →
    meets_numbers s (call []) ≡ Ok tt → or_wrong (bytes_behind s key (link_of_map s.library map).key_length) ≡ Err stop →
    by_key choices s map key call t ≡ Err stop
key_stop choices s map key call t stop e f =
    ap (λ r. and_then r (λ _. and_then (or_wrong (bytes_behind s key (link_of_map s.library map).key_length))
    (λ bytes. and_then (meets_key s (call bytes)) (λ _. granted choices s (call bytes) t)))) e
    ∙ ap (λ r. and_then r (λ bytes. and_then (meets_key s (call bytes)) (λ _. granted choices s (call bytes) t))) f

pub key_read : (choices : List ℕ) (s : State) (map : ℕ) (key : Pointer) (call : List ℕ → library.Call) (t : Option Target) (bytes : List ℕ) →
    meets_numbers s (call []) ≡ Ok tt → or_wrong (bytes_behind s key (link_of_map s.library map).key_length) ≡ Ok bytes →
    by_key choices s map key call t ≡ and_then (meets_key s (call bytes)) (λ _. granted choices s (call bytes) t)
key_read choices s map key call t bytes e f =
    ap (λ r. and_then r (λ _. and_then (or_wrong (bytes_behind s key (link_of_map s.library map).key_length))
    (λ bytes. and_then (meets_key s (call bytes)) (λ _. granted choices s (call bytes) t)))) e
    ∙ ap (λ r. and_then r (λ bytes. and_then (meets_key s (call bytes)) (λ _. granted choices s (call bytes) t))) f

-- ---- a question without a place

abbrev asked_by : State → Option (Option ℕ) → Outcome
asked_by s q = and_then (told (case_by q)) (λ _. Ok (word_of (with_stored q).answer, s))

pub allocated_untold : (choices : List ℕ) (s : State) (chain index : ℕ) → time_of s.library.full (link_of_chain s.library chain) index ≡ None →
    granted choices s (library.ChainIsAllocated chain index) None ≡ Err stops.Untold
allocated_untold choices s chain index e = ap (asked_by s) e

word_of_some : (s : State) (answer : Option ℕ) → asked_by s (Some answer) ≡ Ok (answers.Word (bit (is_some answer)), s)
word_of_some s None = refl
word_of_some s (Some time) = refl

told_by : (s : State) (q : Option (Option ℕ)) (r : Bool) → option_map (λ answer. is_some answer) q ≡ Some r → asked_by s q ≡ Ok (answers.Word (bit r), s)
told_by s None r e = cc
told_by s (Some answer) r e =
    let same : is_some answer ≡ r = cc in word_of_some s answer ∙ ap (λ (b : Bool). Ok (answers.Word (bit b), s)) same

pub allocated_told : (choices : List ℕ) (s : State) (chain index : ℕ) (r : Bool) →
    option_map (λ answer. is_some answer) (time_of s.library.full (link_of_chain s.library chain) index) ≡ Some r →
    granted choices s (library.ChainIsAllocated chain index) None ≡ Ok (answers.Word (bit r), s)
allocated_told choices s chain index r e = told_by s (time_of s.library.full (link_of_chain s.library chain) index) r e

pub lookup_told : (choices : List ℕ) (s : State) (table address : ℕ) (t : Target) (found : Option ℕ)
    → match_in s.library.full (prefixes_of s.library table) address ≡ Some found →
    granted choices s (library.PrefixLookup table address) (Some t) ≡ answered s (Some t) found
lookup_told choices s table address t found e = ap (questioned s (Some t)) e ∙ questioned_told s t found

pub key_fails : (choices : List ℕ) (s : State) (call : library.Call) (t : Option Target) (stop : Stop) → meets_key s call ≡ Err stop →
    and_then (meets_key s call) (λ _. granted choices s call t) ≡ Err stop
key_fails choices s call t stop e = ap (λ r. and_then r (λ _. granted choices s call t)) e

pub key_passes : (choices : List ℕ) (s : State) (call : library.Call) (t : Option Target) → meets_key s call ≡ Ok (tt {0}) →
    and_then (meets_key s call) (λ _. granted choices s call t) ≡ granted choices s call t
key_passes choices s call t e = ap (λ r. and_then r (λ _. granted choices s call t)) e

pub key_before : (choices : List ℕ) (s : State) (map : ℕ) (key : Pointer) (call : List ℕ → library.Call) (t : Option Target) (stop : Stop) →
    meets_numbers s (call []) ≡ Err stop → by_key choices s map key call t ≡ Err stop
key_before choices s map key call t stop e =
    ap (λ r. and_then r (λ _. and_then (or_wrong (bytes_behind s key (link_of_map s.library map).key_length))
    (λ bytes. and_then (meets_key s (call bytes)) (λ _. granted choices s (call bytes) t)))) e
