-- How the reader goes through words: what the private functions of reading answer. It mirrors their code, and no public
-- contract cites it: what a small text is stands in Spelling.
use Rattle.std.specs.Prelude.{ℕ, zero, suc, ◌+◌, ◌-◌, ◌*◌, ◌≡◌, List, [], ◌∷◌, map, codes, length, is_some, Bool, ◌||◌, ◌&&◌, nat_lt, nat_le, ◌==◌}
use Rattle.std.specs.Prelude.{if◌then◌else◌, Option, Some, None, Result, Ok, Err}
use Rattle.std.specs.Str.{bytes_eq}
use Rattle.vg_small.specs.Words.{Placed, spelled}
use Rattle.vg_small.specs.declared.words.Word.{Word}
use Rattle.vg_small.specs.Spelling.{head_words, value_bound, name_at}
use Rattle.vg_small.specs.declared.small.Test.{Test}
use Rattle.vg_small.specs.declared.small.Small.{Small}
use Rattle.vg_small.specs.declared.small.SmallFault.{SmallFault}
use Rattle.vg_small.specs.declared.small.SmallFault.TheVariants as faults
use Rattle.vg_small.specs.declared.small.Lang.{Lang}
use Rattle.vg_small.specs.declared.small.Lang.TheVariants.{C, Spec}

-- the words that the code cut, with their places
abbrev pub placed_word : Word → Placed
placed_word w = record { at = w.at; bytes = w.text.now }

abbrev pub placed : List Word → List Placed
placed ws = map placed_word ws

-- and without
abbrev pub text_of : Word → List ℕ
text_of w = w.text.now

abbrev pub texts : List Word → List (List ℕ)
texts ws = map text_of ws

infixl 10 ◌>>=◌
abbrev pub ◌>>=◌ : {A B : Type 0} → Option A → (A → Option B) → Option B
None >>= f = None
(Some x) >>= f = f x

-- the number that more digits make of a number so far, below 2^16
abbrev pub number_on : ℕ → List ℕ → Option ℕ
number_on n [] = Some n
number_on n (b ∷ bytes) =
    if nat_lt b 48 || nat_lt 57 b then None
    else if nat_lt (n * 10 + (b - 48)) 65536 then number_on (n * 10 + (b - 48)) bytes
    else None

-- the number that a word is: digits with no leading zero, below 2^16
abbrev pub number_of : List ℕ → Option ℕ
number_of [] = None
number_of (b ∷ []) = number_on 0 (b ∷ [])
number_of (b ∷ c ∷ bytes) = if b == 48 then None else number_on 0 (b ∷ c ∷ bytes)

-- the words after these first ones
abbrev pub after : List (List ℕ) → List (List ℕ) → Option (List (List ℕ))
after [] ws = Some ws
after (e ∷ es) [] = None
after (e ∷ es) (w ∷ ws) = if bytes_eq w e then after es ws else None

-- a number, and the words after it
abbrev pub number_after : List (List ℕ) → Option (ℕ × List (List ℕ))
number_after [] = None
number_after (w ∷ ws) = number_of w >>= λ n. Some (n, ws)

-- a number of ports, 1 to 16, and the words after it
abbrev pub ports_after : List (List ℕ) → Option (ℕ × List (List ℕ))
ports_after ws = number_after ws >>= λ n. if nat_le 1 n.0 && nat_le n.0 16 then Some n else None

-- a value below a bound, and the words after it
abbrev pub value_after : ℕ → List (List ℕ) → Option (ℕ × List (List ℕ))
value_after bound ws = number_after ws >>= λ n. if nat_lt n.0 bound then Some n else None

-- the words round the number of ports of a specification
abbrev pub ports_words : List (List ℕ)
ports_words = codes "ports" ∷ []

abbrev pub step_words : List (List ℕ)
step_words = codes ";" ∷ codes "step" ∷ codes "{" ∷ []

-- the number of ports that a head declares, 0 in C, and the words after the head
abbrev pub head_of : Lang → List (List ℕ) → Option (ℕ × List (List ℕ))
head_of C ws = after (head_words C 0) ws >>= λ ws. Some (0, ws)
head_of Spec ws = after ports_words ws >>= λ ws. ports_after ws >>= λ n. after step_words n.1 >>= λ ws. Some (n.0, ws)

-- the words round the numbers of a test, and before the last value
abbrev pub if_words : Lang → List (List ℕ)
if_words C = codes "if" ∷ codes "(" ∷ codes "port" ∷ codes "==" ∷ []
if_words Spec = codes "if" ∷ codes "port" ∷ codes "==" ∷ []

abbrev pub then_words : Lang → List (List ℕ)
then_words C = codes ")" ∷ codes "return" ∷ []
then_words Spec = codes "{" ∷ codes "send" ∷ []

abbrev pub end_words : Lang → List (List ℕ)
end_words C = codes ";" ∷ []
end_words Spec = codes ";" ∷ codes "}" ∷ []

abbrev pub answer_words : Lang → List (List ℕ)
answer_words C = codes "return" ∷ []
answer_words Spec = codes "send" ∷ []

-- a test, and the words after it
unfoldable pub test_of : Lang → ℕ → List (List ℕ) → Option (Test × List (List ℕ))
test_of lang bound ws = do
  ws ← after (if_words lang) ws
  port ← number_after ws
  ws ← after (then_words lang) port.1
  value ← value_after bound ws
  ws ← after (end_words lang) value.1
  Some (record { port = port.0; value = value.0 }, ws)

-- the last value, after which no word stands
unfoldable pub last_of : Lang → ℕ → List (List ℕ) → Option ℕ
last_of lang bound ws = do
  ws ← after (answer_words lang) ws
  value ← value_after bound ws
  ws ← after (codes ";" ∷ codes "}" ∷ []) value.1
  if length ws == 0 then Some value.0 else None

-- whether a test comes next
abbrev pub begins_if : List (List ℕ) → Bool
begins_if ws = is_some (after (codes "if" ∷ []) ws)

-- the tests and the last value, of fewer than n tests
unfoldable pub body_of : Lang → ℕ → ℕ → List (List ℕ) → Option (List Test × ℕ)
body_of lang bound zero ws = None
body_of lang bound (suc n) ws =
    if begins_if ws then (test_of lang bound ws >>= λ t. body_of lang bound n t.1 >>= λ b. Some (t.0 ∷ b.0, b.1))
    else (last_of lang bound ws >>= λ last. Some ([], last))

-- the small function that is read from words
unfoldable pub small_of : Lang → List Placed → Option Small
small_of lang words = do
  head ← head_of lang (spelled words)
  b ← body_of lang (value_bound lang head.0) (length head.1) head.1
  Some (record { ports = head.0; at = name_at lang words; tests = b.0; last = b.1 })

-- a call gives what reading gives, unless memory ran out
abbrev pub Fails : {Y : Type 0} → SmallFault → Option Y → Type 0
Fails faults.Memory read = Unit {0}
Fails faults.Form read = read ≡ None

abbrev pub Gives : {X : Type 0} → Result X SmallFault → Option X → Type 0
Gives (Ok x) read = read ≡ Some x
Gives (Err e) read = Fails e read
