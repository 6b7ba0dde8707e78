-- What the reader does with a form, as a function.
use Rattle.std.specs.Prelude.{◌≡◌, ℕ, zero, suc, ◌+◌, ◌-◌, List, length, slice_get, Bool, Option, Some, None, Result, Ok, Err, if◌then◌else◌}
use Rattle.vg_forms.specs.declared.token.Token.{Token}
use Rattle.vg_forms.specs.Forms.{Form, Plain, Place, One, Unless, Both, Either, Chain, Inner, Made, Growth}
use Rattle.vg_forms.specs.Places.{State, place_at, passes, tested}
use Rattle.vg_forms.specs.Grammar.{Grammar}
use Rattle.vg_forms.specs.declared.stops.Stop.{Stop}
use Rattle.vg_forms.specs.declared.stops.Stop.TheVariants as stops

-- where a reader stops: before so many tokens, since the next fits nothing there, or since it opens one nesting too many
pub data Refusal : Type 0 where
  Wrong : ℕ → Refusal
  Deep : ℕ → Refusal

infixl 10 ◌>>=◌
abbrev pub ◌>>=◌ : {A B : Type 0} → Result A Refusal → (A → Result B Refusal) → Result B Refusal
(Ok x) >>= f = f x
(Err e) >>= f = Err e

abbrev pub Reads : Type 0 → Type 0 → Type 0
Reads G A = State G → Result (A × State G) Refusal

-- one token
abbrev pub taken : {G A : Type 0} → Option A → State G → Result (A × State G) Refusal
taken None s = Err (Wrong s.at)
taken (Some a) s = Ok (a, record s { at = s.at + 1 })

-- a tree that grows
abbrev pub grown : {G A : Type 0} → A × G → State G → A × State G
grown g s = (g.0, record s { tree = g.1 })

-- one turn of a chain
abbrev pub turn : {G A : Type 0} → Reads G (ℕ → A → Growth G A) → ℕ → A → Reads G A
turn more at a s = more s >>= λ q. Ok (grown (q.0 at a q.1.tree) q.1)

module _ {K G : Type 0} (toks : List (Token K)) where
  -- a chain's turns, at most so many
  abbrev pub turns : {A : Type 0} → ℕ → (Token K → Bool) → Reads G (ℕ → A → Growth G A) → ℕ → A → Reads G A
  turns zero test more at a s = Ok (a, s)
  turns (suc n) test more at a s =
      if passes test (slice_get toks s.at)
      then (turn more at a s >>= λ q. turns n test more at q.0 q.1)
      else Ok (a, s)

module _ {K N G : Type 0} (toks : List (Token K)) where
  abbrev pub read_with : {A : Type 0} → (N → Reads G ℕ) → Form K N G A → Reads G A
  read_with inner (Plain a) s = Ok (a, s)
  read_with inner Place s = Ok (place_at toks s.at, s)
  read_with inner (One test) s = taken (tested test (slice_get toks s.at)) s
  read_with inner (Unless test) s = if passes test (slice_get toks s.at) then Err (Wrong s.at) else Ok (tt, s)
  read_with inner (Both f x) s = read_with inner f s >>= λ p. read_with inner x p.1 >>= λ q. Ok (p.0 q.0, q.1)
  read_with inner (Either test x y) s = if passes test (slice_get toks s.at) then read_with inner x s else read_with inner y s
  read_with inner (Chain test x more) s =
      read_with inner x s >>= λ p. turns toks (length toks - p.1.at) test (read_with inner more) (place_at toks s.at) p.0 p.1
  read_with inner (Inner n) s = inner n s
  read_with inner (Made f) s = read_with inner f s >>= λ p. Ok (grown (p.0 p.1.tree) p.1)

module _ {K N G : Type 0} (grammar : Grammar K N G) (toks : List (Token K)) where
  -- a construct that is counted, with room for so many in one another
  abbrev pub read_inner : ℕ → N → Reads G ℕ
  read_inner zero n s = if passes (grammar.begins n) (slice_get toks s.at) then Err (Deep s.at) else Err (Wrong s.at)
  read_inner (suc room) n s = if passes (grammar.begins n) (slice_get toks s.at) then read_with toks (read_inner room) (grammar.form n) s else Err
      (Wrong s.at)

  abbrev pub read : {A : Type 0} → ℕ → Form K N G A → Reads G A
  read room f s = read_with toks (read_inner room) f s

-- a call answers what reading gives, unless memory ran out; where it stops, the reader stands at that token
abbrev pub Gives : {G A : Type 0} → Result A Stop → State G → Result (A × State G) Refusal → Type 0
Gives (Ok a) t given = given ≡ Ok (a, t)
Gives (Err stops.Wrong) t given = given ≡ Err (Wrong t.at)
Gives (Err stops.Deep) t given = given ≡ Err (Deep t.at)
Gives (Err stops.Memory) t given = Unit {0}
