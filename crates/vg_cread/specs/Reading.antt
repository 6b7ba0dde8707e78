-- What the reader does with a form, as a function. No public clause rests on this file.
use Rattle.std.specs.Prelude.{◌≡◌, ℕ, zero, suc, ◌+◌, ◌-◌, List, length, slice_get, Bool, Option, Some, None, Result, Ok, Err, if◌then◌else◌}
use Rattle.std.specs.Global.{Vec}
use Rattle.vg_core.specs.Syntax.{Syntax}
use Rattle.vg_ctok.specs.declared.kinds.Token.{Token}
use Rattle.vg_cread.specs.Forms.{Form, Plain, Place, One, Unless, Both, Either, Chain, Inner, Made, Nested, Growth}
use Rattle.vg_cread.specs.Grammar.{begins, form}
use Rattle.vg_cread.specs.Places.{State, place_at, passes, tested}
use Rattle.vg_cread.specs.declared.reader.Source.{Source}
use Rattle.vg_cread.specs.declared.reader.Stop.{Stop}
use Rattle.vg_cread.specs.declared.reader.Stop.TheVariants as stops

-- where a reader stops: before so many tokens, since the next fits nothing there, or since it opens one nesting too many
pub data Refusal : Type 0 where
  Wrong : ℕ → Refusal
  Deep : ℕ → Refusal

infixl 10 ◌>>=◌
abbrev pub ◌>>=◌ : {A B : Type 0} → Result A Refusal → (A → Result B Refusal) → Result B Refusal
(Ok x) >>= f = f x
(Err e) >>= f = Err e

abbrev pub Reads : Type 0 → Type 0
Reads A = State → Result (A × State) Refusal

-- one token
abbrev pub taken : {A : Type 0} → Option A → State → Result (A × State) Refusal
taken None s = Err (Wrong s.at)
taken (Some a) s = Ok (a, record s { at = s.at + 1 })

-- a tree that grows
abbrev pub grown : {A : Type 0} → A × Syntax → State → A × State
grown g s = (g.0, record s { tree = g.1 })

-- one turn of a chain
abbrev pub turn : {A : Type 0} → Reads (ℕ → A → Growth A) → ℕ → A → Reads A
turn more at a s = more s >>= λ q. Ok (grown (q.0 at a q.1.tree) q.1)

module _ (toks : List Token) where
  -- a chain's turns, at most so many
  abbrev pub turns : {A : Type 0} → ℕ → (Token → Bool) → Reads (ℕ → A → Growth A) → ℕ → A → Reads A
  turns zero test more at a s = Ok (a, s)
  turns (suc n) test more at a s =
      if passes test (slice_get toks s.at)
      then (turn more at a s >>= λ q. turns n test more at q.0 q.1)
      else Ok (a, s)

  abbrev pub read_with : {A : Type 0} → (Nested → Reads ℕ) → Form A → Reads A
  read_with inner (Plain a) s = Ok (a, s)
  read_with inner Place s = Ok (place_at toks s.at, s)
  read_with inner (One test) s = taken (tested test (slice_get toks s.at)) s
  read_with inner (Unless test) s = if passes test (slice_get toks s.at) then Err (Wrong s.at) else Ok (tt, s)
  read_with inner (Both f x) s = read_with inner f s >>= λ p. read_with inner x p.1 >>= λ q. Ok (p.0 q.0, q.1)
  read_with inner (Either test x y) s = if passes test (slice_get toks s.at) then read_with inner x s else read_with inner y s
  read_with inner (Chain test x more) s =
      read_with inner x s >>= λ p. turns (length toks - p.1.at) test (read_with inner more) (place_at toks s.at) p.0 p.1
  read_with inner (Inner n) s = inner n s
  read_with inner (Made f) s = read_with inner f s >>= λ p. Ok (grown (p.0 p.1.tree) p.1)

  -- a construct that is counted, with room for so many in one another
  abbrev pub read_inner : ℕ → Nested → Reads ℕ
  read_inner zero n s = if passes (begins n) (slice_get toks s.at) then Err (Deep s.at) else Err (Wrong s.at)
  read_inner (suc room) n s = if passes (begins n) (slice_get toks s.at) then read_with (read_inner room) (form n) s else Err (Wrong s.at)

  abbrev pub read : {A : Type 0} → ℕ → Form A → Reads A
  read room f s = read_with (read_inner room) f s

-- the same with what a call is given
abbrev pub reads : {A : Type 0} → Source → Form A → Reads A
reads src f s = read src.toks.now src.room f s

abbrev pub reads_inner : Source → Nested → Reads ℕ
reads_inner src n s = read_inner src.toks.now src.room n s

abbrev pub next : Source → State → Option Token
next src s = slice_get src.toks.now s.at

-- a call answers what reading gives, unless memory ran out; where it stops, the reader stands at that token
abbrev pub Gives : {A : Type 0} → Result A Stop → State → Result (A × State) Refusal → Type 0
Gives (Ok a) t given = given ≡ Ok (a, t)
Gives (Err stops.Wrong) t given = given ≡ Err (Wrong t.at)
Gives (Err stops.Deep) t given = given ≡ Err (Deep t.at)
Gives (Err stops.Memory) t given = Unit {0}

-- the items of the list that a call answers
abbrev pub items_of : Result (Vec ℕ) Stop → Result (List ℕ) Stop
items_of (Ok v) = Ok v.items
items_of (Err e) = Err e
