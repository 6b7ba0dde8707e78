-- Where a reading ends or stops: not before its start, nor past the last token.
use Rattle.std.proofs.Common.{◌≡◌, ◌<◌, ◌≤◌, ◌-◌, ℕ, zero, suc, Bool, true, false, cond, List, length, slice_get, Option, Some, None, Result, Ok, Err}
use Rattle.std.proofs.Common.{refl, arith}
use Rattle.std.proofs.lemmas.Option.{slice_get_within}
use Rattle.vg_forms.specs.Forms.{Form, Plain, Place, One, Unless, Both, Either, Chain, Inner, Made, Growth}
use Rattle.vg_forms.specs.Places.{State, place_at, passes, tested}
use Rattle.vg_forms.specs.Reading.{Refusal, Wrong, Deep, Reads, ◌>>=◌, taken, grown, turn, turns, read_with, read_inner}
use Rattle.vg_forms.proofs.Chains.{some_next}
use Rattle.vg_forms.specs.declared.token.Token.{Token}
use Rattle.vg_forms.proofs.Checks.{Law}

module _ {K N G : Type 0} (law : Law K N G) where
  module _ (toks : List (Token K)) where
    -- where a reading that starts at a place comes to
    abbrev pub Within : {A : Type 0} → ℕ → Result (A × State G) Refusal → Type 0
    Within at (Ok p) = (at ≤ p.1.at) × (p.1.at ≤ length toks)
    Within at (Err (Wrong e)) = (at ≤ e) × (e ≤ length toks)
    Within at (Err (Deep e)) = (at ≤ e) × (e < length toks)

    within_later : {A : Type 0} (at later : ℕ) (r : Result (A × State G) Refusal) → at ≤ later → Within later r → Within at r
    within_later at later (Ok p) on h = (omega (arith, on, h.0), h.1)
    within_later at later (Err (Wrong e)) on h = (omega (arith, on, h.0), h.1)
    within_later at later (Err (Deep e)) on h = (omega (arith, on, h.0), h.1)

    pub within_bind : {A B : Type 0} (at : ℕ) (r : Result (A × State G) Refusal) (k : A × State G → Result (B × State G) Refusal) → Within at r
        → ((a : A) (t : State G) → t.at ≤ length toks → Within t.at (k (a, t))) → Within at (r >>= k)
    within_bind at (Ok p) k h next = within_later at p.1.at (k p) h.0 (next p.0 p.1 h.1)
    within_bind at (Err (Wrong e)) k h next = h
    within_bind at (Err (Deep e)) k h next = h

    within_either : {A : Type 0} (at : ℕ) (b : Bool) (x y : Result (A × State G) Refusal) → Within at x → Within at y → Within at (cond b x y)
    within_either at true x y h i = h
    within_either at false x y h i = i

    within_taken : {A : Type 0} (s : State G) (o : Option A) → s.at < length toks → Within s.at (taken o s)
    within_taken s None h = (omega arith, omega (arith, h))
    within_taken s (Some a) h = (omega arith, omega (arith, h))

    within_one : {A : Type 0} (test : Token K → Option A) (s : State G) (o : Option (Token K)) → slice_get toks s.at ≡ o → s.at ≤ length toks
        → Within s.at (taken (tested test o) s)
    within_one test s None found h = (omega arith, h)
    within_one test s (Some x) found h = within_taken s (test x) (slice_get_within toks s.at x found)

    pub within_turns : {A : Type 0} (n : ℕ) (test : Token K → Bool) (more : Reads G (ℕ → A → Growth G A)) → ((s : State G)
        → s.at ≤ length toks → Within s.at (more s))
        → (at : ℕ) (a : A) (s : State G) → s.at ≤ length toks → Within s.at (turns toks n test more at a s)
    within_turns zero test more h at a s le = (omega arith, le)
    within_turns (suc n) test more h at a s le =
        within_either s.at (passes test (slice_get toks s.at)) _ _
        (within_bind s.at (turn more at a s) (λ q. turns toks n test more at q.0 q.1)
        (within_bind s.at (more s) (λ q. Ok (grown (q.0 at a q.1.tree) q.1)) (h s le) (λ g t here. (omega arith, here)))
        (λ b t here. within_turns n test more h at b t here))
        (omega arith, le)

    pub within : (inner : N → Reads G ℕ) → ((n : N) (s : State G) → s.at ≤ length toks → Within s.at (inner n s))
        → {A : Type 0} (f : Form K N G A) (s : State G) → s.at ≤ length toks → Within s.at (read_with toks inner f s)
    within inner h (Plain a) s le = (omega arith, le)
    within inner h Place s le = (omega arith, le)
    within inner h (One test) s le = within_one test s (slice_get toks s.at) refl le
    within inner h (Unless test) s le = within_either s.at (passes test (slice_get toks s.at)) _ _ (omega arith, le) (omega arith, le)
    within inner h (Both f x) s le =
        within_bind s.at (read_with toks inner f s) (λ p. read_with toks inner x p.1 >>= λ q. Ok (p.0 q.0, q.1)) (within inner h f s le)
        (λ g t here. within_bind t.at (read_with toks inner x t) (λ q. Ok (g q.0, q.1)) (within inner h x t here) (λ a u there. (omega arith, there)))
    within inner h (Either test x y) s le = within_either s.at (passes test (slice_get toks s.at)) _ _ (within inner h x s le) (within inner h y s le)
    within inner h (Chain test x more) s le =
        within_bind s.at (read_with toks inner x s) (λ p. turns toks (length toks - p.1.at) test (read_with toks inner more) (place_at toks s.at) p.0
        p.1) (within inner h x s le)
        (λ a t here. within_turns (length toks - t.at) test (read_with toks inner more) (λ u there. within inner h more u there)
        (place_at toks s.at) a t here)
    within inner h (Inner n) s le = h n s le
    within inner h (Made f) s le =
        within_bind s.at (read_with toks inner f s) (λ p. Ok (grown (p.0 p.1.tree) p.1)) (within inner h f s le) (λ g t here. (omega arith, here))

    within_deep : (test : Token K → Bool) (s : State G) (b : Bool) → passes test (slice_get toks s.at) ≡ b → s.at ≤ length toks
        → Within {A = ℕ} s.at (cond b (Err (Deep s.at)) (Err (Wrong s.at)))
    within_deep test s true so le = (omega arith, some_next law toks test s.at so)
    within_deep test s false unless le = (omega arith, le)

    pub within_inner : (room : ℕ) (n : N) (s : State G) → s.at ≤ length toks → Within s.at (read_inner law.grammar toks room n s)
    within_inner zero n s le = within_deep (law.grammar.begins n) s (passes (law.grammar.begins n) (slice_get toks s.at)) refl le
    within_inner (suc room) n s le =
        within_either s.at (passes (law.grammar.begins n) (slice_get toks s.at)) _ _ (within (read_inner law.grammar toks room)
        (λ m u here. within_inner room m u here)
        (law.grammar.form n) s le) (omega arith, le)
