-- What reading the first tokens of a list says of reading them all: it comes to their end, or it is the same.
use Rattle.std.proofs.Common.{◌≡◌, ◌∙◌, ◌<◌, ◌≤◌, ◌+◌, ◌-◌, ◌⊎◌, inl, inr, ℕ, zero, suc, Bool, true, false, cond, List, [], ◌∷◌, ◌++◌, length}
use Rattle.std.proofs.Common.{slice_get, Option, Result, Ok, Err, refl, sym, ap, subst, arith, length-append}
use Rattle.std.specs.Prelude.{◌&&◌}
use Rattle.std.proofs.lemmas.Bool.{and_parts}
use Rattle.std.proofs.lemmas.Option.{slice_get_cases}
use Rattle.vg_forms.specs.Forms.{Form, Plain, Place, One, Unless, Both, Either, Chain, Inner, Made, Growth}
use Rattle.vg_forms.specs.Places.{State, place_at, place_or, end_of, passes, tested}
use Rattle.vg_forms.specs.Reading.{Refusal, Wrong, Deep, Reads, ◌>>=◌, taken, grown, turn, turns, read_with, read_inner}
use Rattle.vg_forms.proofs.Checks.{eats}
use Rattle.vg_forms.proofs.Onward.{ok_at, further, gains, Gains, turn-onward}
use Rattle.vg_forms.proofs.Rooms.{inner_gains}
use Rattle.vg_forms.proofs.Checks.{tidy}
use Rattle.vg_forms.proofs.Bounds.{Within, within_bind, within_turns, within, within_inner}
use Rattle.vg_forms.specs.declared.token.Token.{Token}
use Rattle.vg_forms.proofs.Checks.{Law}

module _ {K N G : Type 0} (law : Law K N G) where
  pub get_front : (xs ys : List (Token K)) (i : ℕ) → i < length xs → slice_get (xs ++ ys) i ≡ slice_get xs i
  get_front [] ys i h = absurd (omega (arith, h))
  get_front (x ∷ xs) ys zero h = refl
  get_front (x ∷ xs) ys (suc i) h = get_front xs ys i (omega (arith, h))

  module _ (front all : List (Token K)) (rest : List (Token K)) (parts : all ≡ front ++ rest) where
    -- a reading of the front comes to its end
    abbrev pub AtEnd : {A : Type 0} → Result (A × State G) Refusal → Type 0
    AtEnd (Ok p) = p.1.at ≡ length front
    AtEnd (Err (Wrong e)) = e ≡ length front
    AtEnd (Err (Deep e)) = ⊥

    -- a reading of all comes as far
    abbrev pub Past : {A : Type 0} → Result (A × State G) Refusal → Type 0
    Past (Ok p) = length front ≤ p.1.at
    Past (Err (Wrong e)) = length front ≤ e
    Past (Err (Deep e)) = length front ≤ e

    abbrev pub Cut : {A : Type 0} → Result (A × State G) Refusal → Result (A × State G) Refusal → Type 0
    Cut one two = (AtEnd one × Past two) ⊎ (two ≡ one)

    longer : length front ≤ length all
    longer = let sum : length all ≡ length front + length rest = ap length parts ∙ length-append front rest in omega (arith, sum)

    same_token : (i : ℕ) → i < length front → slice_get all i ≡ slice_get front i
    same_token i h = ap (λ (l : List (Token K)). slice_get l i) parts ∙ get_front front rest i h

    at_end : {A : Type 0} (at : ℕ) (r : Result (A × State G) Refusal) → at ≡ length front → Within law front at r → AtEnd r
    at_end at (Ok p) e h = omega (arith, e, h.0, h.1)
    at_end at (Err (Wrong f)) e h = omega (arith, e, h.0, h.1)
    at_end at (Err (Deep f)) e h = absurd (omega (arith, e, h.0, h.1))

    past : {A : Type 0} (at : ℕ) (r : Result (A × State G) Refusal) → length front ≤ at → Within law all at r → Past r
    past at (Ok p) e h = omega (arith, e, h.0, h.1)
    past at (Err (Wrong f)) e h = omega (arith, e, h.0, h.1)
    past at (Err (Deep f)) e h = omega (arith, e, h.0, h.1)

    -- readings that start at the end of the front
    ended_cut : {A : Type 0} (at : ℕ) (one two : Result (A × State G) Refusal) → at ≡ length front → Within law front at one
        → Within law all at two → Cut one two
    ended_cut at one two e h i = inl (at_end at one e h, past at two (omega (arith, e)) i)

    cut_bind : {A B : Type 0} (at : ℕ) (one two : Result (A × State G) Refusal) (k m : A × State G → Result (B × State G) Refusal) → Cut one two
        → Within law front at one → Within law all at two
        → ((a : A) (t : State G) → one ≡ Ok (a, t) → t.at ≤ length front → Cut (k (a, t)) (m (a, t)))
        → ((a : A) (t : State G) → t.at ≤ length front → Within law front t.at (k (a, t)))
        → ((a : A) (t : State G) → t.at ≤ length all → Within law all t.at (m (a, t)))
        → Cut (one >>= k) (two >>= m)
    cut_bind at (Ok p) (Ok q) k m (inl (e, f)) h i go near far = inl (at_end p.1.at (k p) e (near p.0 p.1 h.1), past q.1.at (m q) f (far q.0 q.1 i.1))
    cut_bind at (Ok p) (Err (Wrong g)) k m (inl (e, f)) h i go near far = inl (at_end p.1.at (k p) e (near p.0 p.1 h.1), f)
    cut_bind at (Ok p) (Err (Deep g)) k m (inl (e, f)) h i go near far = inl (at_end p.1.at (k p) e (near p.0 p.1 h.1), f)
    cut_bind at (Err (Wrong g)) (Ok q) k m (inl (e, f)) h i go near far = inl (e, past q.1.at (m q) f (far q.0 q.1 i.1))
    cut_bind at (Err (Wrong g)) (Err (Wrong j)) k m (inl (e, f)) h i go near far = inl (e, f)
    cut_bind at (Err (Wrong g)) (Err (Deep j)) k m (inl (e, f)) h i go near far = inl (e, f)
    cut_bind at (Err (Deep g)) two k m (inl (e, f)) h i go near far = absurd e
    cut_bind at (Ok p) two k m (inr same) h i go near far = subst (λ r. Cut (k p) (r >>= m)) (sym same) (go p.0 p.1 refl h.1)
    cut_bind at (Err g) two k m (inr same) h i go near far = inr (ap (λ r. r >>= m) same)

    cut_either : {A : Type 0} (b c : Bool) (x y z w : Result (A × State G) Refusal) → c ≡ b → Cut x z → Cut y w → Cut (cond b x y) (cond c z w)
    cut_either b true x y z w e h i = rw (sym e) h
    cut_either b false x y z w e h i = rw (sym e) i

    same_place : (i : ℕ) → i < length front → place_at all i ≡ place_at front i
    same_place i h = elim (slice_get_cases front i).1 [
      | inl found ↦ ap (λ o. place_or o (end_of all)) (same_token i h ∙ found.2) ∙ sym (ap (λ o. place_or o (end_of front)) found.2)
      | inr beyond ↦ absurd (omega (arith, beyond.0, h))
    ]

    -- a place in the front, or at its end
    where_is : (i : ℕ) → i ≤ length front → (i < length front) ⊎ (i ≡ length front)
    where_is i h = elim (slice_get_cases front i).1 [
      | inl found ↦ inl found.1
      | inr beyond ↦ inr (omega (arith, beyond.0, h))
    ]

    turn_cut : {A : Type 0} (near far : Reads G (ℕ → A → Growth G A)) (at : ℕ) (a : A) (s : State G) → Cut (near s) (far s)
        → Within law front s.at (near s)
        → Within law all s.at (far s) → Cut (turn near at a s) (turn far at a s)
    turn_cut near far at a s cut h i =
        cut_bind s.at (near s) (far s) (λ q. Ok (grown (q.0 at a q.1.tree) q.1)) (λ q. Ok (grown (q.0 at a q.1.tree) q.1)) cut h i
        (λ g t is le. inr refl) (λ g t le. (omega arith, le)) (λ g t le. (omega arith, le))

    turns_cut : {A : Type 0} (n m : ℕ) (test : Token K → Bool) (near far : Reads G (ℕ → A → Growth G A)) → ((s : State G)
        → s.at < length front → Cut (near s) (far s))
        → ((s : State G) → s.at ≤ length front → Within law front s.at (near s)) → ((s : State G) → s.at ≤ length all
        → Within law all s.at (far s))
        → ((s : State G) (g : ℕ → A → Growth G A) (t : State G) → near s ≡ Ok (g, t) → s.at + 1 ≤ t.at)
        → (at : ℕ) (a : A) (s : State G) → s.at ≤ length front → length front ≤ n + s.at → length all ≤ m + s.at
        → Cut (turns front n test near at a s) (turns all m test far at a s)
    turns_cut zero m test near far cut h i on at a s le enough more =
        ended_cut s.at _ _ (omega (arith, le, enough)) (within_turns law front zero test near h at a s le)
        (within_turns law all m test far i at a s (omega (arith, le, longer)))
    turns_cut (suc n) zero test near far cut h i on at a s le enough more =
        ended_cut s.at _ _ (omega (arith, le, more, longer)) (within_turns law front (suc n) test near h at a s le)
        (within_turns law all zero test far i at a s (omega (arith, le, longer)))
    turns_cut (suc n) (suc m) test near far cut h i on at a s le enough more = elim (where_is s.at le) [
      | inr here ↦ ended_cut s.at _ _ here (within_turns law front (suc n) test near h at a s le)
          (within_turns law all (suc m) test far i at a s (omega (arith, le, longer)))
      | inl inside ↦
          let far_le : s.at ≤ length all = omega (arith, le, longer) in
          cut_either (passes test (slice_get front s.at)) (passes test (slice_get all s.at)) _ _ _ _ (ap (passes test) (same_token s.at inside))
          (cut_bind s.at (turn near at a s) (turn far at a s) (λ q. turns front n test near at q.0 q.1) (λ q. turns all m test far at q.0 q.1)
          (turn_cut near far at a s (cut s inside) (h s le) (i s far_le))
          (within_bind law front s.at (near s) (λ q. Ok (grown (q.0 at a q.1.tree) q.1)) (h s le) (λ g t here. (omega arith, here)))
          (within_bind law all s.at (far s) (λ q. Ok (grown (q.0 at a q.1.tree) q.1)) (i s far_le) (λ g t here. (omega arith, here)))
          (λ b t is here.
          let step = turn-onward law front near true on at a s b t is in
          turns_cut n m test near far cut h i on at b t here (omega (arith, enough, step)) (omega (arith, more, step)))
          (λ b t here. within_turns law front n test near h at b t here) (λ b t here. within_turns law all m test far i at b t here))
          (inr refl)
    ]

    one_cut : {A : Type 0} (test : Token K → Option A) (s : State G) → s.at < length front → taken (tested test (slice_get all s.at)) s ≡ taken
        (tested test (slice_get front s.at)) s
    one_cut test s h = ap (λ (o : Option (Token K)). taken (tested test o) s) (same_token s.at h)

    -- what holds inside the front holds at its end too
    anywhere : {A : Type 0} (s : State G) (one two : Result (A × State G) Refusal) → s.at ≤ length front → (s.at < length front → Cut one two)
        → Within law front s.at one → Within law all s.at two → Cut one two
    anywhere s one two le inside h i = elim (where_is s.at le) [
      | inl here ↦ inside here
      | inr there ↦ ended_cut s.at one two there h i
    ]

    pub cut : (near far : N → Reads G ℕ) → ((n : N) (s : State G) → s.at < length front → Cut (near n s) (far n s))
        → ((n : N) (s : State G) → s.at ≤ length front → Within law front s.at (near n s)) → ((n : N) (s : State G) → s.at ≤ length all
        → Within law all s.at (far n s)) → Gains law front near
        → {A : Type 0} (f : Form K N G A) → tidy f ≡ true → (s : State G) → s.at < length front → Cut (read_with front near f s)
        (read_with all far f s)
    cut near far both h i gain (Plain a) neat s le = inr refl
    cut near far both h i gain Place neat s le = inr (ap (λ (p : ℕ). ok_at law p s) (same_place s.at le))
    cut near far both h i gain (One test) neat s le = inr (one_cut test s le)
    cut near far both h i gain (Unless test) neat s le = inr (ap (λ b. cond b (Err (Wrong s.at)) (ok_at law tt s)) (ap (passes test) (same_token s.at le)))
    cut near far both h i gain (Both f x) neat s le =
        let two = and_parts (tidy f) (tidy x) neat in
        let here : s.at ≤ length front = omega (arith, le) in
        let there : s.at ≤ length all = omega (arith, le, longer) in
        cut_bind s.at (read_with front near f s) (read_with all far f s) (λ p. read_with front near x p.1 >>= λ q. Ok (p.0 q.0, q.1))
        (λ p. read_with all far x p.1 >>= λ q. Ok (p.0 q.0, q.1))
        (cut near far both h i gain f two.0 s le) (within law front near h f s here) (within law all far i f s there)
        (λ g t is at.
        let at_all : t.at ≤ length all = omega (arith, at, longer) in
        cut_bind t.at (read_with front near x t) (read_with all far x t) (λ q. Ok (g q.0, q.1)) (λ q. Ok (g q.0, q.1))
        (anywhere t (read_with front near x t) (read_with all far x t) at (λ inside. cut near far both h i gain x two.1 t inside)
        (within law front near h x t at) (within law all far i x t at_all))
        (within law front near h x t at) (within law all far i x t at_all) (λ a u is le. inr refl) (λ a u le. (omega arith, le)) (λ a u le.
        (omega arith, le)))
        (λ g t at. within_bind law front t.at (read_with front near x t) (λ q. Ok (g q.0, q.1)) (within law front near h x t at) (λ a u le.
        (omega arith, le)))
        (λ g t at. within_bind law all t.at (read_with all far x t) (λ q. Ok (g q.0, q.1)) (within law all far i x t at) (λ a u le. (omega arith, le)))
    cut near far both h i gain (Either test x y) neat s le =
        let two = and_parts (tidy x) (tidy y) neat in
        cut_either (passes test (slice_get front s.at)) (passes test (slice_get all s.at)) _ _ _ _ (ap (passes test) (same_token s.at le))
        (cut near far both h i gain x two.0 s le) (cut near far both h i gain y two.1 s le)
    cut near far both h i gain (Chain test x more) neat s le =
        let three = and_parts (tidy x && eats more) (tidy more) neat in
        let two = and_parts (tidy x) (eats more) three.0 in
        let here : s.at ≤ length front = omega (arith, le) in
        let there : s.at ≤ length all = omega (arith, le, longer) in
        cut_bind s.at (read_with front near x s) (read_with all far x s)
        (λ p. turns front (length front - p.1.at) test (read_with front near more) (place_at front s.at) p.0 p.1)
        (λ p. turns all (length all - p.1.at) test (read_with all far more) (place_at all s.at) p.0 p.1)
        (cut near far both h i gain x two.0 s le) (within law front near h x s here) (within law all far i x s there)
        (λ a t is at.
        subst (λ (p : ℕ). Cut (turns front (length front - t.at) test (read_with front near more) (place_at front s.at) a t)
        (turns all (length all - t.at) test (read_with all far more) p a t)) (sym (same_place s.at le))
        (turns_cut (length front - t.at) (length all - t.at) test (read_with front near more) (read_with all far more)
        (λ u inside. cut near far both h i gain more three.1 u inside)
        (λ u at. within law front near h more u at) (λ u at. within law all far i more u at)
        (λ u g v is. subst (λ (c : Bool). further c u.at ≤ v.at) two.1 (gains law front near gain more u g v is)) (place_at front s.at) a t at
        (omega arith)
        (omega arith)))
        (λ a t at. within_turns law front (length front - t.at) test (read_with front near more) (λ u at. within law front near h more u at)
        (place_at front s.at) a t at)
        (λ a t at. within_turns law all (length all - t.at) test (read_with all far more) (λ u at. within law all far i more u at)
        (place_at all s.at) a t at)
    cut near far both h i gain (Inner n) neat s le = both n s le
    cut near far both h i gain (Made f) neat s le =
        let here : s.at ≤ length front = omega (arith, le) in
        let there : s.at ≤ length all = omega (arith, le, longer) in
        cut_bind s.at (read_with front near f s) (read_with all far f s) (λ p. Ok (grown (p.0 p.1.tree) p.1)) (λ p. Ok (grown (p.0 p.1.tree) p.1))
        (cut near far both h i gain f neat s le)
        (within law front near h f s here) (within law all far i f s there) (λ g t is at. inr refl) (λ g t at. (omega arith, at)) (λ g t at.
        (omega arith, at))

    inner_cut : (room : ℕ) (n : N) (s : State G) → s.at < length front → Cut (read_inner law.grammar front room n s)
        (read_inner law.grammar all room n s)
    inner_cut zero n s le = inr (ap (λ b. cond b (Err (Deep s.at)) (Err (Wrong s.at))) (ap (passes (law.grammar.begins n)) (same_token s.at le)))
    inner_cut (suc room) n s le =
        cut_either (passes (law.grammar.begins n) (slice_get front s.at)) (passes (law.grammar.begins n) (slice_get all s.at)) _ _ _ _ (ap (passes
        (law.grammar.begins n)) (same_token s.at le))
        (cut (read_inner law.grammar front room) (read_inner law.grammar all room) (λ m u inside. inner_cut room m u inside)
        (within_inner law front room) (within_inner law all room)
        (inner_gains law front room) (law.grammar.form n) (law.form_tidy n) s le)
        (inr refl)

    pub all_cut : {A : Type 0} (room : ℕ) (f : Form K N G A) → tidy f ≡ true → (s : State G) → s.at ≤ length front
        → Cut (read_with front (read_inner law.grammar front room) f s) (read_with all (read_inner law.grammar all room) f s)
    all_cut room f neat s le =
        anywhere s _ _ le (λ inside. cut (read_inner law.grammar front room) (read_inner law.grammar all room) (inner_cut room) (within_inner law front room)
        (within_inner law all room) (inner_gains law front room) f neat s inside)
        (within law front (read_inner law.grammar front room) (within_inner law front room) f s le) (within law all (read_inner law.grammar all room)
        (within_inner law all room) f s
        (omega (arith, le, longer)))
