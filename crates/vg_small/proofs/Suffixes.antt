-- What the reader leaves of the words is the end of what it got.
use Rattle.std.proofs.lemmas.List.{drop-map, length-map}
use Rattle.std.proofs.Common.{◌<◌, map, nat_lt, append_assoc, append-nil, ◌≡◌, ℕ, zero, suc, ◌+◌, ◌-◌, ◌≤◌, List, [], ◌∷◌, ◌++◌, drop, length, true}
use Rattle.std.proofs.Common.{false, cond, Option, Some, None, refl, sym, ◌∙◌, ap, drop-drop, length-drop, arith}
use Rattle.std.specs.Str.{bytes_eq}
use Rattle.vg_small.specs.declared.small.Test.{Test}
use Rattle.vg_small.specs.declared.small.Lang.{Lang}
use Rattle.vg_small.proofs.Options.{some_is, chosen}
use Rattle.vg_small.specs.Reader.{◌>>=◌, after, number_of, number_after, value_after, test_of, last_of, begins_if, body_of, if_words, then_words, end_words}

-- tests before those of a body
abbrev pub with_front : List Test → Option (List Test × ℕ) → Option (List Test × ℕ)
with_front front read = read >>= λ b. Some (front ++ b.0, b.1)

-- the second list is the first without some of its first members
pub record Ends {A : Type 0} (ws rest : List A) : Type 0 where
  pub count : ℕ
  pub within : count ≤ length ws
  pub is : rest ≡ drop count ws

pub Ends-refl : {A : Type 0} (ws : List A) → Ends ws ws
Ends-refl ws = record { count = 0; within = omega arith; is = refl }

pub Ends-trans : {A : Type 0} {a b c : List A} → Ends a b → Ends b c → Ends a c
Ends-trans {a = a} x y = record {
  count = x.count + y.count;
  within = omega (arith, x.within, y.within, ap length x.is, length-drop x.count a);
  is = y.is ∙ ap (drop y.count) x.is ∙ drop-drop y.count x.count a;
}

pub Ends-cons : {A : Type 0} {x : A} {xs rest : List A} → Ends xs rest → Ends (x ∷ xs) rest
Ends-cons e = record { count = suc e.count; within = omega (arith, e.within); is = e.is }

-- where the rest begins
pub Ends-drop : {A : Type 0} {ws rest : List A} → Ends ws rest → drop (length ws - length rest) ws ≡ rest
Ends-drop {ws = ws} e =
    let n : length ws - length (drop e.count ws) ≡ e.count = omega (arith, e.within, length-drop e.count ws) in
    rw (e.is, n) refl

-- where a step that may fail gave something, so did the one before it
pub bind_ends : {A B : Type 0} (ws : List (List ℕ)) (r : Option A) (f : A → Option B) (y : B) (out : B → List (List ℕ)) → (r >>= f) ≡ Some y
    → ((x : A) → r ≡ Some x → f x ≡ Some y → Ends ws (out y)) → Ends ws (out y)
bind_ends ws None f y out e k = absurd (cc)
bind_ends ws (Some x) f y out e k = k x refl e

Ends-is : {ws rest : List (List ℕ)} → ws ≡ rest → Ends ws rest
Ends-is {ws} e = rw (← e) (Ends-refl ws)

pub after_ends : (es : List (List ℕ)) (ws : List (List ℕ)) {rest : List (List ℕ)} → after es ws ≡ Some rest → Ends ws rest
after_ends [] ws e = Ends-is (some_is e)
after_ends (x ∷ es) [] e = absurd (cc)
after_ends (x ∷ es) (w ∷ ws) e = Ends-cons (after_ends es ws (chosen (bytes_eq w x) e).1)

pub number_ends : (ws : List (List ℕ)) {x : ℕ × List (List ℕ)} → number_after ws ≡ Some x → Ends ws x.1
number_ends [] e = absurd (cc)
number_ends (w ∷ ws) {x} e =
    bind_ends (w ∷ ws) (number_of w) (λ n. Some (n, ws)) x (λ y. y.1) e
    (λ n is got. let same : ws ≡ x.1 = ap (λ (p : ℕ × List (List ℕ)). p.1) (some_is got) in Ends-cons (Ends-is same))

pub value_ends : (bound : ℕ) (ws : List (List ℕ)) {x : ℕ × List (List ℕ)} → value_after bound ws ≡ Some x → Ends ws x.1
value_ends bound ws {x} e =
    bind_ends ws (number_after ws) (λ n. cond (nat_lt n.0 bound) (Some n) None) x (λ y. y.1) e
    (λ n is got. let same : n ≡ x = some_is (chosen (nat_lt n.0 bound) got).1 in rw (← same) (number_ends ws is))

pub test_ends : (lang : Lang) (bound : ℕ) (ws : List (List ℕ)) (x : Test × List (List ℕ)) → test_of lang bound ws ≡ Some x → Ends ws x.1
unfolding test_of
test_ends lang bound ws x e =
    bind_ends ws (after (if_words lang) ws) _ x (λ y. y.1) e λ a is_a e_a.
    bind_ends ws (number_after a) _ x (λ y. y.1) e_a λ b is_b e_b.
    bind_ends ws (after (then_words lang) b.1) _ x (λ y. y.1) e_b λ c is_c e_c.
    bind_ends ws (value_after bound c) _ x (λ y. y.1) e_c λ d is_d e_d.
    bind_ends ws (after (end_words lang) d.1) _ x (λ y. y.1) e_d λ f is_f e_f.
    let same : f ≡ x.1 = ap (λ (p : Test × List (List ℕ)). p.1) (some_is e_f) in
    Ends-trans (after_ends (if_words lang) ws is_a)
    (Ends-trans (number_ends a is_b)
    (Ends-trans (after_ends (then_words lang) b.1 is_c)
    (Ends-trans (value_ends bound c is_d) (Ends-trans (after_ends (end_words lang) d.1 is_f) (Ends-is same)))))

pub drop-some : {A : Type 0} (xs : List A) (i : ℕ) → i < length xs → (x : A) × (drop i xs ≡ x ∷ drop (suc i) xs)
drop-some [] i h = absurd (omega arith)
drop-some (x ∷ xs) zero h = (x, refl)
drop-some (x ∷ xs) (suc i) h = drop-some xs i (omega arith)

-- a body by its first words
regroup : (front : List Test) (t : Test) (read : Option (List Test × ℕ)) → with_front front (read >>= λ b. Some (t ∷ b.0, b.1)) ≡ with_front
    (front ++ t ∷ []) read
regroup front t None = refl
regroup front t (Some b) = ap (λ (ts : List Test). Some (ts, b.1)) (simp append_assoc)

module _ (lang : Lang) (bound : ℕ) (front : List Test) (count i : ℕ) (ws : List (List ℕ)) (total : Option (List Test × ℕ)) (lt : i < count)
    (so_far : with_front front (body_of lang bound (count - i) ws) ≡ total) where
  pub goes_on : (t : Test) (rest : List (List ℕ)) → begins_if ws ≡ true → test_of lang bound ws ≡ Some (t, rest)
      → with_front (front ++ t ∷ []) (body_of lang bound (count - (i + 1)) rest) ≡ total
  unfolding body_of
  goes_on t rest test is =
      let k : count - i ≡ suc (count - (i + 1)) = omega arith in
      let one : with_front front (body_of lang bound (count - i) ws) ≡ with_front (front ++ t ∷ []) (body_of lang bound (count - (i + 1)) rest) =
      rw (k, test, is) (regroup front t (body_of lang bound (count - (i + 1)) rest)) in
      sym one ∙ so_far

  pub no_test : begins_if ws ≡ true → test_of lang bound ws ≡ None → total ≡ None
  unfolding body_of
  no_test test is =
      let k : count - i ≡ suc (count - (i + 1)) = omega arith in
      let one : with_front front (body_of lang bound (count - i) ws) ≡ None = rw (k, test, is) refl in
      sym so_far ∙ one

  pub no_last : begins_if ws ≡ false → last_of lang bound ws ≡ None → total ≡ None
  unfolding body_of
  no_last test is =
      let k : count - i ≡ suc (count - (i + 1)) = omega arith in
      let one : with_front front (body_of lang bound (count - i) ws) ≡ None = rw (k, test, is) refl in
      sym so_far ∙ one

  pub with_last : (last : ℕ) → begins_if ws ≡ false → last_of lang bound ws ≡ Some last → total ≡ Some (front, last)
  unfolding body_of
  with_last last test is =
      let k : count - i ≡ suc (count - (i + 1)) = omega arith in
      let one : with_front front (body_of lang bound (count - i) ws) ≡ Some (front, last) =
      rw (k, test, is) (ap (λ (ts : List Test). Some (ts, last)) (append-nil front)) in
      sym so_far ∙ one

pub no_more : (lang : Lang) (bound : ℕ) (front : List Test) (count i : ℕ) (ws : List (List ℕ)) (total : Option (List Test × ℕ)) → count ≤ i
    → with_front front (body_of lang bound (count - i) ws) ≡ total → total ≡ None
unfolding body_of
no_more lang bound front count i ws total le so_far =
    let k : count - i ≡ 0 = omega arith in
    let one : with_front front (body_of lang bound (count - i) ws) ≡ None = rw k refl in
    sym so_far ∙ one

-- where a rest begins in the whole list
pub at_end : {A B : Type 0} (f : A → B) (words rest : List A) (at : ℕ) → at ≤ length words → Ends (map f (drop at words)) (map f rest)
    → (map f (drop (length words - length rest) words) ≡ map f rest) × (length rest ≤ length words)
at_end f words rest at within e =
    let n = e.count in
    let is : map f rest ≡ drop (at + n) (map f words) = e.is ∙ ap (λ (l : List _). drop n l) (sym (drop-map f at words)) ∙ drop-drop n at (map f words) in
    let short : n ≤ length words - at = omega (arith, e.within, length-map (drop at words) f, length-drop at words) in
    let len : length rest ≡ length words - (at + n) = omega (arith, ap length is, length-map rest f, length-map words f, length-drop (at + n) (map f words)) in
    let place : length words - length rest ≡ at + n = omega arith in
    (sym (drop-map f (length words - length rest) words) ∙ ap (λ (k : ℕ). drop k (map f words)) place ∙ sym is, omega arith)
