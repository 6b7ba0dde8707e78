-- The order of faults, and the first of them.
use Rattle.std.proofs.Common.{◌≡◌, ℕ, ◌<◌, ◌≤◌, Bool, true, false, Option, Some, None, refl, sym, ap, ◌∙◌, arith, if◌then◌else◌, inl, inr}
use Rattle.std.specs.Prelude.{◌⊎◌}
use Rattle.vg_ctyper.specs.declared.fault.TypeFault.{TypeFault}
use Rattle.vg_ctyper.specs.Faults.{rank, is_less, is_before, sooner}

less_irrefl : (a b c : ℕ) → is_less (a, b, c) (a, b, c) ≡ false
less_irrefl a b c = grind arith

less_true : (a b c d e f : ℕ) → is_less (a, b, c) (d, e, f) ≡ true → (a < d) ⊎ ((a ≡ d) × ((b < e) ⊎ ((b ≡ e) × (c < f))))
less_true a b c d e f p = grind arith

less_false : (a b c d e f : ℕ) → is_less (a, b, c) (d, e, f) ≡ false → (d < a) ⊎ ((d ≡ a) × ((e < b) ⊎ ((e ≡ b) × (f ≤ c))))
less_false a b c d e f p = grind arith

by_first : (a b c d e f : ℕ) → d < a → is_less (a, b, c) (d, e, f) ≡ false
by_first a b c d e f h = grind arith

by_second : (a b c d e f : ℕ) → d ≡ a → e < b → is_less (a, b, c) (d, e, f) ≡ false
by_second a b c d e f h i = grind arith

by_third : (a b c d e f : ℕ) → d ≡ a → e ≡ b → f ≤ c → is_less (a, b, c) (d, e, f) ≡ false
by_third a b c d e f h i j = grind arith

-- what isn't before x isn't before what is before x
less_kept : (a b c d e f g h i : ℕ) → is_less (a, b, c) (d, e, f) ≡ false → is_less (g, h, i) (d, e, f) ≡ true → is_less (a, b, c) (g, h, i) ≡ false
less_kept a b c d e f g h i p q = elim (less_false a b c d e f p) [
  | inl u ↦ elim (less_true g h i d e f q) [
    | inl v ↦ by_first a b c g h i (omega arith)
    | inr v ↦ let w : g ≡ d = v.0 in by_first a b c g h i (omega arith)
  ]
  | inr u ↦ let x : d ≡ a = u.0 in elim (less_true g h i d e f q) [
    | inl v ↦ by_first a b c g h i (omega arith)
    | inr v ↦ let w : g ≡ d = v.0 in elim u.1 [
      | inl s ↦ elim v.1 [
        | inl t ↦ by_second a b c g h i (w ∙ x) (omega arith)
        | inr t ↦ let y : h ≡ e = t.0 in by_second a b c g h i (w ∙ x) (omega arith)
      ]
      | inr s ↦ let z : e ≡ b = s.0 in let r : f ≤ c = s.1 in elim v.1 [
        | inl t ↦ by_second a b c g h i (w ∙ x) (omega arith)
        | inr t ↦ let y : h ≡ e = t.0 in let o : i < f = t.1 in by_third a b c g h i (w ∙ x) (y ∙ z) (omega arith)
      ]
    ]
  ]
]

-- neither is before the other where they stand alike
less_neither : (a b c d e f : ℕ) → is_less (a, b, c) (d, e, f) ≡ false → is_less (d, e, f) (a, b, c) ≡ false → (a ≡ d) × (b ≡ e) × (c ≡ f)
less_neither a b c d e f p q = elim (less_false a b c d e f p) [
  | inl u ↦ elim (less_false d e f a b c q) [ inl v ↦ absurd (omega arith) | inr v ↦ let x : a ≡ d = v.0 in absurd (omega arith) ]
  | inr u ↦ let x : d ≡ a = u.0 in elim (less_false d e f a b c q) [
    | inl v ↦ absurd (omega arith)
    | inr v ↦ elim u.1 [
      | inl s ↦ elim v.1 [ inl t ↦ absurd (omega arith) | inr t ↦ let y : b ≡ e = t.0 in absurd (omega arith) ]
      | inr s ↦ let y : e ≡ b = s.0 in let r : f ≤ c = s.1 in elim v.1 [
        | inl t ↦ absurd (omega arith)
        | inr t ↦ let o : c ≤ f = t.1 in let z : c ≡ f = omega arith in (sym x, sym y, z)
      ]
    ]
  ]
]

pub same_rank : (x y : TypeFault) → is_before x y ≡ false → is_before y x ≡ false → rank x ≡ rank y
same_rank x y p q =
    let same = less_neither (rank x).0 (rank x).1 (rank x).2 (rank y).0 (rank y).1 (rank y).2 p q in
    ap (λ (a : ℕ). (a, (rank x).1, (rank x).2)) same.0 ∙ ap (λ (b : ℕ). ((rank y).0, b, (rank x).2)) same.1 ∙ ap (λ (c : ℕ). ((rank y).0, (rank y).1, c)) same.2

before_irrefl : (x : TypeFault) → is_before x x ≡ false
before_irrefl x = less_irrefl (rank x).0 (rank x).1 (rank x).2

before_kept : (x y z : TypeFault) → is_before x y ≡ false → is_before z y ≡ true → is_before x z ≡ false
before_kept x y z p q = less_kept (rank x).0 (rank x).1 (rank x).2 (rank y).0 (rank y).1 (rank y).2 (rank z).0 (rank z).1 (rank z).2 p q

pub sooner_none : (a b : Option TypeFault) → sooner a b ≡ None → (a ≡ None) × (b ≡ None)
sooner_none a b h = grind arith

pub sooner_either : (a b : Option TypeFault) (f : TypeFault) → sooner a b ≡ Some f → (a ≡ Some f) ⊎ (b ≡ Some f)
sooner_either a b f h = grind arith

some_is : (x y : TypeFault) → Some x ≡ Some y → x ≡ y
some_is x y e = grind arith

no_some : (x : TypeFault) → None ≡ Some x → ⊥
no_some x e = grind arith

some_if : (b : Bool) (x y f : TypeFault) → (if b then Some x else Some y) ≡ Some f → ((b ≡ true) × (x ≡ f)) ⊎ ((b ≡ false) × (y ≡ f))
some_if true x y f e = inl (refl, some_is x f e)
some_if false x y f e = inr (refl, some_is y f e)

-- what isn't before the one of two isn't before the sooner
pub sooner_kept : (a b : Option TypeFault) (f e g : TypeFault) → sooner a b ≡ Some f → a ≡ Some e → is_before g e ≡ false → is_before g f ≡ false
sooner_kept None b f e g h i p = absurd (no_some e i)
sooner_kept (Some a) None f e g h i p = ap (is_before g) (sym (some_is a f h) ∙ some_is a e i) ∙ p
sooner_kept (Some a) (Some b) f e g h i p = elim (some_if (is_before b a) b a f h) [
  | inl t ↦ ap (is_before g) (sym t.1) ∙ before_kept g a b (ap (is_before g) (some_is a e i) ∙ p) t.0
  | inr t ↦ ap (is_before g) (sym t.1 ∙ some_is a e i) ∙ p
]

pub sooner_second : (a b : Option TypeFault) (f g : TypeFault) → sooner a b ≡ Some f → b ≡ Some g → is_before g f ≡ false
sooner_second None None f g h i = absurd (no_some g i)
sooner_second None (Some b) f g h i = ap (is_before g) (sym (some_is b f h) ∙ some_is b g i) ∙ before_irrefl g
sooner_second (Some a) None f g h i = absurd (no_some g i)
sooner_second (Some a) (Some b) f g h i = elim (some_if (is_before b a) b a f h) [
  | inl t ↦ ap (is_before g) (sym t.1 ∙ some_is b g i) ∙ before_irrefl g
  | inr t ↦ ap (is_before g) (sym t.1) ∙ ap (λ z. is_before z a) (sym (some_is b g i)) ∙ t.0
]
