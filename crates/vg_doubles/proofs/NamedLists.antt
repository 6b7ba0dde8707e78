-- The first file of a name.
use Rattle.std.proofs.Common.{◌≡◌, ◌≢◌, ℕ, zero, suc, ◌<◌, List, [], ◌∷◌, length, get_or, drop, true, false, Some, sym, ◌∙◌, ap, inl, inr, arith}
use Rattle.std.specs.Prelude.{string_bytes}
use Rattle.std.proofs.lemmas.Bool.{cases_Bool}
use Rattle.std.proofs.lemmas.Slice.Eq.{bytes_eq-Decides}
use Rattle.std.specs.Str.{bytes_eq}
use Rattle.vg_doubles.specs.Named.{Named, lookup, name_at, bytes_at, IsFirst}

pub equal : {a b : List ℕ} → a ≡ b → bytes_eq a b ≡ true
equal {a} {b} e = (bytes_eq-Decides a b).1 e

pub unequal : {a b : List ℕ} → a ≢ b → bytes_eq a b ≡ false
unequal {a} {b} ne = elim (cases_Bool (bytes_eq a b)) [ inl same ↦ absurd (ne ((bytes_eq-Decides a b).0 same)) | inr apart ↦ apart ]

-- the name of a file that an index gave
pub name_at-get : (files : List Named) (i : ℕ) (x : Named) → i < length files → x ≡ get_or files i x → name_at files i ≡ string_bytes x.0
name_at-get [] i x h e = absurd (omega arith)
name_at-get (y ∷ files) zero x h e = ap (λ (z : Named). string_bytes z.0) (sym e)
name_at-get (y ∷ files) (suc i) x h e = name_at-get files i x (omega arith) e

pub bytes_at-get : (files : List Named) (i : ℕ) (x : Named) → i < length files → x ≡ get_or files i x → bytes_at files i ≡ x.1.items
bytes_at-get [] i x h e = absurd (omega arith)
bytes_at-get (y ∷ files) zero x h e = ap (λ (z : Named). z.1.items) (sym e)
bytes_at-get (y ∷ files) (suc i) x h e = bytes_at-get files i x (omega arith) e

-- where all before have other names, a file is found
pub found : (files : List Named) (i : ℕ) (x : Named) (name : List ℕ) → i < length files → x ≡ get_or files i x → string_bytes x.0 ≡ name →
    lookup (drop i files) name ≡ lookup files name → IsFirst files i
found files i x name h e same passed = record {
  within = h;
  found = rw (name_at-get files i x h e, same, ← passed, bytes_at-get files i x h e) (here files i h e);
}
  where
    here : (files : List Named) (i : ℕ) → i < length files → x ≡ get_or files i x → lookup (drop i files) name ≡ Some x.1.items
    here [] i h e = absurd (omega arith)
    here (y ∷ files) zero h e = let named : string_bytes y.0 ≡ name = ap (λ (z : Named). string_bytes z.0) (sym e) ∙ same in
        rw (equal named) (ap (λ (z : Named). Some z.1.items) (sym e))
    here (y ∷ files) (suc i) h e = here files i (omega arith) e
