-- Lists of numbers: entries that stay when one is added or taken out.
use Rattle.std.proofs.Common.{◌≡◌, ℕ, ◌+◌, ◌-◌, ◌<◌, ◌≤◌, List, [], ◌∷◌, ◌++◌, length, get_or, refl, sym, ap, ◌∙◌, inl, inr, ◌⊎◌, subst, arith}
use Rattle.std.proofs.Common.{length-append, length-take}
use Rattle.std.specs.Prelude.{◌≢◌, set}
use Rattle.std.specs.List.{swap_remove}
use Rattle.std.proofs.Math.Dec.{eqb}
use Rattle.std.proofs.Math.ListN.{get_or-append}
use Rattle.std.proofs.lemmas.Bool.{cases_Bool, true≢false, eq-eqb, eqb-true}
use Rattle.std.proofs.lemmas.List.{length-set, get_or-set_same, get_or-set_other, get_or-take}
use Rattle.std.proofs.Math.Seq.{get_or-append_seam}
use Rattle.vg_units.specs.Lists.{IsListedFrom, Lengthens}

pub same_or_other : (a b : ℕ) → (a ≡ b) ⊎ (a ≢ b)
same_or_other a b =
    elim (cases_Bool (eqb a b)) [
      | inl same ↦ inl (eqb-true a b same)
      | inr other ↦ inr (λ e. true≢false (sym (eq-eqb a b e) ∙ other))
    ]

-- one entry more
pub listed_pushed : (list : List ℕ) (n from entry : ℕ) → IsListedFrom list from entry → IsListedFrom (list ++ n ∷ []) from entry
listed_pushed list n from entry h =
    let longer = length-append list (n ∷ []) in
    (h.0, h.1, omega (arith, h.2, longer), get_or-append list (n ∷ []) 0 h.0 h.2 ∙ h.3)

pub listed_last : (list : List ℕ) (n : ℕ) → IsListedFrom (list ++ n ∷ []) 0 n
listed_last list n =
    let longer = length-append list (n ∷ []) in
    (length list, omega arith, omega (arith, longer), get_or-append_seam list n [] 0)

pub lengthens_refl : (lists : List (List ℕ)) → Lengthens lists lists
lengthens_refl lists = record { places = refl; kept = λ q from entry h. h }

pub lengthens_set : (lists : List (List ℕ)) (p n : ℕ) → p < length lists → Lengthens lists (set lists p (get_or lists p [] ++ n ∷ []))
lengthens_set lists p n within =
    record {
      places = length-set lists p (get_or lists p [] ++ n ∷ []);
      kept =
          λ q from entry h.
          elim (same_or_other q p) [
            | inl same ↦
                subst (λ list. IsListedFrom list from entry)
                (sym (ap (λ i. get_or (set lists p (get_or lists p [] ++ n ∷ [])) i []) same ∙ get_or-set_same lists p (get_or lists p [] ++ n ∷ []) [] within))
                (listed_pushed (get_or lists p []) n from entry (subst (λ i. IsListedFrom (get_or lists i []) from entry) same h))
            | inr other ↦
                subst (λ list. IsListedFrom list from entry) (sym (get_or-set_other lists p q (get_or lists p [] ++ n ∷ []) [] other)) h
          ];
    }

-- one entry less, in whose place the last one stands
pub listed_removed : (list new : List ℕ) (at from entry : ℕ) → at < length list → from ≤ at → entry ≢ get_or list at 0 → length new + 1 ≡ length list →
    (at + 1 < length list → get_or new at 0 ≡ get_or list (length list - 1) 0) → ((k : ℕ) → k ≢ at → k + 1 < length list → get_or new k 0 ≡ get_or list k 0) →
    IsListedFrom list from entry → IsListedFrom new from entry
listed_removed list new at from entry within before other shorter moved same h =
    let k = h.0 in
    let elsewhere : k ≢ at = λ e. other (sym h.3 ∙ ap (λ i. get_or list i 0) e) in
    elim (same_or_other (k + 1) (length list)) [
      | inl last ↦
          let room : at + 1 < length list = omega (arith, elsewhere, last, within) in
          let is_last : length list - 1 ≡ k = omega (arith, last) in
          (at, before, omega (arith, room, shorter), moved room ∙ ap (λ i. get_or list i 0) is_last ∙ h.3)
      | inr inner ↦
          let room : k + 1 < length list = omega (arith, inner, h.2) in
          (k, h.1, omega (arith, room, shorter), same k elsewhere room ∙ h.3)
    ]

pub swap_length : (list : List ℕ) (at : ℕ) → at < length list → length (swap_remove list at 0) + 1 ≡ length list
swap_length list at within = simp (length-take, length-set) (omega arith)

swap_moved : (list : List ℕ) (at : ℕ) → at + 1 < length list → get_or (swap_remove list at 0) at 0 ≡ get_or list (length list - 1) 0
swap_moved list at room =
    let last = get_or list (length list - 1) 0 in
    get_or-take (length list - 1) (set list at last) at 0 (omega arith) ∙ get_or-set_same list at last 0 (omega arith)

swap_same : (list : List ℕ) (at k : ℕ) → k ≢ at → k + 1 < length list → get_or (swap_remove list at 0) k 0 ≡ get_or list k 0
swap_same list at k other room =
    let last = get_or list (length list - 1) 0 in
    get_or-take (length list - 1) (set list at last) k 0 (omega arith) ∙ get_or-set_other list at k last 0 other

pub listed_swapped : (list : List ℕ) (at from entry : ℕ) → at < length list → from ≤ at → entry ≢ get_or list at 0 → IsListedFrom list from entry →
    IsListedFrom (swap_remove list at 0) from entry
listed_swapped list at from entry within before other h =
    listed_removed list (swap_remove list at 0) at from entry within before other (swap_length list at within) (swap_moved list at) (swap_same list at) h
