-- One answer more.
use Rattle.std.proofs.Common.{◌≡◌, ℕ, ◌∷◌, [], ◌++◌, ◌+◌, List, length, slice_get, Option, Some, None, sym, ap, ◌∙◌, inl, inr, arith}
use Rattle.std.specs.Prelude.{IfSome}
use Rattle.std.proofs.lemmas.List.{length-append}
use Rattle.vg_cscope.specs.declared.answers.Answer.{Answer}
use Rattle.vg_cscope.specs.Names.{Scoped, found}
use Rattle.vg_cscope.specs.Tables.{AreAnswers}
use Rattle.vg_cscope.proofs.Stacking.{at_seam}

of_some : (s : Scoped) (n : ℕ) (o : Option Answer) (a : Answer) → IfSome o (λ b. found s b.wanted n ≡ b.declaration) → o ≡ Some a
    → found s a.wanted n ≡ a.declaration
of_some s n None a h e = absurd (cc)
of_some s n (Some b) a h e = grind arith

pub one_more : (s : Scoped) (xs : List (Option Answer)) (o : Option Answer) (n : ℕ) → AreAnswers s xs → length xs ≡ n
    → IfSome o (λ a. found s a.wanted n ≡ a.declaration) → AreAnswers s (xs ++ o ∷ [])
one_more s xs o n are long is = λ m a e. elim (at_seam xs o (Some a) m e) [
  | inl l ↦ are m a l.1
  | inr r ↦ ap (found s a.wanted) (r.0 ∙ long) ∙ of_some s n o a is r.1
]

pub one_longer : (xs ys : List (Option Answer)) (o : Option Answer) (n : ℕ) → ys ≡ xs ++ o ∷ [] → length xs ≡ n → length ys ≡ n + 1
one_longer xs ys o n e long = ap length e ∙ length-append xs (o ∷ []) ∙ ap (λ m. m + 1) long
