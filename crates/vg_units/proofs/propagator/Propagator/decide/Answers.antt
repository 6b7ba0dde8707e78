use Rattle.std.proofs.Common.{◌≡◌, ◌++◌, ◌∷◌, [], length, subst, sym, ap, ◌∙◌, false}
use Rattle.std.specs.Prelude.{neg_ℤ}
use Rattle.vg_cnf.specs.Clauses.{holds}
use Rattle.vg_units.specs.Levels.{IsKept}
use Rattle.vg_units.proofs.Keeping.{kept_started, kept_decided}
use Rattle.vg_units.proofs.propagator.Propagator.decide.Goals as goal

pub invariant_of-self-in_err-push-2 : goal.invariant_of-self-in_err-push-2
invariant_of-self-in_err-push-2 c =
    let s = c.self.inside in
    let propagated : s.head ≡ length s.trail.literals = subst (λ v. v.head ≡ length v.trail) (sym c.self.view_is) c.requires.propagated in
    subst (λ t. IsKept s.watches t c.push.new.self.items s.head) (sym c.in_err-push-2.ensures.err)
    (subst (λ xs. IsKept s.watches s.trail xs s.head) (sym (c.in_ok-push.ensures.items ∙ ap (λ n. s.starts.items ++ n ∷ []) c.len.ensures.count))
    (kept_started s.watches s.trail s.starts.items s.head propagated c.self.invariant))

pub invariant_of-self-2 : goal.invariant_of-self-2
invariant_of-self-2 c =
    let s = c.self.inside in
    let l = c.args.literal in
    let propagated : s.head ≡ length s.trail.literals = subst (λ v. v.head ≡ length v.trail) (sym c.self.view_is) c.requires.propagated in
    let not_false : holds s.trail.literals (neg_ℤ l) ≡ false = subst (λ v. holds v.trail (neg_ℤ l) ≡ false) (sym c.self.view_is) c.requires.not_false in
    subst (λ t. IsKept s.watches t c.push.new.self.items s.head) (sym c.in_ok-push-2.ensures.ok)
    (subst (λ xs. IsKept s.watches (record s.trail { literals = s.trail.literals ++ l ∷ [] }) xs s.head)
    (sym (c.in_ok-push.ensures.items ∙ ap (λ n. s.starts.items ++ n ∷ []) c.len.ensures.count))
    (kept_decided s.watches s.trail s.starts.items s.head l propagated c.requires.over.0 not_false c.self.invariant))
