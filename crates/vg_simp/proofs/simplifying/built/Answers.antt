use Rattle.std.proofs.Common.{subst, sym}
use Rattle.std.specs.Prelude.{All, IfOk}
use Rattle.vg_term.specs.Terms.{IsConstant, listed}
use Rattle.vg_term.specs.Folding.{IsFolded}
use Rattle.vg_term.specs.declared.node.Parts.{Parts}
use Rattle.vg_simp.proofs.simplifying.built.Goals as goal

pub returns-in-One-clause-folded : goal.returns-in-One-clause-folded
returns-in-One-clause-folded c =
    subst (λ (p : Parts). All (IsConstant c.args.terms.now) (listed p) → IfOk c.build-in-One.result
    (λ id. IsFolded c.args.terms.now c.build-in-One.new.self c.args.op (listed p) id)) (sym c.in-One.is) c.build-in-One.ensures.folded

pub returns-in-Two-clause-folded : goal.returns-in-Two-clause-folded
returns-in-Two-clause-folded c =
    subst (λ (p : Parts). All (IsConstant c.args.terms.now) (listed p) → IfOk c.build-in-Two.result
    (λ id. IsFolded c.args.terms.now c.build-in-Two.new.self c.args.op (listed p) id)) (sym c.in-Two.is) c.build-in-Two.ensures.folded

pub returns-in-Three-clause-folded : goal.returns-in-Three-clause-folded
returns-in-Three-clause-folded c =
    subst (λ (p : Parts). All (IsConstant c.args.terms.now) (listed p) → IfOk c.build-in-Three.result
    (λ id. IsFolded c.args.terms.now c.build-in-Three.new.self c.args.op (listed p) id)) (sym c.in-Three.is) c.build-in-Three.ensures.folded
