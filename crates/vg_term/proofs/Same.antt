-- The derived equality of nodes is equality.
use Rattle.std.proofs.Common.{◌≡◌, ◌&&◌, ℕ, Bool, true, false, refl, ap}
use Rattle.std.proofs.lemmas.Bool.{false≢true, eqb-true}
use Rattle.std.proofs.Math.Dec.{eqb}
use Rattle.vg_bits.proofs.Laws.{same_word}
use Rattle.vg_term.specs.contracts.node.NodeEq.TheImpl.Laws.{laws-law}
use Rattle.vg_term.specs.declared.node.TermId.{TermId}
use Rattle.vg_term.specs.declared.node.Op.{Op}
use Rattle.vg_term.specs.declared.node.Op.TheVariants.{Const, Not, Extract, Zext, Sext, Add, Sub, Mul, Udiv, Urem, And, Or, Xor, Shl, Lshr, Ashr, Eq}
use Rattle.vg_term.specs.declared.node.Op.TheVariants.{Ult, Slt, Concat, Ite}
use Rattle.vg_term.specs.declared.node.Parts.{Parts}
use Rattle.vg_term.specs.declared.node.Parts.TheVariants.{Zero, One, Two, Three}
use Rattle.vg_term.specs.declared.node.Node.{Node}
use Rattle.vg_term.specs.declared.node.Node.TheVariants as nodes
use Rattle.vg_term.specs.contracts.node.OpPartialEq.TheImpl as op
use Rattle.vg_term.specs.contracts.node.PartsPartialEq.TheImpl as parts
use Rattle.vg_term.specs.contracts.node.NodePartialEq.TheImpl as node

both_left : (x y : Bool) → x && y ≡ true → x ≡ true
both_left true y e = refl
both_left false y e = absurd (false≢true e)

both_right : (x y : Bool) → x && y ≡ true → y ≡ true
both_right true y e = e
both_right false y e = absurd (false≢true e)

abbrev pub same_node : Node → Node → Bool
same_node = node.eq-value.it

id_same : (a b : TermId) → eqb a.0 b.0 ≡ true → a ≡ b
id_same a b e = ap (λ (n : ℕ). record { 0 = n }) (eqb-true a.0 b.0 e)

op_same : (a b : Op) → op.eq-value.it a b ≡ true → a ≡ b
op_same (Const v) (Const w) e = ap Const (same_word v w (eqb-true v.width w.width (both_left _ _ e)) (eqb-true v.value w.value (both_right _ _ e)))
op_same (Extract f v) (Extract g w) e = (λ j. Extract (eqb-true f g (both_left _ _ e) j) (eqb-true v w (both_right _ _ e) j))
op_same (Zext v) (Zext w) e = ap Zext (eqb-true v w e)
op_same (Sext v) (Sext w) e = ap Sext (eqb-true v w e)
op_same Not Not e = refl
op_same Add Add e = refl
op_same Sub Sub e = refl
op_same Mul Mul e = refl
op_same Udiv Udiv e = refl
op_same Urem Urem e = refl
op_same And And e = refl
op_same Or Or e = refl
op_same Xor Xor e = refl
op_same Shl Shl e = refl
op_same Lshr Lshr e = refl
op_same Ashr Ashr e = refl
op_same Eq Eq e = refl
op_same Ult Ult e = refl
op_same Slt Slt e = refl
op_same Concat Concat e = refl
op_same Ite Ite e = refl
op_same _ _ e = absurd (false≢true e)

parts_same : (a b : Parts) → parts.eq-value.it a b ≡ true → a ≡ b
parts_same Zero Zero e = refl
parts_same (One a) (One b) e = ap One (id_same a b e)
parts_same (Two a b) (Two c d) e = (λ j. Two (id_same a c (both_left _ _ e) j) (id_same b d (both_right _ _ e) j))
parts_same (Three a b c) (Three x y z) e =
    (λ j. Three (id_same a x (both_left _ _ e) j) (id_same b y (both_left _ _ (both_right _ _ e)) j) (id_same c z (both_right _ _ (both_right _ _ e)) j))
parts_same _ _ e = absurd (false≢true e)

pub node-same : (a b : Node) → same_node a b ≡ true → a ≡ b
node-same (nodes.Var m v) (nodes.Var n w) e = (λ j. nodes.Var (eqb-true m n (both_left _ _ e) j) (eqb-true v w (both_right _ _ e) j))
node-same (nodes.Op o p) (nodes.Op q r) e = (λ j. nodes.Op (op_same o q (both_left _ _ e) j) (parts_same p r (both_right _ _ e) j))
node-same _ _ e = absurd (false≢true e)

pub node-itself : (a : Node) → same_node a a ≡ true
node-itself a = laws-law.refl a
