-- What stands in parentheses, one pair further in.
use Rattle.std.proofs.Common.{◌≡◌, ℕ, suc, ◌+◌, ◌<◌, List, drop, length, Option, Some, None, sym, ap, ◌∙◌, add-one}
use Rattle.std.proofs.Math.Seq.{drop-cons}
use Rattle.vg_core.specs.Syntax.{Syntax}
use Rattle.vg_core.specs.declared.tree.Node.{Node}
use Rattle.vg_core.specs.declared.tree.Kind.TheVariants as nodes
use Rattle.vg_cscope.specs.Scopes.{kind_at}
use Rattle.vg_ctyper.specs.Demands.{inner, unwrapped}

abbrev blank : Node
blank = record { kind = nodes.Empty; at = 0 }

abbrev choose : Syntax → List Node → ℕ → Option ℕ → ℕ
choose tree more n part = elim part as (λ _. ℕ) [ None ↦ n | Some within ↦ unwrapped tree more within ]

step : (tree : Syntax) (xs : List Node) (at n : ℕ) → at < length xs → unwrapped tree (drop at xs) n ≡ choose tree (drop (suc at) xs) n (inner (kind_at tree n))
step tree xs at n h = ap (λ l. unwrapped tree l n) (drop-cons xs at blank h)

-- it isn't in parentheses
pub unwrapped_here :
    (tree : Syntax) (xs : List Node) (at n r : ℕ) → at < length xs → inner (kind_at tree n) ≡ None → unwrapped tree (drop at xs) n ≡ r → n ≡ r
unwrapped_here tree xs at n r h e i = ap (choose tree (drop (suc at) xs) n) (sym e) ∙ sym (step tree xs at n h) ∙ i

-- it is
pub unwrapped_further :
    (tree : Syntax) (xs : List Node) (at n part r : ℕ) → at < length xs → inner (kind_at tree n) ≡ Some part →
    unwrapped tree (drop at xs) n ≡ r → unwrapped tree (drop (at + 1) xs) part ≡ r
unwrapped_further tree xs at n part r h e i =
    ap (λ m. unwrapped tree (drop m xs) part) (add-one at) ∙ ap (choose tree (drop (suc at) xs) n) (sym e) ∙ sym (step tree xs at n h) ∙ i
