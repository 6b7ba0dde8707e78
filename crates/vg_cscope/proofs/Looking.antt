-- One step of looking a name up.
use Rattle.std.proofs.Common.{◌≡◌, ℕ, suc, ◌+◌, ◌<◌, List, [], ◌∷◌, drop, length, true, false, Option, Some, None, if◌then◌else◌, refl, sym, ap, ◌∙◌, add-one}
use Rattle.std.proofs.Math.Seq.{drop-cons}
use Rattle.vg_core.specs.declared.tree.Node.{Node}
use Rattle.vg_core.specs.declared.tree.Kind.TheVariants as nodes
use Rattle.vg_cscope.specs.declared.names.Wanted.{Wanted}
use Rattle.vg_cscope.specs.Scopes.{kind_at, seen_at}
use Rattle.vg_cscope.specs.Names.{Scoped, is_wanted, looked_up}

blank : Node
blank = record { kind = nodes.Empty; at = 0 }

pub looked_none : (s : Scoped) (what : Wanted) (xs : List Node) → looked_up s what xs None ≡ None
looked_none s what [] = refl
looked_none s what (x ∷ xs) = refl

-- nothing is seen any more
pub looked_end : (s : Scoped) (what : Wanted) (xs : List Node) (seen r : Option ℕ) → seen ≡ None → looked_up s what xs seen ≡ r → None ≡ r
looked_end s what xs seen r e i = sym (looked_none s what xs) ∙ ap (looked_up s what xs) (sym e) ∙ i

looked_some :
    (s : Scoped) (what : Wanted) (xs : List Node) (at d : ℕ) → at < length xs →
    looked_up s what (drop at xs) (Some d) ≡ (if is_wanted s.text what (kind_at s.tree d) then Some d else looked_up s what (drop (suc at) xs)
    (seen_at s.standings d))
looked_some s what xs at d h = ap (λ l. looked_up s what l (Some d)) (drop-cons xs at blank h)

-- it is what is looked for
pub looked_here :
    (s : Scoped) (what : Wanted) (xs : List Node) (at d : ℕ) (seen r : Option ℕ) → at < length xs → seen ≡ Some d →
    is_wanted s.text what (kind_at s.tree d) ≡ true → looked_up s what (drop at xs) seen ≡ r → Some d ≡ r
looked_here s what xs at d seen r h e w i =
    ap (λ b. if b then Some d else looked_up s what (drop (suc at) xs) (seen_at s.standings d)) (sym w)
    ∙ sym (looked_some s what xs at d h) ∙ ap (looked_up s what (drop at xs)) (sym e) ∙ i

-- it isn't, and the one before it comes
pub looked_further :
    (s : Scoped) (what : Wanted) (xs : List Node) (at d : ℕ) (seen r : Option ℕ) → at < length xs → seen ≡ Some d →
    is_wanted s.text what (kind_at s.tree d) ≡ false → looked_up s what (drop at xs) seen ≡ r → looked_up s what (drop (at + 1) xs) (seen_at s.standings d) ≡ r
looked_further s what xs at d seen r h e w i =
    ap (λ m. looked_up s what (drop m xs) (seen_at s.standings d)) (add-one at)
    ∙ ap (λ b. if b then Some d else looked_up s what (drop (suc at) xs) (seen_at s.standings d)) (sym w)
    ∙ sym (looked_some s what xs at d h) ∙ ap (looked_up s what (drop at xs)) (sym e) ∙ i
