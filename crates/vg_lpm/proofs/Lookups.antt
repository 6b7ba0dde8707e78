-- What a look-up reads, and what it comes to.
use Rattle.std.proofs.Common.{◌≡◌, ℕ, ◌+◌, ◌-◌, ◌*◌, ◌/◌, ◌%◌, ◌^◌, ◌<◌, List, get_or, Option, Some, None, refl, sym, ◌∙◌, ap, subst, arith}
use Rattle.vg_stree.specs.declared.config.Route.{Route}
use Rattle.vg_stree.specs.Routes.{IsLongestMatch}
use Rattle.vg_lpm.specs.Table.{leaf, follow, walk, IsTableOf}
use Rattle.vg_lpm.proofs.Links.{follow-leaf, follow-link}

leaf-same : (x y : Option ℕ) → leaf x ≡ leaf y → x ≡ y
leaf-same None None e = refl
leaf-same None (Some y) e = absurd (omega arith)
leaf-same (Some x) None e = absurd (omega arith)
leaf-same (Some x) (Some y) e = let same : x ≡ y = omega arith in ap Some same

-- where a look-up ends with a leaf, that is the answer
comes_to : {routes : List Route} {first second third : List ℕ} (a : ℕ) (value : Option ℕ) → IsTableOf routes first second third → a < 2 ^ 32
    → walk first second third a ≡ leaf value → IsLongestMatch routes a value
comes_to {routes} a value table fits e =
    let known = table.answers a fits in
    subst (IsLongestMatch routes a) (leaf-same known.0 value (sym known.1 ∙ e)) known.2

pub ends_first : {routes : List Route} {first second third : List ℕ} (a w : ℕ) (value : Option ℕ) → IsTableOf routes first second third → a < 2 ^ 32
    → w ≡ get_or first (a / 65536) 0
    → (w ≡ leaf value) × (w < 65537) → IsLongestMatch routes a value
ends_first {routes} {first} {second} {third} a w value table fits read says =
    let word = sym read in
    comes_to a value table fits
    (ap (λ v. follow third (follow second v (a / 256)) a) word ∙ ap (λ v. follow third v a) (follow-leaf second w (a / 256) says.1)
    ∙ follow-leaf third w a says.1 ∙ says.0)

pub ends_second : {routes : List Route} {first second third : List ℕ} (a w block place v : ℕ) (value : Option ℕ) → IsTableOf routes first second third
    → a < 2 ^ 32 → w ≡ get_or first (a / 65536) 0
    → w ≡ 65537 + block → place ≡ block * 256 + a / 256 % 256 → v ≡ get_or second place 0 → (v ≡ leaf value) × (v < 65537) → IsLongestMatch routes a value
ends_second {routes} {first} {second} {third} a w block place v value table fits read link place_is read_second says =
    let at : (w - 65537) * 256 + a / 256 % 256 ≡ place = omega arith in
    let word : follow second (get_or first (a / 65536) 0) (a / 256) ≡ v =
    ap (λ n. follow second n (a / 256)) (sym read) ∙ follow-link second w (a / 256) (omega arith) ∙ ap (λ n. get_or second n 0) at ∙ sym read_second in
    comes_to a value table fits (ap (λ n. follow third n a) word ∙ follow-leaf third v a says.1 ∙ says.0)

pub ends_third : {routes : List Route} {first second third : List ℕ} (a w block place v low_block low_place u : ℕ) (value : Option ℕ)
    → IsTableOf routes first second third → a < 2 ^ 32
    → w ≡ get_or first (a / 65536) 0 → w ≡ 65537 + block → place ≡ block * 256 + a / 256 % 256
    → v ≡ get_or second place 0 → v ≡ 65537 + low_block → low_place ≡ low_block * 256 + a % 256 → u ≡ get_or third low_place 0 → (u ≡ leaf value)
    × (u < 65537) → IsLongestMatch routes a value
ends_third {routes} {first} {second} {third} a w block place v low_block low_place u value table fits read link place_is read_second low_link
    low_place_is read_third says =
    let at : (w - 65537) * 256 + a / 256 % 256 ≡ place = omega arith in
    let low_at : (v - 65537) * 256 + a % 256 ≡ low_place = omega arith in
    let word : follow second (get_or first (a / 65536) 0) (a / 256) ≡ v =
    ap (λ n. follow second n (a / 256)) (sym read) ∙ follow-link second w (a / 256) (omega arith) ∙ ap (λ n. get_or second n 0) at ∙ sym read_second in
    comes_to a value table fits (ap (λ n. follow third n a) word ∙ follow-link third v a (omega arith) ∙ ap (λ n. get_or third n 0) low_at
    ∙ sym read_third ∙ says.0)
