-- What becomes of a walk.
use Rattle.std.proofs.Common.{◌≡◌, ℕ, ◌+◌, ◌-◌, ◌*◌, ◌/◌, ◌%◌, ◌^◌, ◌<◌, ◌≤◌, List, length, get_or, sym, ◌∙◌, ap, inl, inr, arith}
use Rattle.std.proofs.lemmas.Bool.{cases_lt, cases_eq, eq-eqb, ne_eqb, cond-true, cond-false}
use Rattle.std.proofs.lemmas.Nat.{shr-shr}
use Rattle.vg_stree.specs.declared.config.Route.{Route}
use Rattle.vg_lpm.specs.Table.{follow, walk, AreLinks}
use Rattle.vg_stree.specs.Routes.{Matches}
use Rattle.vg_lpm.specs.Building.{taken, Fills, Opens}
use Rattle.vg_lpm.proofs.Runs.{same_block, in_block, one_block, from_block}
use Rattle.vg_lpm.proofs.Links.{follow-leaf, follow-link}

pub taken-by : (route : Route) (a : ℕ) {old new : ℕ} → (Matches route a → new ≡ route.value + 1) → (¬ Matches route a → new ≡ old) → new ≡ taken route a old
taken-by route a {old} {new} matched other = elim (cases_eq (a / 2 ^ (32 - route.len)) (route.address / 2 ^ (32 - route.len))) [
  | inl same ↦ matched same ∙ sym (cond-true _ (route.value + 1) old (eq-eqb _ _ same))
  | inr ne ↦ other ne ∙ sym (cond-false _ (route.value + 1) old (ne_eqb _ _ ne))
]

upper_16 : (n len : ℕ) → len ≤ 16 → n / 65536 / 2 ^ (16 - len) ≡ n / 2 ^ (32 - len)
upper_16 n len h = let e : 16 + (16 - len) ≡ 32 - len = omega arith in shr-shr n 16 (16 - len) ∙ ap (λ m. n / 2 ^ m) e

upper_8 : (n len : ℕ) → len ≤ 24 → n / 256 / 2 ^ (24 - len) ≡ n / 2 ^ (32 - len)
upper_8 n len h = let e : 8 + (24 - len) ≡ 32 - len = omega arith in shr-shr n 8 (24 - len) ∙ ap (λ m. n / 2 ^ m) e

-- opening an entry of the first level
pub walk-opened_first : {first second newer_first newer_second : List ℕ} (third : List ℕ) {at block : ℕ}
    → Opens first second newer_first newer_second at block → length first ≡ 65536
    → (a : ℕ) → a < 2 ^ 32 → walk newer_first newer_second third a ≡ walk first second third a
walk-opened_first third opens whole a fits = ap (λ v. follow third v a) (opens.leads (a / 65536) (a / 256) (omega arith))

-- opening an entry of the second
pub walk-opened_second : {first second third newer_second newer_third : List ℕ} {at block : ℕ} → AreLinks first second
    → Opens second third newer_second newer_third at block → length first ≡ 65536
    → (a : ℕ) → a < 2 ^ 32 → walk first newer_second newer_third a ≡ walk first second third a
walk-opened_second {first} {second} {third} {newer_second} {newer_third} links opens whole a fits =
    let w = get_or first (a / 65536) 0 in
    elim (cases_lt w 65537) [
      | inl leaf ↦
          ap (λ v. follow newer_third v a) (follow-leaf newer_second w (a / 256) leaf) ∙ follow-leaf newer_third w a leaf
          ∙ sym (ap (λ v. follow third v a) (follow-leaf second w (a / 256) leaf) ∙ follow-leaf third w a leaf)
      | inr link ↦
          let at = links.blocks (a / 65536) (omega arith) link in
          let q = (w - 65537) * 256 + a / 256 % 256 in
          ap (λ v. follow newer_third v a) (follow-link newer_second w (a / 256) link)
          ∙ opens.leads q a (omega arith)
          ∙ sym (ap (λ v. follow third v a) (follow-link second w (a / 256) link))
    ]

-- a leaf in the first level
pub walk-filled_first : {first newer : List ℕ} (second third : List ℕ) (route : Route) → route.len ≤ 16 → route.value < 2 ^ 16 → length first ≡ 65536
    → Fills first newer (route.address / 65536) (16 - route.len) (route.value + 1)
    → (a : ℕ) → a < 2 ^ 32 → walk newer second third a ≡ taken route a (walk first second third a)
walk-filled_first {first} {newer} second third route short small whole fills a fits =
    let bits = λ (n : ℕ). upper_16 n route.len short in
    let leaf : route.value + 1 < 65537 = omega arith in
    taken-by route a
    (λ same.
    let at = fills.filled (a / 65536) (omega arith) (bits a ∙ same ∙ sym (bits route.address)) in
    ap (λ v. follow third (follow second v (a / 256)) a) at ∙ ap (λ v. follow third v a) (follow-leaf second (route.value + 1) (a / 256) leaf)
    ∙ follow-leaf third (route.value + 1) a leaf)
    (λ other. ap (λ v. follow third (follow second v (a / 256)) a) (fills.others (a / 65536) (λ e. other (sym (bits a) ∙ e ∙ bits route.address))))

-- a leaf in the block of the second level that the route's first 16 bits lead to
pub walk-filled_second : {first second newer : List ℕ} (third : List ℕ) (route : Route) (b : ℕ) → 16 < route.len → route.len ≤ 24
    → route.value < 2 ^ 16 → route.address < 2 ^ 32 → length first ≡ 65536
    → AreLinks first second → get_or first (route.address / 65536) 0 ≡ 65537 + b
    → Fills second newer (b * 256 + route.address / 256 % 256) (24 - route.len) (route.value + 1)
    → (a : ℕ) → a < 2 ^ 32 → walk first newer third a ≡ taken route a (walk first second third a)
walk-filled_second {first} {second} {newer} third route b long short small fits_route whole links opened fills a fits =
    let k = 24 - route.len in
    let low : k ≤ 8 = omega arith in
    let r = route.address in
    let w = get_or first (a / 65536) 0 in
    let bits = λ (n : ℕ). upper_8 n route.len short in
    let leaf : route.value + 1 < 65537 = omega arith in
    let agree = λ (same : Matches route a). bits a ∙ same ∙ sym (bits r) in
    let leads = λ (same : Matches route a).
    let block : a / 256 / 256 ≡ r / 256 / 256 = same_block (a / 256) (r / 256) k low (agree same) in
    let upper : a / 65536 ≡ r / 65536 = omega arith in
    ap (λ n. get_or first n 0) upper ∙ opened in
    elim (cases_lt w 65537) [
      | inl is_leaf ↦ taken-by route a
          (λ same. let here : w ≡ 65537 + b = leads same in absurd (omega arith))
          (λ other. ap (λ v. follow third v a) (follow-leaf newer w (a / 256) is_leaf ∙ sym (follow-leaf second w (a / 256) is_leaf)))
      | inr is_link ↦
          let within = links.blocks (a / 65536) (omega arith) is_link in
          let q = (w - 65537) * 256 + a / 256 % 256 in
          let now = follow-link newer w (a / 256) is_link in
          let was = follow-link second w (a / 256) is_link in
          taken-by route a
          (λ same.
          let here : w ≡ 65537 + b = leads same in
          let at : w - 65537 ≡ b = omega arith in
          let run : q / 2 ^ k ≡ (b * 256 + r / 256 % 256) / 2 ^ k = ap (λ n. (n * 256 + a / 256 % 256) / 2 ^ k) at
          ∙ in_block b (a / 256) (r / 256) k low (agree same) in
          let word = fills.filled q (omega arith) run in
          ap (λ v. follow third v a) (now ∙ word) ∙ follow-leaf third (route.value + 1) a leaf)
          (λ other. ap (λ v. follow third v a) (now ∙ fills.others q (λ run.
          let block : w - 65537 ≡ b = one_block (w - 65537) b (a / 256) (r / 256) k low run in
          let same_word : w ≡ get_or first (r / 65536) 0 = omega arith in
          let upper : a / 65536 ≡ r / 65536 = links.apart (a / 65536) (r / 65536) (omega arith) (omega arith) is_link same_word in
          let high : a / 256 / 256 ≡ r / 256 / 256 = omega arith in
          let moved : (b * 256 + a / 256 % 256) / 2 ^ k ≡ (b * 256 + r / 256 % 256) / 2 ^ k = sym (ap (λ n. (n * 256 + a / 256 % 256) / 2 ^ k) block) ∙ run in
          other (sym (bits a) ∙ from_block b (a / 256) (r / 256) k low high moved ∙ bits r)) ∙ sym was))
    ]

-- where the second level leads to a link, the first leads into it
second_place : {first second : List ℕ} (a : ℕ) → a < 2 ^ 32 → length first ≡ 65536 → AreLinks first second
    → 65537 ≤ follow second (get_or first (a / 65536) 0) (a / 256)
    → (65537 ≤ get_or first (a / 65536) 0) × ((get_or first (a / 65536) 0 - 65537) * 256 + a / 256 % 256 < length second)
    × (follow second (get_or first (a / 65536) 0) (a / 256) ≡ get_or second ((get_or first (a / 65536) 0 - 65537) * 256 + a / 256 % 256) 0)
second_place {first} {second} a fits whole links is =
    let w = get_or first (a / 65536) 0 in
    elim (cases_lt w 65537) [
      | inl leaf ↦ absurd (omega (arith, follow-leaf second w (a / 256) leaf))
      | inr link ↦
          let at = links.blocks (a / 65536) (omega arith) link in
          (link, omega arith, follow-link second w (a / 256) link)
    ]

-- a leaf in the block of the third level that the route's first 24 bits lead to
pub walk-filled_third : {first second third newer : List ℕ} (route : Route) (b c : ℕ) → 24 < route.len → route.len ≤ 32 → route.value < 2 ^ 16
    → route.address < 2 ^ 32 → length first ≡ 65536
    → AreLinks first second → AreLinks second third → get_or first (route.address / 65536) 0 ≡ 65537 + b
    → get_or second (b * 256 + route.address / 256 % 256) 0 ≡ 65537 + c
    → Fills third newer (c * 256 + route.address % 256) (32 - route.len) (route.value + 1)
    → (a : ℕ) → a < 2 ^ 32 → walk first second newer a ≡ taken route a (walk first second third a)
walk-filled_third {first} {second} {third} {newer} route b c long short small fits_route whole links lower opened lower_opened fills a fits =
    let k = 32 - route.len in
    let low : k ≤ 8 = omega arith in
    let r = route.address in
    let w = get_or first (a / 65536) 0 in
    let v = follow second w (a / 256) in
    let leaf : route.value + 1 < 65537 = omega arith in
    let p = b * 256 + r / 256 % 256 in
    let leads = λ (same : Matches route a).
    let block : a / 256 ≡ r / 256 = same_block a r k low same in
    let upper : a / 65536 ≡ r / 65536 = omega arith in
    let here : w ≡ 65537 + b = ap (λ n. get_or first n 0) upper ∙ opened in
    let place : (w - 65537) * 256 + a / 256 % 256 ≡ p = omega arith in
    follow-link second w (a / 256) (omega arith) ∙ ap (λ n. get_or second n 0) place ∙ lower_opened in
    elim (cases_lt v 65537) [
      | inl is_leaf ↦ taken-by route a
          (λ same. let here : v ≡ 65537 + c = leads same in absurd (omega arith))
          (λ other. follow-leaf newer v a is_leaf ∙ sym (follow-leaf third v a is_leaf))
      | inr is_link ↦
          let place = second_place a fits whole links is_link in
          let q = (w - 65537) * 256 + a / 256 % 256 in
          let s = (v - 65537) * 256 + a % 256 in
          let stands : v ≡ get_or second q 0 = place.2 in
          let within = lower.blocks q place.1 (omega arith) in
          let now = follow-link newer v a is_link in
          let was = follow-link third v a is_link in
          taken-by route a
          (λ same.
          let here : v ≡ 65537 + c = leads same in
          let at : v - 65537 ≡ c = omega arith in
          let run : s / 2 ^ k ≡ (c * 256 + r % 256) / 2 ^ k = ap (λ n. (n * 256 + a % 256) / 2 ^ k) at ∙ in_block c a r k low same in
          now ∙ fills.filled s (omega arith) run)
          (λ other. now ∙ fills.others s (λ run.
          let block : v - 65537 ≡ c = one_block (v - 65537) c a r k low run in
          let same_word : get_or second q 0 ≡ get_or second p 0 = omega arith in
          let into = links.blocks (r / 65536) (omega arith) (omega arith) in
          let q_p : q ≡ p = lower.apart q p place.1 (omega arith) (omega arith) same_word in
          let upper_word : w ≡ get_or first (r / 65536) 0 = omega (arith, place.0) in
          let upper : a / 65536 ≡ r / 65536 = links.apart (a / 65536) (r / 65536) (omega arith) (omega arith) place.0 upper_word in
          let middle : a / 256 % 256 ≡ r / 256 % 256 = omega (arith, place.0) in
          let high : a / 256 ≡ r / 256 = omega arith in
          let moved : (c * 256 + a % 256) / 2 ^ k ≡ (c * 256 + r % 256) / 2 ^ k = sym (ap (λ n. (n * 256 + a % 256) / 2 ^ k) block) ∙ run in
          other (from_block c a r k low high moved)) ∙ sym was)
    ]
