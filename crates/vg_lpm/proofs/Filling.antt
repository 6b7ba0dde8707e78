-- A loop that fills the entries whose index has given upper bits.
use Rattle.std.proofs.Common.{◌≡◌, ℕ, ◌+◌, ◌*◌, ◌/◌, ◌%◌, ◌^◌, ◌<◌, ◌≤◌, List, length, get_or, set, refl, ◌∙◌, ap, subst, inl, inr, arith}
use Rattle.std.proofs.Common.{get_or-set_same, get_or-set_other}
use Rattle.std.proofs.lemmas.Nat.{one_shl}
use Rattle.std.proofs.Math.ListN.{length-set}
use Rattle.std.proofs.lemmas.Bool.{cases_lt, cases_eq}
use Rattle.vg_lpm.specs.Building.{Fills}
use Rattle.vg_lpm.proofs.Runs.{run-start, run-end, run-bits}

-- where the indices from `start` on are filled, as far as `end`
pub record Filled (old new : List ℕ) (start end word : ℕ) : Type 0 where
  pub same_length : length new ≡ length old
  pub filled : (j : ℕ) → start ≤ j → j < end → get_or new j 0 ≡ word
  pub before : (j : ℕ) → j < start → get_or new j 0 ≡ get_or old j 0
  pub behind : (j : ℕ) → end ≤ j → get_or new j 0 ≡ get_or old j 0

pub Fills-from_filled : {old new : List ℕ} {word : ℕ} (place free : ℕ) → Filled old new (place / 2 ^ free * 2 ^ free)
    (place / 2 ^ free * 2 ^ free + 2 ^ free) word → Fills old new place free word
Fills-from_filled {old} {new} {word} place free done =
    let start = place / 2 ^ free * 2 ^ free in
    record {
      same_length = done.same_length;
      filled = λ j within same.
          let at : j / 2 ^ free * 2 ^ free ≡ start = ap (λ n. n * 2 ^ free) same in
          done.filled j (omega (arith, run-start j free)) (omega (arith, run-end j free));
      others = λ j ne. elim (cases_lt j start) [
        | inl lt ↦ done.before j lt
        | inr ge ↦ elim (cases_lt j (start + 2 ^ free)) [
          | inl lt ↦ absurd (ne (run-bits j (place / 2 ^ free) free ge lt))
          | inr past ↦ done.behind j past
        ]
      ];
    }

pub Filled-none : (xs : List ℕ) (start word : ℕ) → Filled xs xs start start word
Filled-none xs start word = record { same_length = refl; filled = λ j low high. absurd (omega arith); before = λ j h. refl; behind = λ j h. refl }

pub Filled-more : {old new : List ℕ} {start word : ℕ} (i : ℕ) → Filled old new start i word → start ≤ i → i < length new
    → Filled old (set new i word) start (i + 1) word
Filled-more {old} {new} {start} {word} i done low within = record {
  same_length = length-set new i word ∙ done.same_length;
  filled = λ j from to. elim (cases_eq j i) [
    | inl same ↦ ap (λ n. get_or (set new i word) n 0) same ∙ get_or-set_same new i word 0 within
    | inr ne ↦ get_or-set_other new i j word 0 ne ∙ done.filled j from (omega arith)
  ];
  before = λ j h. get_or-set_other new i j word 0 (λ e. omega arith) ∙ done.before j h;
  behind = λ j h. get_or-set_other new i j word 0 (λ e. omega arith) ∙ done.behind j (omega arith);
}

-- as the shifts of 64 bits compute them
pub shifted_back : (place free : ℕ) → place < 2 ^ 64 → (place / 2 ^ free * 2 ^ free) % 2 ^ 64 ≡ place / 2 ^ free * 2 ^ free
shifted_back place free fits = omega (arith, run-start place free)

pub Fills-from_loop : {old new : List ℕ} {word : ℕ} (place free end : ℕ) → place < 2 ^ 64 → free ≤ 16
    → Filled old new ((place / 2 ^ free * 2 ^ free) % 2 ^ 64) end word
    → (place / 2 ^ free * 2 ^ free) % 2 ^ 64 + (1 * 2 ^ free) % 2 ^ 64 ≡ end → Fills old new place free word
Fills-from_loop {old} {new} {word} place free end fits small done at_end =
    let start = shifted_back place free fits in
    let size : (1 * 2 ^ free) % 2 ^ 64 ≡ 2 ^ free = one_shl free 64 (omega arith) in
    let last : end ≡ place / 2 ^ free * 2 ^ free + 2 ^ free = omega arith in
    let whole : Filled old new (place / 2 ^ free * 2 ^ free) (place / 2 ^ free * 2 ^ free + 2 ^ free) word =
    subst (λ (p : ℕ × ℕ). Filled old new p.0 p.1 word) (ap (λ n. (n, end)) start ∙ ap (λ n. (place / 2 ^ free * 2 ^ free, n)) last) done in
    Fills-from_filled place free whole
