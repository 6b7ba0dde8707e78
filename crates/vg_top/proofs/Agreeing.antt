-- Counting over ports.
use Rattle.std.proofs.Common.{◌≡◌, ◌≢◌, ◌<◌, ◌+◌, ◌++◌, ◌∷◌, [], ◌∙◌, inl, inr, ℕ, List, Bool, max, All, Contains, refl, subst, arith}
use Rattle.std.proofs.lemmas.Bool.{cases_lt}
use Rattle.std.proofs.lemmas.List.{length_push}
use Rattle.std.proofs.lemmas.List.Elements.{All-nil, All-push, All-weaker, Contains-append_left, Contains-append_right}
use Rattle.std.proofs.lemmas.List.Quantifiers.{all_pairs_push}
use Rattle.vg_small.specs.declared.small.Small.{Small}
use Rattle.vg_small.specs.Meaning.{steps_at}
use Rattle.vg_top.specs.Agreement.{sides, IsPathCount, IsMostSteps}
use Rattle.vg_top.specs.Ways.{GoesNewWay, GoesOldWay}

-- one port more takes as many steps as the most so far, or more
pub most_next : (c : Small) (port most n : ℕ) → IsMostSteps c port most → n ≡ max most (steps_at c.tests port) → IsMostSteps c (port + 1) n
most_next c port most n so_far is = record {
  bound = λ q below. elim (cases_lt q port) [
    | inl lower ↦ omega (arith, so_far.bound q lower, is)
    | inr last ↦
        let same : q ≡ port = omega arith in
        rw same (omega (arith, is))
  ];
  taken = elim (cases_lt most (steps_at c.tests port)) [
    | inl more ↦ (port, omega arith, omega (arith, is))
    | inr enough ↦ (so_far.taken.0, omega (arith, so_far.taken.1), omega (arith, so_far.taken.2, is))
  ];
}

-- ---- ways

-- a way is that of a port below this one
abbrev IsTaken : Small → Small → ℕ → List Bool × List Bool → Type 0
IsTaken c spec ports way = (port : ℕ) × (port < ports) × (sides c spec port ≡ way)

pub ways_none : (c spec : Small) → IsPathCount c spec 0 0
ways_none c spec = record {
  ways = [];
  different = λ i j d lt within. absurd (omega arith);
  each = λ port below. absurd (omega arith);
  taken = All-nil (IsTaken c spec 0);
  count_is = refl;
}

more_taken : (c spec : Small) (port : ℕ) (ways : List (List Bool × List Bool)) → All (IsTaken c spec port) ways → All (IsTaken c spec (port + 1)) ways
more_taken c spec port ways taken = All-weaker (IsTaken c spec port) (IsTaken c spec (port + 1)) (λ way t. let lt = t.1 in (t.0, omega arith, t.2)) ways taken

-- the ways of the ports up to one, where that is among them
each_more : (c spec : Small) (port : ℕ) (ways : List (List Bool × List Bool)) → ((q : ℕ) → q < port → Contains ways (sides c spec q))
    → Contains ways (sides c spec port) →
    (q : ℕ) → q < port + 1 → Contains ways (sides c spec q)
each_more c spec port ways each here q below = elim (cases_lt q port) [
  | inl lower ↦ each q lower
  | inr last ↦ let same : q ≡ port = omega arith in rw same here
]

-- one port more goes a new way, or an old one
pub ways_next : (c spec : Small) (port count : ℕ) → IsPathCount c spec port count → GoesNewWay c spec port → IsPathCount c spec (port + 1) (count + 1)
ways_next c spec port count x new =
    let way = sides c spec port in
    record {
      ways = x.ways ++ way ∷ [];
      different = all_pairs_push ◌≢◌ x.ways way x.different (All-weaker (IsTaken c spec port) (λ other. other ≢ way)
          (λ other t same. new t.0 t.1 (t.2 ∙ same)) x.ways x.taken);
      each = each_more c spec port (x.ways ++ way ∷ []) (λ q lower. Contains-append_left x.ways (way ∷ []) (sides c spec q) (x.each q lower))
          (Contains-append_right x.ways (way ∷ []) way (0, omega arith, refl));
      taken = All-push (IsTaken c spec (port + 1)) x.ways way (more_taken c spec port x.ways x.taken) (port, omega arith, refl);
      count_is = omega (arith, x.count_is, length_push x.ways way);
    }

pub ways_same : (c spec : Small) (port count : ℕ) → IsPathCount c spec port count → GoesOldWay c spec port → IsPathCount c spec (port + 1) count
ways_same c spec port count x old = record {
  ways = x.ways;
  different = x.different;
  each = each_more c spec port x.ways x.each (subst (Contains x.ways) old.2 (x.each old.0 old.1));
  taken = more_taken c spec port x.ways x.taken;
  count_is = x.count_is;
}
