-- Watched literals and the lists in which clauses are found by them.
use Rattle.std.proofs.Common.{◌≡◌, ℕ, ◌+◌, ◌*◌, ◌<◌, ◌≤◌, List, [], ◌∷◌, ◌++◌, length, get_or, true, sym, ap, ◌∙◌, inl, inr, subst, arith, length-append}
use Rattle.std.specs.Prelude.{◌≢◌, set, ℤ, pos, negsuc, unsigned_abs, All}
use Rattle.std.specs.List.{swap_remove}
use Rattle.std.proofs.Math.ListN.{get_or-append}
use Rattle.std.proofs.Math.Seq.{get_or-append_seam}
use Rattle.std.proofs.lemmas.List.{length-set, get_or-set_same, get_or-set_other, get_or_default}
use Rattle.std.proofs.lemmas.List.Elements.{All-push, All-get_or}
use Rattle.vg_cnf.specs.Clauses.{holds, IsOver, IsClauseOver}
use Rattle.vg_units.specs.Codes.{code}
use Rattle.vg_units.specs.Lists.{IsListedFrom, Lengthens}
use Rattle.vg_units.specs.Watching.{clause_in, pair_in, list_in, no_pair, IsListed, IsOneOf, IsLeftOut}
use Rattle.vg_units.specs.declared.watches.Pair.{Pair}
use Rattle.vg_units.proofs.Literals.{held_over}
use Rattle.vg_units.proofs.Listing.{same_or_other, listed_last, lengthens_set, listed_swapped, swap_length}

-- ---- places

pub code_within : (n : ℕ) (k : ℤ) → unsigned_abs k ≤ n → code k < 2 * n + 2
code_within n (pos m) h = omega (arith, h)
code_within n (negsuc m) h = omega (arith, h)

pub code-injective : (k l : ℤ) → code k ≡ code l → k ≡ l
code-injective (pos m) (pos n) e = let same : m ≡ n = omega (arith, e) in ap pos same
code-injective (pos m) (negsuc n) e = absurd (omega (arith, e))
code-injective (negsuc m) (pos n) e = absurd (omega (arith, e))
code-injective (negsuc m) (negsuc n) e = let same : m ≡ n = omega (arith, e) in ap negsuc same

-- ---- longer lists

pub lengthens_trans : (a b c : List (List ℕ)) → Lengthens a b → Lengthens b c → Lengthens a c
lengthens_trans a b c first more =
    record {
      places = more.places ∙ first.places;
      kept = λ place from entry h. more.kept place from entry (first.kept place from entry h);
    }

pub listed_lengthened : (v : ℕ) (cs : List (List ℤ)) (ps : List Pair) (ls ms : List (List ℕ)) → Lengthens ls ms → IsListed v cs ps ls → IsListed v cs ps ms
listed_lengthened v cs ps ls ms more h =
    record {
      places = more.places ∙ h.places;
      paired = h.paired;
      over = h.over;
      held_first = h.held_first;
      held_second = h.held_second;
      listed_first = λ at within. more.kept (code (pair_in ps at).first) 0 at (h.listed_first at within);
      listed_second = λ at within. more.kept (code (pair_in ps at).second) 0 at (h.listed_second at within);
    }

pub listed_inserted : (ls : List (List ℕ)) (p n : ℕ) → p < length ls → IsListedFrom (get_or (set ls p (get_or ls p [] ++ n ∷ [])) p []) 0 n
listed_inserted ls p n within =
    subst (λ list. IsListedFrom list 0 n) (sym (get_or-set_same ls p (get_or ls p [] ++ n ∷ []) [] within)) (listed_last (get_or ls p []) n)

-- ---- one clause more

clause_before : (cs : List (List ℤ)) (c : List ℤ) (at : ℕ) → at < length cs → clause_in (cs ++ c ∷ []) at ≡ clause_in cs at
clause_before cs c at within = get_or-append cs (c ∷ []) [] at within

clause_last : (cs : List (List ℤ)) (c : List ℤ) (at : ℕ) → at ≡ length cs → clause_in (cs ++ c ∷ []) at ≡ c
clause_last cs c at last = ap (λ i. clause_in (cs ++ c ∷ []) i) last ∙ get_or-append_seam cs c [] []

pair_before : (ps : List Pair) (p : Pair) (at : ℕ) → at < length ps → pair_in (ps ++ p ∷ []) at ≡ pair_in ps at
pair_before ps p at within = get_or-append ps (p ∷ []) no_pair at within

pair_last : (ps : List Pair) (p : Pair) (at : ℕ) → at ≡ length ps → pair_in (ps ++ p ∷ []) at ≡ p
pair_last ps p at last = ap (λ i. pair_in (ps ++ p ∷ []) i) last ∙ get_or-append_seam ps p [] no_pair

-- what holds of each clause with its pair, holds with one more of which it does
pub each_added : (P : List ℤ → Pair → ℕ → Type 0) (cs : List (List ℤ)) (ps : List Pair) (c : List ℤ) (p : Pair) → length ps ≡ length cs →
    ((at : ℕ) → at < length cs → P (clause_in cs at) (pair_in ps at) at) → P c p (length cs) →
    (at : ℕ) → at < length (cs ++ c ∷ []) → P (clause_in (cs ++ c ∷ []) at) (pair_in (ps ++ p ∷ []) at) at
each_added P cs ps c p paired before here at within =
    elim (same_or_other at (length cs)) [
      | inl last ↦
          subst (λ d. P d (pair_in (ps ++ p ∷ []) at) at) (sym (clause_last cs c at last))
          (subst (λ q. P c q at) (sym (pair_last ps p at (last ∙ sym paired))) (subst (λ i. P c p i) (sym last) here))
      | inr other ↦
          let inside : at < length cs = omega (arith, within, length-append cs (c ∷ []), other) in
          subst (λ d. P d (pair_in (ps ++ p ∷ []) at) at) (sym (clause_before cs c at inside))
          (subst (λ q. P (clause_in cs at) q at) (sym (pair_before ps p at (omega (arith, inside, paired)))) (before at inside))
    ]

pub listed_added : (v : ℕ) (cs : List (List ℤ)) (ps : List Pair) (ls ms : List (List ℕ)) (c : List ℤ) (p : Pair) → IsClauseOver v c
    → holds c p.first ≡ true → holds c p.second ≡ true →
    Lengthens ls ms → IsListedFrom (list_in ms p.first) 0 (length cs) → IsListedFrom (list_in ms p.second) 0 (length cs) → IsListed v cs ps ls
    → IsListed v (cs ++ c ∷ []) (ps ++ p ∷ []) ms
listed_added v cs ps ls ms c p over first second more in_first in_second h =
    let before = listed_lengthened v cs ps ls ms more h in
    record {
      places = before.places;
      paired = omega (arith, h.paired, length-append cs (c ∷ []), length-append ps (p ∷ []));
      over = All-push (IsClauseOver v) cs c h.over over;
      held_first = each_added (λ d q at. holds d q.first ≡ true) cs ps c p h.paired h.held_first first;
      held_second = each_added (λ d q at. holds d q.second ≡ true) cs ps c p h.paired h.held_second second;
      listed_first = each_added (λ d q at. IsListedFrom (list_in ms q.first) 0 at) cs ps c p h.paired before.listed_first in_first;
      listed_second = each_added (λ d q at. IsListedFrom (list_in ms q.second) 0 at) cs ps c p h.paired before.listed_second in_second;
    }

-- both lists have the new clause
pub both_inserted : (v : ℕ) (ls : List (List ℕ)) (k l : ℤ) (n : ℕ) → length ls ≡ 2 * v + 2 → unsigned_abs k ≤ v → unsigned_abs l ≤ v →
    let first = set ls (code k) (list_in ls k ++ n ∷ []) in
    let both = set first (code l) (list_in first l ++ n ∷ []) in
    Lengthens ls both × IsListedFrom (list_in both k) 0 n × IsListedFrom (list_in both l) 0 n
both_inserted v ls k l n places over_k over_l =
    let first = set ls (code k) (list_in ls k ++ n ∷ []) in
    let k_in : code k < length ls = omega (arith, places, code_within v k over_k) in
    let l_in : code l < length first = omega (arith, places, code_within v l over_l, length-set ls (code k) (list_in ls k ++ n ∷ [])) in
    let more = lengthens_set first (code l) n l_in in (
      lengthens_trans ls first (set first (code l) (list_in first l ++ n ∷ [])) (lengthens_set ls (code k) n k_in) more,
      more.kept (code k) 0 n (listed_inserted ls (code k) n k_in),
      listed_inserted first (code l) n l_in,
    )

-- ---- one entry less

pub kept_elsewhere : (ls : List (List ℕ)) (l w : ℤ) (at from entry : ℕ) → code l < length ls → at < length (list_in ls l) → from ≤ at →
    (w ≡ l → entry ≢ get_or (list_in ls l) at 0) → IsListedFrom (list_in ls w) from entry →
    IsListedFrom (list_in (set ls (code l) (swap_remove (list_in ls l) at 0)) w) from entry
kept_elsewhere ls l w at from entry within in_list before other h =
    elim (same_or_other (code w) (code l)) [
      | inl same ↦
          let is_l = code-injective w l same in
          subst (λ list. IsListedFrom list from entry)
          (sym (ap (λ i. get_or (set ls (code l) (swap_remove (list_in ls l) at 0)) i []) same
          ∙ get_or-set_same ls (code l) (swap_remove (list_in ls l) at 0) [] within))
          (listed_swapped (list_in ls l) at from entry in_list before (other is_l) (subst (λ k. IsListedFrom (list_in ls k) from entry) is_l h))
      | inr apart ↦
          subst (λ list. IsListedFrom list from entry) (sym (get_or-set_other ls (code l) (code w) (swap_remove (list_in ls l) at 0) [] apart)) h
    ]

pub left_out : (ls : List (List ℕ)) (l : ℤ) (at clause : ℕ) → code l < length ls → at < length (list_in ls l) → get_or (list_in ls l) at 0 ≡ clause →
    IsLeftOut ls (set ls (code l) (swap_remove (list_in ls l) at 0)) l at clause
left_out ls l at clause within in_list entry =
    record {
      shorter =
          ap (λ list. length list + 1) (get_or-set_same ls (code l) (swap_remove (list_in ls l) at 0) [] within) ∙ swap_length (list_in ls l) at in_list;
      others =
          λ other apart h.
          kept_elsewhere ls l l at at other within in_list (omega arith) (λ same e. apart (e ∙ entry)) h;
    }

pub listed_left_out : (v : ℕ) (cs : List (List ℤ)) (ps : List Pair) (ls : List (List ℕ)) (l : ℤ) (at : ℕ) → code l < length ls → at < length (list_in ls l) →
    (get_or (list_in ls l) at 0 < length cs → ((pair_in ps (get_or (list_in ls l) at 0)).first ≢ l) × ((pair_in ps (get_or (list_in ls l) at 0)).second ≢ l)) →
    IsListed v cs ps ls → IsListed v cs ps (set ls (code l) (swap_remove (list_in ls l) at 0))
listed_left_out v cs ps ls l at within in_list unwatched h =
    record {
      places = length-set ls (code l) (swap_remove (list_in ls l) at 0) ∙ h.places;
      paired = h.paired;
      over = h.over;
      held_first = h.held_first;
      held_second = h.held_second;
      listed_first =
          λ n inside.
          kept_elsewhere ls l (pair_in ps n).first at 0 n within in_list (omega arith)
          (λ is_l e. (unwatched (subst (λ i. i < length cs) e inside)).0 (ap (λ i. (pair_in ps i).first) (sym e) ∙ is_l)) (h.listed_first n inside);
      listed_second =
          λ n inside.
          kept_elsewhere ls l (pair_in ps n).second at 0 n within in_list (omega arith)
          (λ is_l e. (unwatched (subst (λ i. i < length cs) e inside)).1 (ap (λ i. (pair_in ps i).second) (sym e) ∙ is_l)) (h.listed_second n inside);
    }

-- ---- one clause that watches another literal

pub each_set : (P : List ℤ → Pair → ℕ → Type 0) (cs : List (List ℤ)) (ps : List Pair) (j : ℕ) (p : Pair) → length ps ≡ length cs → j < length cs →
    ((at : ℕ) → at < length cs → at ≢ j → P (clause_in cs at) (pair_in ps at) at) → P (clause_in cs j) p j →
    (at : ℕ) → at < length cs → P (clause_in cs at) (pair_in (set ps j p) at) at
each_set P cs ps j p paired inside before here at within =
    elim (same_or_other at j) [
      | inl same ↦
          subst (λ q. P (clause_in cs at) q at) (sym (ap (λ i. pair_in (set ps j p) i) same ∙ get_or-set_same ps j p no_pair (omega (arith, paired, inside))))
          (subst (λ i. P (clause_in cs i) p i) (sym same) here)
      | inr other ↦
          subst (λ q. P (clause_in cs at) q at) (sym (get_or-set_other ps j at p no_pair other)) (before at within other)
    ]

pub listed_exchanged : (v : ℕ) (cs : List (List ℤ)) (ps : List Pair) (ls : List (List ℕ)) (l : ℤ) (at j : ℕ) (p : Pair) → unsigned_abs l ≤ v
    → unsigned_abs p.second ≤ v →
    at < length (list_in ls l) → get_or (list_in ls l) at 0 ≡ j → j < length cs → IsOneOf (pair_in ps j) p.first → holds (clause_in cs j) p.second ≡ true →
    p.first ≢ l → p.second ≢ l → IsListed v cs ps ls →
    let more = set ls (code p.second) (list_in ls p.second ++ j ∷ []) in
    (at < length (list_in more l)) × IsListed v cs (set ps j p) (set more (code l) (swap_remove (list_in more l) at 0))
    × IsLeftOut ls (set more (code l) (swap_remove (list_in more l) at 0)) l at j
listed_exchanged v cs ps ls l at j p over_l over_second in_list entry inside kept held first second h =
    let more = set ls (code p.second) (list_in ls p.second ++ j ∷ []) in
    let second_in : code p.second < length ls = omega (arith, h.places, code_within v p.second over_second) in
    let longer = lengthens_set ls (code p.second) j second_in in
    let l_in : code l < length more = omega (arith, h.places, longer.places, code_within v l over_l) in
    let same_list : list_in more l ≡ list_in ls l =
    get_or-set_other ls (code p.second) (code l) (list_in ls p.second ++ j ∷ []) [] (λ e. second (sym (code-injective l p.second e))) in
    let in_more : at < length (list_in more l) = omega (arith, in_list, ap length same_list) in
    let entry_more : get_or (list_in more l) at 0 ≡ j = ap (λ list. get_or list at 0) same_list ∙ entry in
    let before = listed_lengthened v cs ps ls more longer h in
    let gone = left_out more l at j l_in in_more entry_more in (
      in_more,
      record {
        places = length-set more (code l) (swap_remove (list_in more l) at 0) ∙ before.places;
        paired = length-set ps j p ∙ h.paired;
        over = h.over;
        held_first =
            each_set (λ d q n. holds d q.first ≡ true) cs ps j p h.paired inside (λ n n_in other. h.held_first n n_in)
            (elim kept [
              | inl e ↦ ap (holds (clause_in cs j)) (sym e) ∙ h.held_first j inside
              | inr e ↦ ap (holds (clause_in cs j)) (sym e) ∙ h.held_second j inside
            ]);
        held_second = each_set (λ d q n. holds d q.second ≡ true) cs ps j p h.paired inside (λ n n_in other. h.held_second n n_in) held;
        listed_first =
            each_set (λ d q n. IsListedFrom (list_in (set more (code l) (swap_remove (list_in more l) at 0)) q.first) 0 n) cs ps j p h.paired inside
            (λ n n_in other. kept_elsewhere more l (pair_in ps n).first at 0 n l_in in_more (omega arith) (λ is_l e. other (e ∙ entry_more))
            (before.listed_first n n_in))
            (kept_elsewhere more l p.first at 0 j l_in in_more (omega arith) (λ is_l. absurd (first is_l))
            (elim kept [
              | inl e ↦ subst (λ k. IsListedFrom (list_in more k) 0 j) e (before.listed_first j inside)
              | inr e ↦ subst (λ k. IsListedFrom (list_in more k) 0 j) e (before.listed_second j inside)
            ]));
        listed_second =
            each_set (λ d q n. IsListedFrom (list_in (set more (code l) (swap_remove (list_in more l) at 0)) q.second) 0 n) cs ps j p h.paired inside
            (λ n n_in other. kept_elsewhere more l (pair_in ps n).second at 0 n l_in in_more (omega arith) (λ is_l e. other (e ∙ entry_more))
            (before.listed_second n n_in))
            (kept_elsewhere more l p.second at 0 j l_in in_more (omega arith) (λ is_l. absurd (second is_l)) (listed_inserted ls (code p.second) j second_in));
      },
      record {
        shorter = gone.shorter ∙ ap length same_list;
        others = λ other apart e. gone.others other apart (longer.kept (code l) at other e);
      },
    )

-- ---- watched literals are over the variables

pub clause_over : (v : ℕ) (cs : List (List ℤ)) (at : ℕ) → at < length cs → All (IsClauseOver v) cs → IsClauseOver v (clause_in cs at)
clause_over v cs at within all = All-get_or (IsClauseOver v) cs at [] within all

pub held_in_over : (v : ℕ) (cs : List (List ℤ)) (at : ℕ) (k : ℤ) → at < length cs → All (IsClauseOver v) cs → holds (clause_in cs at) k ≡ true → IsOver v k
held_in_over v cs at k within all held = held_over v (clause_in cs at) k (clause_over v cs at within all).over held

-- what is read at a place, whatever would be read past the end
pub pair_read : (ps : List Pair) (at : ℕ) (p : Pair) → at < length ps → p ≡ get_or ps at p → pair_in ps at ≡ p
pair_read ps at p within e = get_or_default ps at no_pair p within ∙ sym e

-- ---- what the calls leave

pub listed_same : (v : ℕ) (cs ds : List (List ℤ)) (ps qs : List Pair) (ls ms : List (List ℕ)) → ds ≡ cs → qs ≡ ps → ms ≡ ls → IsListed v cs ps ls
    → IsListed v ds qs ms
listed_same v cs ds ps qs ls ms clauses pairs lists h =
    subst (λ xs. IsListed v xs qs ms) (sym clauses) (subst (λ xs. IsListed v cs xs ms) (sym pairs) (subst (λ xs. IsListed v cs ps xs) (sym lists) h))

pub lengthens_inserted : (v : ℕ) (ls more : List (List ℕ)) (k : ℤ) (n : ℕ) → length ls ≡ 2 * v + 2 → unsigned_abs k ≤ v
    → more ≡ set ls (code k) (list_in ls k ++ n ∷ []) →
    Lengthens ls more × IsListedFrom (list_in more k) 0 n
lengthens_inserted v ls more k n places over e =
    let k_in : code k < length ls = omega (arith, places, code_within v k over) in
    subst (λ xs. Lengthens ls xs × IsListedFrom (list_in xs k) 0 n) (sym e) (lengthens_set ls (code k) n k_in, listed_inserted ls (code k) n k_in)

pub exchanged_requires : (v : ℕ) (cs : List (List ℤ)) (ps : List Pair) (ls : List (List ℕ)) (j : ℕ) (p : Pair) → j < length cs
    → holds (clause_in cs j) p.second ≡ true →
    IsListed v cs ps ls → code p.second < length ls
exchanged_requires v cs ps ls j p inside held h =
    let over = held_in_over v cs j p.second inside h.over held in
    omega (arith, h.places, code_within v p.second over.1)

-- the lists after both calls
pub exchanged : (v : ℕ) (cs : List (List ℤ)) (ps : List Pair) (ls more ms : List (List ℕ)) (l : ℤ) (at j : ℕ) (p : Pair)
    → more ≡ set ls (code p.second) (list_in ls p.second ++ j ∷ []) →
    ms ≡ set more (code l) (swap_remove (list_in more l) at 0) → unsigned_abs l ≤ v → at < length (list_in ls l) → get_or (list_in ls l) at 0 ≡ j
    → j < length cs →
    IsOneOf (pair_in ps j) p.first → holds (clause_in cs j) p.second ≡ true → p.first ≢ l → p.second ≢ l → IsListed v cs ps ls →
    IsListed v cs (set ps j p) ms × IsLeftOut ls ms l at j
exchanged v cs ps ls more ms l at j p more_is ms_is over in_list entry inside kept held first second h =
    let over_second = held_in_over v cs j p.second inside h.over held in
    let both = listed_exchanged v cs ps ls l at j p over over_second.1 in_list entry inside kept held first second h in
    subst (λ xs. IsListed v cs (set ps j p) xs × IsLeftOut ls xs l at j)
    (sym (ms_is ∙ ap (λ xs. set xs (code l) (swap_remove (list_in xs l) at 0)) more_is)) (both.1, both.2)
