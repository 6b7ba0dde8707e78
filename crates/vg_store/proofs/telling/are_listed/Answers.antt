use Rattle.std.proofs.Common.{ℕ, ◌≡◌, ◌∙◌, sym, ap, map, subst, refl, List, Option, Some, true, false, rules}
use Rattle.std.specs.FinMap.{get, get-entries}
use Rattle.vg_abs.specs.Agreement.{BothTell}
use Rattle.vg_plain.proofs.StateLaws.{not_missed}
use Rattle.vg_plain.proofs.TellingLaws.{told_none, told_more}
use Rattle.vg_store.proofs.Counting.{in_list}
use Rattle.vg_store.proofs.telling.are_listed.Goals as goal

pub loop-key-init : goal.loop-key-init
loop-key-init c key none = told_none _ _ (get-entries c.args.table.now key
    ∙ sym (ap (λ es. in_list key es) (ap (λ es. map (λ entry. (entry.0.items, entry.1)) es) c.into_iter-key-iterator.ensures.into_iter_gives
    ∙ c.iter-key-items.ensures)) ∙ none)

pub loop-key-preserved : goal.loop-key-preserved
loop-key-preserved c key none =
    let yes : c.is_index_told.result ≡ true = search rules in
    let step = subst (λ (i : Option ℕ). BothTell (Some i) c.get.result) (c.index_of.ensures
    ∙ ap (λ (k : List ℕ). get c.args.keys.now.indices k) c.deref.ensures.value) (c.is_index_told.ensures.0 yes) in
    let here = subst (λ (l : Option (Option ℕ)). BothTell (Some (get c.args.keys.now.indices c.in-Some.key.now.items)) l)
    (c.get.ensures ∙ ap (λ (k : List ℕ). get c.args.table.now k) c.deref-in-loop-key.ensures.value) step in
    told_more c.args.table.now (λ k. get c.args.keys.now.indices k) c.in-Some.key.now.items c.in-Some._answer.now
    (map (λ entry. (entry.0.items, entry.1)) c.next.new.self)
    (λ k absent. c.loop-key.invariant k (ap (λ es. in_list k (map (λ entry. (entry.0.items, entry.1)) es)) c.in-Some.ensures.steps ∙ absent)) here key none

pub returns-then-not-is_index_told : goal.returns-then-not-is_index_told
returns-then-not-is_index_told c = (
  λ no. not_missed no,
  λ all. absurd (
      let no : c.is_index_told.result ≡ false = search rules in
      let step = subst (λ (l : Option (Option ℕ)). BothTell (Some (get c.args.keys.now.indices c.in-Some.key.now.items)) l)
      (sym (c.get.ensures ∙ ap (λ (k : List ℕ). get c.args.table.now k) c.deref-in-loop-key.ensures.value)) (all c.in-Some.key.now.items) in
      let here = subst (λ (i : Option ℕ). BothTell (Some i) c.get.result) (sym (c.index_of.ensures
      ∙ ap (λ (k : List ℕ). get c.args.keys.now.indices k) c.deref.ensures.value)) step in
      let yes : c.is_index_told.result ≡ true = c.is_index_told.ensures.1 here in cc),
)

pub returns : goal.returns
returns c = (λ _ key. c.loop-key.invariant key (ap (λ es. in_list key (map (λ entry. (entry.0.items, entry.1)) es)) c.in-None.ensures.steps.0), λ _. refl)
