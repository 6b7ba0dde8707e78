use Rattle.std.proofs.Common.{◌≡◌, List, ◌++◌, length, true, rules, refl, sym, subst, ap, ◌∙◌}
use Rattle.std.specs.Prelude.{ℤ, All}
use Rattle.vg_cnf.specs.Clauses.{holds, IsOver, IsClauseOver}
use Rattle.vg_cnf.specs.Propagation.{follows}
use Rattle.vg_units.specs.Propagating.{AreWithin}
use Rattle.vg_units.proofs.Assuming.{further_variables, further_clauses, left_within, right_within}
use Rattle.vg_sat.specs.Learned.{IsReduced, AreNeededBeside}
use Rattle.vg_sat.proofs.Shortening.{part_over, parts_joined, few_over, assumed_open, one_reduced, none_reduced, front_over, front_follows, back_over}
use Rattle.vg_sat.proofs.Shortening.{back_follows, halves_reduced}
use Rattle.vg_sat.proofs.halving.+halving.Goals as goal
use Rattle.vg_sat.proofs.halving.+halving.Goals.{needed_beside-then-follows, needed_beside-else-follows+in_ok-kept}

pub needed-returns-then-list-le1-clause-needed : goal.needed-returns-then-list-le1-clause-needed
needed-returns-then-list-le1-clause-needed t c =
    λ assumed assumes over follows_it.
    let s = c.args.search.now in
    let list = c.args.list.now in
    let is : c.extend_from_slice.new.self.items ≡ list = c.in_ok-extend_from_slice.ensures.items ∙ ap (λ (xs : List ℤ). xs ++ list) c.new-kept.ensures.items in
    subst (IsReduced s.clauses assumed) (sym is)
    (one_reduced s.clauses assumed list c.if-list-le1.true (assumed_open s assumed c.facts.ensures.sound (c.facts.ensures.settled c.requires.at_end)
    assumes) follows_it)

pub needed-needed_beside-requires-2 : goal.needed-needed_beside-requires-2
needed-needed_beside-requires-2 t c =
    let mid = c.needed_beside.new.search in
    let list = c.args.list.now in
    let front = c.split_at.result.0.now in
    let back = c.split_at.result.1.now in
    let few = c.in_ok-kept.kept.items in
    let same = c.in_ok-kept.ensures.back refl in
    let joined : list ≡ front ++ back = parts_joined _ list front back c.split_at.ensures.front c.split_at.ensures.back in
    let over : All (IsOver mid.variables) list = subst (λ x. All (IsOver x.variables) list) (sym same) c.requires.over in
    let few_within : AreWithin few list = λ k held. ap (λ xs. holds xs k) joined ∙ left_within front back k (c.in_ok-kept.ensures.within k held) in
    let back_within : AreWithin back list = λ k held. ap (λ xs. holds xs k) joined ∙ right_within front back k held in (
      search rules,
      (
        subst (λ x. x.head ≡ length x.trail) (sym same) c.requires.at_end,
        (
          subst (All (IsOver mid.variables)) (sym c.deref.ensures.value) (few_over mid.variables few list few_within over),
          few_over mid.variables back list back_within over,
        ),
      ),
    )

pub needed-returns-clause-needed : goal.needed-returns-clause-needed
needed-returns-clause-needed t c =
    λ assumed assumes over follows_it.
    let s = c.args.search.now in
    let mid = c.needed_beside.new.search in
    let front = c.split_at.result.0.now in
    let back = c.split_at.result.1.now in
    let few = c.in_ok-kept.kept.items in
    let more = c.in_ok-more.more.items in
    let all = c.facts.ensures.over in
    let within = c.in_ok-kept.ensures.within in
    let joined : c.args.list.now ≡ front ++ back = parts_joined _ c.args.list.now front back c.split_at.ensures.front c.split_at.ensures.back in
    let both : IsClauseOver s.variables (assumed ++ (front ++ back)) = subst (λ xs. IsClauseOver s.variables (assumed ++ xs)) joined over in
    let both_follow : follows s.clauses (assumed ++ (front ++ back)) ≡ true = subst (λ xs. follows s.clauses (assumed ++ xs) ≡ true) joined follows_it in
    let front_half : IsReduced s.clauses (assumed ++ back) few =
    c.in_ok-kept.ensures.needed assumed assumes (front_over s.variables assumed front back both)
    (front_follows s.variables s.clauses assumed front back all both both_follow) in
    let beside : AreNeededBeside s few back more =
    subst (λ x. AreNeededBeside x few back more) (c.in_ok-kept.ensures.back refl)
    (subst (λ (xs : List ℤ). AreNeededBeside mid xs back more) c.deref.ensures.value c.in_ok-more.ensures.needed) in
    let back_half : IsReduced s.clauses (assumed ++ few) more =
    beside assumed assumes (back_over s.variables assumed front back few within both) (back_follows s.variables s.clauses assumed front back few all
    within both front_half) in
    let more_is : c.deref-2.result.now ≡ more = c.deref-2.ensures.value in
    let is : c.extend_from_slice-2.new.self.items ≡ few ++ more = c.in_ok-extend_from_slice-2.ensures.items ∙ ap (λ (xs : List ℤ). few ++ xs) more_is in
    subst (IsReduced s.clauses assumed) (sym is)
    (halves_reduced s.clauses assumed back few more c.in_ok-more.ensures.within front_half back_half)

pub needed_beside-returns-clause-needed : goal.needed_beside-returns-clause-needed
needed_beside-returns-clause-needed t c =
    λ assumed assumes over follows_it.
    let s = c.args.search.now in
    let others = c.args.others.now in
    let list = c.args.list.now in
    let some = assumed ++ others in
    elim c.if-follows.branch [
      | needed_beside-then-follows w ↦
          let some_over : IsClauseOver s.variables some = part_over s.variables some (some ++ list) (left_within some list) over in
          subst (IsReduced s.clauses some) (sym (ap (λ v. v.items) w.kept-is ∙ w.new-kept.ensures.items))
          (none_reduced s.clauses some (sym (c.in_ok-follows.ensures.answer assumed assumes some_over) ∙ w.if-follows.true))
      | needed_beside-else-follows+in_ok-kept w ↦
          let mid = c.assume_also.new.self in
          let variables : mid.variables ≡ s.variables = further_variables s mid (c.in_ok-follows.ensures.further refl) in
          let clauses : mid.clauses ≡ s.clauses = further_clauses s mid (c.in_ok-follows.ensures.further refl) in
          let few = w.in_ok-kept.kept.items in
          subst (IsReduced s.clauses some) (sym (ap (λ v. v.items) w.kept-is))
          (subst (λ cs. IsReduced cs some few) clauses
          (w.in_ok-kept.ensures.needed some (c.in_ok-follows.ensures.assumed w.if-follows.false assumed assumes)
          (subst (λ n. IsClauseOver n (some ++ list)) (sym variables) over)
          (subst (λ cs. follows cs (some ++ list) ≡ true) (sym clauses) follows_it)))
    ]
