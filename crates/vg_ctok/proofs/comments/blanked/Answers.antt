use Rattle.std.proofs.Common.{◌≡◌, ◌∙◌, ◌≤◌, ◌<◌, ◌++◌, ℕ, List, [], ◌∷◌, get_or, length, drop, true, false, refl, sym, ap, arith, append-nil}
use Rattle.std.proofs.Common.{get_or-drop, add-zero}
use Rattle.vg_ctok.specs.Comments.{opens_comment, covered, blanked}
use Rattle.vg_ctok.proofs.CommentLaws.{step-covered, step-plain, step-opened, blanked-end}
use Rattle.vg_ctok.proofs.Sizes.{length-blanked}
use Rattle.vg_ctok.proofs.comments.blanked.Goals as goal
use Rattle.vg_ctok.proofs.comments.blanked.Goals.{then-size-gt0+in_ok-push, else-size-gt0+else-opens_comment+in_ok-push-2}

pub returns-then-opens_comment-clause-line : goal.returns-then-opens_comment-clause-line
returns-then-opens_comment-clause-line c =
    let back : c.split_at.result.1.now ≡ drop c.loop-at.at c.args.line.now = cc in
    let is : c.covered-size.result ≡ covered c.loop-at.left (drop c.loop-at.at c.args.line.now) = rw back at c.covered-size.ensures in
    let opens : opens_comment (drop c.loop-at.at c.args.line.now) ≡ true = rw back at (sym c.if-opens_comment.ensures) in
    let all = step-opened c.args.line.now c.loop-at.shown.items (blanked 0 c.args.line.now) c.loop-at.at c.loop-at.left c.covered-size.result
    c.loop-at-test.true is (omega arith) opens c.loop-at.invariant in
    c.in_ok-extend_from_slice.ensures.items ∙ ap (λ (l : List ℕ). c.loop-at.shown.items ++ l) back ∙ all

pub returns-then-opens_comment-clause-size : goal.returns-then-opens_comment-clause-size
returns-then-opens_comment-clause-size c =
    let back : c.split_at.result.1.now ≡ drop c.loop-at.at c.args.line.now = cc in
    let is : c.covered-size.result ≡ covered c.loop-at.left (drop c.loop-at.at c.args.line.now) = rw back at c.covered-size.ensures in
    let opens : opens_comment (drop c.loop-at.at c.args.line.now) ≡ true = rw back at (sym c.if-opens_comment.ensures) in
    let all = step-opened c.args.line.now c.loop-at.shown.items (blanked 0 c.args.line.now) c.loop-at.at c.loop-at.left c.covered-size.result
    c.loop-at-test.true is (omega arith) opens c.loop-at.invariant in
    ap (λ (l : List ℕ). length l) (c.in_ok-extend_from_slice.ensures.items ∙ ap (λ (l : List ℕ). c.loop-at.shown.items ++ l) back ∙ all)
    ∙ length-blanked 0 c.args.line.now

pub loop-at-preserved : goal.loop-at-preserved
loop-at-preserved c =
    let back : c.split_at.result.1.now ≡ drop c.loop-at.at c.args.line.now = cc in
    let is : c.covered-size.result ≡ covered c.loop-at.left (drop c.loop-at.at c.args.line.now) = rw back at c.covered-size.ensures in
    elim c.if-size-gt0.branch [
      | then-size-gt0+in_ok-push w ↦
          let some : 0 < c.covered-size.result = w.if-size-gt0.true in
          let added : w.push.new.self.items ≡ c.loop-at.shown.items ++ 32 ∷ [] = w.in_ok-push.ensures.items in
          rw (w.shown-is, w.left-is) (step-covered c.args.line.now c.loop-at.shown.items w.push.new.self.items (blanked 0 c.args.line.now)
          c.loop-at.at c.loop-at.left
          c.covered-size.result c.loop-at-test.true is some added c.loop-at.invariant)
      | else-size-gt0+else-opens_comment+in_ok-push-2 w ↦
          let none : c.covered-size.result ≤ 0 = omega (arith, w.if-size-gt0.false) in
          let closed : opens_comment (drop c.loop-at.at c.args.line.now) ≡ false = rw back at (sym w.if-opens_comment.ensures) in
          let byte : get_or c.split_at.result.1.now 0 0 ≡ get_or c.args.line.now c.loop-at.at 0 =
          rw (back, get_or-drop c.loop-at.at c.args.line.now 0 0, add-zero) refl in
          let added : w.push-else-opens_comment.new.self.items ≡ c.loop-at.shown.items ++ get_or c.args.line.now c.loop-at.at 0 ∷ [] =
          w.in_ok-push-2.ensures.items ∙ ap (λ (k : ℕ). c.loop-at.shown.items ++ k ∷ []) byte in
          rw (w.shown-is, w.left-is) (step-plain c.args.line.now c.loop-at.shown.items w.push-else-opens_comment.new.self.items
          (blanked 0 c.args.line.now) c.loop-at.at c.loop-at.left
          c.covered-size.result c.loop-at-test.true is none closed added c.loop-at.invariant)
    ]

pub returns-clause-line : goal.returns-clause-line
returns-clause-line c =
    let over = blanked-end c.loop-at.left c.args.line.now c.loop-at.at (omega arith) in
    sym (append-nil c.loop-at.shown.items) ∙ ap (λ (l : List ℕ). c.loop-at.shown.items ++ l) (sym over) ∙ c.loop-at.invariant

pub returns-clause-size : goal.returns-clause-size
returns-clause-size c =
    let over = blanked-end c.loop-at.left c.args.line.now c.loop-at.at (omega arith) in
    ap (λ (l : List ℕ). length l) (sym (append-nil c.loop-at.shown.items) ∙ ap (λ (l : List ℕ). c.loop-at.shown.items ++ l) (sym over)
    ∙ c.loop-at.invariant) ∙ length-blanked 0 c.args.line.now
