use Rattle.std.proofs.Common.{◌<◌, ◌^◌, ◌∙◌, sym, arith}
use Rattle.std.proofs.lemmas.Fmt.{decimal_injective}
use Rattle.vg_command.proofs.numbers.count_in.Goals as goal
use Rattle.vg_command.proofs.numbers.count_in.Goals.{else-n-ge1-via-then-n-ge1+else-n-from, else-n-ge1-via-else-n-ge1}

pub returns-else-n-ge1-clause-none : goal.returns-else-n-ge1-clause-none
returns-else-n-ge1-clause-none c n least most is =
    let small : n < 2 ^ 64 = omega (arith, c.ranges.most.fits) in
    let same = decimal_injective c.in_ok-n.n n c.in_ok-n.ensures.below small (sym c.in_ok-n.ensures.written ∙ is) in
    elim c.else-n-ge1.branch [
      | else-n-ge1-via-then-n-ge1+else-n-from w ↦ omega arith
      | else-n-ge1-via-else-n-ge1 w ↦ omega arith
    ]
