use Rattle.std.proofs.Common.{◌≡◌, ℕ, ◌<◌, List, length, get_or}
use Rattle.vg_command.specs.Commands.{words_in}
use Rattle.vg_command.proofs.names.are_apart.Given as goal

abbrev pub invariant-loop-i : goal.invariant-loop-i
invariant-loop-i l = (j k : ℕ) (d : List ℕ) → j < l.i → j < k → k < length l.words → get_or (words_in l.words) j d ≡ get_or (words_in l.words) k d → ⊥
