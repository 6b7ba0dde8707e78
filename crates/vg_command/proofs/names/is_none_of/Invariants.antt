use Rattle.std.proofs.Common.{◌≡◌, ℕ, ◌<◌, List, get_or}
use Rattle.vg_command.specs.Commands.{words_in}
use Rattle.vg_command.proofs.names.is_none_of.Given as goal

abbrev pub invariant-loop-word : goal.invariant-loop-word
invariant-loop-word l = (k : ℕ) (d : List ℕ) → k < l.word-index → l.name ≡ get_or (words_in l.words) k d → ⊥
