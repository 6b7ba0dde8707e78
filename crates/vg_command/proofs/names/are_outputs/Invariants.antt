use Rattle.std.proofs.Common.{ℕ, ◌<◌, List, ◌∷◌, get_or}
use Rattle.vg_command.specs.Commands.{words_in, IsName, IsNoneOf}
use Rattle.vg_command.proofs.names.are_outputs.Given as goal

abbrev pub invariant-loop-out : goal.invariant-loop-out
invariant-loop-out l = record {
  named : (k : ℕ) (d : List ℕ) → k < l.out-index → IsName (get_or (words_in l.n.outs.now) k d);
  own : (k : ℕ) (d : List ℕ) → k < l.out-index → IsNoneOf (l.n.c.now ∷ l.n.spec.now ∷ l.n.conf.now ∷ words_in l.n.ins.now) (get_or (words_in l.n.outs.now) k d);
}
