use Rattle.std.proofs.Common.{◌≡◌, map, drop}
use Rattle.vg_small.specs.Reader.{after, texts}
use Rattle.vg_small.proofs.reading.strip.Given as goal

abbrev pub invariant-loop-e : goal.invariant-loop-e
invariant-loop-e l = after (map (λ e. e.now) (drop l.e-index l.want)) (texts l.rest) ≡ after (map (λ e. e.now) l.want) (texts l.words)
