-- the words, or the bytes, before the next are mixed in
use Rattle.std.specs.Prelude.{◌≡◌, ◌-◌, ◌/◌, ◌%◌, ◌<◌, length, fold, take}
use Rattle.vg_map.specs.Hash.{mixed, after_words}
use Rattle.vg_map.proofs.hash.hash.Given as goal

abbrev pub invariant-loop-byte : goal.invariant-loop-byte
invariant-loop-byte l = l.state ≡ fold mixed l.fn.seed (take l.byte-index l.key)

abbrev pub invariant-loop-at : goal.invariant-loop-at
invariant-loop-at l = (l.at % 8 ≡ 0) × (l.at < length l.key) × (l.state ≡ after_words l.key l.fn.seed (l.at / 8))

abbrev pub decreases-loop-at : goal.decreases-loop-at
decreases-loop-at l = length l.key - l.at
