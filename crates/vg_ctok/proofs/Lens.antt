-- Lengths of prefixes, under a name that Rust can write.
use Rattle.std.proofs.Common.{◌≤◌, Bool, List, length}
use Rattle.std.specs.List.{prefix_len}
use Rattle.std.proofs.lemmas.List.Sums.{prefix_len-le-length}

pub prefix_within : {X : Type 0} (p : X → Bool) (xs : List X) → prefix_len p xs ≤ length xs
prefix_within p xs = prefix_len-le-length p xs
