-- The sizes that the bench makes its containers of.
use Rattle.std.specs.Prelude.{◌≡◌}
use Rattle.vg_map.specs.Map.{FixedMap}
use Rattle.vg_dchain.specs.ChainState.{ChainState}

-- a map of 65,536 keys of 13 bytes
pub record IsSized (map : FixedMap) : Type 0 where
  pub capacity : map.capacity ≡ 65536
  pub key_len : map.key_len ≡ 13

-- such a map, and a chain of as many indices
pub record AreSized (map : FixedMap) (chain : ChainState) : Type 0 where
  pub sized : IsSized map
  pub range : chain.range ≡ 65536
