-- What a caller sees of the map: which index each key has, and what was fixed when it was made.
use Rattle.std.specs.Prelude.{ℕ, List, refl}
use Rattle.std.specs.Ordering.{nat_cmp}
use Rattle.std.specs.Cmp.Lexicographic.{slice_cmp}
use Rattle.std.specs.FinMap.{FinMap, code, empty, insert, remove}
use Rattle.std.specs.Coded.{Coded, code_by, coded×, coded_list, coded_ℕ}

-- from the bytes of a key to its index
abbrev pub Indices : Type 0
Indices = FinMap (slice_cmp nat_cmp) ℕ

-- the map: the index of each key, how many keys it has room for, and how many bytes each key has
pub record FixedMap : Type 0 where
  pub indices : Indices
  pub capacity : ℕ
  pub key_len : ℕ

-- the same map with one key more, and its index
abbrev pub with_key : FixedMap → List ℕ → ℕ → FixedMap
with_key m key index = record { indices = insert m.indices key index; capacity = m.capacity; key_len = m.key_len }

-- the same map with one key less
abbrev pub without_key : FixedMap → List ℕ → FixedMap
without_key m key = record { indices = remove m.indices key; capacity = m.capacity; key_len = m.key_len }

-- a map with no key
abbrev pub empty_map : ℕ → ℕ → FixedMap
empty_map capacity key_len = record { indices = empty; capacity = capacity; key_len = key_len }

-- a map is stored as the tuple of its fields
abbrev pub map_code : Coded FixedMap
map_code =
    code_by (Indices × (ℕ × ℕ)) (coded× (code (coded_list coded_ℕ) coded_ℕ) (coded× coded_ℕ coded_ℕ)) (λ m. (m.indices, (m.capacity, m.key_len)))
    (λ p. record { indices = p.0; capacity = p.1.0; key_len = p.1.1 }) (λ _. refl)
