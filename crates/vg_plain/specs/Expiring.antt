-- Which times, keys and indices expire, on the lists of the list library.
use Rattle.std.specs.Prelude.{ℕ, ◌&&◌, List, slice_get, Bool, false, nat_lt, Option, Some, None, if◌then◌else◌}
use Rattle.vg_abs.specs.Effects.{is_key_of}
use Rattle.vg_plain.specs.PlainTables.{joined}

-- whether there is a time before a bound
abbrev pub is_early : ℕ → Option ℕ → Bool
is_early bound None = false
is_early bound (Some time) = nat_lt time bound

-- a time that isn't before a bound
abbrev pub kept_time : ℕ → Option ℕ → Option ℕ
kept_time bound time = if is_early bound time then None else time

-- whether an index expires whose cell holds a key
abbrev pub index_goes : ℕ → List (Option ℕ) → List (List ℕ) → List ℕ → ℕ → Bool
index_goes bound times cells key index = is_early bound (joined (slice_get times index)) && is_key_of (slice_get cells index) key

-- whether a key goes, by its index
abbrev pub key_goes : ℕ → List (Option ℕ) → List (List ℕ) → List ℕ → Option ℕ → Bool
key_goes bound times cells key None = false
key_goes bound times cells key (Some index) = index_goes bound times cells key index
