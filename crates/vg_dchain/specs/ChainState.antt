-- What a chain holds: the indices that are handed out, by age, and the free ones; and what each call makes of it.
use Rattle.std.specs.Prelude.{ℕ, ◌+◌, ◌≡◌, ◌<◌, ◌≤◌, ◌==◌, nat_lt, not, if◌then◌else◌, Option, Some, None, List, [], ◌∷◌, ◌++◌, length, map, filter, drop}
use Rattle.vg_dchain.specs.Indices.{IsDistinct, AllBelow}

-- how many indices there are; the index and the last time of each that is handed out, the oldest first; the free ones, the first to be handed out
-- first; the highest time so far
pub record ChainState : Type 0 where
  pub range : ℕ
  pub entries : List (ℕ × ℕ)
  pub free : List ℕ
  pub highest : ℕ

-- the last time of an index that is handed out
abbrev pub time_at : List (ℕ × ℕ) → ℕ → Option ℕ
time_at [] i = None
time_at (entry ∷ entries) i = if entry.0 == i then Some entry.1 else time_at entries i

-- an index of the chain that isn't handed out
pub record IsFree (c : ChainState) (i : ℕ) : Type 0 where
  pub below : i < c.range
  pub not_handed : time_at c.entries i ≡ None

-- the entries of all other indices
abbrev pub others : List (ℕ × ℕ) → ℕ → List (ℕ × ℕ)
others entries i = filter (λ entry. not (entry.0 == i)) entries

-- the first index whose time is below the bound: of those the oldest
abbrev pub oldest_below : ℕ → List (ℕ × ℕ) → Option ℕ
oldest_below before [] = None
oldest_below before (entry ∷ entries) = if nat_lt entry.1 before then Some entry.0 else oldest_below before entries

-- index i, the first free one, is handed out as the youngest
abbrev pub after_allocation : ChainState → ℕ → ℕ → ChainState
after_allocation c i now = record c { entries = c.entries ++ (i, now) ∷ []; free = drop 1 c.free; highest = now }

-- index i is the youngest now
abbrev pub after_rejuvenation : ChainState → ℕ → ℕ → ChainState
after_rejuvenation c i now = record c { entries = others c.entries i ++ (i, now) ∷ []; highest = now }

-- index i is free, and is handed out next
abbrev pub after_freeing : ChainState → ℕ → ChainState
after_freeing c i = record c { entries = others c.entries i; free = i ∷ c.free }

-- times don't fall from low on, along the list, and end at most at high
abbrev pub RisesWithin : ℕ → List (ℕ × ℕ) → ℕ → Type 0
RisesWithin low [] high = low ≤ high
RisesWithin low (entry ∷ entries) high = (low ≤ entry.1) × RisesWithin entry.1 entries high

-- the indices that are handed out
abbrev pub indices : List (ℕ × ℕ) → List ℕ
indices entries = map (λ entry. entry.0) entries

-- each index stands once, handed out or free, and no entry is older than the one before it or younger than `highest`
pub record IsLawful (c : ChainState) : Type 0 where
  pub count : length c.entries + length c.free ≡ c.range
  pub below : AllBelow c.range (indices c.entries ++ c.free)
  pub distinct : IsDistinct (indices c.entries ++ c.free)
  pub rises : RisesWithin 0 c.entries c.highest
