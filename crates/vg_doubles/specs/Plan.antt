-- When a call on files or on a sink in memory fails, as its caller can know beforehand.
use Rattle.std.specs.Prelude.{ℕ, ◌+◌, ◌-◌, ◌^◌, ◌≡◌, min, List, length, Bool, ◌||◌, ◌&&◌, nat_eq, nat_lt, nat_le, Option, is_none, Result, Ok, Err}
use Rattle.std.specs.List.{list_any}

-- how many calls there were, and the numbers of those that fail, counted from 1
pub record Plan : Type 0 where
  pub calls : ℕ
  pub fails : List ℕ

-- the number of the next call; the count stops at the end of its type
abbrev pub next_number : Plan → ℕ
next_number plan = min (plan.calls + 1) (2 ^ 64 - 1)

-- whether the next call is one of those that fail
abbrev pub is_next_named : Plan → Bool
is_next_named plan = list_any (λ n. nat_eq n (next_number plan)) plan.fails

-- one call later
abbrev pub later : Plan → Plan
later plan = record { calls = next_number plan; fails = plan.fails }

-- opening for reading fails: the call is named, no more files may be opened, or there is no such file
abbrev pub open_fails : Plan → ℕ → Option (List ℕ) → Bool
open_fails plan files_left held = is_next_named plan || nat_eq files_left 0 || is_none held

-- a created name has at most this many bytes
abbrev pub longest_name : ℕ
longest_name = 256

-- creating fails: the call is named, no more files may be opened, or the name is too long
abbrev pub create_fails : Plan → ℕ → List ℕ → Bool
create_fails plan files_left name = is_next_named plan || nat_eq files_left 0 || nat_lt longest_name (length name)

-- writing fails: the call is named, or there is something to write and no room behind what was written so far
abbrev pub write_fails : Plan → ℕ → List ℕ → List ℕ → Bool
write_fails plan room made piece = is_next_named plan || (nat_lt 0 (length piece) && nat_le room (length made))

-- a write that doesn't fail takes as many first bytes as there is room for
abbrev pub taken : ℕ → List ℕ → List ℕ → ℕ
taken room made piece = min (length piece) (room - length made)

-- a call that opened a file leaves one less that may be opened, and one that failed as many as before
abbrev pub OneLess : {A E : Type 0} → ℕ → ℕ → Result A E → Type 0
OneLess before after (Ok _) = before ≡ after + 1
OneLess before after (Err _) = after ≡ before
