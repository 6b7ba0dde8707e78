-- What a state tells: the answer to a question, or nothing where a partial state doesn't tell it.
use Rattle.std.specs.Prelude.{ℕ, List, Bool, false, nat_lt, count_by, Option, Some, None, if◌then◌else◌}
use Rattle.std.specs.FinMap.{get, entries}
use Rattle.vg_stree.specs.Routes.{longest_match}
use Rattle.vg_abs.specs.Tables.{Link, Routing}

-- what is listed; else nothing in a full state, and in a partial one it isn't told
abbrev pub listed_or_none : {X : Type 0} → Bool → Option (Option X) → Option (Option X)
listed_or_none full (Some answer) = Some answer
listed_or_none full None = if full then Some None else None

-- the index of a key, or that it is absent
abbrev pub index_of : Bool → Link → List ℕ → Option (Option ℕ)
index_of full link key = listed_or_none full (get link.keys key)

-- the last time of an index, or that it is free, as is each from the capacity on
abbrev pub time_of : Bool → Link → ℕ → Option (Option ℕ)
time_of full link index = if nat_lt index link.capacity then listed_or_none full (get link.times index) else Some None

-- whether a time is told and is earlier than a bound
abbrev pub is_before : ℕ → Option (Option ℕ) → Bool
is_before bound (Some (Some time)) = nat_lt time bound
is_before bound _ = false

-- how many allocated indices have a time before a bound
abbrev pub count_before : Bool → Link → ℕ → Option ℕ
count_before full link bound = if full then Some (count_by (λ entry. is_before bound (Some entry.1)) (entries link.times)) else get link.bounds bound

-- what a look-up answers
abbrev pub match_in : Bool → Routing → ℕ → Option (Option ℕ)
match_in full prefixes address = if full then Some (longest_match prefixes.routes address) else get prefixes.addresses address
