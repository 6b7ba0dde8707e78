-- What a handler does with frames, one after another. `Handles` says of two of its states whether a frame is handled so in the first and leads to the
-- second, and `Stops` whether it stops at a frame.
use Rattle.std.specs.Prelude.{ℕ, ◌≡◌, ◌≤◌, List, [], ◌∷◌, ◌++◌, length}
use Rattle.vg_pcap.specs.Arrivals.{Arrival}
use Rattle.vg_replay.specs.Outputs.{Handled}

-- what frames a handler takes: those that come in at so many ports, none of them earlier than this time, in nanoseconds
pub record Takes : Type 0 where
  pub ports : ℕ
  pub since : ℕ

-- these frames were handled in order, and led from one state to another
abbrev pub HandlesAll : {H : Type 0} → (H → Handled → H → Type 0) → H → List Handled → H → Type 0
HandlesAll Handles first [] last = last ≡ first
HandlesAll {H} Handles first (h ∷ handled) last = (next : H) × Handles first h next × HandlesAll Handles next handled last

-- what may be done with frames, in order, from this state on
abbrev pub HandledFrom : {H : Type 0} → (H → Handled → H → Type 0) → H → List Handled → Type 0
HandledFrom {H} Handles first handled = (last : H) × HandlesAll Handles first handled last

-- why the handler may stop at a frame, where these were handled before it
abbrev pub StopsFrom : {H S : Type 0} → (H → Handled → H → Type 0) → (H → Arrival → S → Type 0) → H → List Handled → Arrival → S → Type 0
StopsFrom {H} Handles Stops first handled a reason = (last : H) × HandlesAll Handles first handled last × Stops last a reason

-- one frame more was handled after past ones, or none
abbrev pub HandledNext : {H : Type 0} → (H → Handled → H → Type 0) → List Handled → H → List Handled → Type 0
HandledNext Handles past now handled = (more : List Handled) × (length more ≤ 1) × (handled ≡ past ++ more) × HandledFrom Handles now more

-- the handler may stop at the very next frame
abbrev pub StopsNext : {H S : Type 0} → (H → Arrival → S → Type 0) → List Handled → H → List Handled → Arrival → S → Type 0
StopsNext Stops past now handled a reason = (handled ≡ past) × Stops now a reason

-- the same of a handler that has handled past frames, with these in front
abbrev pub HandledAfter : {H : Type 0} → (H → Handled → H → Type 0) → List Handled → H → List Handled → Type 0
HandledAfter Handles past now handled = (more : List Handled) × (handled ≡ past ++ more) × HandledFrom Handles now more

abbrev pub StopsAfter : {H S : Type 0} → (H → Handled → H → Type 0) → (H → Arrival → S → Type 0) → List Handled → H → List Handled → Arrival → S → Type 0
StopsAfter Handles Stops past now handled a reason = (more : List Handled) × (handled ≡ past ++ more) × StopsFrom Handles Stops now more a reason
