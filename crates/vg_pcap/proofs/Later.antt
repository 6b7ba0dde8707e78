-- Frames that wait are no earlier than the next one, and the next one no earlier than what all are.
use Rattle.std.proofs.Common.{◌≡◌, ℕ, ◌<◌, ◌≤◌, ⊎_elim, le_of_eq, sym, subst, List, length, true, arith}
use Rattle.std.proofs.lemmas.Option.{slice_get_within}
use Rattle.vg_pcap.specs.Arrivals.{Arrival, Precedes}
use Rattle.vg_pcap.specs.Frames.{Framed}
use Rattle.vg_pcap.specs.Merge.{Input, IsNext, IsChanged, NoneEarlier, waiting_at}
use Rattle.vg_pcap.proofs.Arriving.{All-at_place, All-from_places}
use Rattle.vg_pcap.proofs.Merging.{IsNoEarlier, still_next}

-- no time is below 0
pub none_before_zero : (inputs : List Input) → NoneEarlier 0 inputs
none_before_zero inputs = All-from_places (IsNoEarlier 0) inputs (λ port input at waits. omega arith)

-- what isn't earlier than a time isn't earlier than one before it
pub none_before : (inputs : List Input) (first time : ℕ) → first ≤ time → NoneEarlier time inputs → NoneEarlier first inputs
none_before inputs first time le none =
    All-from_places (IsNoEarlier first) inputs
    (λ port input at waits. let later = All-at_place (IsNoEarlier time) inputs port input none at waits in omega (arith, le, later))

-- the next frame came in at a port that there is
pub next_port_is : {inputs : List Input} {a : Arrival} → IsNext inputs a → a.port < length inputs
next_port_is {inputs} {a} next = slice_get_within inputs a.port next.input next.at

-- it is no earlier
pub next_time : {inputs : List Input} {a : Arrival} (time : ℕ) → NoneEarlier time inputs → IsNext inputs a → time ≤ a.frame.time
next_time {inputs} {a} time none next =
    let before = All-at_place (IsNoEarlier time) inputs a.port next.input none next.at next.waits in
    subst (λ (f : Framed). time ≤ f.time) (sym next.frame) before

-- what comes no later than another is no later
precedes_time : (a b : Arrival) → Precedes a b → a.frame.time ≤ b.frame.time
precedes_time a b before =
    ⊎_elim (λ (lt : a.frame.time < b.frame.time). omega (arith, lt))
    (λ (e : (a.frame.time ≡ b.frame.time) × (a.port ≤ b.port)). le_of_eq e.0) before

-- none that waits is earlier than the next
next_is_first : {inputs : List Input} {a : Arrival} → IsNext inputs a → NoneEarlier a.frame.time inputs
next_is_first {inputs} {a} next =
    All-from_places (IsNoEarlier a.frame.time) inputs
    (λ port other at waits. precedes_time a (waiting_at port other) (next.least port other at waits))

-- the same where the next frame's bytes were changed
pub changed_is_first : {came now : List Input} {a : Arrival} → IsChanged came now a → NoneEarlier a.frame.time now
changed_is_first {came} {now} {a} changed = next_is_first (still_next changed)
