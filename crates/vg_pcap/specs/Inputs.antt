-- What a merge keeps true of its inputs, and what reading or opening a single one does. No public clause rests on this file.
use Rattle.std.specs.Prelude.{ℕ, ◌+◌, ◌<◌, ◌≤◌, ◌≡◌, ◌≢◌, ◌⊎◌, List, [], ◌∷◌, ◌++◌, length, true, false, Option, Some, None, Result, Ok, Err, IfErr}
use Rattle.std.specs.Prelude.{OnOk, slice_get, All}
use Rattle.vg_base.specs.Files.{Disk, ReadKeeps}
use Rattle.vg_pcap.specs.declared.faults.CaptureFault.{CaptureFault}
use Rattle.vg_pcap.specs.declared.faults.CaptureFault.TheVariants as faults
use Rattle.vg_pcap.specs.declared.faults.Damage.{Damage}
use Rattle.vg_pcap.specs.Captures.{Refused}
use Rattle.vg_pcap.specs.Frames.{Stream, Fits}
use Rattle.vg_pcap.specs.Arrivals.{Precedes}
use Rattle.vg_pcap.specs.Incoming.{fault_of}
use Rattle.vg_pcap.specs.Reader.{Reader, StillComes, IsReadable, HasReadCause, Starts, number_after, IsReadOrRecord}
use Rattle.vg_pcap.specs.Merge.{Input, InputComes, waiting_at, waiting_count}

-- ---- what stays true

-- a frame that waits can be written, and is the last one of its reader
pub record IsLastFrame (r : Reader) : Type 0 where
  pub fits : Fits r.frame
  pub time : r.frame.time ≡ r.latest

-- the frame of an input that waits is its reader's last one
abbrev pub IsSound : Input → Type 0
IsSound input = input.waits ≡ true → IsLastFrame input.reader

-- no two inputs read the same file
pub record AreApart (inputs : List Input) : Type 0 where
  pub places : (p q : ℕ) (a b : Input) (id : ℕ) → slice_get inputs p ≡ Some a → slice_get inputs q ≡ Some b →
      a.reader.id ≡ Some id → b.reader.id ≡ Some id → p ≡ q

-- no more inputs than files can be open, which read different files, with sound frames
pub record AreInputs (inputs : List Input) : Type 0 where
  pub few : length inputs ≤ 64
  pub apart : AreApart inputs
  pub sound : All IsSound inputs

-- ---- the least of several

-- of the ports below this one at which a frame waits, this is the one whose frame comes first
abbrev pub IsLeastBelow : List Input → ℕ → Option ℕ → Type 0
IsLeastBelow inputs port None = (p : ℕ) (other : Input) → p < port → slice_get inputs p ≡ Some other → other.waits ≡ false
IsLeastBelow inputs port (Some next) =
    (input : Input) × (next < port) × (slice_get inputs next ≡ Some input) × (input.waits ≡ true)
    × ((p : ℕ) (other : Input) → p < port → slice_get inputs p ≡ Some other → other.waits ≡ true → Precedes (waiting_at next input) (waiting_at p other))

-- ---- reading one

-- the next record of an input is refused, or there is a fault at reading
abbrev pub RefusesNext : Reader → Stream → CaptureFault → Type 0
RefusesNext r stream fault =
    (fault ≡ faults.Read)
    ⊎ ((stream.frames ≡ []) × (damage : Damage) × (stream.end ≡ Refused damage) × (fault ≡ fault_of damage (number_after r.count)))

-- the next record of an input was read, or it is refused
pub record Refills (s t : Disk) (old new : Input) (result : Result (Unit {0}) CaptureFault) : Type 0 where
  pub cause : HasReadCause s t result
  pub keeps : ReadKeeps s t
  pub shut_faults : t.shut_faults ≡ s.shut_faults
  pub id : new.reader.id ≡ old.reader.id
  pub readable : IsReadable t new.reader.id
  pub others : (j : ℕ) → Some j ≢ old.reader.id → t.opened j ≡ s.opened j
  pub open_count : t.open_count ≡ s.open_count
  pub sound : IsSound new
  pub comes : (stream : Stream) → StillComes s old.reader stream → OnOk result (InputComes t new stream)
  pub counts : OnOk result (number_after new.reader.count ≡ number_after (old.reader.count + waiting_count new))
  pub later : OnOk result (new.waits ≡ true → old.reader.latest ≤ new.reader.frame.time)
  pub refused : (stream : Stream) → StillComes s old.reader stream → IfErr result (RefusesNext old.reader stream)
  pub fault : IfErr result (λ e. IsReadOrRecord e (number_after old.reader.count))

-- the next record of the input at a port was read, or it is refused
pub record RefillsAt (s t : Disk) (old new : List Input) (port : ℕ) (result : Result (Unit {0}) CaptureFault) : Type 0 where
  pub ports : length new ≡ length old
  pub others : (p : ℕ) → p ≢ port → slice_get new p ≡ slice_get old p
  pub was : Input
  pub was_at : slice_get old port ≡ Some was
  pub now : Input
  pub now_at : slice_get new port ≡ Some now
  pub refills : Refills s t was now result
  pub readable : All (λ i. IsReadable t i.reader.id) new
  pub inputs : AreInputs old

-- ---- opening one

-- the capture of one more port was opened, or it is refused
abbrev pub OpensPort : Disk → Disk → List ℕ → List Input → List Input → Result (Unit {0}) CaptureFault → Type 0
OpensPort s t name old new (Ok done) = (reader : Reader) × (new ≡ old ++ record { reader = reader; waits = false } ∷ []) × Starts s t name (Ok reader)
OpensPort s t name old new (Err fault) = (new ≡ old) × Starts s t name (Err fault)
