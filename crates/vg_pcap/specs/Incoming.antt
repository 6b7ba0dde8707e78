-- What comes in at each port of a run, and why it can't be read.
use Rattle.std.specs.Prelude.{ℕ, ◌<◌, ◌≡◌, ◌≢◌, ◌⊎◌, List, length, codes, Some, slice_get}
use Rattle.vg_base.specs.Files.{Disk}
use Rattle.vg_pcap.specs.declared.faults.CaptureFault.{CaptureFault}
use Rattle.vg_pcap.specs.declared.faults.CaptureFault.TheVariants as faults
use Rattle.vg_pcap.specs.declared.faults.CaptureRefusal.TheVariants.{Header, Record}
use Rattle.vg_pcap.specs.declared.faults.Damage.{Damage}
use Rattle.vg_pcap.specs.declared.faults.HeaderField.{HeaderField}
use Rattle.vg_pcap.specs.Captures.{IsBadHeader}
use Rattle.vg_pcap.specs.Frames.{Stream, HoldsStream}
use Rattle.vg_pcap.specs.Arrivals.{no_frames, stream_at}

-- what comes in under a name: no frames under `-`, and else the stream of the capture of that name
abbrev pub ComesIn : Disk → List ℕ → Stream → Type 0
ComesIn s name stream =
    ((name ≡ codes "-") × (stream ≡ no_frames)) ⊎ ((name ≢ codes "-") × (file : List ℕ) × (s.held name ≡ Some file) × HoldsStream file stream)

-- a file is there, and has no header that can be read
abbrev pub HasBadHeader : Disk → List ℕ → HeaderField → Type 0
HasBadHeader s name field = (name ≢ codes "-") × (file : List ℕ) × (s.held name ≡ Some file) × IsBadHeader file field

-- under each name its port's stream comes in
pub record AllComeIn (s : Disk) (names : List (List ℕ)) (streams : List Stream) : Type 0 where
  pub ports : length names ≡ length streams
  pub each : (port : ℕ) (name : List ℕ) → slice_get names port ≡ Some name → ComesIn s name (stream_at streams port)

-- the file of a port has no header that can be read, and it is the first such port
pub record IsFirstBadHeader (s : Disk) (names : List (List ℕ)) (port : ℕ) (field : HeaderField) : Type 0 where
  pub name : List ℕ
  pub at : slice_get names port ≡ Some name
  pub bad : HasBadHeader s name field
  pub first : (before : ℕ) (other : List ℕ) → before < port → slice_get names before ≡ Some other → (stream : Stream) × ComesIn s other stream

-- the fault where a header is refused
abbrev pub header_fault : HeaderField → CaptureFault
header_fault field = faults.Refused (Header field)

-- the fault where the record of this number is refused
abbrev pub fault_of : Damage → ℕ → CaptureFault
fault_of why number = faults.Refused (Record number why)
