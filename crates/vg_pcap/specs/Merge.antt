-- What is seen of captures that are merged into one order of frames, and what the calls on them do.
use Rattle.std.specs.Prelude.{ℕ, ◌+◌, ◌<◌, ◌≤◌, ◌≡◌, ◌≢◌, ◌⊎◌, List, [], ◌∷◌, ◌++◌, length, Bool, true, false, IsTrue, Some, Result, IfOk, IfErr}
use Rattle.std.specs.Prelude.{OnOk, OnErr, All, if◌then◌else◌, filter_map, slice_get}
use Rattle.vg_base.specs.Files.{Disk, Reads, Rose, Counts, ReadKeeps, SameIds}
use Rattle.vg_base.specs.declared.faults.Failed.{Failed}
use Rattle.vg_base.specs.Several.{DiffersBy, OpensThese}
use Rattle.vg_pcap.specs.declared.faults.CaptureFault.{CaptureFault}
use Rattle.vg_pcap.specs.declared.faults.CaptureFault.TheVariants as faults
use Rattle.vg_pcap.specs.declared.faults.HeaderField.{HeaderField}
use Rattle.vg_pcap.specs.declared.merge.MergeFault.{MergeFault}
use Rattle.vg_pcap.specs.declared.faults.Damage.{Damage}
use Rattle.vg_pcap.specs.Captures.{Whole}
use Rattle.vg_pcap.specs.Frames.{Framed, Stream}
use Rattle.vg_pcap.specs.Arrivals.{Arrival, stream_at, frames_from, Precedes, ComeFirst, ComeUpTo}
use Rattle.vg_pcap.specs.Incoming.{AllComeIn, IsFirstBadHeader, header_fault, fault_of}
use Rattle.vg_pcap.specs.Reader.{Reader, StillComes, IsReadable, number_after}

-- what is seen of a port's input: its reader, and whether the reader's frame waits to be handled
pub record Input : Type 0 where
  pub reader : Reader
  pub waits : Bool

-- the ids of the inputs that read a file
abbrev pub ids_of : List Input → List ℕ
ids_of inputs = filter_map (λ i. i.reader.id) inputs

-- the files of all inputs are open
abbrev pub AreReadable : Disk → List Input → Type 0
AreReadable s inputs = All (λ i. IsReadable s i.reader.id) inputs

-- the frame that waits at a port
abbrev pub waiting_at : ℕ → Input → Arrival
waiting_at port input = record { port = port; frame = input.reader.frame }

-- this frame waits, and no other that waits comes before it
pub record IsNext (inputs : List Input) (a : Arrival) : Type 0 where
  pub input : Input
  pub at : slice_get inputs a.port ≡ Some input
  pub waits : input.waits ≡ true
  pub frame : a.frame ≡ input.reader.frame
  pub least : (port : ℕ) (other : Input) → slice_get inputs port ≡ Some other → other.waits ≡ true → Precedes a (waiting_at port other)

-- the frame that waits at this port is next
abbrev pub IsNextAt : List Input → ℕ → Type 0
IsNextAt inputs port = (frame : Framed) × IsNext inputs (record { port = port; frame = frame })

-- no frame that waits is earlier than this time
abbrev pub NoneEarlier : ℕ → List Input → Type 0
NoneEarlier time inputs = All (λ input. input.waits ≡ true → time ≤ input.reader.frame.time) inputs

-- ---- what is still to come

-- this stream is still to come at a port: the frame that waits, and then the reader's; where none waits, all have come
pub record InputComes (s : Disk) (input : Input) (stream : Stream) : Type 0 where
  pub waiting : input.waits ≡ true →
      (rest : List Framed) × (stream.frames ≡ input.reader.frame ∷ rest) × StillComes s input.reader (record { frames = rest; end = stream.end })
  pub ended : input.waits ≡ false → (stream.frames ≡ []) × (stream.end ≡ Whole)

-- how many frames of an input wait
abbrev pub waiting_count : Input → ℕ
waiting_count input = if input.waits then 1 else 0

-- Of these streams these frames have come, in order, and the rest is still to come.
pub record Comes (s : Disk) (inputs : List Input) (streams : List Stream) (past : List Arrival) : Type 0 where
  pub left : List Stream
  pub first : ComeFirst streams past left
  pub ports : length inputs ≡ length streams
  pub still : (port : ℕ) (input : Input) → slice_get inputs port ≡ Some input → InputComes s input (stream_at left port)
  pub counts : (port : ℕ) (input : Input) → slice_get inputs port ≡ Some input →
      number_after input.reader.count ≡ number_after (length (frames_from port past) + waiting_count input)

-- No record was read so far, and these streams are to come.
pub record AreToCome (s : Disk) (inputs : List Input) (streams : List Stream) : Type 0 where
  pub ports : length inputs ≡ length streams
  pub still : (port : ℕ) (input : Input) → slice_get inputs port ≡ Some input → StillComes s input.reader (stream_at streams port)
  pub none : All (λ input. (input.waits ≡ false) × (input.reader.count ≡ 0)) inputs

-- ---- the calls

-- `Read` is answered only where the count of faults at reading rose, and the count changes only then
pub record HasMergeCause {A : Type 0} (s t : Disk) (result : Result A MergeFault) : Type 0 where
  pub fault : IfErr result (λ e. e.fault ≡ faults.Read → Rose s.read_faults t.read_faults)
  pub same : OnOk result (t.read_faults ≡ s.read_faults)
  pub same_else : IfErr result (λ e. (e.fault ≡ faults.Read → ⊥) → t.read_faults ≡ s.read_faults)
  pub rises : s.read_faults ≤ t.read_faults

-- why no captures were opened
abbrev pub RefusesStart : Disk → List (List ℕ) → MergeFault → Type 0
RefusesStart s names e =
    (e.fault ≡ faults.Read) ⊎ ((e.fault ≡ faults.Memory)
    ⊎ ((field : HeaderField) × (e.fault ≡ header_fault field) × (IsTrue s.tells_held → IsFirstBadHeader s names e.port field)))

-- the captures of these names were opened and their headers read, or one is refused
pub record StartsMerge (s t : Disk) (names : List (List ℕ)) (result : Result (List Input) MergeFault) : Type 0 where
  pub cause : HasMergeCause s t result
  pub keeps : ReadKeeps s t
  pub shut_faults : s.shut_faults ≤ t.shut_faults
  pub shut_same : OnOk result (t.shut_faults ≡ s.shut_faults)
  pub ports : IfOk result (λ inputs. length inputs ≡ length names)
  pub opens : IfOk result (λ inputs. OpensThese s t Reads (ids_of inputs))
  pub readable : IfOk result (AreReadable t)
  pub comes : IsTrue s.tells_held → IfOk result (λ inputs. (streams : List Stream) × AllComeIn s names streams × AreToCome t inputs streams)
  -- a refusal leaves nothing open
  pub closed : OnErr result (SameIds s t)
  pub refused : IfErr result (RefusesStart s names)
  pub port : IfErr result (λ e. e.port < length names)

-- records of the inputs were read, or one is refused
pub record ReadsInputs (s t : Disk) (old new : List Input) (result : Result (Unit {0}) MergeFault) : Type 0 where
  pub cause : HasMergeCause s t result
  pub keeps : ReadKeeps s t
  pub shut_faults : t.shut_faults ≡ s.shut_faults
  pub ids : ids_of new ≡ ids_of old
  pub readable : AreReadable t new
  pub others : (id : ℕ) → All (λ other. id ≢ other) (ids_of old) → t.opened id ≡ s.opened id
  pub open_count : t.open_count ≡ s.open_count
  pub ports : length new ≡ length old

-- the next record of a port is refused, after these frames, or there is a fault at reading
abbrev pub RefusesRecord : List Stream → List Arrival → MergeFault → Type 0
RefusesRecord streams past e =
    (e.fault ≡ faults.Read)
    ⊎ ((damage : Damage) × (e.fault ≡ fault_of damage (number_after (length (stream_at streams e.port).frames))) × ComeUpTo streams past e.port damage)

-- a fault is one at reading, or of some record
abbrev pub IsReadOrSomeRecord : CaptureFault → Type 0
IsReadOrSomeRecord fault = (fault ≡ faults.Read) ⊎ ((damage : Damage) × (number : ℕ) × (fault ≡ fault_of damage number))

-- the first record of each input was read, or one is refused
pub record Fills (s t : Disk) (old new : List Input) (result : Result (Unit {0}) MergeFault) : Type 0 where
  pub reads : ReadsInputs s t old new result
  pub comes : (streams : List Stream) → AreToCome s old streams → OnOk result (Comes t new streams [])
  pub refused : (streams : List Stream) → AreToCome s old streams → IfErr result (RefusesRecord streams [])
  pub fault : IfErr result (λ e. IsReadOrSomeRecord e.fault)
  pub port : IfErr result (λ e. e.port < length old)

-- the inputs are as they were when the next frame came, but for the bytes of that frame
pub record IsChanged (came now : List Input) (a : Arrival) : Type 0 where
  pub next : IsNext came a
  pub ports : length now ≡ length came
  pub others : (port : ℕ) → port ≢ a.port → slice_get now port ≡ slice_get came port
  pub bytes : (input : Input) → slice_get came a.port ≡ Some input → (changed : List ℕ) × (length changed ≡ length a.frame.bytes)
      × (slice_get now a.port ≡ Some (record input { reader = record input.reader { frame = record a.frame { bytes = changed } } }))

-- the record after the next frame was read, or it is refused
pub record Advances (s t : Disk) (old new : List Input) (result : Result (Unit {0}) MergeFault) : Type 0 where
  pub reads : ReadsInputs s t old new result
  pub comes : (came : List Input) (streams : List Stream) (past : List Arrival) (a : Arrival) → IsChanged came old a → Comes s came streams past →
      OnOk result (Comes t new streams (past ++ a ∷ []))
  pub refused : (came : List Input) (streams : List Stream) (past : List Arrival) (a : Arrival) → IsChanged came old a → Comes s came streams past →
      IfErr result (RefusesRecord streams (past ++ a ∷ []))
  pub fault : IfErr result (λ e. IsReadOrSomeRecord e.fault)
  pub port : (a : Arrival) → IsNext old a → IfErr result (λ e. e.port ≡ a.port)
  -- the times of a port never fall
  pub later : (time : ℕ) → NoneEarlier time old → OnOk result (NoneEarlier time new)

-- every input was closed; a fault in that is counted, and the others are closed nevertheless
pub record ClosesInputs (s t : Disk) (inputs : List Input) (result : Result (Unit {0}) Failed) : Type 0 where
  pub faults : Counts s.shut_faults t.shut_faults result
  pub read_faults : t.read_faults ≡ s.read_faults
  pub keeps : ReadKeeps s t
  pub closes : DiffersBy t s (ids_of inputs)
