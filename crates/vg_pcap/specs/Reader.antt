-- What is seen of a reader of a capture, and what its calls do.
use Rattle.std.specs.Prelude.{ℕ, ◌+◌, ◌-◌, ◌≤◌, ◌^◌, min, ◌≡◌, ◌≢◌, ◌⊎◌, List, [], ◌∷◌, ◌++◌, length, drop, codes, Bool, true, false, IsTrue, Option}
use Rattle.std.specs.Prelude.{Some, None, Result, Ok, Err, IfOk, IfErr, OnOk, OnErr, IsErrOf}
use Rattle.vg_base.specs.Files.{Disk, Reads, reading, IsOpen, Rose, Counts, ReadKeeps, SameIds, OpensOne, ClosesOne}
use Rattle.vg_base.specs.declared.faults.Failed.{Failed}
use Rattle.vg_pcap.specs.declared.faults.CaptureFault.{CaptureFault}
use Rattle.vg_pcap.specs.declared.faults.CaptureFault.TheVariants as faults
use Rattle.vg_pcap.specs.declared.faults.HeaderField.{HeaderField}
use Rattle.vg_pcap.specs.declared.faults.Damage.{Damage}
use Rattle.vg_pcap.specs.Captures.{Encoding, Record, AreRecords, Whole, Refused}
use Rattle.vg_pcap.specs.Frames.{Framed, Stream, frames_after, Fits}
use Rattle.vg_pcap.specs.Incoming.{ComesIn, HasBadHeader, header_fault, fault_of}

-- what is seen of a reader: its open id, where it reads a file; the bytes that it has read ahead of what it has given; how the file's numbers
-- are written; the latest time of a record so far, and how many records there were; and the last frame
pub record Reader : Type 0 where
  pub id : Option ℕ
  pub ahead : List ℕ
  pub encoding : Encoding
  pub latest : ℕ
  pub count : ℕ
  pub frame : Framed

-- ---- what a reader has before it

-- the bytes that a reader has before it: those that it has read ahead, and the rest of its file; none for an empty stream
abbrev pub IsBefore : Disk → Option ℕ → List ℕ → List ℕ → Type 0
IsBefore s None ahead bytes = bytes ≡ []
IsBefore s (Some id) ahead bytes =
    (name : List ℕ) × (place : ℕ) × (file : List ℕ) × (s.opened id ≡ reading name place) × (s.held name ≡ Some file) × (place ≤ length file)
    × (bytes ≡ ahead ++ drop place file)

-- what can be read is told, and this stream is still to come from a reader
pub record StillComes (s : Disk) (r : Reader) (stream : Stream) : Type 0 where
  pub told : IsTrue s.tells_held
  pub bytes : List ℕ
  pub before : IsBefore s r.id r.ahead bytes
  pub records : List Record
  pub are : AreRecords r.encoding bytes records stream.end
  pub frames : stream.frames ≡ frames_after r.encoding r.latest records

-- the file of a reader is open, where it has one
abbrev pub IsReadable : Disk → Option ℕ → Type 0
IsReadable s None = Unit {0}
IsReadable s (Some id) = IsOpen Reads (s.opened id)

-- ---- faults

-- `Read` is answered only where the count of faults at reading rose, and the count changes only then
pub record HasReadCause {A : Type 0} (s t : Disk) (result : Result A CaptureFault) : Type 0 where
  pub fault : IsErrOf result faults.Read → Rose s.read_faults t.read_faults
  pub same : OnOk result (t.read_faults ≡ s.read_faults)
  pub same_else : IfErr result (λ e. e ≢ faults.Read → t.read_faults ≡ s.read_faults)
  pub rises : s.read_faults ≤ t.read_faults

-- the number of the record after so many; it doesn't pass the greatest of its type
abbrev pub number_after : ℕ → ℕ
number_after count = min (count + 1) (2 ^ 64 - 1)

-- a fault is one at reading, or of the record of this number
abbrev pub IsReadOrRecord : CaptureFault → ℕ → Type 0
IsReadOrRecord fault number = (fault ≡ faults.Read) ⊎ ((damage : Damage) × (fault ≡ fault_of damage number))

-- ---- the calls

-- a capture was opened and its header read, or it is refused
pub record Starts (s t : Disk) (name : List ℕ) (result : Result Reader CaptureFault) : Type 0 where
  pub cause : HasReadCause s t result
  pub keeps : ReadKeeps s t
  pub shut_faults : s.shut_faults ≤ t.shut_faults
  pub shut_same : OnOk result (t.shut_faults ≡ s.shut_faults)
  -- `-` opens nothing
  pub empty : name ≡ codes "-" → IfOk result (λ r. (r.id ≡ None) × SameIds s t)
  pub empty_refused : name ≡ codes "-" → IfErr result (λ e. e ≡ faults.Memory)
  pub file : name ≢ codes "-" → IfOk result (λ r. (id : ℕ) × (r.id ≡ Some id) × OpensOne s t Reads id)
  pub readable : IfOk result (λ r. IsReadable t r.id)
  pub fresh : IfOk result (λ r. r.count ≡ 0)
  pub comes : IsTrue s.tells_held → IfOk result (λ r. (stream : Stream) × ComesIn s name stream × StillComes t r stream)
  -- a refusal leaves nothing open
  pub closed : OnErr result (SameIds s t)
  pub refused : IfErr result (λ e. (e ≡ faults.Read) ⊎ ((e ≡ faults.Memory)
      ⊎ ((field : HeaderField) × (e ≡ header_fault field) × (IsTrue s.tells_held → HasBadHeader s name field))))

-- the next frame of a stream is there, or the stream has ended, or its next record is refused
abbrev pub IsNextOf : Disk → Reader → Reader → Stream → Result Bool CaptureFault → Type 0
IsNextOf t old new stream (Ok true) =
    (rest : List Framed) × (stream.frames ≡ new.frame ∷ rest) × StillComes t new (record { frames = rest; end = stream.end })
IsNextOf t old new stream (Ok false) = (stream.frames ≡ []) × (stream.end ≡ Whole) × StillComes t new stream
IsNextOf t old new stream (Err fault) =
    (fault ≡ faults.Read) ⊎ ((stream.frames ≡ []) × (damage : Damage) × (stream.end ≡ Refused damage) × (fault ≡ fault_of damage (number_after old.count)))

-- the next record was read, or there is none, or it is refused
pub record ReadsRecord (s t : Disk) (old new : Reader) (result : Result Bool CaptureFault) : Type 0 where
  pub cause : HasReadCause s t result
  pub keeps : ReadKeeps s t
  pub shut_faults : t.shut_faults ≡ s.shut_faults
  pub id : new.id ≡ old.id
  pub readable : IsReadable t new.id
  pub others : (j : ℕ) → Some j ≢ old.id → t.opened j ≡ s.opened j
  pub open_count : t.open_count ≡ s.open_count
  pub next : (stream : Stream) → StillComes s old stream → IsNextOf t old new stream result
  -- a frame was read: it can be written, and comes no earlier than the last one
  pub frame : result ≡ Ok true → Fits new.frame × (old.latest ≤ new.latest) × (new.frame.time ≡ new.latest) × (new.count ≡ number_after old.count)
  pub count : result ≡ Ok false → new.count ≡ old.count
  pub fault : IfErr result (λ e. IsReadOrRecord e (number_after old.count))

-- a file was closed, where there was one; a fault in that is counted, and the file is closed nevertheless
pub record Shuts (s t : Disk) (id : Option ℕ) (result : Result (Unit {0}) Failed) : Type 0 where
  pub faults : Counts s.shut_faults t.shut_faults result
  pub read_faults : t.read_faults ≡ s.read_faults
  pub keeps : ReadKeeps s t
  pub none : id ≡ None → SameIds s t
  pub one : (j : ℕ) → id ≡ Some j → ClosesOne s t j
