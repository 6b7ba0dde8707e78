-- Reading a capture from its front: what private contracts say. No public clause rests on this file.
use Rattle.std.specs.Prelude.{ℕ, ◌≡◌, ◌<◌, ◌≤◌, ◌+◌, ◌*◌, ◌/◌, ◌%◌, ◌^◌, ◌⊎◌, List, [], ◌++◌, take, IsTrue, Option, Some, None, IfSome, Result, IfOk, IfErr}
use Rattle.byteorder.specs.Endian.{little_number, big_number}
use Rattle.vg_pcap.specs.declared.encoding.Order as coded_order
use Rattle.vg_pcap.specs.declared.encoding.Order.TheVariants as orders
use Rattle.vg_pcap.specs.declared.encoding.Resolution as coded_resolution
use Rattle.vg_pcap.specs.declared.encoding.Resolution.TheVariants as resolutions
use Rattle.vg_pcap.specs.declared.encoding.Encoding as coded_encoding
use Rattle.vg_pcap.specs.declared.records.RecordHead as coded_head
use Rattle.vg_base.specs.Files.{Disk}
use Rattle.vg_pcap.specs.declared.faults.CaptureFault.{CaptureFault}
use Rattle.vg_pcap.specs.declared.faults.CaptureFault.TheVariants as faults
use Rattle.vg_pcap.specs.declared.faults.HeaderField.{HeaderField}
use Rattle.vg_pcap.specs.declared.faults.Damage.{Damage}
use Rattle.vg_pcap.specs.declared.faults.Damage.TheVariants.{Cut, Long, Fraction}
use Rattle.vg_pcap.specs.Captures.{Order, Little, Big, Resolution, Microseconds, Nanoseconds, Encoding, HasHeader, IsBadHeader, RecordHead, HasHead}
use Rattle.vg_pcap.specs.Captures.{Record, IsGood, record_bytes, IsDamaged, units_per_second, nanoseconds_per_unit, longest}
use Rattle.vg_pcap.specs.Incoming.{header_fault, fault_of}
use Rattle.vg_pcap.specs.Reader.{IsBefore, HasReadCause}
use Rattle.vg_pcap.specs.Buffered.{Source, Stays}

-- ---- what the code's types stand for

abbrev pub order_view : coded_order.Order → Order
order_view orders.Little = Little
order_view orders.Big = Big

abbrev pub resolution_view : coded_resolution.Resolution → Resolution
resolution_view resolutions.Microseconds = Microseconds
resolution_view resolutions.Nanoseconds = Nanoseconds

abbrev pub encoding_view : coded_encoding.Encoding → Encoding
encoding_view e = record { order = order_view e.order; resolution = resolution_view e.resolution }

abbrev pub head_view : coded_head.RecordHead → RecordHead
head_view h = record { seconds = h.seconds; fraction = h.fraction; size = h.size; original = h.original }

-- ---- numbers and heads

-- the number in the first bytes
abbrev pub number_in : Order → ℕ → List ℕ → ℕ
number_in Little size bytes = little_number size bytes
number_in Big size bytes = big_number size bytes

-- the bytes are the numbers before a record that isn't refused for them
pub record HasGoodHead (encoding : Encoding) (bytes : List ℕ) (h : RecordHead) : Type 0 where
  pub head : HasHead encoding bytes h []
  pub fraction : h.fraction < units_per_second encoding.resolution
  pub size : h.size ≤ longest

-- when a record with these numbers was seen, in nanoseconds
abbrev pub nanoseconds_of : Encoding → RecordHead → ℕ
nanoseconds_of encoding h = h.seconds * 1000000000 + h.fraction * nanoseconds_per_unit encoding.resolution

-- the bytes begin with this good record, and others stand after it
pub record HasRecord (encoding : Encoding) (bytes : List ℕ) (r : Record) (behind : List ℕ) : Type 0 where
  pub good : IsGood encoding r
  pub whole : bytes ≡ record_bytes encoding r ++ behind

-- the record of a head and of the bytes after it
abbrev pub record_of_head : RecordHead → List ℕ → Record
record_of_head h bytes = record { seconds = h.seconds; fraction = h.fraction; original = h.original; captured = take h.size bytes }

-- ---- what a reader's steps do

-- the header was taken from the front, or it is refused
pub record TakesHeader (s t : Disk) (old new : Source) (result : Result coded_encoding.Encoding CaptureFault) : Type 0 where
  pub cause : HasReadCause s t result
  pub stays : Stays s t old new
  pub good : IfOk result (λ e. IsTrue s.tells_held → (file : List ℕ) → IsBefore s old.id old.ahead file →
      (behind : List ℕ) × HasHeader (encoding_view e) file behind × IsBefore t new.id new.ahead behind)
  pub refused : IfErr result (λ fault. (fault ≡ faults.Read) ⊎ ((field : HeaderField) × (fault ≡ header_fault field)
      × (IsTrue s.tells_held → (file : List ℕ) → IsBefore s old.id old.ahead file → IsBadHeader file field)))

-- the bytes are at their end, or they begin with a record of this head, whose captured bytes stand in the frame
abbrev pub Begins : Disk → Source → Encoding → List ℕ → List ℕ → Option coded_head.RecordHead → Type 0
Begins t new encoding bytes frame None = (bytes ≡ []) × IsBefore t new.id new.ahead []
Begins t new encoding bytes frame (Some h) =
    (behind : List ℕ) × HasRecord encoding bytes (record_of_head (head_view h) frame) behind × IsBefore t new.id new.ahead behind

-- the numbers of a record that isn't refused
pub record IsGoodHead (encoding : Encoding) (h : coded_head.RecordHead) : Type 0 where
  pub seconds : h.seconds < 2 ^ 32
  pub fraction : h.fraction < units_per_second encoding.resolution
  pub size : h.size ≤ longest
  pub original : h.original < 2 ^ 32

-- the next record, of this number, was taken from the front, or there is none, or it is refused
pub record TakesRecord (s t : Disk) (old new : Source) (encoding : Encoding) (frame : List ℕ) (number : ℕ)
    (result : Result (Option coded_head.RecordHead) CaptureFault) : Type 0 where
  pub cause : HasReadCause s t result
  pub stays : Stays s t old new
  pub good : IfOk result (λ found. IfSome found (IsGoodHead encoding))
  pub begins : IfOk result (λ found. IsTrue s.tells_held → (bytes : List ℕ) → IsBefore s old.id old.ahead bytes → Begins t new encoding bytes frame found)
  pub refused : IfErr result (λ fault. (fault ≡ faults.Read) ⊎ ((damage : Damage) × (fault ≡ fault_of damage number)
      × (IsTrue s.tells_held → (bytes : List ℕ) → IsBefore s old.id old.ahead bytes → IsDamaged encoding bytes damage)))

-- ---- what a writer puts down

-- the numbers before a frame of this time, original length and size
abbrev pub written_head : ℕ → ℕ → ℕ → RecordHead
written_head time original size = record { seconds = time / 1000000000; fraction = time % 1000000000; size = size; original = original }
