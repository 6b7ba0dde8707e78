-- The bytes of a capture: the file format pcap, version 2.4, as libpcap's manual page pcap-savefile(5) has it.
use Rattle.std.specs.Prelude.{ℕ, ◌≡◌, ◌≢◌, ◌<◌, ◌≤◌, ◌^◌, ◌++◌, ◌⊎◌, List, [], length, take, drop, All}
use Rattle.std.specs.List.{flat_map}
use Rattle.byteorder.specs.Endian.{little_bytes, big_bytes}
use Rattle.vg_pcap.specs.declared.faults.Damage.{Damage}
use Rattle.vg_pcap.specs.declared.faults.Damage.TheVariants.{Cut, Long, Fraction}
use Rattle.vg_pcap.specs.declared.faults.HeaderField.{HeaderField}
use Rattle.vg_pcap.specs.declared.faults.HeaderField.TheVariants.{Length, Magic, Version, Link}

-- which byte of a number stands first: the least or the greatest
pub data Order : Type 0 where
  Little : Order
  Big : Order

-- what the fraction of a second is counted in
pub data Resolution : Type 0 where
  Microseconds : Resolution
  Nanoseconds : Resolution

-- how a writer puts down numbers and times: the byte order and the resolution
pub record Encoding : Type 0 where
  pub order : Order
  pub resolution : Resolution

-- a number of this many bytes
abbrev pub number_bytes : Order → ℕ → ℕ → List ℕ
number_bytes Little size number = little_bytes size number
number_bytes Big size number = big_bytes size number

-- the number that a capture begins with, by which its encoding is told
abbrev pub magic : Resolution → ℕ
magic Microseconds = 0xa1b2_c3d4
magic Nanoseconds = 0xa1b2_3c4d

-- how many units a second has
abbrev pub units_per_second : Resolution → ℕ
units_per_second Microseconds = 1000000
units_per_second Nanoseconds = 1000000000

-- how many nanoseconds a unit has
abbrev pub nanoseconds_per_unit : Resolution → ℕ
nanoseconds_per_unit Microseconds = 1000
nanoseconds_per_unit Nanoseconds = 1

-- ---- headers

-- what a capture begins with: the magic
abbrev pub magic_bytes : Encoding → List ℕ
magic_bytes encoding = number_bytes encoding.order 4 (magic encoding.resolution)

-- version 2.4
abbrev pub version_bytes : Encoding → List ℕ
version_bytes encoding = number_bytes encoding.order 2 2 ++ number_bytes encoding.order 2 4

-- the link type of Ethernet
abbrev pub link_bytes : Encoding → List ℕ
link_bytes encoding = number_bytes encoding.order 4 1

-- the bytes of a header: the magic, version 2.4, then zone, accuracy and snap length, which a reader ignores, and the link type of Ethernet
unfoldable pub header_bytes : Encoding → List ℕ → List ℕ
header_bytes encoding ignored = magic_bytes encoding ++ version_bytes encoding ++ ignored ++ link_bytes encoding

-- the file begins with a header, and these bytes stand after it
pub record HasHeader (encoding : Encoding) (file behind : List ℕ) : Type 0 where
  pub ignored : List ℕ
  pub ignored_size : length ignored ≡ 12
  pub whole : file ≡ header_bytes encoding ignored ++ behind

-- the file begins with the magic of an encoding, and has a header's 24 bytes
pub record HasMagic (encoding : Encoding) (file : List ℕ) : Type 0 where
  pub long : 24 ≤ length file
  pub magic : take 4 file ≡ magic_bytes encoding

-- why a file begins with no header; of several reasons the first in this order
abbrev pub IsBadHeader : List ℕ → HeaderField → Type 0
IsBadHeader file Length = length file < 24
IsBadHeader file Magic = (24 ≤ length file) × ((encoding : Encoding) → take 4 file ≢ magic_bytes encoding)
IsBadHeader file Version = (encoding : Encoding) × HasMagic encoding file × (take 4 (drop 4 file) ≢ version_bytes encoding)
IsBadHeader file Link =
    (encoding : Encoding) × HasMagic encoding file × (take 4 (drop 4 file) ≡ version_bytes encoding) × (take 4 (drop 20 file) ≢ link_bytes encoding)

-- ---- records

-- a packet as a capture keeps it: when it was seen, how long it was then, and the bytes of it that were captured
pub record Record : Type 0 where
  pub seconds : ℕ
  pub fraction : ℕ
  pub original : ℕ
  pub captured : List ℕ

-- the numbers that stand before the captured bytes
pub record RecordHead : Type 0 where
  pub seconds : ℕ
  pub fraction : ℕ
  pub size : ℕ
  pub original : ℕ

-- those of a record
abbrev pub head_of : Record → RecordHead
head_of r = record { seconds = r.seconds; fraction = r.fraction; size = length r.captured; original = r.original }

-- the most bytes of a packet that are taken; libpcap's own largest snapshot length
abbrev pub longest : ℕ
longest = 262144

-- the fraction is less than a second, not too much was captured, and the numbers have 32 bits
pub record IsGood (encoding : Encoding) (r : Record) : Type 0 where
  pub seconds : r.seconds < 2 ^ 32
  pub fraction : r.fraction < units_per_second encoding.resolution
  pub original : r.original < 2 ^ 32
  pub captured : length r.captured ≤ longest

-- a record begins with four numbers of 32 bits
unfoldable pub head_bytes : Encoding → RecordHead → List ℕ
head_bytes encoding h =
    number_bytes encoding.order 4 h.seconds ++ number_bytes encoding.order 4 h.fraction
    ++ number_bytes encoding.order 4 h.size ++ number_bytes encoding.order 4 h.original

-- a record's bytes
abbrev pub record_bytes : Encoding → Record → List ℕ
record_bytes encoding r = head_bytes encoding (head_of r) ++ r.captured

-- the bytes begin with these numbers, and others stand after them
pub record HasHead (encoding : Encoding) (bytes : List ℕ) (h : RecordHead) (behind : List ℕ) : Type 0 where
  pub seconds : h.seconds < 2 ^ 32
  pub fraction : h.fraction < 2 ^ 32
  pub size : h.size < 2 ^ 32
  pub original : h.original < 2 ^ 32
  pub whole : bytes ≡ head_bytes encoding h ++ behind

-- ---- damage

-- A record begins with these bytes, of which there are some, and is refused. The fraction is looked at first, then how much was captured, and
-- then whether that is there.
abbrev pub IsDamaged : Encoding → List ℕ → Damage → Type 0
IsDamaged encoding bytes Fraction =
    (h : RecordHead) × (behind : List ℕ) × HasHead encoding bytes h behind × (units_per_second encoding.resolution ≤ h.fraction)
IsDamaged encoding bytes Long =
    (h : RecordHead) × (behind : List ℕ) × HasHead encoding bytes h behind × (h.fraction < units_per_second encoding.resolution) × (longest < h.size)
IsDamaged encoding bytes Cut =
    ((bytes ≢ []) × (length bytes < 16))
    ⊎ ((h : RecordHead) × (behind : List ℕ) × HasHead encoding bytes h behind × (h.fraction < units_per_second encoding.resolution) × (h.size ≤ longest)
    × (length behind < h.size))

-- ---- whole files

-- how a capture ends: where its file does, or at a record that is refused
pub data CaptureEnd : Type 0 where
  Whole : CaptureEnd
  Refused : Damage → CaptureEnd

-- what stands after the good records
abbrev pub EndsWith : Encoding → List ℕ → CaptureEnd → Type 0
EndsWith encoding rest Whole = rest ≡ []
EndsWith encoding rest (Refused damage) = IsDamaged encoding rest damage

-- the bytes are these good records, one after another, up to such an end
pub record AreRecords (encoding : Encoding) (bytes : List ℕ) (records : List Record) (end : CaptureEnd) : Type 0 where
  pub good : All (IsGood encoding) records
  pub rest : List ℕ
  pub whole : bytes ≡ flat_map (record_bytes encoding) records ++ rest
  pub ends : EndsWith encoding rest end

-- the file is a capture with these records: a header, and then the records up to such an end
pub record HoldsRecords (encoding : Encoding) (file : List ℕ) (records : List Record) (end : CaptureEnd) : Type 0 where
  pub behind : List ℕ
  pub header : HasHeader encoding file behind
  pub records_are : AreRecords encoding behind records end
