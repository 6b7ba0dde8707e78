-- The frames of a capture, and the capture that is written of frames.
use Rattle.std.specs.Prelude.{ℕ, ◌≡◌, ◌<◌, ◌≤◌, ◌+◌, ◌*◌, ◌/◌, ◌%◌, ◌^◌, ◌++◌, max, List, [], ◌∷◌, length}
use Rattle.std.specs.List.{flat_map}
use Rattle.vg_pcap.specs.Captures.{Encoding, Little, Nanoseconds, number_bytes, nanoseconds_per_unit, Record, record_bytes, header_bytes, longest}
use Rattle.vg_pcap.specs.Captures.{CaptureEnd, HoldsRecords}

-- a frame as contracts see it: when it came, in nanoseconds, how long it was before it was cut, and its bytes
pub record Framed : Type 0 where
  pub time : ℕ
  pub original : ℕ
  pub bytes : List ℕ

-- when a record was seen, in nanoseconds
abbrev pub time_of : Encoding → Record → ℕ
time_of encoding r = r.seconds * 1000000000 + r.fraction * nanoseconds_per_unit encoding.resolution

-- the frame of a record, which comes no earlier than those before it
abbrev pub frame_of : Encoding → ℕ → Record → Framed
frame_of encoding latest r = record { time = max latest (time_of encoding r); original = r.original; bytes = r.captured }

-- the frames of records that stand after others: a frame's time is the latest time of a record so far, since the format
-- doesn't promise that times rise
abbrev pub frames_after : Encoding → ℕ → List Record → List Framed
frames_after encoding latest [] = []
frames_after encoding latest (r ∷ records) =
    frame_of encoding latest r ∷ frames_after encoding (max latest (time_of encoding r)) records

-- the frames that come in one after another, and how that ends
pub record Stream : Type 0 where
  pub frames : List Framed
  pub end : CaptureEnd

-- the file is a capture of this encoding, and this is its stream
pub record HoldsStreamAs (encoding : Encoding) (file : List ℕ) (stream : Stream) : Type 0 where
  pub records : List Record
  pub held : HoldsRecords encoding file records stream.end
  pub are : stream.frames ≡ frames_after encoding 0 records

-- the file is a capture, and this is its stream
abbrev pub HoldsStream : List ℕ → Stream → Type 0
HoldsStream file stream = (encoding : Encoding) × HoldsStreamAs encoding file stream

-- a frame that can be written
pub record Fits (f : Framed) : Type 0 where
  pub early : f.time < 2 ^ 32 * 1000000000
  pub original : f.original < 2 ^ 32
  pub short : length f.bytes ≤ longest

-- the encoding that is written: little-endian, times in nanoseconds
abbrev pub written_encoding : Encoding
written_encoding = record { order = Little; resolution = Nanoseconds }

-- the header that is written: zone 0, accuracy 0, and the longest that is captured as the snap length
abbrev pub header : List ℕ
header = header_bytes written_encoding (number_bytes Little 4 0 ++ number_bytes Little 4 0 ++ number_bytes Little 4 longest)

-- the record that is written for a frame
abbrev pub written_record : Framed → Record
written_record f = record {
  seconds = f.time / 1000000000;
  fraction = f.time % 1000000000;
  original = f.original;
  captured = f.bytes;
}

-- a frame as it is written
abbrev pub record_of : Framed → List ℕ
record_of f = record_bytes written_encoding (written_record f)

-- the capture that is written for frames
abbrev pub capture_of : List Framed → List ℕ
capture_of frames = header ++ flat_map record_of frames
