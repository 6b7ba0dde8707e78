-- What is left where the bytes of a frame are changed in place. The lending form needs a function; `IsWritten` says what it means, and is what to believe.
use Rattle.std.specs.Prelude.{ℕ, ◌+◌, nat_lt, if◌then◌else◌, List, [], ◌∷◌, ◌++◌, length, take, drop, slice_set, Option, Some, None}
use Rattle.std.specs.Borrow.{Lends, MutBor, Fml, Array, u8}
use Rattle.vg_pcap.specs.Arrivals.{Arrival}
use Rattle.vg_pcap.specs.Reader.{Reader}
use Rattle.vg_pcap.specs.Merge.{Input, IsNext, IsChanged}
use Rattle.vg_pcap.specs.contracts.reader.CaptureReader.{the_row as reader_row}
use Rattle.vg_pcap.specs.contracts.merge.PortInput.{the_row as input_row}
use Rattle.vg_pcap.specs.contracts.merge.Merge.{the_row as merge_row}

-- these bytes written over old ones, from the first on, as far as the old ones go. (A slice keeps its length, so they go just as far.)
abbrev pub over : List ℕ → List ℕ → List ℕ
over old bytes = take (length old) (bytes ++ drop (length bytes) old)

-- the same reader, but that these bytes are written over those of its last frame
abbrev pub over_frame : Reader → List ℕ → Reader
over_frame r bytes = record r { frame = record r.frame { bytes = over r.frame.bytes bytes } }

-- the same input, but that these bytes are written over those of its reader's last frame
abbrev pub over_input : Input → List ℕ → Input
over_input input bytes = record input { reader = over_frame input.reader bytes }

-- the reader ends with the bytes last written through r as those of its last frame, and nothing else has changed
abbrev pub LendsFrame : MutBor Reader → MutBor (List ℕ) → Fml
LendsFrame reader r = Lends reader_row (Array u8 0) reader r (over_frame reader.now)

-- the same of a port's input
abbrev pub LendsInput : MutBor Input → MutBor (List ℕ) → Fml
LendsInput input r = Lends input_row (Array u8 0) input r (over_input input.now)

-- a port at which a frame waits, and the input there
pub record Waiting : Type 0 where
  pub port : ℕ
  pub input : Input

-- of two frames that wait, the one of the higher port only where it is earlier
abbrev pub first_of : Waiting → Option Waiting → Waiting
first_of low None = low
first_of low (Some high) = if nat_lt high.input.reader.frame.time low.input.reader.frame.time then high else low

-- where the frame waits that is next, among the inputs from this port on
abbrev pub next_from : ℕ → List Input → Option Waiting
next_from port [] = None
next_from port (input ∷ inputs) =
    if input.waits then Some (first_of (record { port = port; input = input }) (next_from (port + 1) inputs)) else next_from (port + 1) inputs

-- the same inputs, but that these bytes are written over those of the frame that waits there, if there is one
abbrev pub over_waiting : List Input → Option Waiting → List ℕ → List Input
over_waiting inputs None bytes = inputs
over_waiting inputs (Some next) bytes = slice_set inputs next.port (over_input next.input bytes)

-- the same inputs, but that these bytes are written over those of the next frame
abbrev pub over_next : List Input → List ℕ → List Input
over_next inputs bytes = over_waiting inputs (next_from 0 inputs) bytes

-- the inputs end with the bytes last written through r as those of the next frame, and nothing else has changed
abbrev pub LendsNext : MutBor (List Input) → MutBor (List ℕ) → Fml
LendsNext inputs r = Lends merge_row (Array u8 0) inputs r (over_next inputs.now)

-- the inputs are as they were when the next frame came, but that it has these bytes; and it is still next
pub record IsWritten (came now : List Input) (a : Arrival) (bytes : List ℕ) : Type 0 where
  pub changed : IsChanged came now a
  pub next : IsNext now (record a { frame = record a.frame { bytes = bytes } })
