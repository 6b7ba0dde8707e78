-- What a replay writes: the capture of each port, and the log.
use Rattle.std.specs.Prelude.{ℕ, ◌+◌, ◌<◌, List, [], ◌∷◌, ◌++◌, codes, decimal, map, length, count_by, sum_by, ◌==◌, if◌then◌else◌, Bool, true, false}
use Rattle.std.specs.List.{flat_map}
use Rattle.vg_core.specs.declared.verdict.Verdict.{Verdict}
use Rattle.vg_core.specs.declared.verdict.Verdict.TheVariants.{Drop, Send, Flood}
use Rattle.vg_pcap.specs.Frames.{Framed, header, record_of}
use Rattle.vg_pcap.specs.Arrivals.{Arrival}
use Rattle.vg_replay.specs.declared.handled.Handed.{Handed}
use Rattle.vg_replay.specs.declared.totals.Totals.{Totals}

-- a frame as it came in, the bytes that it was left with, and what was done with it
pub record Handled : Type 0 where
  pub arrival : Arrival
  pub bytes : List ℕ
  pub verdict : Verdict
  pub steps : ℕ
  -- the indices that were handed out, in order
  pub handed : List Handed

-- the frame as it goes out: as it came in, but for its bytes
abbrev pub outgoing_frame : Handled → Framed
outgoing_frame h = record h.arrival.frame { bytes = h.bytes }

-- the frames as they came in
abbrev pub arrivals_of : List Handled → List Arrival
arrivals_of handled = map (λ h. h.arrival) handled

-- whether a verdict on a frame of one port sends it to another; a flooded frame goes to every port but its own
abbrev pub goes_to : Verdict → ℕ → ℕ → Bool
goes_to Drop from to = false
goes_to (Send port) from to = port == to
goes_to Flood from to = if from == to then false else true

-- a frame isn't sent to a port that there isn't
abbrev pub SendsBelow : ℕ → Verdict → Type 0
SendsBelow ports (Send port) = port < ports
SendsBelow ports _ = Unit {0}

-- what a frame puts into the capture of a port
unfoldable pub piece_to : ℕ → Handled → List ℕ
piece_to port h = if goes_to h.verdict h.arrival.port port then record_of (outgoing_frame h) else []

-- the capture of a port: a header, and the frames that went there
unfoldable pub capture_to : ℕ → List Handled → List ℕ
capture_to port handled = header ++ flat_map (piece_to port) handled

-- a verdict, as the log has it
abbrev pub verdict_text : Verdict → List ℕ
verdict_text Drop = codes "drop"
verdict_text (Send port) = codes "to " ++ decimal port
verdict_text Flood = codes "flood"

-- an index that was handed out, as the log has it
abbrev pub handed_text : Handed → List ℕ
handed_text i = codes " new " ++ decimal i.chain ++ codes ":" ++ decimal i.index

-- the line of the log on frame n
unfoldable pub line_of : ℕ → Handled → List ℕ
line_of n h =
    decimal n ++ codes " in " ++ decimal h.arrival.port ++ codes " " ++ verdict_text h.verdict ++ codes " steps " ++ decimal h.steps
    ++ flat_map handed_text h.handed ++ codes "\n"

-- the lines on these frames, the first of which is frame n
abbrev pub lines_from : ℕ → List Handled → List ℕ
lines_from n [] = []
lines_from n (h ∷ handled) = line_of n h ++ lines_from (n + 1) handled

-- the log; frames are numbered from 1
unfoldable pub log_of : List Handled → List ℕ
log_of handled = lines_from 1 handled

-- the three kinds of verdict
abbrev pub is_send : Verdict → Bool
is_send (Send port) = true
is_send _ = false

abbrev pub is_drop : Verdict → Bool
is_drop Drop = true
is_drop _ = false

abbrev pub is_flood : Verdict → Bool
is_flood Flood = true
is_flood _ = false

-- how many frames there were, how many of them were sent, dropped and flooded, and how many steps they took
unfoldable pub totals_of : List Handled → Totals
totals_of handled = record {
  frames = length handled;
  sent = count_by (λ h. is_send h.verdict) handled;
  dropped = count_by (λ h. is_drop h.verdict) handled;
  flooded = count_by (λ h. is_flood h.verdict) handled;
  steps = sum_by (λ h. h.steps) handled;
}
