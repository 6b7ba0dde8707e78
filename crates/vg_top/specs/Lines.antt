-- What a run prints when its status is known.
use Rattle.std.specs.Prelude.{ℕ, List, ◌++◌, codes, decimal}
use Rattle.vg_small.specs.declared.small.Lang.{Lang}
use Rattle.vg_small.specs.declared.small.Lang.TheVariants.{C, Spec}
use Rattle.vg_pcap.specs.declared.faults.CaptureRefusal.{CaptureRefusal}
use Rattle.vg_pcap.specs.declared.faults.CaptureRefusal.TheVariants.{Header, Record}
use Rattle.vg_pcap.specs.declared.faults.Damage.{Damage}
use Rattle.vg_pcap.specs.declared.faults.Damage.TheVariants as damages
use Rattle.vg_pcap.specs.declared.faults.HeaderField.{HeaderField}
use Rattle.vg_pcap.specs.declared.faults.HeaderField.TheVariants as fields
use Rattle.vg_replay.specs.declared.totals.Totals.{Totals}
use Rattle.vg_top.specs.declared.stop.Stop.{Stop}
use Rattle.vg_top.specs.declared.stop.Stop.TheVariants.{Wrong, Usage, Capture, Read, Write, Memory, Limit, Frames, NotBuilt}
use Rattle.vg_top.specs.declared.stop.Unbuilt.{Unbuilt}
use Rattle.vg_top.specs.declared.stop.Unbuilt.TheVariants.{Words, Text}

-- printed first, where the C function meets its specification: the ways through both texts, and the most steps of a
-- frame
unfoldable pub verified_line : ℕ → ℕ → List ℕ
verified_line paths steps = codes "verified paths " ++ decimal paths ++ codes " steps " ++ decimal steps ++ codes "\n"

-- printed last, where every frame was handled
unfoldable pub totals_line : Totals → List ℕ
totals_line t =
    codes "frames " ++ decimal t.frames ++ codes " sent " ++ decimal t.sent ++ codes " dropped " ++ decimal t.dropped
    ++ codes " flooded " ++ decimal t.flooded ++ codes "\n"

-- printed where the two differ: the place in the C text, and a run that shows it, with its port, time 0 and a frame
-- without bytes
unfoldable pub wrong_text : ℕ → ℕ → List ℕ
wrong_text at port =
    codes "wrong at byte " ++ decimal at ++ codes ": verdict\nwrong-run 1\nport " ++ decimal port ++ codes "\nnow 0\nframe -\n"

-- printed where the words are those of no command, or name captures of another number of ports
abbrev pub usage_line : List ℕ
usage_line = codes "usage: run|verify|check|replay|try|rerun|show|bench\n"

-- the part of a header
abbrev pub field_name : HeaderField → List ℕ
field_name fields.Length = codes "length"
field_name fields.Magic = codes "magic"
field_name fields.Version = codes "version"
field_name fields.Link = codes "link"

-- what is wrong with a record
abbrev pub damage_name : Damage → List ℕ
damage_name damages.Cut = codes "cut"
damage_name damages.Long = codes "long"
damage_name damages.Fraction = codes "fraction"

-- what of a capture is refused: a part of its header, or its record of this number
abbrev pub refusal_words : CaptureRefusal → List ℕ
refusal_words (Header field) = codes " header " ++ field_name field
refusal_words (Record number why) = codes " nth " ++ decimal number ++ codes " " ++ damage_name why

-- printed where a port's capture is refused
unfoldable pub capture_line : ℕ → CaptureRefusal → List ℕ
capture_line port refusal = codes "capture " ++ decimal port ++ refusal_words refusal ++ codes "\n"

-- which text
abbrev pub text_name : Lang → List ℕ
text_name C = codes "c"
text_name Spec = codes "spec"

-- what isn't built
abbrev pub unbuilt_name : Unbuilt → List ℕ
unbuilt_name Words = codes "words"
unbuilt_name (Text lang) = text_name lang

-- printed where a run stopped: one line, but for a wrong run
unfoldable pub refusal_text : Stop → List ℕ
refusal_text (Wrong at port) = wrong_text at port
refusal_text Usage = usage_line
refusal_text (Capture port refusal) = capture_line port refusal
refusal_text Read = codes "read fault\n"
refusal_text Write = codes "write fault\n"
refusal_text Memory = codes "no memory\n"
refusal_text (Limit lang) = codes "limit " ++ text_name lang ++ codes "\n"
refusal_text Frames = codes "limit frames\n"
refusal_text (NotBuilt what) = codes "not built " ++ unbuilt_name what ++ codes "\n"
