-- What a run comes to, by its words and by what the files hold, where nothing fails and memory suffices.
use Rattle.std.specs.Prelude.{ℕ, ◌≡◌, ◌≢◌, ◌<◌, ◌≤◌, ◌⊎◌, List, length, IsTrue, Some}
use Rattle.vg_base.specs.Files.{Disk}
use Rattle.vg_command.specs.Commands.{Files, SpellsNone}
use Rattle.vg_small.specs.declared.small.Small.{Small}
use Rattle.vg_small.specs.declared.small.Lang.TheVariants.{C, Spec}
use Rattle.vg_small.specs.Meaning.{SendsBelow}
use Rattle.vg_small.specs.Spelling as small
use Rattle.vg_small.specs.Spelling.{Spells}
use Rattle.vg_pcap.specs.declared.faults.CaptureRefusal.TheVariants.{Header, Record}
use Rattle.vg_pcap.specs.Arrivals.{Arrival}
use Rattle.vg_pcap.specs.Incoming.{IsFirstBadHeader}
use Rattle.vg_replay.specs.Replays.{AreAll, AreUpTo, AreTooMany}
use Rattle.vg_top.specs.declared.stop.Stop.{Stop}
use Rattle.vg_top.specs.declared.stop.Stop.TheVariants.{Wrong, Usage, Capture, Read, Write, Memory, Limit, Frames, NotBuilt}
use Rattle.vg_top.specs.declared.stop.Unbuilt.TheVariants.{Words, Text}
use Rattle.vg_top.specs.Agreement.{Agree, IsFirstDifference}
use Rattle.vg_top.specs.Runs.{IsRun, IsUnbuilt}

-- a run stops early, or it is done with these functions and frames
pub data Ending : Type 0 where
  Stopped : Stop → Ending
  Done : Small → Small → List Arrival → Ending

-- ---- files

-- the most bytes of a C text or a specification
abbrev pub most_text : ℕ
most_text = 1048576

-- the bytes that were read of a file: those that it holds, where this is told
abbrev pub IsRead : Disk → List ℕ → List ℕ → Type 0
IsRead s name bytes = IsTrue s.tells_held → s.held name ≡ Some bytes

-- a file holds more bytes than a limit, where this is told
abbrev pub IsLonger : Disk → List ℕ → ℕ → Type 0
IsLonger s name limit = IsTrue s.tells_held → (bytes : List ℕ) × (s.held name ≡ Some bytes) × (limit < length bytes)

-- the bytes that were read of a file, which are not too many
pub record IsWithin (s : Disk) (name : List ℕ) (limit : ℕ) (bytes : List ℕ) : Type 0 where
  pub read : IsRead s name bytes
  pub short : length bytes ≤ limit

-- ---- texts

-- the two texts
pub record AreTexts (s : Disk) (n : Files) (c_text spec_text : List ℕ) : Type 0 where
  pub c : IsWithin s n.c most_text c_text
  pub spec : IsWithin s n.spec most_text spec_text

-- the two functions that the texts spell
pub record AreFunctions (s : Disk) (n : Files) (c spec : Small) : Type 0 where
  pub c_text : List ℕ
  pub spec_text : List ℕ
  pub texts : AreTexts s n c_text spec_text
  pub c_spells : Spells C c_text c
  pub spec_spells : Spells Spec spec_text spec

-- the specification is too long, and the C text isn't
pub record IsLongSpec (s : Disk) (n : Files) : Type 0 where
  pub c_text : List ℕ
  pub c : IsWithin s n.c most_text c_text
  pub spec : IsLonger s n.spec most_text

-- the C text spells no small function
pub record IsOtherC (s : Disk) (n : Files) : Type 0 where
  pub c_text : List ℕ
  pub spec_text : List ℕ
  pub texts : AreTexts s n c_text spec_text
  pub c_spells : small.SpellsNone C c_text

-- the C function sends frames to a port that the specification doesn't declare
pub record IsBeyond (s : Disk) (n : Files) : Type 0 where
  pub c : Small
  pub spec : Small
  pub functions : AreFunctions s n c spec
  pub beyond : SendsBelow spec.ports c → ⊥

-- the specification spells no small function, and the C text spells one
pub record IsOtherSpec (s : Disk) (n : Files) : Type 0 where
  pub c_text : List ℕ
  pub spec_text : List ℕ
  pub texts : AreTexts s n c_text spec_text
  pub c : Small
  pub c_spells : Spells C c_text c
  pub spec_spells : small.SpellsNone Spec spec_text

-- the functions are of the same ports, but the words name captures of another number of ports
pub record IsOfOtherPorts (s : Disk) (n : Files) : Type 0 where
  pub c : Small
  pub spec : Small
  pub functions : AreFunctions s n c spec
  pub below : SendsBelow spec.ports c
  pub ports : length n.ins ≢ spec.ports

-- the functions are of the ports that the words name captures of
pub record AreOfPorts (s : Disk) (n : Files) (c spec : Small) : Type 0 where
  pub functions : AreFunctions s n c spec
  pub below : SendsBelow spec.ports c
  pub ports : length n.ins ≡ spec.ports

-- the functions differ first at this port, and the name of the C function stands at this place
pub record AreDifferent (s : Disk) (n : Files) (at port : ℕ) : Type 0 where
  pub c : Small
  pub spec : Small
  pub functions : AreOfPorts s n c spec
  pub difference : IsFirstDifference c spec port
  pub place : at ≡ c.at

-- the functions agree
pub record AreVerified (s : Disk) (n : Files) (c spec : Small) : Type 0 where
  pub functions : AreOfPorts s n c spec
  pub agree : Agree c spec

-- ---- captures

-- the functions agree, and this holds of the captures
pub record IsReplayed (s : Disk) (n : Files) (Holds : Type 0) : Type 0 where
  pub c : Small
  pub spec : Small
  pub verified : AreVerified s n c spec
  pub captures : IsTrue s.tells_held → Holds

-- ---- endings

-- what a run on these files comes to: a line for each way to end
abbrev pub EndsIn : Disk → Files → Ending → Type 0
EndsIn s n (Stopped (Limit C)) = IsLonger s n.c most_text
EndsIn s n (Stopped (Limit Spec)) = IsLongSpec s n
EndsIn s n (Stopped (NotBuilt (Text C))) = IsOtherC s n ⊎ IsBeyond s n
EndsIn s n (Stopped (NotBuilt (Text Spec))) = IsOtherSpec s n
EndsIn s n (Stopped Usage) = IsOfOtherPorts s n
EndsIn s n (Stopped (Wrong at port)) = AreDifferent s n at port
EndsIn s n (Stopped (Capture port (Header field))) = IsReplayed s n (IsFirstBadHeader s n.ins port field)
EndsIn s n (Stopped (Capture port (Record number why))) = IsReplayed s n ((frames : List Arrival) × AreUpTo s n.ins frames port number why)
EndsIn s n (Stopped Frames) = IsReplayed s n ((frames : List Arrival) × AreTooMany s n.ins frames)
EndsIn s n (Done c spec frames) = AreVerified s n c spec × (IsTrue s.tells_held → AreAll s n.ins frames)
EndsIn s n (Stopped (NotBuilt Words)) = ⊥
EndsIn s n (Stopped Read) = ⊥
EndsIn s n (Stopped Write) = ⊥
EndsIn s n (Stopped Memory) = ⊥

-- what these words come to
abbrev pub ComesTo : Disk → List (List ℕ) → Ending → Type 0
ComesTo s words ending =
    ((ending ≡ Stopped Usage) × SpellsNone words)
    ⊎ (((ending ≡ Stopped (NotBuilt Words)) × IsUnbuilt words)
    ⊎ ((n : Files) × IsRun words n × EndsIn s n ending))
