-- What a run reads before it replays. No public clause rests on this file.
use Rattle.std.specs.Prelude.{ℕ, ◌≡◌, ◌≢◌, ◌⊎◌, List, Result, IfOk, IfErr, OnOk, Vec}
use Rattle.std.specs.declared.alloc.Global.{Global}
use Rattle.vg_base.specs.Files.{Disk, Rose, ReadKeeps, SameIds}
use Rattle.vg_command.specs.Commands.{Files}
use Rattle.vg_small.specs.declared.small.Small.{Small}
use Rattle.vg_small.specs.declared.small.Lang.{Lang}
use Rattle.vg_small.specs.declared.small.Lang.TheVariants.{C, Spec}
use Rattle.vg_small.specs.Meaning.{SendsBelow}
use Rattle.vg_small.specs.Spelling.{Spells, SpellsNone}
use Rattle.vg_top.specs.Frames.{AlwaysTakesFewSteps}
use Rattle.vg_top.specs.declared.setup.Texts.{Texts}
use Rattle.vg_top.specs.declared.setup.Functions.{Functions}
use Rattle.vg_top.specs.declared.stop.Stop.{Stop}
use Rattle.vg_top.specs.declared.stop.Stop.TheVariants.{Wrong, Usage, Capture, Read, Write, Memory, Limit, Frames, NotBuilt}
use Rattle.vg_top.specs.declared.stop.Unbuilt.TheVariants.{Text}
use Rattle.vg_top.specs.Agreement.{Agree, IsFirstDifference}
use Rattle.vg_top.specs.Endings.{Stopped, EndsIn, most_text, IsLonger, IsWithin, AreTexts, AreVerified}

-- files were only read; the count of faults at reading changed only where `Read` is answered
pub record OnlyReads {A : Type 0} (s t : Disk) (result : Result A Stop) : Type 0 where
  pub keeps : ReadKeeps s t
  pub ids : SameIds s t
  pub same : OnOk result (t.read_faults ≡ s.read_faults)
  pub same_else : IfErr result (λ stop. stop ≢ Read → t.read_faults ≡ s.read_faults)

-- why a text wasn't loaded
abbrev pub StopsLoading : Disk → Disk → List ℕ → Lang → Stop → Type 0
StopsLoading s t name lang stop =
    ((stop ≡ Limit lang) × IsLonger s name most_text) ⊎ (((stop ≡ Read) × Rose s.read_faults t.read_faults) ⊎ (stop ≡ Memory))

-- a text was loaded
pub record LoadsText (s t : Disk) (name : List ℕ) (lang : Lang) (result : Result (Vec ℕ Global) Stop) : Type 0 where
  pub reads : OnlyReads s t result
  pub loaded : IfOk result (λ v. IsWithin s name most_text v.items)
  pub stops : IfErr result (StopsLoading s t name lang)

-- why a run on these files stopped before it opened a capture
abbrev pub StopsFor : Disk → Disk → Files → Stop → Type 0
StopsFor s t n Read = Rose s.read_faults t.read_faults
StopsFor s t n Memory = Unit {0}
StopsFor s t n Write = ⊥
StopsFor s t n Frames = ⊥
StopsFor s t n (Capture port refusal) = ⊥
StopsFor s t n Usage = EndsIn s n (Stopped Usage)
StopsFor s t n (Wrong at port) = EndsIn s n (Stopped (Wrong at port))
StopsFor s t n (NotBuilt what) = EndsIn s n (Stopped (NotBuilt what))
StopsFor s t n (Limit lang) = EndsIn s n (Stopped (Limit lang))

-- both texts were loaded
pub record LoadsTexts (s t : Disk) (n : Files) (result : Result Texts Stop) : Type 0 where
  pub reads : OnlyReads s t result
  pub texts : IfOk result (λ texts. AreTexts s n texts.c.items texts.spec.items)
  pub stops : IfErr result (StopsFor s t n)

-- both functions were read, and they agree
pub record ReadsFunctions (s t : Disk) (n : Files) (result : Result Functions Stop) : Type 0 where
  pub reads : OnlyReads s t result
  pub verified : IfOk result (λ f. AreVerified s n f.c f.spec)
  pub steps : IfOk result (λ f. AlwaysTakesFewSteps f.c)
  pub stops : IfErr result (StopsFor s t n)

-- why no function was read from a text
abbrev pub StopsReading : Lang → List ℕ → Stop → Type 0
StopsReading lang text stop = (stop ≡ Memory) ⊎ ((stop ≡ NotBuilt (Text lang)) × SpellsNone lang text)

-- two functions that two texts spell
pub record AreSpelled (c_text spec_text : List ℕ) (c spec : Small) : Type 0 where
  pub c_spells : Spells C c_text c
  pub spec_spells : Spells Spec spec_text spec

-- why no two functions that agree at a number of ports were read from two texts
abbrev pub StopsVerifying : List ℕ → List ℕ → ℕ → Stop → Type 0
StopsVerifying c_text spec_text ports Memory = Unit {0}
StopsVerifying c_text spec_text ports (NotBuilt (Text C)) =
    SpellsNone C c_text ⊎ ((c : Small) × (spec : Small) × AreSpelled c_text spec_text c spec × (SendsBelow spec.ports c → ⊥))
StopsVerifying c_text spec_text ports (NotBuilt (Text Spec)) = (c : Small) × Spells C c_text c × SpellsNone Spec spec_text
StopsVerifying c_text spec_text ports Usage =
    (c : Small) × (spec : Small) × AreSpelled c_text spec_text c spec × SendsBelow spec.ports c × (ports ≢ spec.ports)
StopsVerifying c_text spec_text ports (Wrong at port) =
    (c : Small) × (spec : Small) × AreSpelled c_text spec_text c spec × SendsBelow spec.ports c × (ports ≡ spec.ports)
    × IsFirstDifference c spec port × (at ≡ c.at)
StopsVerifying c_text spec_text ports _ = ⊥

-- two functions that agree at a number of ports were read from two texts
pub record Verifies (c_text spec_text : List ℕ) (count : ℕ) (result : Result Functions Stop) : Type 0 where
  pub spelled : IfOk result (λ f. AreSpelled c_text spec_text f.c f.spec)
  pub below : IfOk result (λ f. SendsBelow f.spec.ports f.c)
  pub ports : IfOk result (λ f. count ≡ f.spec.ports)
  pub agree : IfOk result (λ f. Agree f.c f.spec)
  pub stops : IfErr result (StopsVerifying c_text spec_text count)
