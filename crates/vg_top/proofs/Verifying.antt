-- Why no two functions that agree were read from two texts.
use Rattle.std.proofs.Common.{◌≡◌, inl, inr, ℕ, List, length, Result, Ok, Err, arith}
use Rattle.std.specs.Result.{IsErrAnd}
use Rattle.vg_base.specs.Files.{Disk}
use Rattle.vg_command.specs.Commands.{Files}
use Rattle.vg_small.specs.declared.small.Small.{Small}
use Rattle.vg_small.specs.declared.small.Lang.TheVariants.{C, Spec}
use Rattle.vg_small.specs.Spelling.{Spells}
use Rattle.vg_small.proofs.SpellingLaws.{Spells-steps}
use Rattle.vg_top.specs.Frames.{AlwaysTakesFewSteps}
use Rattle.vg_top.specs.declared.setup.Functions.{Functions}
use Rattle.vg_top.specs.declared.setup.Texts.{Texts}
use Rattle.vg_top.specs.declared.stop.Stop.{Stop}
use Rattle.vg_top.specs.declared.stop.Stop.TheVariants.{Wrong, Usage, Capture, Read, Write, Memory, Limit, Frames, NotBuilt}
use Rattle.vg_top.specs.declared.stop.Unbuilt.TheVariants.{Words, Text}
use Rattle.vg_top.specs.Endings.{AreTexts, AreVerified}
use Rattle.vg_top.specs.Setup.{StopsReading, StopsVerifying, StopsFor, Verifies, LoadsTexts, ReadsFunctions}

pub stops_at_c : (c_text spec_text : List ℕ) (ports : ℕ) (stop : Stop) → StopsReading C c_text stop → StopsVerifying c_text spec_text ports stop
stops_at_c c_text spec_text ports stop (inl e) = rw e tt
stops_at_c c_text spec_text ports stop (inr none) = rw none.0 (inl none.1)

pub stops_at_spec : (c_text spec_text : List ℕ) (ports : ℕ) (c : Small) (stop : Stop) → Spells C c_text c → StopsReading Spec spec_text stop
    → StopsVerifying c_text spec_text ports stop
stops_at_spec c_text spec_text ports c stop spells (inl e) = rw e tt
stops_at_spec c_text spec_text ports c stop spells (inr none) = rw none.0 (c, spells, none.1)

-- a stop is passed on
pub stop_passed : {c_text spec_text : List ℕ} {count : ℕ} (r : Result Functions Stop) (stop : Stop) → IsErrAnd r (λ e. e ≡ stop)
    → StopsVerifying c_text spec_text count stop → Verifies c_text spec_text count r
stop_passed (Ok f) stop is stops = absurd is
stop_passed (Err e) stop is stops = record { spelled = tt; below = tt; ports = tt; agree = tt; stops = rw is stops }

-- functions that were read from the texts of a run
pub are_verified : {s : Disk} {n : Files} {c_text spec_text : List ℕ} (f : Functions) → AreTexts s n c_text spec_text
    → Verifies c_text spec_text (length n.ins) (Ok f) → AreVerified s n f.c f.spec
are_verified {c_text = c_text} {spec_text = spec_text} f texts v = record {
  functions = record {
    functions = record { c_text = c_text; spec_text = spec_text; texts = texts; c_spells = v.spelled.c_spells; spec_spells = v.spelled.spec_spells };
    below = v.below;
    ports = v.ports;
  };
  agree = v.agree;
}

-- no frame takes more steps than the text has bytes
pub takes_few_steps : {s : Disk} {n : Files} {c_text spec_text : List ℕ} (f : Functions) → AreTexts s n c_text spec_text
    → Verifies c_text spec_text (length n.ins) (Ok f) → AlwaysTakesFewSteps f.c
takes_few_steps {c_text = c_text} f texts v = λ port. omega (arith, texts.c.short, Spells-steps C c_text f.c port v.spelled.c_spells)

-- why none were read
pub stops_for : {s : Disk} (t : Disk) {n : Files} {c_text spec_text : List ℕ} (stop : Stop) → AreTexts s n c_text spec_text
    → StopsVerifying c_text spec_text (length n.ins) stop → StopsFor s t n stop
stops_for t Memory texts v = tt
stops_for t (NotBuilt Words) texts v = absurd v
stops_for t (NotBuilt (Text C)) texts (inl none) = inl (record { c_text = _; spec_text = _; texts = texts; c_spells = none })
stops_for t (NotBuilt (Text C)) texts (inr v) = inr (record {
  c = v.0;
  spec = v.1;
  functions = record { c_text = _; spec_text = _; texts = texts; c_spells = v.2.c_spells; spec_spells = v.2.spec_spells };
  beyond = v.3;
})
stops_for t (NotBuilt (Text Spec)) texts v = record { c_text = _; spec_text = _; texts = texts; c = v.0; c_spells = v.1; spec_spells = v.2 }
stops_for t Usage texts v = record {
  c = v.0;
  spec = v.1;
  functions = record { c_text = _; spec_text = _; texts = texts; c_spells = v.2.c_spells; spec_spells = v.2.spec_spells };
  below = v.3;
  ports = v.4;
}
stops_for t (Wrong at port) texts v = record {
  c = v.0;
  spec = v.1;
  functions = record {
    functions = record { c_text = _; spec_text = _; texts = texts; c_spells = v.2.c_spells; spec_spells = v.2.spec_spells };
    below = v.3;
    ports = v.4;
  };
  difference = v.5;
  place = v.6;
}
stops_for t (Capture port refusal) texts v = absurd v
stops_for t Read texts v = absurd v
stops_for t Write texts v = absurd v
stops_for t (Limit lang) texts v = absurd v
stops_for t Frames texts v = absurd v

-- from loaded texts to the functions that they spell
pub reads_functions : {s t : Disk} {n : Files} (texts : Texts) (r : Result Functions Stop) → LoadsTexts s t n (Ok texts)
    → Verifies texts.c.items texts.spec.items (length n.ins) r → ReadsFunctions s t n r
reads_functions texts (Ok f) x v = record {
  reads = record { keeps = x.reads.keeps; ids = x.reads.ids; same = x.reads.same; same_else = tt };
  verified = are_verified f x.texts v;
  steps = takes_few_steps f x.texts v;
  stops = tt;
}
reads_functions {t = t} texts (Err stop) x v = record {
  reads = record { keeps = x.reads.keeps; ids = x.reads.ids; same = tt; same_else = λ other. x.reads.same };
  verified = tt;
  steps = tt;
  stops = stops_for t stop x.texts v.stops;
}
