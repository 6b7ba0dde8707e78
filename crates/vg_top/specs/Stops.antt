-- Why a run stops whose replay stopped. No public clause rests on this file.
use Rattle.std.specs.declared.convert.Infallible.{Infallible}
use Rattle.vg_replay.specs.declared.stop.RunStop.{RunStop}
use Rattle.vg_replay.specs.declared.stop.RunStop.TheVariants as stops
use Rattle.vg_top.specs.declared.stop.Stop.{Stop}
use Rattle.vg_top.specs.declared.stop.Stop.TheVariants.{Capture, Read, Write, Memory, Frames}

-- the reason in the run's terms
abbrev pub stop_of : RunStop Infallible → Stop
stop_of (stops.Capture port refusal) = Capture port refusal
stop_of stops.Read = Read
stop_of stops.Write = Write
stop_of stops.Frames = Frames
stop_of stops.Memory = Memory
stop_of (stops.Handler never) = elim never [ ]
