-- The exit status of a run.
use Rattle.std.specs.Prelude.{ℕ, ◌≡◌, ◌⊎◌}
use Rattle.vg_top.specs.declared.exit.Exit.{Exit}
use Rattle.vg_top.specs.declared.exit.Exit.TheVariants as exits
use Rattle.vg_top.specs.declared.stop.Stop.{Stop}
use Rattle.vg_top.specs.declared.stop.Stop.TheVariants.{Wrong, Usage, Capture, Read, Write, Memory, Limit, Frames, NotBuilt}
use Rattle.vg_top.specs.Endings.{Ending, Stopped, Done}
use Rattle.vg_top.specs.Exits.{number_of}

-- how a run ends that stopped
abbrev pub exit_of : Stop → Exit
exit_of (Wrong at port) = exits.Wrong
exit_of Usage = exits.Usage
exit_of (Capture port refusal) = exits.Capture
exit_of Read = exits.Read
exit_of Write = exits.Write
exit_of Memory = exits.Memory
exit_of (Limit lang) = exits.Limit
exit_of Frames = exits.Limit
exit_of (NotBuilt what) = exits.NotBuilt

abbrev pub status_of : Stop → ℕ
status_of stop = number_of (exit_of stop)

-- of what a run comes to
abbrev pub status_at : Ending → ℕ
status_at (Stopped stop) = status_of stop
status_at (Done c spec frames) = number_of exits.Done

-- want of memory, or a fault of the files or the sink
abbrev pub IsFaultOrMemory : ℕ → Type 0
IsFaultOrMemory status = (status ≡ number_of exits.Read) ⊎ ((status ≡ number_of exits.Write) ⊎ (status ≡ number_of exits.Memory))
