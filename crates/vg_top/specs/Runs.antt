-- Which words are those of a run, and the files that they name.
use Rattle.std.specs.Prelude.{ℕ, ◌≡◌, ◌⊎◌, List, codes}
use Rattle.vg_command.specs.Commands.{Files, Command, Run, Spells, SpellsNone}
use Rattle.vg_top.specs.declared.stop.Stop.{Stop}
use Rattle.vg_top.specs.declared.stop.Stop.TheVariants.{Usage, NotBuilt}
use Rattle.vg_top.specs.declared.stop.Unbuilt.TheVariants.{Words}
use Rattle.vg_replay.specs.Replays.{ReplayFiles}

-- the words are those of a run on these files, without a configuration
pub record IsRun (words : List (List ℕ)) (n : Files) : Type 0 where
  pub spells : Spells words (Run n)
  pub no_conf : n.conf ≡ codes "-"

-- a command is built: a run without a configuration
abbrev pub IsBuilt : Command → Type 0
IsBuilt (Run n) = n.conf ≡ codes "-"
IsBuilt _ = ⊥

-- the words are those of a command that isn't built
pub record IsUnbuilt (words : List (List ℕ)) : Type 0 where
  pub command : Command
  pub spells : Spells words command
  pub other : IsBuilt command → ⊥

-- why words aren't those of a run that is built
abbrev pub RefusesWords : List (List ℕ) → Stop → Type 0
RefusesWords words stop = ((stop ≡ Usage) × SpellsNone words) ⊎ ((stop ≡ NotBuilt Words) × IsUnbuilt words)

-- the files of a run's replay
abbrev pub replay_files : Files → ReplayFiles
replay_files n = record { log = n.log; ins = n.ins; outs = n.outs }
