-- What contracts see of a command in memory.
use Rattle.vg_command.specs.Commands.{Files, words_in}
use Rattle.vg_command.specs.Commands as commands
use Rattle.vg_command.specs.declared.command.FileNames.{FileNames}
use Rattle.vg_command.specs.declared.command.Command.{Command}
use Rattle.vg_command.specs.declared.command.Command.TheVariants.{Run, Verify, Check, Replay, Try, Rerun, Show, Bench}

-- the files of a command
abbrev pub files_of : FileNames → Files
files_of n = record { c = n.c.now; spec = n.spec.now; conf = n.conf.now; log = n.log.now; ins = words_in n.ins.now; outs = words_in n.outs.now }

-- the command as the definitions have it
abbrev pub command_of : Command → commands.Command
command_of (Run n) = commands.Run (files_of n)
command_of (Verify c spec certificate limit) = commands.Verify c.now spec.now certificate.now limit
command_of (Check c spec certificate) = commands.Check c.now spec.now certificate.now
command_of (Replay certificate n) = commands.Replay certificate.now (files_of n)
command_of (Try n) = commands.Try (files_of n)
command_of (Rerun c spec file) = commands.Rerun c.now spec.now file.now
command_of (Show name part) = commands.Show name.now part.now
command_of (Bench name seed count) = commands.Bench name.now seed count
