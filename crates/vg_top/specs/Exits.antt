-- The exit status of each way to end.
use Rattle.std.specs.Prelude.{ℕ}
use Rattle.vg_top.specs.declared.exit.Exit.{Exit}
use Rattle.vg_top.specs.declared.exit.Exit.TheVariants.{Done, Wrong, Usage, Capture, Read, Write, Memory, Limit, NotBuilt}

abbrev pub number_of : Exit → ℕ
number_of Done = 0
number_of Wrong = 1
number_of Usage = 2
number_of Capture = 5
number_of Read = 6
number_of Write = 7
number_of Memory = 8
number_of Limit = 11
number_of NotBuilt = 12
