use Rattle.vg_base.specs.Files.{Writes}
use Rattle.vg_base.proofs.Disks.{WriteKeeps-open, IsOpen-some}
use Rattle.vg_base.proofs.tests.the_system_keeps_a_file.Goals as goal

pub close-requires : goal.close-requires
close-requires g c = IsOpen-some Writes _ (WriteKeeps-open Writes c.in_ok-id.id c.put_all.ensures.keeps c.in_ok-id.ensures.opens.now)
