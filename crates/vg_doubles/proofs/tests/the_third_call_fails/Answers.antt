use Rattle.vg_base.specs.Files.{Writes}
use Rattle.vg_base.proofs.Disks.{WriteKeeps-open, IsOpen-some}
use Rattle.vg_doubles.proofs.tests.the_third_call_fails.Goals as goal

pub write-requires-2 : goal.write-requires-2
write-requires-2 g c = WriteKeeps-open Writes c.in_ok-id.id c.write.ensures.writes.keeps c.in_ok-id.ensures.creates.opens.now

pub write-requires-3 : goal.write-requires-3
write-requires-3 g c = WriteKeeps-open Writes c.in_ok-id.id c.write-2.ensures.writes.keeps
    (WriteKeeps-open Writes c.in_ok-id.id c.write.ensures.writes.keeps c.in_ok-id.ensures.creates.opens.now)

pub close-requires : goal.close-requires
close-requires g c =
    IsOpen-some Writes _ (WriteKeeps-open Writes c.in_ok-id.id c.write-3.ensures.writes.keeps
    (WriteKeeps-open Writes c.in_ok-id.id c.write-2.ensures.writes.keeps (WriteKeeps-open Writes c.in_ok-id.id c.write.ensures.writes.keeps
    c.in_ok-id.ensures.creates.opens.now)))
