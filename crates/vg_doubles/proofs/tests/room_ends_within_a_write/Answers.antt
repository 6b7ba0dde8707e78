use Rattle.vg_base.specs.Files.{Writes}
use Rattle.vg_base.proofs.Disks.{WriteKeeps-open}
use Rattle.vg_doubles.proofs.tests.room_ends_within_a_write.Goals as goal

pub write-requires-2 : goal.write-requires-2
write-requires-2 g c = WriteKeeps-open Writes c.in_ok-id.id c.write.ensures.writes.keeps c.in_ok-id.ensures.creates.opens.now

pub write-requires-3 : goal.write-requires-3
write-requires-3 g c = WriteKeeps-open Writes c.in_ok-id.id c.write-2.ensures.writes.keeps
    (WriteKeeps-open Writes c.in_ok-id.id c.write.ensures.writes.keeps c.in_ok-id.ensures.creates.opens.now)

pub write-requires-4 : goal.write-requires-4
write-requires-4 g c =
    WriteKeeps-open Writes c.in_ok-id.id c.write-3.ensures.writes.keeps (WriteKeeps-open Writes c.in_ok-id.id c.write-2.ensures.writes.keeps
    (WriteKeeps-open Writes c.in_ok-id.id c.write.ensures.writes.keeps c.in_ok-id.ensures.creates.opens.now))
