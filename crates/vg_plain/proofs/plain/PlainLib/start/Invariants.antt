use Rattle.std.proofs.Common.{◌≡◌, ◌++◌, drop, map, length}
use Rattle.std.specs.Prelude.{All}
use Rattle.vg_abs.specs.Opening as openings
use Rattle.vg_plain.specs.PlainStates.{object_of}
use Rattle.vg_plain.specs.Beginning.{NoneIsLent}
use Rattle.vg_plain.proofs.plain.PlainLib.start.Given as goal

abbrev pub invariant-loop-object : goal.invariant-loop-object
invariant-loop-object l = record {
  items : l.object-items ≡ (openings.opening l.spec l.config).objects;
  counted : length l.objects.items ≡ l.object-index;
  made : map object_of l.objects.items ++ drop l.object-index l.object-items ≡ l.object-items;
  free : All NoneIsLent l.objects.items;
}
