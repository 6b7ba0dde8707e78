use Rattle.std.proofs.Common.{◌≡◌, ◌++◌, drop, map, length}
use Rattle.std.specs.Prelude.{All}
use Rattle.vg_abs.specs.Opening as openings
use Rattle.vg_plain.specs.PlainStates.{object_of}
use Rattle.vg_plain.specs.Beginning.{NoneIsLent}
use Rattle.vg_store.specs.RealStates.{plainly}
use Rattle.vg_store.proofs.real.RealLib.start.Given as goal

abbrev pub invariant-loop-object : goal.invariant-loop-object
invariant-loop-object l = record {
  items : l.object-items ≡ (openings.opening l.spec l.config).objects;
  counted : length l.objects.items ≡ l.object-index;
  made : map object_of (plainly l.objects.items) ++ drop l.object-index l.object-items ≡ l.object-items;
  free : All NoneIsLent (plainly l.objects.items);
}
