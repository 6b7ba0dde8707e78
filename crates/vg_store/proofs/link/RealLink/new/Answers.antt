use Rattle.std.proofs.Common.{ap}
use Rattle.vg_map.specs.Map.{FixedMap}
use Rattle.vg_dchain.specs.ChainState.{ChainState}
use Rattle.vg_store.proofs.LinkSteps.{Opens, opens_linked, opens_seen}
use Rattle.vg_store.proofs.link.RealLink.new.Goals as goal

opens : (c : goal.In_ok-new-2) → Opens (record { keys = c.in_ok-with_seed.field-0; ages = c.in_ok-new.field-0; cells = c.in_ok-new-2.field-0 })
    c.args.capacity c.args.key_length
opens c = record {
  keys = c.in_ok-with_seed.ensures;
  ages = c.in_ok-new.ensures.opens;
  lawful = c.in_ok-new.ensures.lawful;
  size = c.in_ok-new-2.ensures.size;
  zeros = c.in_ok-new-2.ensures.zeros;
  free = c.in_ok-new-2.ensures.free;
}

pub invariant_of-result : goal.invariant_of-result
invariant_of-result c = (
  opens_linked _ c.args.capacity c.args.key_length (opens c),
  ap (λ (a : ChainState). a.range) c.in_ok-new.ensures.opens,
  ap (λ (m : FixedMap). m.key_len) c.in_ok-with_seed.ensures,
)

pub returns : goal.returns
returns c = opens_seen _ c.args.capacity c.args.key_length (opens c)
