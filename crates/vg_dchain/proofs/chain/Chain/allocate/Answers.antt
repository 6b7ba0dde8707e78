use Rattle.std.proofs.Common.{rules, arith, ◌<◌, length}
use Rattle.std.proofs.lemmas.Bool.{true≢false}
use Rattle.vg_dchain.proofs.ChainLemmas.{next_free, next_is_free, chain_allocated, chain_not_full}
use Rattle.vg_dchain.proofs.chain.Chain.allocate.Goals as goal

pub push_last-requires-clause-bound : goal.push_last-requires-clause-bound
push_last-requires-clause-bound g c =
    (next_free c.self.inside.by_age c.self.inside.spare c.take-index.new.self c.self.inside.times.items c.self.inside.newest c.take-index.result
    c.self.invariant c.take-index.ensures.taken).bound

pub push_last-requires-clause-absent : goal.push_last-requires-clause-absent
push_last-requires-clause-absent g c =
    (next_free c.self.inside.by_age c.self.inside.spare c.take-index.new.self c.self.inside.times.items c.self.inside.newest c.take-index.result
    c.self.invariant c.take-index.ensures.taken).absent

pub push_last-requires-clause-room : goal.push_last-requires-clause-room
push_last-requires-clause-room g c =
    (next_free c.self.inside.by_age c.self.inside.spare c.take-index.new.self c.self.inside.times.items c.self.inside.newest c.take-index.result
    c.self.invariant c.take-index.ensures.taken).room

pub stamp-requires : goal.stamp-requires
stamp-requires g c =
    let within : c.take-index.result < length c.self.inside.times.items =
    (next_free c.self.inside.by_age c.self.inside.spare c.take-index.new.self c.self.inside.times.items c.self.inside.newest c.take-index.result
    c.self.invariant c.take-index.ensures.taken).within in
    search rules

pub invariant_of-self : goal.invariant_of-self
invariant_of-self g c = rw c.stamp.ensures.newest (chain_allocated c.self.inside.by_age c.push_last.new.self c.self.inside.spare c.take-index.new.self
    c.self.inside.times.items c.stamp.new.times.items c.self.inside.newest c.args.now c.take-index.result c.args.self.now c.self.view_is
    c.self.invariant c.requires c.take-index.ensures.taken c.push_last.ensures.pushed c.stamp.ensures.times).0

pub returns : goal.returns
returns g c =
    let made = chain_allocated c.self.inside.by_age c.push_last.new.self c.self.inside.spare c.take-index.new.self c.self.inside.times.items
    c.stamp.new.times.items c.self.inside.newest c.args.now c.take-index.result c.args.self.now c.self.view_is c.self.invariant c.requires
    c.take-index.ensures.taken c.push_last.ensures.pushed c.stamp.ensures.times in
    record {
      full = (
        λ e. absurd (true≢false e),
        λ e. absurd (chain_not_full c.self.inside.by_age c.self.inside.spare c.take-index.new.self c.self.inside.times.items c.self.inside.newest
            c.take-index.result c.args.self.now c.self.view_is c.self.invariant c.take-index.ensures.taken e),
      );
      kept = tt;
      first = made.2;
      free = next_is_free c.self.inside.by_age c.self.inside.spare c.take-index.new.self c.self.inside.times.items c.self.inside.newest
          c.take-index.result c.args.self.now c.self.view_is c.self.invariant c.take-index.ensures.taken;
      allocated = rw c.stamp.ensures.newest made.1;
      cost = omega (arith, c.take-index.ensures.cost, c.push_last.ensures.cost);
    }
