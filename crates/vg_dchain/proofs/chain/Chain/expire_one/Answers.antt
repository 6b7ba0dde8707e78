use Rattle.std.proofs.Common.{arith, ◌≤◌, ◌<◌, None, drop, get_or, sym}
use Rattle.std.specs.Prelude.{unwrap_or}
use Rattle.std.proofs.lemmas.Bool.{ltb-true, ltb-false}
use Rattle.vg_dchain.specs.Times.{stamps_of}
use Rattle.vg_dchain.proofs.ChainLemmas.{chain_oldest, oldest_held, expires_none, expires_first}
use Rattle.vg_dchain.proofs.chain.Chain.expire_one.Goals as goal

pub time-requires : goal.time-requires
time-requires g c =
    oldest_held c.first-index.result (unwrap_or (get_or c.self.inside.times.items c.first-index.result None) 0)
    (stamps_of c.self.inside.times.items (drop 1 c.self.inside.by_age.order)) c.args.self.now
    (chain_oldest c.self.inside.by_age c.self.inside.spare c.self.inside.times.items c.self.inside.newest c.first-index.result c.args.self.now
    c.self.view_is c.first-index.ensures.value)

pub returns-then-not-is_older-clause-oldest : goal.returns-then-not-is_older-clause-oldest
returns-then-not-is_older-clause-oldest g c =
    let late : c.args.before ≤ c.time.result = ltb-false c.time.result c.args.before (sym c.if-not-is_older.ensures) in
    sym (expires_none c.self.inside.by_age c.self.inside.spare c.self.inside.times.items c.self.inside.newest c.first-index.result c.time.result
    c.args.before c.args.self.now c.self.view_is c.self.invariant c.first-index.ensures.value c.time.ensures late)

pub returns : goal.returns
returns g c =
    let early : c.time.result < c.args.before = ltb-true c.time.result c.args.before (sym c.if-not-is_older.ensures) in
    record {
      oldest = sym (expires_first c.self.inside.by_age c.self.inside.spare c.self.inside.times.items c.self.inside.newest c.first-index.result
          c.time.result c.args.before c.args.self.now c.self.view_is c.first-index.ensures.value c.time.ensures early);
      freed = c.release.ensures.freed;
      kept = tt;
      cost = omega (arith, c.release.ensures.cost, c.first-index.ensures.cost);
    }
