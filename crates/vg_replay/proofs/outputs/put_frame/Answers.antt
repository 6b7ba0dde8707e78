use Rattle.std.proofs.Common.{◌≤◌, ◌∙◌, arith, subst, sym, ap, [], ℕ, List, Ok, ◌≡◌, length, slice_get, Some, refl, rules}
use Rattle.std.proofs.lemmas.Option.{slice_get_read}
use Rattle.vg_replay.proofs.Growing.{failed_is, Puts-next, Puts-stops}
use Rattle.vg_base.proofs.Disks.{WriteKeeps-open}
use Rattle.vg_base.specs.Files.{Writes, IsOpen}
use Rattle.vg_pcap.proofs.Arriving.{All-at_place}
use Rattle.vg_replay.proofs.Places.{set_same}
use Rattle.vg_replay.specs.View.{view}
use Rattle.vg_replay.specs.Writing.{Puts, pieces_of}
use Rattle.vg_replay.proofs.outputs.put_frame.Goals as goal

pub returns-in_err-send_to-clause-puts : goal.returns-in_err-send_to-clause-puts
returns-in_err-send_to-clause-puts g c =
    let before = c.loop-port.invariant in
    let at : slice_get c.args.captures.now.items c.loop-port.port ≡ Some c.index_mut.result.now =
    rw (← before.0) (slice_get_read c.loop-port.captures.items (length c.loop-port.captures.items) c.loop-port.port c.index_mut.result.now refl
    (search rules) c.index_mut.ensures.value) in
    λ came. rw (failed_is c.from_residual.result c.from_residual.ensures.0) (Puts-stops (length c.args.captures.now.items)
    (Puts-next _ at (before.1 came) (c.in_err-send_to.ensures.writes came)))

pub loop-port-preserved : goal.loop-port-preserved
loop-port-preserved g c =
    let before = c.loop-port.invariant in
    let at : slice_get c.args.captures.now.items c.loop-port.port ≡ Some c.index_mut.result.now =
    rw (← before.0) (slice_get_read c.loop-port.captures.items (length c.loop-port.captures.items) c.loop-port.port c.index_mut.result.now refl
    (search rules) c.index_mut.ensures.value) in (
      rw (before.0, c.in_ok-send_to.ensures.same) (set_same c.args.captures.now.items c.loop-port.port c.index_mut.result.now at),
      λ came. Puts-next _ at (before.1 came) (c.in_ok-send_to.ensures.writes came),
    )

pub send_to-requires-clause-open : goal.send_to-requires-clause-open
send_to-requires-clause-open g c =
    let before = c.loop-port.invariant in
    let at : slice_get c.args.captures.now.items c.loop-port.port ≡ Some c.index_mut.result.now =
    rw (← before.0) (slice_get_read c.loop-port.captures.items (length c.loop-port.captures.items) c.loop-port.port c.index_mut.result.now refl
    (search rules) c.index_mut.ensures.value) in
    WriteKeeps-open Writes c.index_mut.result.now (before.1 []).keeps
    (All-at_place (λ id. IsOpen Writes ((g.F.Files.disk c.args.files.now).opened id)) c.args.captures.now.items c.loop-port.port
    c.index_mut.result.now c.requires.«open» at)

pub returns-clause-puts : goal.returns-clause-puts
returns-clause-puts g c =
    let before = c.loop-port.invariant in
    λ came. subst (λ (k : ℕ). Puts (g.F.Files.disk c.args.files.now) (g.F.Files.disk c.loop-port.files) c.args.captures.now.items
    (pieces_of (view c.args.frame.now came)) k (Ok tt)) (search rules) (before.1 came)
