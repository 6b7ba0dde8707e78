use Rattle.std.proofs.Common.{◌≡◌, ◌≤◌, Global, length, map, string_bytes, refl, arith}
use Rattle.std.proofs.lemmas.List.{length-map}
use Rattle.vg_replay.proofs.Beginning.{room_left, uncreated, filled, fill_refused}
use Rattle.vg_replay.proofs.Pieces.{totals_of-none}
use Rattle.vg_replay.proofs.Stopping.{stopped}
use Rattle.vg_pcap.proofs.Later.{none_before_zero}
use Rattle.vg_replay.proofs.under_way.Replay.start.Goals as goal

pub create-requires-clause-room : goal.create-requires-clause-room
create-requires-clause-room g c =
    room_left (length c.args.ins.now) (length c.args.outs.now) _ c.in-Ok-start.ensures (length-map c.args.ins.now (string_bytes {Z = Global})) c.requires.room

pub returns-in_default-create-clause-starts : goal.returns-in_default-create-clause-starts
returns-in_default-create-clause-starts g c =
    uncreated c.close.result refl c.requires.names c.in-Ok-start.ensures c.in_default-create.ensures.failed c.close.ensures

pub returns-in-Ok-fill-clause-starts : goal.returns-in-Ok-fill-clause-starts
returns-in-Ok-fill-clause-starts g c =
    let few : length (map (string_bytes {Z = Global}) c.args.outs.now) ≤ 63 = let room = c.requires.room in
    omega (arith, room, length-map c.args.outs.now (string_bytes {Z = Global})) in
    let zero = c.default.ensures in
    let counts = totals_of-none c.default.result zero.0 zero.1.0 zero.1.1.0 zero.1.1.1.0 zero.1.1.1.1 in
    (refl, filled c.default.result c.requires.names few c.in-Ok-start.ensures c.in-Ok-create.ensures.created c.in-Ok-fill.ensures counts)

pub returns-in-Err-fill-clause-starts : goal.returns-in-Err-fill-clause-starts
returns-in-Err-fill-clause-starts g c =
    let few : length (map (string_bytes {Z = Global}) c.args.outs.now) ≤ 63 = let room = c.requires.room in
    omega (arith, room, length-map c.args.outs.now (string_bytes {Z = Global})) in
    let halted = fill_refused c.default.result refl c.requires.names few c.in-Ok-start.ensures c.in-Ok-create.ensures.created c.in-Err-fill.ensures in
    rw c.stop_of-in-Err-fill.ensures (stopped c.close-in-Err-fill.result halted c.close-in-Err-fill.ensures)

pub returns-in-Ok-fill-clause-ready : goal.returns-in-Ok-fill-clause-ready
returns-in-Ok-fill-clause-ready g c =
    let opened = c.in-Ok-start.ensures.ports in
    let filled = c.in-Ok-fill.ensures.reads.ports in
    let ports : length c.args.ins.now ≡ length c.fill.new.self = omega (arith, opened, filled, length-map c.args.ins.now (string_bytes {Z = Global})) in
    rw c.requires.takes (record { ports = ports; times = none_before_zero _ })
