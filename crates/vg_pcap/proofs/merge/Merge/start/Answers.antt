use Rattle.std.proofs.Common.{◌≡◌, ◌<◌, ◌≤◌, ℕ, List, Global, String, map, get_or, length, length-take, min, string_bytes, sym, ap, ◌∙◌, arith}
use Rattle.std.proofs.lemmas.List.{get_or-map, length-map}
use Rattle.vg_pcap.proofs.Opening.{opening-none, opening-next, opening-stands, opening-stops, opening-all, opened_inputs, few_ids}
use Rattle.vg_pcap.proofs.merge.Merge.start.Goals as goal

-- the bytes of the name at a place
name_at : (ins : List (String Global)) (k : ℕ) (text : String Global) (name : List ℕ) → k < length ins → text ≡ get_or ins k text → name ≡ string_bytes text →
    name ≡ get_or (map (string_bytes {Z = Global}) ins) k name
name_at ins k text name lt is value = value ∙ (ap (string_bytes {Z = Global}) is ∙ sym (get_or-map (string_bytes {Z = Global}) ins k text name lt))

pub loop-port-init : goal.loop-port-init
loop-port-init g c = rw c.new-inputs.ensures.items (opening-none (g.F.Files.disk c.args.files.now))

pub open_port-requires : goal.open_port-requires
open_port-requires g c =
    let names = map (string_bytes {Z = Global}) c.args.ins.now in
    let long : length c.loop-port.inputs.items ≡ min c.loop-port.port (length names) = c.loop-port.invariant.starts.ports
    ∙ length-take c.loop-port.port names in
    omega (arith, c.requires, c.loop-port.invariant.starts.opens.0.count, few_ids c.loop-port.inputs.items)

pub close_all-requires-clause-readable : goal.close_all-requires-clause-readable
close_all-requires-clause-readable g c =
    (opening-stands c.as_str.result.now c.open_port.new.inputs.items c.in-Err.fault c.loop-port.invariant c.in-Err.ensures).0

pub close_all-requires-clause-apart : goal.close_all-requires-clause-apart
close_all-requires-clause-apart g c = (opening-stands c.as_str.result.now c.open_port.new.inputs.items c.in-Err.fault c.loop-port.invariant c.in-Err.ensures).1

pub returns-in-Err : goal.returns-in-Err
returns-in-Err g c =
    let lt : c.loop-port.port < length (map (string_bytes {Z = Global}) c.args.ins.now) = omega
    (arith, length-map c.args.ins.now (string_bytes {Z = Global})) in
    let is = name_at c.args.ins.now c.loop-port.port c.index-ins-port.result c.as_str.result.now c.loop-port-test.true c.index-ins-port.is
    c.as_str.ensures.value in
    opening-stops c.as_str.result.now c.in-Err.fault lt is c.loop-port.invariant c.in-Err.ensures c.close_all.ensures

pub loop-port-preserved : goal.loop-port-preserved
loop-port-preserved g c =
    let lt : c.loop-port.port < length (map (string_bytes {Z = Global}) c.args.ins.now) = omega
    (arith, length-map c.args.ins.now (string_bytes {Z = Global})) in
    let is = name_at c.args.ins.now c.loop-port.port c.index-ins-port.result c.as_str.result.now c.loop-port-test.true c.index-ins-port.is
    c.as_str.ensures.value in
    opening-next (map (string_bytes {Z = Global}) c.args.ins.now) c.loop-port.port c.as_str.result.now c.open_port.new.inputs.items lt is
    c.loop-port.invariant c.in_default.ensures

pub invariant_of-result : goal.invariant_of-result
invariant_of-result g c =
    let all : length (map (string_bytes {Z = Global}) c.args.ins.now) ≤ c.loop-port.port =
    omega (arith, length-map c.args.ins.now (string_bytes {Z = Global})) in
    let few : length (map (string_bytes {Z = Global}) c.args.ins.now) ≤ 64 = omega (arith, c.requires, length-map c.args.ins.now (string_bytes {Z = Global})) in
    opened_inputs few (opening-all all c.loop-port.invariant)

pub returns : goal.returns
returns g c =
    let all : length (map (string_bytes {Z = Global}) c.args.ins.now) ≤ c.loop-port.port =
    omega (arith, length-map c.args.ins.now (string_bytes {Z = Global})) in
    (opening-all all c.loop-port.invariant).starts
