use Rattle.vg_top.proofs.Verifying.{stops_at_c, stops_at_spec, stop_passed}
use Rattle.vg_top.proofs.setup.functions_in.Goals as goal

pub returns-in_err-c : goal.returns-in_err-c
returns-in_err-c c =
    let stop = c.in_err-c.field-0.0 in
    let stops = rw c.deref.ensures.value at c.in_err-c.ensures.stops in
    stop_passed c.from_residual.result stop c.from_residual.ensures.1 (stops_at_c c.args.texts.now.c.items c.args.texts.now.spec.items c.args.ports stop stops)

pub returns-in_err-spec : goal.returns-in_err-spec
returns-in_err-spec c =
    let stop = c.in_err-spec.field-0.0 in
    let spells = rw c.deref.ensures.value at c.in_ok-c.ensures.spells in
    let stops = rw c.deref-2.ensures.value at c.in_err-spec.ensures.stops in
    stop_passed c.from_residual-in_err-spec.result stop c.from_residual-in_err-spec.ensures.1
    (stops_at_spec c.args.texts.now.c.items c.args.texts.now.spec.items c.args.ports c.in_ok-c.c stop spells stops)
