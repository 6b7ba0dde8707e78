use Rattle.std.proofs.Common.{◌<◌, ◌-◌, length, sym, ◌∙◌, arith}
use Rattle.std.proofs.lemmas.Option.{get_or_from_slice_get}
use Rattle.vg_rup.proofs.Checking.{nonempty, ends_at}
use Rattle.vg_rup.proofs.checker.ends_empty.Goals as goal

pub returns-then-not-is_empty : goal.returns-then-not-is_empty
returns-then-not-is_empty c =
    let lists = c.args.lists.now in
    let last = c.get.result.now in
    let some : 0 < length lists = nonempty lists c.if-not-is_empty.ensures.1 in
    c.is_empty-then-not-is_empty.ensures
    ∙ sym (ends_at lists (c.len.result - 1) last (omega (arith, some, c.len.ensures)) (get_or_from_slice_get lists (c.len.result - 1) last last
    c.get.ensures))
