use Rattle.std.proofs.Common.{length, sym, ◌∙◌, ap}
use Rattle.std.specs.Prelude.{not}
use Rattle.std.specs.Str.{bytes_eq}
use Rattle.vg_map.proofs.Steps.{told_by_bytes, told_by_mark}
use Rattle.vg_map.proofs.slots.has_other.Goals as goal

pub returns-then-is_some : goal.returns-then-is_some
returns-then-is_some c =
    told_by_bytes (length c.args.key.now) c.args.keys.now c.args.indices.now c.args.key.now c.args.at c.ne.result (sym c.is_some.ensures ∙ c.if-is_some.true)
    (c.ne.ensures ∙ ap (λ own. not (bytes_eq own c.args.key.now)) c.key_at.ensures)

pub returns-else-is_some : goal.returns-else-is_some
returns-else-is_some c = told_by_mark (length c.args.key.now) c.args.keys.now c.args.indices.now c.args.key.now c.args.at c.is_some.result
    c.is_some.ensures c.if-is_some.false
