use Rattle.std.proofs.Common.{◌∙◌, sym}
use Rattle.vg_ctok.proofs.Sizes.{base-length}
use Rattle.vg_ctok.proofs.numbers.behind_base.Goals as goal

pub split_at-requires : goal.split_at-requires
split_at-requires c = base-length c.args.word.now (sym c.base_of.ensures ∙ c.if-base_of-ne16.false)
