use Rattle.std.proofs.Common.{sym, codes}
use Rattle.vg_stok.proofs.Sizes.{starts-length}
use Rattle.vg_stok.proofs.numbers.digits_of.Goals as goal

pub split_at-requires : goal.split_at-requires
split_at-requires c = starts-length c.args.word.now (codes "0x") (sym c.if-not-starts_with.ensures.value)
