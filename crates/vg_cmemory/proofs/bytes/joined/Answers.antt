use Rattle.std.proofs.Common.{rules, ◌<◌, ◌+◌, ◌*◌, ◌^◌}
use Rattle.vg_cmemory.proofs.Rows.{fits_word, fits_rest}
use Rattle.vg_cmemory.proofs.bytes.joined.Goals as goal

pub overflow_mul-result : goal.overflow_mul-result
overflow_mul-result c =
    let fits : 256 * c.args.rest < 2 ^ 64 = fits_rest c.args.rest c.args.size c.requires.some c.requires.at_most_a_word c.requires.below in search rules

pub overflow_add-result : goal.overflow_add-result
overflow_add-result c =
    let fits : c.args.byte + 256 * c.args.rest < 2 ^ 64 = fits_word c.args.byte c.args.rest c.args.size c.requires.some c.requires.at_most_a_word
    c.ranges.byte.fits c.requires.below in search rules
