use Rattle.std.proofs.Common.{◌≡◌, ◌*◌, rules, replicate, false}
use Rattle.std.proofs.lemmas.List.{length-replicate}
use Rattle.vg_vector.proofs.Blocks.{cells_of-zeros}
use Rattle.vg_vector.proofs.cells.Cells.new.Goals as goal

pub returns-clause-zeros : goal.returns-clause-zeros
returns-clause-zeros c =
    let free : c.in-Ok-vec.loans.items ≡ replicate c.args.length false = search rules in
    let zeros : c.in-Ok.bytes.items ≡ replicate (c.args.length * c.args.size) 0 = search rules in
    rw (free, zeros, length-replicate c.args.length false) (cells_of-zeros c.args.length c.args.size)
