use Rattle.std.proofs.Common.{◌∙◌, ap}
use Rattle.vg_ctok.specs.Reader.{shown}
use Rattle.vg_ctok.proofs.Defining.{defined_last}
use Rattle.vg_ctok.proofs.cutting.add_define.Goals as goal

pub returns-in_ok-insert-clause-added : goal.returns-in_ok-insert-clause-added
returns-in_ok-insert-clause-added c =
    ap shown c.in_ok-insert.ensures.entries ∙ defined_last c.args.defines.now.entries c.args.text.now c.args.piece.what c.in-Define.define
    c.slice.result c.in-Define.is c.slice.ensures c.requires.new
