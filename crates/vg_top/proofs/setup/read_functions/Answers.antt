use Rattle.std.proofs.lemmas.List.{length-map}
use Rattle.std.specs.Prelude.{string_bytes}
use Rattle.vg_top.proofs.Verifying.{reads_functions}
use Rattle.vg_top.proofs.setup.read_functions.Goals as goal

pub returns : goal.returns
returns g c = reads_functions c.in_ok-texts.texts c.functions_in.result c.in_ok-texts.ensures
    (rw (← length-map c.args.names.now.ins.now string_bytes) at c.functions_in.ensures)
