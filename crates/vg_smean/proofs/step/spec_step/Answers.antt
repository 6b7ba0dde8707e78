use Rattle.vg_smean.proofs.LawfulTells.{never_comes}
use Rattle.vg_smean.proofs.step.spec_step.Goals as goal

pub unreachable-requires : goal.unreachable-requires
unreachable-requires c =
    never_comes c.args.spec.now _ _ _ _ c.requires.lawful.at c.args.state.now _ _ _ _ c.requires.lawful.lawful c.requires.full c.in_ok-copy.ensures
    c.run_through.ensures c.in-Err-Untold.is c.in-Err-Untold.field-0-is
