use Rattle.std.proofs.Common.{rules}
use Rattle.vg_conf.proofs.Validity.{read_valid}
use Rattle.vg_conf.proofs.reading.read_conf.Goals as goal

pub returns-in-None-clause-valid : goal.returns-in-None-clause-valid
returns-in-None-clause-valid c = read_valid c.args.spec.now c.args.text.now c.in_ok-config.config (search rules)
