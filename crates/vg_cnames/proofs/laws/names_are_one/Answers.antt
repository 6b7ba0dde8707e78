use Rattle.vg_cnames.proofs.Naming.{one_visible, visible_found, found_visible}
use Rattle.vg_cnames.proofs.laws.names_are_one.Goals as goal

pub returns-clause-one : goal.returns-clause-one
returns-clause-one c = λ text tree what n d e ordered once v w. one_visible tree text what ordered once n d e v w

pub returns-clause-all : goal.returns-clause-all
returns-clause-all c = λ text tree what n d ordered once v. visible_found tree text what ordered once n d v

pub returns-clause-only : goal.returns-clause-only
returns-clause-only c = λ text tree what n d ordered once e. found_visible tree text what ordered once n d e
