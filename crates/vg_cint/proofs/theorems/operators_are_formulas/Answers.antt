use Rattle.vg_cint.proofs.ByFormula.{words_are, word_is_formula, converted_is}
use Rattle.vg_cint.proofs.theorems.operators_are_formulas.Goals as goal

pub returns-clause-binary : goal.returns-clause-binary
returns-clause-binary c = words_are

pub returns-clause-unary : goal.returns-clause-unary
returns-clause-unary c = word_is_formula

pub returns-clause-conversions : goal.returns-clause-conversions
returns-clause-conversions c = converted_is
