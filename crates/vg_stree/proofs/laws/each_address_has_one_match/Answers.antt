use Rattle.vg_stree.proofs.RouteLaws.{one_match}
use Rattle.vg_stree.proofs.laws.each_address_has_one_match.Goals as goal

pub returns : goal.returns
returns c = one_match
