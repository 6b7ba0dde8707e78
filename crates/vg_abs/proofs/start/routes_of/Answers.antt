use Rattle.std.proofs.Common.{◌∙◌, ap, arith, List, Bool}
use Rattle.std.specs.Prelude.{is_some, reverse}
use Rattle.std.specs.Ordering.{nat_cmp}
use Rattle.std.specs.FinMap.{FinMap, get}
use Rattle.vg_stree.specs.declared.config.Route.{Route}
use Rattle.vg_abs.proofs.Starting.{none_left, none_noted}
use Rattle.vg_abs.proofs.start.routes_of.Goals as goal

pub loop-left-init : goal.loop-left-init
loop-left-init c = record {
  within = omega arith;
  kept = ap (λ (kept : List Route). reverse kept) c.new-kept.ensures.items ∙ none_left c.args.table c.args.routes.now;
  noted = λ prefix. ap (λ (table : FinMap nat_cmp Bool). is_some (get table prefix)) c.new-later.ensures ∙ none_noted c.args.table prefix c.args.routes.now;
}
