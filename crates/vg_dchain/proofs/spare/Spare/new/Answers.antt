use Rattle.std.proofs.Common.{arith, ◌≡◌, ℕ, List, length, ap, ◌∙◌}
use Rattle.std.specs.List.{range_with_len}
use Rattle.vg_dchain.specs.Links.{indices_after}
use Rattle.vg_dchain.proofs.IndexLemmas.{told}
use Rattle.vg_dchain.proofs.RowLemmas.{indices_after-ascending, AllBelow-range}
use Rattle.vg_dchain.proofs.spare.Spare.new.Goals as goal

pub invariant_of-result : goal.invariant_of-result
invariant_of-result c =
    let order : indices_after c.args.bound c.new.result c.args.bound ≡ range_with_len 0 c.args.bound =
    rw c.new.ensures (indices_after-ascending c.args.bound c.args.bound c.args.bound 0 c.in_ok-links.links.items c.in_ok-links.ensures.1
    c.in_ok-links.ensures.2 (omega arith)) in
    record {
      fits = ap (λ (l : List ℕ). length l) c.new.ensures ∙ c.in_ok-links.ensures.0;
      below =
          rw order (AllBelow-range c.args.bound c.args.bound 0 (omega arith));
    }

pub returns : goal.returns
returns c = ap (told c.args.bound)
    (rw c.new.ensures (indices_after-ascending c.args.bound c.args.bound c.args.bound 0 c.in_ok-links.links.items c.in_ok-links.ensures.1
    c.in_ok-links.ensures.2 (omega arith)))
