use Rattle.std.proofs.Common.{length}
use Rattle.vg_term.specs.Terms.{listed}
use Rattle.vg_simp.proofs.Marks.{parts_within}
use Rattle.vg_simp.proofs.marking.mark_next.Goals as goal

pub mark_parts-requires : goal.mark_parts-requires
mark_parts-requires c = parts_within c.requires.made c.args.id (length c.args.marks.now.items) (listed c.parts_of-parts.result) c.requires.within
    c.parts_of-parts.ensures
