use Rattle.std.proofs.Common.{length}
use Rattle.vg_term.specs.Terms.{listed}
use Rattle.vg_blast.proofs.Marks.{followed_within}
use Rattle.vg_blast.proofs.marking.mark_next.Goals as goal

pub mark_parts-requires : goal.mark_parts-requires
mark_parts-requires c = followed_within c.next-parts.ensures.made c.args.follow c.args.id (length c.args.marks.now.items) (listed c.next-parts.result)
    c.requires.stands c.requires.long c.next-parts.ensures.parts
