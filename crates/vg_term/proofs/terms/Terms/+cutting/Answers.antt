use Rattle.std.proofs.Common.{◌≡◌, ◌+◌, ◌<◌, ◌≤◌, [], ◌∷◌, Some, slice_get, false, sym, ◌∙◌, subst, arith}
use Rattle.vg_term.specs.declared.wire.Wire.TheVariants.{Fixed}
use Rattle.vg_term.proofs.Wires.{builds_word, builds_whole, part_builds, part_fits, part_stands, pieces_more, stands_later, width_later}
use Rattle.vg_term.specs.Terms.{listed, width_at}
use Rattle.vg_term.specs.declared.node.Op.{Op}
use Rattle.vg_term.specs.declared.node.Op.TheVariants as ops
use Rattle.vg_term.specs.declared.node.Parts.TheVariants as held
use Rattle.vg_term.specs.declared.node.Node.TheVariants as nodes
use Rattle.vg_term.proofs.Ranges.{op_width_range, width_most}
use Rattle.vg_term.proofs.Building.{parts_stand, rebuilt, carried_stand, slice_built}
use Rattle.vg_term.proofs.Slices.{node_stands, one_stands, one_part_stands, turned_wide, left_stands, right_stands, left_wide, right_wide}
use Rattle.vg_term.proofs.Slices.{first_stands, second_stands, first_wide, second_wide, turned_builds, two_ready, two_builds, choice_ready}
use Rattle.vg_term.proofs.Slices.{choice_builds, twice_builds, made_cut, signed_builds, extended_builds}
use Rattle.vg_term.proofs.terms.Terms.+cutting.Goals as goal

pub piece-returns-then-width-clause-builds : goal.piece-returns-then-width-clause-builds
piece-returns-then-width-clause-builds t c =
    builds_whole c.args.self.now c.args.wires.now c.args.from c.args.to (Fixed false) c.in-Bit.term c.in-Bit.at c.width.ensures.made c.requires.run
    c.requires.long c.in-Bit.is c.requires.stand (sym c.width.ensures.width ∙ sym c.if-width.true)

pub piece-returns-in-Fixed-clause-builds : goal.piece-returns-in-Fixed-clause-builds
piece-returns-in-Fixed-clause-builds t c =
    builds_word c.args.self.now c.make.new.self c.args.wires.now c.args.from c.args.to (Fixed false) c.in-Fixed.field-0 c.fixed_word.result
    c.make.result c.make.ensures.made c.requires.run c.requires.long c.in-Fixed.is
    c.fixed_word.ensures.width c.fixed_word.ensures.bits c.make.ensures.term

pub piece-cut_from-requires : goal.piece-cut_from-requires
piece-cut_from-requires t c =
    let fits = part_fits c.args.self.now c.args.wires.now c.args.from c.args.to (Fixed false) c.in-Bit.term c.in-Bit.at c.requires.run c.requires.long
    c.in-Bit.is c.requires.stand in (
      omega (arith, c.decreases),
      (
        c.width.ensures.made,
        (
          part_stands c.args.self.now c.args.wires.now c.args.from c.args.to (Fixed false) c.in-Bit.term c.in-Bit.at c.requires.run c.requires.long
              c.in-Bit.is c.requires.stand,
          (fits.0, fits.1),
        ),
      ),
    )

pub piece-returns-else-width-clause-builds : goal.piece-returns-else-width-clause-builds
piece-returns-else-width-clause-builds t c =
    part_builds c.args.self.now c.cut_from.new.self c.args.wires.now c.args.from c.args.to (Fixed false) c.in-Bit.term c.in-Bit.at c.cut_from.result
    c.requires.run c.requires.long c.in-Bit.is c.cut_from.ensures.builds

pub rebuild-loop-end-preserved : goal.rebuild-loop-end-preserved
rebuild-loop-end-preserved t c =
    let i = c.loop-end.invariant in
    let more =
    pieces_more c.args.self.now c.loop-end.self c.piece-in-loop-end.new.self c.joined.new.self c.args.wires.now c.in_ok-high.high c.loop-end.low
    c.in_ok-low-2.low c.loop-end.end c.run_end-next.result c.args.width i.0 i.2
    (let run = c.run_end-next.ensures.run in omega (arith, run.some)) c.run_end-next.ensures.end i.1 c.piece-in-loop-end.ensures.builds.grown
    c.in_ok-high.ensures.builds.wired c.in_ok-low-2.ensures.folds.grows c.in_ok-low-2.ensures.made c.in_ok-low-2.ensures.folds.means in (
      more.0,
      more.1,
      more.2,
      c.run_end-next.ensures.end,
      i.4,
      i.5,
      record {
        cuts = omega (arith, i.6.cuts, c.piece-in-loop-end.ensures.spends.cuts);
        few = omega (arith, i.6.few, c.run_end-next.ensures.run.some, c.piece-in-loop-end.ensures.spends.few, c.joined.ensures.few);
      },
    )

pub wired-as_wiring-same-requires-clause-parts_stand : goal.wired-as_wiring-same-requires-clause-parts_stand
wired-as_wiring-same-requires-clause-parts_stand t c = parts_stand c.args.self.now c.args.op c.args.parts.now c.new-held.result c.new-held.ensures
    c.requires.fits c.requires.parts_stand

pub wired-answer_width-width-requires-clause-parts_stand : goal.wired-answer_width-width-requires-clause-parts_stand
wired-answer_width-width-requires-clause-parts_stand t c = parts_stand c.args.self.now c.args.op c.args.parts.now c.new-held.result c.new-held.ensures
    c.requires.fits c.requires.parts_stand

pub wired-wires-requires-clause-parts_stand : goal.wired-wires-requires-clause-parts_stand
wired-wires-requires-clause-parts_stand t c = parts_stand c.args.self.now c.args.op c.args.parts.now c.new-held.result c.new-held.ensures
    c.requires.fits c.requires.parts_stand

pub wired-wires-requires-clause-most : goal.wired-wires-requires-clause-most
wired-wires-requires-clause-most t c = subst (λ n. n ≤ 64) (sym c.answer_width-width.ensures)
    (op_width_range c.requires.made c.as_wiring-same.result (listed c.new-held.result) (parts_stand c.args.self.now c.args.op c.args.parts.now
    c.new-held.result c.new-held.ensures c.requires.fits c.requires.parts_stand) c.as_wiring-same.ensures.fits).1

pub wired-rebuild-requires : goal.wired-rebuild-requires
wired-rebuild-requires t c =
    let range = op_width_range c.requires.made c.as_wiring-same.result (listed c.new-held.result)
    (parts_stand c.args.self.now c.args.op c.args.parts.now c.new-held.result c.new-held.ensures c.requires.fits c.requires.parts_stand)
    c.as_wiring-same.ensures.fits in
    let most : c.answer_width-width.result ≤ 64 = subst (λ n. n ≤ 64) (sym c.answer_width-width.ensures) range.1 in (
      omega (arith, c.decreases),
      (
        subst (λ n. 0 < n) (sym c.answer_width-width.ensures) range.0,
        (
          most,
          (
            omega (arith, most, c.in-Some.ensures.long),
            carried_stand c.args.self.now c.as_wiring-same.result (listed c.new-held.result)
                c.in-Some.wires c.answer_width-width.result c.in-Some.ensures.carry,
          ),
        ),
      ),
    )

pub wired-returns-in-Some-clause-spends : goal.wired-returns-in-Some-clause-spends
wired-returns-in-Some-clause-spends t c =
    let range = op_width_range c.requires.made c.as_wiring-same.result (listed c.new-held.result)
    (parts_stand c.args.self.now c.args.op c.args.parts.now c.new-held.result c.new-held.ensures c.requires.fits c.requires.parts_stand)
    c.as_wiring-same.ensures.fits in
    let most : c.answer_width-width.result ≤ 64 = subst (λ n. n ≤ 64) (sym c.answer_width-width.ensures) range.1 in
    record { cuts = c.rebuild.ensures.spends.cuts; few = omega (arith, most, c.rebuild.ensures.spends.few) }

pub wired-returns-in-Some-clause-builds : goal.wired-returns-in-Some-clause-builds
wired-returns-in-Some-clause-builds t c =
    rebuilt c.args.self.now c.args.op c.args.parts.now c.new-held.result c.new-held.ensures c.requires.fits c.requires.parts_stand c.rebuild.new.self
    c.as_wiring-same.result c.in-Some.wires c.answer_width-width.result c.rebuild.result c.requires.made c.in-Some.ensures.carry
    c.answer_width-width.ensures c.as_wiring-same.ensures c.rebuild.ensures.builds

pub slice-wires-requires-clause-most : goal.slice-wires-requires-clause-most
slice-wires-requires-clause-most t c = omega (arith, c.requires.within, width_most c.requires.made c.args.term c.requires.stands)

pub slice-rebuild-requires : goal.slice-rebuild-requires
slice-rebuild-requires t c =
    let most : c.args.width ≤ 64 = omega (arith, c.requires.within, width_most c.requires.made c.args.term c.requires.stands) in (
      omega (arith, c.decreases),
      (
        c.requires.some,
        (
          most,
          (
            omega (arith, most, c.in-Some.ensures.long),
            carried_stand c.args.self.now (ops.Extract c.args.from c.args.width) (c.args.term ∷ [])
                c.in-Some.wires c.args.width c.in-Some.ensures.carry,
          ),
        ),
      ),
    )

pub slice-returns-in-Some-clause-builds : goal.slice-returns-in-Some-clause-builds
slice-returns-in-Some-clause-builds t c =
    slice_built c.args.self.now c.rebuild.new.self c.args.from c.args.width c.args.term c.in-Some.wires c.rebuild.result c.requires.made
    c.requires.stands c.requires.some c.requires.within c.in-Some.ensures.carry c.rebuild.ensures.builds

pub slice-returns-in-Some-clause-spends : goal.slice-returns-in-Some-clause-spends
slice-returns-in-Some-clause-spends t c =
    let most : c.args.width ≤ 64 = omega (arith, c.requires.within, width_most c.requires.made c.args.term c.requires.stands) in
    record { cuts = c.rebuild.ensures.spends.cuts; few = omega (arith, most, c.rebuild.ensures.spends.few) }

pub slice-returns-in-None-clause-builds : goal.slice-returns-in-None-clause-builds
slice-returns-in-None-clause-builds t c = made_cut c.args.self.now c.make.new.self c.args.term c.args.from c.args.width c.make.result
    c.make.ensures.made c.requires.stands c.requires.some c.requires.within c.make.ensures.term

pub cut_from-returns-in_default-clause-builds : goal.cut_from-returns-in_default-clause-builds
cut_from-returns-in_default-clause-builds t c = made_cut c.args.self.now c.make.new.self c.args.term c.args.from c.args.width c.make.result
    c.make.ensures.made c.requires.stands c.requires.some c.requires.within c.make.ensures.term

pub cut_operation-returns-in-Zero-clause-builds : goal.cut_operation-returns-in-Zero-clause-builds
cut_operation-returns-in-Zero-clause-builds t c =
    made_cut c.args.self.now c.make.new.self c.args.term c.args.from c.args.width c.make.result c.make.ensures.made
    (node_stands c.requires.made c.args.term c.args.op c.args.parts (width_at c.args.self.now c.args.term) c.requires.node) c.requires.some
    c.requires.within c.make.ensures.term

pub cut_of_one-slice-requires : goal.cut_of_one-slice-requires
cut_of_one-slice-requires t c =
    let node = subst (λ (o : Op). slice_get c.args.self.now c.args.term.0 ≡ Some (
      nodes.Op o (held.One c.args.a),
      width_at c.args.self.now c.args.term,
    )) c.in-Not.is c.requires.node in (
      omega (arith, c.decreases),
      (
        c.requires.made,
        (
          one_part_stands c.requires.made c.args.term ops.Not c.args.a (width_at c.args.self.now c.args.term) node,
          (
            c.requires.some,
            turned_wide c.requires.made c.args.term c.args.a (width_at c.args.self.now c.args.term) node c.args.from c.args.width
                c.requires.within,
          ),
        ),
      ),
    )

pub cut_of_one-make-requires : goal.cut_of_one-make-requires
cut_of_one-make-requires t c =
    record {
      parts_stand = one_stands c.args.self.now c.args.term (node_stands c.requires.made c.args.term c.args.op (held.One c.args.a)
          (width_at c.args.self.now c.args.term) c.requires.node);
      fits = (c.requires.some, c.requires.within);
    }

pub cut_of_one-make-requires-in_default : goal.cut_of_one-make-requires-in_default
cut_of_one-make-requires-in_default t c =
    record {
      parts_stand = one_stands c.args.self.now c.args.term (node_stands c.requires.made c.args.term c.args.op (held.One c.args.a)
          (width_at c.args.self.now c.args.term) c.requires.node);
      fits = (c.requires.some, c.requires.within);
    }

pub cut_of_one-returns-in_ok-part-in-Not-clause-builds : goal.cut_of_one-returns-in_ok-part-in-Not-clause-builds
cut_of_one-returns-in_ok-part-in-Not-clause-builds t c =
    let node = subst (λ (o : Op). slice_get c.args.self.now c.args.term.0 ≡ Some (
      nodes.Op o (held.One c.args.a),
      width_at c.args.self.now c.args.term,
    )) c.in-Not.is c.requires.node in
    turned_builds c.args.self.now c.slice.new.self c.wired.new.self c.args.term c.args.a c.in_ok-part-in-Not.part
    (width_at c.args.self.now c.args.term) c.args.from c.args.width c.wired.result c.requires.made node c.requires.within
    c.in_ok-part-in-Not.ensures.builds c.wired.ensures.builds

pub cut_of_one-returns-in_default-clause-builds : goal.cut_of_one-returns-in_default-clause-builds
cut_of_one-returns-in_default-clause-builds t c =
    made_cut c.args.self.now c.make-in_default.new.self c.args.term c.args.from c.args.width c.make-in_default.result c.make-in_default.ensures.made
    (node_stands c.requires.made c.args.term c.args.op (held.One c.args.a) (width_at c.args.self.now c.args.term) c.requires.node) c.requires.some
    c.requires.within c.make-in_default.ensures.term

pub cut_of_three-slice-requires : goal.cut_of_three-slice-requires
cut_of_three-slice-requires t c =
    let node = subst (λ (o : Op). slice_get c.args.self.now c.args.term.0 ≡ Some (
      nodes.Op o (held.Three c.args.condition c.args.a c.args.b),
      width_at c.args.self.now c.args.term,
    )) c.in-Ite.is c.requires.node in
    let wide = first_wide c.requires.made c.args.term c.args.condition c.args.a c.args.b (width_at c.args.self.now c.args.term) node in (
      omega (arith, c.decreases),
      (
        c.requires.made,
        (
          first_stands c.requires.made c.args.term c.args.condition c.args.a c.args.b (width_at c.args.self.now c.args.term) node,
          (c.requires.some, omega (arith, c.requires.within, wide)),
        ),
      ),
    )

pub cut_of_three-slice-requires-in-Ite : goal.cut_of_three-slice-requires-in-Ite
cut_of_three-slice-requires-in-Ite t c =
    let node = subst (λ (o : Op). slice_get c.args.self.now c.args.term.0 ≡ Some (
      nodes.Op o (held.Three c.args.condition c.args.a c.args.b),
      width_at c.args.self.now c.args.term,
    )) c.in-Ite.is c.requires.node in
    let wide = second_wide c.requires.made c.args.term c.args.condition c.args.a c.args.b (width_at c.args.self.now c.args.term) node in
    let there = second_stands c.requires.made c.args.term c.args.condition c.args.a c.args.b (width_at c.args.self.now c.args.term) node in
    let g = c.slice.ensures.builds.grows in (
      omega (arith, c.decreases, c.slice.ensures.spends.cuts),
      (
        c.slice.ensures.builds.made,
        (
          stands_later c.args.self.now c.slice.new.self g c.args.b there,
          (
            c.requires.some,
            omega (arith, c.requires.within, wide, width_later c.args.self.now c.slice.new.self g c.args.b there),
          ),
        ),
      ),
    )

pub cut_of_three-wired-requires : goal.cut_of_three-wired-requires
cut_of_three-wired-requires t c =
    let node = subst (λ (o : Op). slice_get c.args.self.now c.args.term.0 ≡ Some (
      nodes.Op o (held.Three c.args.condition c.args.a c.args.b),
      width_at c.args.self.now c.args.term,
    )) c.in-Ite.is c.requires.node in
    let ready = choice_ready c.args.self.now c.slice.new.self c.slice-in-Ite.new.self c.args.term c.args.condition c.args.a c.args.b
    c.in_ok-one-in-Ite.one c.in_ok-zero-in-Ite.zero (width_at c.args.self.now c.args.term) c.args.from c.args.width c.requires.made node
    c.in_ok-one-in-Ite.ensures.builds c.in_ok-zero-in-Ite.ensures.builds in
    (omega (arith, c.decreases, c.slice.ensures.spends.cuts, c.slice-in-Ite.ensures.spends.cuts), (ready.made, (ready.parts_stand, ready.fits)))

pub cut_of_three-make-requires : goal.cut_of_three-make-requires
cut_of_three-make-requires t c =
    record {
      parts_stand = one_stands c.args.self.now c.args.term (node_stands c.requires.made c.args.term c.args.op
          (held.Three c.args.condition c.args.a c.args.b) (width_at c.args.self.now c.args.term) c.requires.node);
      fits =
          (c.requires.some, c.requires.within);
    }

pub cut_of_three-returns-in_ok-zero-in-Ite-clause-builds : goal.cut_of_three-returns-in_ok-zero-in-Ite-clause-builds
cut_of_three-returns-in_ok-zero-in-Ite-clause-builds t c =
    let node = subst (λ (o : Op). slice_get c.args.self.now c.args.term.0 ≡ Some (
      nodes.Op o (held.Three c.args.condition c.args.a c.args.b),
      width_at c.args.self.now c.args.term,
    )) c.in-Ite.is c.requires.node in
    choice_builds c.args.self.now c.slice.new.self c.slice-in-Ite.new.self c.wired.new.self c.args.term c.args.condition c.args.a c.args.b
    c.in_ok-one-in-Ite.one c.in_ok-zero-in-Ite.zero (width_at c.args.self.now c.args.term) c.args.from c.args.width c.wired.result c.requires.made
    node c.in_ok-one-in-Ite.ensures.builds c.in_ok-zero-in-Ite.ensures.builds c.wired.ensures.builds

pub cut_of_three-returns-in_default-clause-builds : goal.cut_of_three-returns-in_default-clause-builds
cut_of_three-returns-in_default-clause-builds t c =
    made_cut c.args.self.now c.make.new.self c.args.term c.args.from c.args.width c.make.result c.make.ensures.made
    (node_stands c.requires.made c.args.term c.args.op (held.Three c.args.condition c.args.a c.args.b) (width_at c.args.self.now c.args.term)
    c.requires.node) c.requires.some c.requires.within c.make.ensures.term

pub cut_of_two-overflow_add-from : goal.cut_of_two-overflow_add-from
cut_of_two-overflow_add-from t c =
    record {
      fits = omega (
        arith,
        c.requires.within,
        width_most c.requires.made c.args.term
            (node_stands c.requires.made c.args.term c.args.op (held.Two c.args.a c.args.b) (width_at c.args.self.now c.args.term) c.requires.node),
      );
    }

pub cut_of_two-width-requires : goal.cut_of_two-width-requires
cut_of_two-width-requires t c = node_stands c.requires.made c.args.term c.args.op (held.Two c.args.a c.args.b) (width_at c.args.self.now c.args.term)
    c.requires.node

pub cut_of_two-returns-then-from-width-clause-builds : goal.cut_of_two-returns-then-from-width-clause-builds
cut_of_two-returns-then-from-width-clause-builds t c =
    twice_builds c.args.self.now c.cut_parts-then-from-width.new.self c.slice.new.self c.args.term c.in_ok-low.low c.args.from c.args.width
    (c.args.from + c.args.width) c.slice.result (node_stands c.requires.made c.args.term c.args.op (held.Two c.args.a c.args.b)
    (width_at c.args.self.now c.args.term) c.requires.node) (omega arith) c.in_ok-low.ensures.builds c.slice.ensures.builds

pub cut_of_two-make-requires-clause-parts_stand : goal.cut_of_two-make-requires-clause-parts_stand
cut_of_two-make-requires-clause-parts_stand t c =
    one_stands c.args.self.now c.args.term (node_stands c.requires.made c.args.term c.args.op (held.Two c.args.a c.args.b)
    (width_at c.args.self.now c.args.term) c.requires.node)

pub cut_of_two-returns-clause-builds : goal.cut_of_two-returns-clause-builds
cut_of_two-returns-clause-builds t c =
    made_cut c.args.self.now c.make.new.self c.args.term c.args.from c.args.width c.make.result c.make.ensures.made
    (node_stands c.requires.made c.args.term c.args.op (held.Two c.args.a c.args.b) (width_at c.args.self.now c.args.term) c.requires.node)
    c.requires.some c.requires.within c.make.ensures.term

pub cut_parts-slice-requires : goal.cut_parts-slice-requires
cut_parts-slice-requires t c =
    let wide = left_wide c.requires.made c.args.term c.args.op c.args.a c.args.b (width_at c.args.self.now c.args.term) c.args.from c.requires.node
    c.requires.cuts in (
      omega (arith, c.decreases),
      (
        c.requires.made,
        (
          left_stands c.requires.made c.args.term c.args.op c.args.a c.args.b (width_at c.args.self.now c.args.term) c.args.from c.requires.node,
          (c.requires.some, omega (arith, c.requires.within, wide)),
        ),
      ),
    )

pub cut_parts-slice-requires-2 : goal.cut_parts-slice-requires-2
cut_parts-slice-requires-2 t c =
    let wide = right_wide c.requires.made c.args.term c.args.op c.args.a c.args.b (width_at c.args.self.now c.args.term) c.args.from c.requires.node
    c.requires.cuts in
    let there = right_stands c.requires.made c.args.term c.args.op c.args.a c.args.b (width_at c.args.self.now c.args.term) c.args.from c.requires.node in
    let g = c.slice.ensures.builds.grows in (
      omega (arith, c.decreases, c.slice.ensures.spends.cuts),
      (
        c.slice.ensures.builds.made,
        (
          stands_later c.args.self.now c.slice.new.self g c.args.b there,
          (
            c.requires.some,
            omega (arith, c.requires.within, wide, width_later c.args.self.now c.slice.new.self g c.args.b there),
          ),
        ),
      ),
    )

pub cut_parts-wired-requires : goal.cut_parts-wired-requires
cut_parts-wired-requires t c =
    let ready = two_ready c.args.self.now c.slice.new.self c.slice-2.new.self c.args.a c.args.b c.in_ok-left.left c.in_ok-right.right c.args.op
    c.args.from c.args.width c.requires.cuts c.in_ok-left.ensures.builds c.in_ok-right.ensures.builds in
    (omega (arith, c.decreases, c.slice.ensures.spends.cuts, c.slice-2.ensures.spends.cuts), (ready.made, (ready.parts_stand, ready.fits)))

pub cut_parts-returns-clause-builds : goal.cut_parts-returns-clause-builds
cut_parts-returns-clause-builds t c =
    two_builds c.args.self.now c.slice.new.self c.slice-2.new.self c.wired.new.self c.args.term c.args.a c.args.b c.in_ok-left.left
    c.in_ok-right.right c.args.op (width_at c.args.self.now c.args.term) c.args.from c.args.width c.wired.result c.requires.made c.requires.node
    c.requires.cuts c.requires.within c.in_ok-left.ensures.builds c.in_ok-right.ensures.builds c.wired.ensures.builds

pub cut_of_one-overflow_add-from : goal.cut_of_one-overflow_add-from
cut_of_one-overflow_add-from t c =
    record {
      fits = omega (
        arith,
        c.requires.within,
        width_most c.requires.made c.args.term
            (node_stands c.requires.made c.args.term c.args.op (held.One c.args.a) (width_at c.args.self.now c.args.term) c.requires.node),
      );
    }

pub cut_of_one-width-requires : goal.cut_of_one-width-requires
cut_of_one-width-requires t c = one_part_stands c.requires.made c.args.term c.args.op c.args.a (width_at c.args.self.now c.args.term) c.requires.node

pub cut_of_one-wired-requires-then-from-eq0 : goal.cut_of_one-wired-requires-then-from-eq0
cut_of_one-wired-requires-then-from-eq0 t c =
    let most = width_most c.requires.made c.args.term (node_stands c.requires.made c.args.term c.args.op (held.One c.args.a)
    (width_at c.args.self.now c.args.term) c.requires.node) in (
      omega (arith, c.decreases),
      (
        c.requires.made,
        (
          one_stands c.args.self.now c.args.a (one_part_stands c.requires.made c.args.term c.args.op c.args.a (width_at c.args.self.now c.args.term)
              c.requires.node),
          (omega (arith, c.if-from-width.false, c.if-from-eq0.true, c.width.ensures.width), omega (arith, c.requires.within, most)),
        ),
      ),
    )

pub cut_of_one-returns-then-from-width-clause-builds : goal.cut_of_one-returns-then-from-width-clause-builds
cut_of_one-returns-then-from-width-clause-builds t c =
    let node = subst (λ (o : Op). slice_get c.args.self.now c.args.term.0 ≡ Some (
      nodes.Op o (held.One c.args.a),
      width_at c.args.self.now c.args.term,
    )) c.in-Sext.is c.requires.node in
    signed_builds c.args.self.now c.slice-then-from-width.new.self c.args.term c.args.a c.in-Sext.field-0 (width_at c.args.self.now c.args.term)
    c.args.from c.args.width c.slice-then-from-width.result c.requires.made node (omega (arith, c.if-from-width.true, c.width.ensures.width))
    c.slice-then-from-width.ensures.builds

pub cut_of_one-returns-then-from-eq0-clause-builds : goal.cut_of_one-returns-then-from-eq0-clause-builds
cut_of_one-returns-then-from-eq0-clause-builds t c =
    let node = subst (λ (o : Op). slice_get c.args.self.now c.args.term.0 ≡ Some (
      nodes.Op o (held.One c.args.a),
      width_at c.args.self.now c.args.term,
    )) c.in-Sext.is c.requires.node in
    extended_builds c.args.self.now c.wired-then-from-eq0.new.self c.args.term c.args.a c.in-Sext.field-0 (width_at c.args.self.now c.args.term)
    c.args.from c.args.width c.wired-then-from-eq0.result c.requires.made node c.if-from-eq0.true
    (omega (arith, c.if-from-width.false, c.if-from-eq0.true, c.width.ensures.width)) (omega (arith, c.requires.within))
    c.wired-then-from-eq0.ensures.builds

pub cut_of_one-returns-else-from-eq0-clause-builds : goal.cut_of_one-returns-else-from-eq0-clause-builds
cut_of_one-returns-else-from-eq0-clause-builds t c =
    made_cut c.args.self.now c.make.new.self c.args.term c.args.from c.args.width c.make.result c.make.ensures.made
    (node_stands c.requires.made c.args.term c.args.op (held.One c.args.a) (width_at c.args.self.now c.args.term) c.requires.node) c.requires.some
    c.requires.within c.make.ensures.term
