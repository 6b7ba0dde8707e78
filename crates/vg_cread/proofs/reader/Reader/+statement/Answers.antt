use Rattle.std.proofs.Common.{rules, ◌∙◌, [], sym}
use Rattle.std.proofs.lemmas.Result.{err_from_is_err_and}
use Rattle.vg_cread.specs.Kinds.{begins_piece}
use Rattle.vg_cread.specs.Grammar.{pieces, piece}
use Rattle.vg_cread.specs.Reading.{reads}
use Rattle.vg_cread.proofs.Loops.{refused_by, listing_same, listing_smaller, listing_turned, listing_failed, pieces_init, piece_eats}
use Rattle.vg_cread.proofs.reader.Reader.+statement.Goals as goal

pub pieces-loop-parts-init : goal.pieces-loop-parts-init
pieces-loop-parts-init t c =
    listing_same c.args.src begins_piece piece [] c.new-parts.result.items c.args.self.now (reads c.args.src pieces c.args.self.now)
    c.new-parts.ensures.items (pieces_init c.args.src c.args.self.now)

pub pieces-returns-in_err-piece : goal.pieces-returns-in_err-piece
pieces-returns-in_err-piece t c =
    let p = err_from_is_err_and c.from_residual.result c.from_residual.ensures.1 in
    rw (p.1, p.2) (refused_by c.in_err-piece.field-0.0 c.piece.new.self (reads c.args.src piece c.loop-parts.self) (reads c.args.src pieces c.args.self.now)
    (λ f is. listing_failed c.args.src begins_piece piece c.loop-parts.parts.items c.loop-parts.self (reads c.args.src pieces c.args.self.now) f
    c.loop-parts.invariant
    (sym c.next_is_piece.ensures ∙ c.loop-parts-test.true) is) c.in_err-piece.ensures)

pub pieces-loop-parts-smaller : goal.pieces-loop-parts-smaller
pieces-loop-parts-smaller t c =
    listing_smaller c.args.src begins_piece piece c.loop-parts.self c.in_ok-piece.field-0 c.piece.new.self piece_eats
    (sym c.next_is_piece.ensures ∙ c.loop-parts-test.true) c.in_ok-piece.ensures

pub pieces-loop-parts-preserved : goal.pieces-loop-parts-preserved
pieces-loop-parts-preserved t c =
    listing_turned c.args.src begins_piece piece c.loop-parts.parts.items c.push.new.self.items c.loop-parts.self
    (reads c.args.src pieces c.args.self.now) c.in_ok-piece.field-0 c.piece.new.self
    c.loop-parts.invariant piece_eats (sym c.next_is_piece.ensures ∙ c.loop-parts-test.true) c.in_ok-piece.ensures (search rules)
