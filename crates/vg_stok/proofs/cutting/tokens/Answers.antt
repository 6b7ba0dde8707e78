use Rattle.std.proofs.Common.{arith}
use Rattle.vg_stok.specs.Texts.{tokens_of}
use Rattle.vg_stok.proofs.Cuts.{one_more, inside, ended}
use Rattle.vg_stok.proofs.cutting.tokens.Goals as goal

pub add_token-requires : goal.add_token-requires
add_token-requires c =
    let fits = inside c.args.text.now c.split_at.result.1.now c.loop-at.at c.first_piece-piece.result c.loop-at-test.true (cc) c.first_piece-piece.ensures in
    omega (arith, fits.1)

pub overflow_add-at : goal.overflow_add-at
overflow_add-at c =
    let fits = inside c.args.text.now c.split_at.result.1.now c.loop-at.at c.first_piece-piece.result c.loop-at-test.true (cc) c.first_piece-piece.ensures in
    omega (arith, fits.1)

pub loop-at-smaller : goal.loop-at-smaller
loop-at-smaller c =
    let fits = inside c.args.text.now c.split_at.result.1.now c.loop-at.at c.first_piece-piece.result c.loop-at-test.true (cc) c.first_piece-piece.ensures in
    omega (arith, fits.0, c.loop-at-test.true)

pub loop-at-preserved : goal.loop-at-preserved
loop-at-preserved c =
    let fits = inside c.args.text.now c.split_at.result.1.now c.loop-at.at c.first_piece-piece.result c.loop-at-test.true (cc) c.first_piece-piece.ensures in
    record {
      within = omega (arith, fits.1);
      cut = one_more c.args.text.now c.split_at.result.1.now c.loop-at.at c.first_piece-piece.result c.loop-at.tokens.items
          c.add_token.new.tokens.items (tokens_of c.args.text.now) c.loop-at-test.true (cc) c.first_piece-piece.ensures
          c.in_ok-add_token.ensures c.loop-at.invariant.cut;
    }

pub returns : goal.returns
returns c = ended c.args.text.now c.loop-at.at c.loop-at.tokens.items (tokens_of c.args.text.now) (omega arith) c.loop-at.invariant.cut
