use Rattle.std.proofs.Common.{◌≡◌, drop, arith, length-drop}
use Rattle.vg_ctok.specs.Reader.{shown, Fits}
use Rattle.vg_ctok.proofs.Cuts.{one_more, whole, gives_at, refusal_at, tokens-one, never-both, tokens-alone, fault-alone}
use Rattle.std.proofs.lemmas.Result.{err_from_is_err_and}
use Rattle.vg_ctok.proofs.Sizes.{first-fits}
use Rattle.vg_ctok.proofs.Defining.{first-new}
use Rattle.vg_ctok.proofs.cutting.tokens.Goals as goal

pub add_token-requires : goal.add_token-requires
add_token-requires c =
    let fits = first-fits _ _ c.in_ok-piece.piece c.in_ok-piece.ensures in
    let back : c.split_at.result.1.now ≡ drop c.loop-at.at c.args.text.now = cc in
    let here : Fits c.in_ok-piece.piece (drop c.loop-at.at c.args.text.now) = rw back at fits in
    omega (arith, here.within, length-drop c.loop-at.at c.args.text.now)

pub overflow_add-at : goal.overflow_add-at
overflow_add-at c =
    let fits = first-fits _ _ c.in_ok-piece.piece c.in_ok-piece.ensures in
    let back : c.split_at.result.1.now ≡ drop c.loop-at.at c.args.text.now = cc in
    let here : Fits c.in_ok-piece.piece (drop c.loop-at.at c.args.text.now) = rw back at fits in
    omega (arith, here.within, length-drop c.loop-at.at c.args.text.now)

pub add_define-requires : goal.add_define-requires
add_define-requires c = record {
  named = (first-fits _ _ c.in_ok-piece.piece c.in_ok-piece.ensures).named;
  new = first-new _ _ c.in_ok-piece.piece c.in_ok-piece.ensures;
}

pub loop-at-smaller : goal.loop-at-smaller
loop-at-smaller c =
    let fits = first-fits _ _ c.in_ok-piece.piece c.in_ok-piece.ensures in
    omega (arith, fits.some)

pub loop-at-preserved : goal.loop-at-preserved
loop-at-preserved c =
    let text = c.args.text.now in
    let defines = shown c.loop-at.defines.entries in
    let fits = first-fits _ _ c.in_ok-piece.piece c.in_ok-piece.ensures in
    let back : c.split_at.result.1.now ≡ drop c.loop-at.at c.args.text.now = cc in
    let held : shown c.loop-at.defines.entries ≡ shown c.loop-at.defines.entries = cc in
    let here : Fits c.in_ok-piece.piece (drop c.loop-at.at c.args.text.now) = rw back at fits in
    let stands = gives_at text c.loop-at.at c.loop-at.fresh defines (shown c.loop-at.defines.entries) c.split_at.result.1.now back held c.in_ok-piece.ensures in
    record {
      within = omega (arith, here.within, length-drop c.loop-at.at text);
      cut = one_more text c.loop-at.at c.loop-at.fresh c.fresh_after-fresh.result defines (shown c.add_define.new.defines.entries) c.loop-at.tokens.items
          c.add_token.new.tokens.items c.in_ok-piece.piece c.loop-at.invariant.cut stands c.in_ok-add_token.ensures.added
          (cc c.in_ok-add_define.ensures.added) c.fresh_after-fresh.ensures;
    }

pub returns-in_err-piece-clause-fault : goal.returns-in_err-piece-clause-fault
returns-in_err-piece-clause-fault c =
    let back : c.split_at.result.1.now ≡ drop c.loop-at.at c.args.text.now = cc in
    let held : shown c.loop-at.defines.entries ≡ shown c.loop-at.defines.entries = cc in
    let cause = refusal_at c.args.text.now c.loop-at.at c.loop-at.fresh (shown c.loop-at.defines.entries) (shown c.loop-at.defines.entries)
    c.split_at.result.1.now c.loop-at.tokens.items
    c.in_err-piece.field-0.0 back held c.loop-at-test.true c.loop-at.invariant.cut c.in_err-piece.ensures in
    let p = err_from_is_err_and c.from_residual.result c.from_residual.ensures.1 in
    rw (p.1, p.2) cause

pub returns-in_err-piece-clause-only_tokens : goal.returns-in_err-piece-clause-only_tokens
returns-in_err-piece-clause-only_tokens c =
    let back : c.split_at.result.1.now ≡ drop c.loop-at.at c.args.text.now = cc in
    let held : shown c.loop-at.defines.entries ≡ shown c.loop-at.defines.entries = cc in
    let cause = refusal_at c.args.text.now c.loop-at.at c.loop-at.fresh (shown c.loop-at.defines.entries) (shown c.loop-at.defines.entries)
    c.split_at.result.1.now c.loop-at.tokens.items
    c.in_err-piece.field-0.0 back held c.loop-at-test.true c.loop-at.invariant.cut c.in_err-piece.ensures in
    let p = err_from_is_err_and c.from_residual.result c.from_residual.ensures.1 in
    rw (p.1, p.2) (tokens-alone c.args.text.now c.in_err-piece.field-0.0 cause)

pub returns-in_err-piece-clause-first_fault : goal.returns-in_err-piece-clause-first_fault
returns-in_err-piece-clause-first_fault c =
    let back : c.split_at.result.1.now ≡ drop c.loop-at.at c.args.text.now = cc in
    let held : shown c.loop-at.defines.entries ≡ shown c.loop-at.defines.entries = cc in
    let cause = refusal_at c.args.text.now c.loop-at.at c.loop-at.fresh (shown c.loop-at.defines.entries) (shown c.loop-at.defines.entries)
    c.split_at.result.1.now c.loop-at.tokens.items
    c.in_err-piece.field-0.0 back held c.loop-at-test.true c.loop-at.invariant.cut c.in_err-piece.ensures in
    let p = err_from_is_err_and c.from_residual.result c.from_residual.ensures.1 in
    rw (p.1, p.2) (fault-alone c.args.text.now c.in_err-piece.field-0.0 cause)

pub returns-clause-only_tokens : goal.returns-clause-only_tokens
returns-clause-only_tokens c = λ ts are.
    tokens-one c.args.text.now c.loop-at.tokens.items ts
    (whole c.args.text.now c.loop-at.at c.loop-at.fresh (shown c.loop-at.defines.entries) c.loop-at.tokens.items (omega arith) c.loop-at.invariant.cut) are

pub returns-clause-first_fault : goal.returns-clause-first_fault
returns-clause-first_fault c = λ e refused.
    never-both c.args.text.now c.loop-at.tokens.items e
    (whole c.args.text.now c.loop-at.at c.loop-at.fresh (shown c.loop-at.defines.entries) c.loop-at.tokens.items (omega arith) c.loop-at.invariant.cut) refused
