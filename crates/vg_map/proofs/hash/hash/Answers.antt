use Rattle.std.proofs.Common.{◌≡◌, ◌+◌, ◌-◌, ◌*◌, ◌/◌, ℕ, suc, List, length, take, refl, ◌∙◌, ap, arith}
use Rattle.std.specs.Prelude.{fold}
use Rattle.std.proofs.lemmas.Bool.{le-ltb, lt-ltb}
use Rattle.std.proofs.lemmas.List.{take_all}
use Rattle.vg_map.specs.Hash.{mixed, after_words, hash_of}
use Rattle.vg_map.proofs.hash.hash.Goals as goal

pub loop-at-init : goal.loop-at-init
unfolding after_words
loop-at-init c = (refl, omega arith, refl)

pub loop-at-preserved : goal.loop-at-preserved
unfolding after_words
loop-at-preserved c =
    let at : ℕ = c.loop-at.at in
    let whole : at ≡ 8 * (at / 8) = omega (arith, c.loop-at.invariant.0) in
    let more : (at + 8) / 8 ≡ suc (at / 8) = omega arith in (
      omega arith,
      omega arith,
      rw (more, c.mix-state-in-loop-at.ensures, c.word_at.ensures, ← c.loop-at.invariant.2, ← whole),
    )

pub returns : goal.returns
unfolding hash_of
returns c =
    let n : ℕ = length c.args.key.now in
    let count : (n - 1) / 8 ≡ c.loop-at.at / 8 = omega (arith, c.loop-at.invariant.0, c.loop-at.invariant.1, c.loop-at-test.false) in
    rw (le-ltb n 8 c.if-key-lt8.false, count, ← c.loop-at.invariant.2, c.mix.ensures, c.word_at-2.ensures) refl

pub returns-then-key-lt8 : goal.returns-then-key-lt8
unfolding hash_of
returns-then-key-lt8 c =
    let all : take c.loop-byte.byte-index c.args.key.now ≡ c.args.key.now = take_all c.loop-byte.byte-index c.args.key.now c.loop-byte-test.false in
    rw (lt-ltb (length c.args.key.now) 8 c.if-key-lt8.true) (c.loop-byte.invariant ∙ ap (λ (bytes : List ℕ). fold mixed c.args.seed bytes) all)
