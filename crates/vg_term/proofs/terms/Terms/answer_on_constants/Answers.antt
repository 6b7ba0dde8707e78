use Rattle.std.proofs.Common.{◌∷◌, [], refl}
use Rattle.vg_term.specs.declared.node.Parts.TheVariants.{Zero, One, Two, Three}
use Rattle.vg_term.proofs.Meanings.{words_fit, words_answer}
use Rattle.vg_term.proofs.terms.Terms.answer_on_constants.Goals as goal

pub apply-requires : goal.apply-requires
apply-requires c = words_fit c.args.self.now c.args.op c.args.parts.now c.new.result Zero c.requires.fits c.new.ensures c.in-Zero.is [] (λ words. refl)

pub returns-in-Zero-clause-answer : goal.returns-in-Zero-clause-answer
returns-in-Zero-clause-answer c = words_answer c.args.self.now c.args.op c.args.parts.now c.new.result Zero c.requires.fits c.new.ensures c.in-Zero.is
    [] (λ words. refl) c.apply.result c.apply.ensures.width c.apply.ensures.value

pub apply-requires-in-One : goal.apply-requires-in-One
apply-requires-in-One c = words_fit c.args.self.now c.args.op c.args.parts.now c.new.result (One c.in-One.a) c.requires.fits c.new.ensures c.in-One.is
    (c.in_ok-word-in-One.word ∷ []) (λ words j. c.in_ok-word-in-One.ensures.word words j ∷ [])

pub returns-in_ok-word-in-One-clause-answer : goal.returns-in_ok-word-in-One-clause-answer
returns-in_ok-word-in-One-clause-answer c = words_answer c.args.self.now c.args.op c.args.parts.now c.new.result (One c.in-One.a) c.requires.fits
    c.new.ensures c.in-One.is (c.in_ok-word-in-One.word ∷ []) (λ words j. c.in_ok-word-in-One.ensures.word words j ∷ []) c.apply-in-One.result
    c.apply-in-One.ensures.width c.apply-in-One.ensures.value

pub apply-requires-in-Two : goal.apply-requires-in-Two
apply-requires-in-Two c = words_fit c.args.self.now c.args.op c.args.parts.now c.new.result (Two c.in-Two.a c.in-Two.b) c.requires.fits c.new.ensures
    c.in-Two.is (c.in_ok-left-in-Two.left ∷ c.in_ok-right-in-Two.right ∷ []) (λ words j. c.in_ok-left-in-Two.ensures.word words j
    ∷ c.in_ok-right-in-Two.ensures.word words j ∷ [])

pub returns-in_ok-right-in-Two-clause-answer : goal.returns-in_ok-right-in-Two-clause-answer
returns-in_ok-right-in-Two-clause-answer c = words_answer c.args.self.now c.args.op c.args.parts.now c.new.result (Two c.in-Two.a c.in-Two.b)
    c.requires.fits c.new.ensures c.in-Two.is (c.in_ok-left-in-Two.left ∷ c.in_ok-right-in-Two.right ∷ [])
    (λ words j. c.in_ok-left-in-Two.ensures.word words j ∷ c.in_ok-right-in-Two.ensures.word words j ∷ []) c.apply-in-Two.result
    c.apply-in-Two.ensures.width c.apply-in-Two.ensures.value

pub apply-requires-in-Three : goal.apply-requires-in-Three
apply-requires-in-Three c = words_fit c.args.self.now c.args.op c.args.parts.now c.new.result (Three c.in-Three.c c.in-Three.a c.in-Three.b)
    c.requires.fits c.new.ensures c.in-Three.is (c.in_ok-condition-in-Three.condition ∷ c.in_ok-left-in-Three.left ∷ c.in_ok-right-in-Three.right
    ∷ []) (λ words j. c.in_ok-condition-in-Three.ensures.word words j ∷ c.in_ok-left-in-Three.ensures.word words j
    ∷ c.in_ok-right-in-Three.ensures.word words j ∷ [])

pub returns-in_ok-right-in-Three-clause-answer : goal.returns-in_ok-right-in-Three-clause-answer
returns-in_ok-right-in-Three-clause-answer c = words_answer c.args.self.now c.args.op c.args.parts.now c.new.result
    (Three c.in-Three.c c.in-Three.a c.in-Three.b) c.requires.fits c.new.ensures c.in-Three.is
    (c.in_ok-condition-in-Three.condition ∷ c.in_ok-left-in-Three.left ∷ c.in_ok-right-in-Three.right ∷ [])
    (λ words j. c.in_ok-condition-in-Three.ensures.word words j ∷ c.in_ok-left-in-Three.ensures.word words j
    ∷ c.in_ok-right-in-Three.ensures.word words j ∷ []) c.apply-in-Three.result c.apply-in-Three.ensures.width c.apply-in-Three.ensures.value
