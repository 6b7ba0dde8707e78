use Rattle.std.proofs.Common.{◌≡◌, sym, ◌∙◌, arith}
use Rattle.std.proofs.lemmas.Bool.{false≢true}
use Rattle.vg_command.specs.Commands.{words_in}
use Rattle.vg_command.proofs.WordLists.{text_at, before-more, none_of-at}
use Rattle.vg_command.proofs.names.is_none_of.Goals as goal

pub returns-then-is_same : goal.returns-then-is_same
returns-then-is_same c =
    let at = text_at c.args.words.now c.loop-word.word-index c.word-item.result c.as_str.result.now (omega arith) c.word-item.is c.as_str.ensures.value in
    let found = none_of-at c.args.words.now c.loop-word.word-index c.args.name.now c.as_str.result.now (omega arith) at
    (c.is_same.ensures.0 c.if-is_same.true) in
    ((λ is. absurd (false≢true is)), (λ none. absurd (found none)))

pub loop-word-preserved : goal.loop-word-preserved
loop-word-preserved c =
    let at = text_at c.args.words.now c.loop-word.word-index c.word-item.result c.as_str.result.now (omega arith) c.word-item.is c.as_str.ensures.value in
    before-more (λ other. c.args.name.now ≡ other → ⊥) (words_in c.args.words.now) c.loop-word.word-index c.loop-word.invariant
    (λ d e. absurd (false≢true (sym c.if-is_same.false ∙ c.is_same.ensures.1 (e ∙ at d))))
