use Rattle.std.proofs.Common.{◌≡◌, ◌∙◌, ℕ, List, [], ◌∷◌, codes, length, drop, get_or, refl, sym, ap, arith}
use Rattle.std.specs.Prelude.{string_bytes}
use Rattle.std.specs.Str.Parse.{digits_value}
use Rattle.vg_command.specs.Commands.{words_in, Verify}
use Rattle.vg_command.proofs.WordLists.{text_at, length-words_in, four, refuted}
use Rattle.vg_command.proofs.Decoding.{decoded, none_by, if_none}
use Rattle.vg_command.proofs.forms.verify_in.Goals as goal
use Rattle.vg_command.proofs.forms.verify_in.Goals.{then-not-are_names-via-then-not-are_names, then-not-are_names-via-else-not-are_names+then-not-is_neither}

pub returns-then-not-are_names-clause-none : goal.returns-then-not-are_names-clause-none
returns-then-not-are_names-clause-none c =
    let words = c.args.words.now in
    let limit = string_bytes c.limit-item.result in
    let four_words : length (words_in words) ≡ 4 = omega (arith, length-words_in words) in
    let is = four (words_in words) c.as_str-c.result.now c.as_str-spec.result.now c.as_str-certificate.result.now limit four_words
    (text_at words 0 c.c-item.result c.as_str-c.result.now (omega arith) c.c-item.is c.as_str-c.ensures.value)
    (text_at words 1 c.spec-item.result c.as_str-spec.result.now (omega arith) c.spec-item.is c.as_str-spec.ensures.value)
    (text_at words 2 c.certificate-item.result c.as_str-certificate.result.now (omega arith) c.certificate-item.is c.as_str-certificate.ensures.value)
    (text_at words 3 c.limit-item.result limit (omega arith) c.limit-item.is refl) in
    none_by (codes "verify" ∷ words_in words) (Verify c.as_str-c.result.now c.as_str-spec.result.now c.as_str-certificate.result.now (digits_value 10 limit))
    (ap (λ (l : List (List ℕ)). decoded (codes "verify" ∷ l)) is)
    (λ spells. elim c.then-not-are_names.branch [
      | then-not-are_names-via-then-not-are_names w ↦ refuted c.are_names.ensures.1 w.if-not-are_names.true
          (spells.allowed.0, spells.allowed.1, spells.allowed.2)
      | then-not-are_names-via-else-not-are_names+then-not-is_neither w ↦ refuted w.is_neither.ensures.1 w.if-not-is_neither.true spells.allowed.3
    ])

pub returns-in_err-limit-clause-none : goal.returns-in_err-limit-clause-none
returns-in_err-limit-clause-none c =
    let words = c.args.words.now in
    let limit = c.as_str.result.now in
    let four_words : length (words_in words) ≡ 4 = omega (arith, length-words_in words) in
    let is = four (words_in words) c.as_str-c.result.now c.as_str-spec.result.now c.as_str-certificate.result.now limit four_words
    (text_at words 0 c.c-item.result c.as_str-c.result.now (omega arith) c.c-item.is c.as_str-c.ensures.value)
    (text_at words 1 c.spec-item.result c.as_str-spec.result.now (omega arith) c.spec-item.is c.as_str-spec.ensures.value)
    (text_at words 2 c.certificate-item.result c.as_str-certificate.result.now (omega arith) c.certificate-item.is c.as_str-certificate.ensures.value)
    (text_at words 3 c.limit-item.result limit (omega arith) c.limit-item.is c.as_str.ensures.value) in
    if_none c.from_residual.result (none_by (codes "verify" ∷ words_in words) (Verify c.as_str-c.result.now c.as_str-spec.result.now
    c.as_str-certificate.result.now (digits_value 10 limit))
    (ap (λ (l : List (List ℕ)). decoded (codes "verify" ∷ l)) is)
    (λ spells. c.in_err-limit.ensures.none (digits_value 10 limit) spells.allowed.4 spells.allowed.5
    (ap (λ (l : List (List ℕ)). get_or l 3 []) (sym is ∙ ap (drop 1) spells.words_are))))
