use Rattle.std.proofs.Common.{◌≤◌, ◌∙◌, ℕ, List, ◌∷◌, codes, length, ap, sym, arith}
use Rattle.std.specs.Prelude.{string_bytes}
use Rattle.std.proofs.lemmas.List.{drop-map}
use Rattle.vg_command.specs.Commands.{words_in, Replay}
use Rattle.vg_command.specs.View.{files_of}
use Rattle.vg_command.proofs.WordLists.{text_at, length-words_in, three_and, refuted}
use Rattle.vg_command.proofs.FileWords.{to_end}
use Rattle.vg_command.proofs.Decoding.{none_by, found-replay}
use Rattle.vg_command.proofs.forms.replay_in.Goals as goal
use Rattle.vg_command.proofs.forms.replay_in.Goals.{else-is_name-via-then-is_name+else-is_no_output, else-is_name-via-else-is_name}

pub returns-else-is_name-clause-none : goal.returns-else-is_name-clause-none
returns-else-is_name-clause-none c =
    let words = c.args.words.now in
    let many : 3 ≤ length (words_in words) = omega (arith, length-words_in words) in
    let is = three_and (words_in words) c.as_str.result.now c.as_str-2.result.now c.as_str-certificate.result.now many
    (text_at words 0 c.c-item.result c.as_str.result.now (omega arith) c.c-item.is c.as_str.ensures.value)
    (text_at words 1 c.spec-item.result c.as_str-2.result.now (omega arith) c.spec-item.is c.as_str-2.ensures.value)
    (text_at words 2 c.certificate-item.result c.as_str-certificate.result.now (omega arith) c.certificate-item.is c.as_str-certificate.ensures.value) in
    let rest = drop-map string_bytes 3 words ∙ ap words_in (sym (to_end words 3)) in
    let all = is ∙ ap (λ (l : List (List ℕ)). c.as_str.result.now ∷ c.as_str-2.result.now ∷ c.as_str-certificate.result.now ∷ l) rest in
    none_by (codes "replay" ∷ words_in words) (Replay c.as_str-certificate.result.now (files_of c.in_ok-files.files))
    (found-replay (words_in words) _ _ c.as_str-certificate.result.now _ (files_of c.in_ok-files.files) all c.in_ok-files.ensures.files)
    (λ spells. elim c.else-is_name.branch [
      | else-is_name-via-then-is_name+else-is_no_output w ↦ refuted w.is_no_output.ensures.1 w.if-is_no_output.false spells.allowed.2
      | else-is_name-via-else-is_name w ↦ refuted c.is_name.ensures.1 w.if-is_name.false spells.allowed.0
    ])
