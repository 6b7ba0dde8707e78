use Rattle.std.proofs.Common.{◌≡◌, ◌∙◌, sym, subst, List}
use Rattle.std.specs.Prelude.{IfOk}
use Rattle.vg_stok.specs.Texts.{tokens_of}
use Rattle.vg_sgrammar.specs.Kinds.{SToken}
use Rattle.vg_sgrammar.specs.Texts.{SaysTokens}
use Rattle.vg_sgrammar.proofs.reading.read_written.Goals as goal

pub returns-in-Ok-clause-tree : goal.returns-in-Ok-clause-tree
returns-in-Ok-clause-tree c =
    let same : c.deref.result.now ≡ tokens_of c.args.text.now = c.deref.ensures.value ∙ c.in-Ok.ensures in
    subst (λ (toks : List SToken). IfOk c.read_tokens.result (λ w. SaysTokens toks w.tree w.step)) same c.read_tokens.ensures.tree

pub returns-in-Ok-clause-only_tree : goal.returns-in-Ok-clause-only_tree
returns-in-Ok-clause-only_tree c = λ tree step is.
    let same : c.deref.result.now ≡ tokens_of c.args.text.now = c.deref.ensures.value ∙ c.in-Ok.ensures in
    c.read_tokens.ensures.only_tree tree step (subst (λ (toks : List SToken). SaysTokens toks tree step) (sym same) is)
