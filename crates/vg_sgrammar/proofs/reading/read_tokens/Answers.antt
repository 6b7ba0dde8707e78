use Rattle.std.proofs.Common.{◌≡◌, ◌∙◌, inr, ℕ, sym, ap, subst, Ok}
use Rattle.vg_forms.specs.Reading.{Wrong, Deep, read}
use Rattle.vg_forms.specs.declared.stops.ReadFault.TheVariants as faults
use Rattle.vg_forms.proofs.Answering.{gave_wrong, gave_deep, no_fault, wrong_fault, wrong_only, deep_fault, deep_only, spelled_root, only_root, only_tree}
use Rattle.vg_forms.proofs.Answering.{no_tree}
use Rattle.vg_sgrammar.specs.Rules.{sgrammar, specification}
use Rattle.vg_sgrammar.specs.Written.{Written}
use Rattle.vg_sgrammar.specs.Reader.{SState}
use Rattle.vg_sgrammar.specs.Texts.{SaysTokens, RefusesTokens}
use Rattle.vg_sgrammar.proofs.Laws.{law}
use Rattle.vg_sgrammar.proofs.reading.read_tokens.Goals as goal

pub returns-in-Ok-clause-tree : goal.returns-in-Ok-clause-tree
returns-in-Ok-clause-tree c =
    let e = subst (λ (s : SState). read sgrammar c.args.toks.now 64 specification s ≡ Ok (c.in-Ok.step, c.specification.new.self)) c.new-reader.ensures
    c.in-Ok.ensures in
    subst (λ (t : Written). SaysTokens c.args.toks.now t c.in-Ok.step) (sym c.into_tree.ensures)
    (spelled_root law c.args.toks.now 64 c.in-Ok.step c.specification.new.self e)

pub returns-in-Ok-clause-only_tree : goal.returns-in-Ok-clause-only_tree
returns-in-Ok-clause-only_tree c = λ tree step is.
    let e = subst (λ (s : SState). read sgrammar c.args.toks.now 64 specification s ≡ Ok (c.in-Ok.step, c.specification.new.self)) c.new-reader.ensures
    c.in-Ok.ensures in (
      c.into_tree.ensures ∙ only_tree law c.args.toks.now 64 c.in-Ok.step c.specification.new.self tree e (step, is),
      only_root law c.args.toks.now 64 c.in-Ok.step step c.specification.new.self tree e is,
    )

pub returns-in-Ok-clause-only_fault : goal.returns-in-Ok-clause-only_fault
returns-in-Ok-clause-only_fault c = λ f is.
    let e = subst (λ (s : SState). read sgrammar c.args.toks.now 64 specification s ≡ Ok (c.in-Ok.step, c.specification.new.self)) c.new-reader.ensures
    c.in-Ok.ensures in
    no_fault law c.args.toks.now 64 c.in-Ok.step c.specification.new.self f e is

pub returns-in-Err-Wrong-clause-fault : goal.returns-in-Err-Wrong-clause-fault
returns-in-Err-Wrong-clause-fault c =
    let e = gave_wrong law c.args.toks.now 64 c.in-Err-Wrong.field-0 c.new-reader.result c.specification.new.self c.in-Err-Wrong.field-0-is
    c.new-reader.ensures
    c.in-Err-Wrong.ensures in
    inr (subst (λ (p : ℕ). RefusesTokens c.args.toks.now (faults.Syntax p)) (sym c.place.ensures)
    (wrong_fault law c.args.toks.now 64 c.specification.new.self.at e))

pub returns-in-Err-Wrong-clause-only_tree : goal.returns-in-Err-Wrong-clause-only_tree
returns-in-Err-Wrong-clause-only_tree c = λ tree step is.
    let e = gave_wrong law c.args.toks.now 64 c.in-Err-Wrong.field-0 c.new-reader.result c.specification.new.self c.in-Err-Wrong.field-0-is
    c.new-reader.ensures
    c.in-Err-Wrong.ensures in
    absurd (no_tree law c.args.toks.now 64 (Wrong c.specification.new.self.at) tree e (step, is))

pub returns-in-Err-Wrong-clause-only_fault : goal.returns-in-Err-Wrong-clause-only_fault
returns-in-Err-Wrong-clause-only_fault c = λ f is.
    let e = gave_wrong law c.args.toks.now 64 c.in-Err-Wrong.field-0 c.new-reader.result c.specification.new.self c.in-Err-Wrong.field-0-is
    c.new-reader.ensures
    c.in-Err-Wrong.ensures in
    inr (ap faults.Syntax c.place.ensures ∙ wrong_only law c.args.toks.now 64 c.specification.new.self.at f e is)

pub returns-in-Err-Deep-clause-fault : goal.returns-in-Err-Deep-clause-fault
returns-in-Err-Deep-clause-fault c =
    let e = gave_deep law c.args.toks.now 64 c.in-Err-Deep.field-0 c.new-reader.result c.specification.new.self c.in-Err-Deep.field-0-is c.new-reader.ensures
    c.in-Err-Deep.ensures in
    inr (subst (λ (p : ℕ). RefusesTokens c.args.toks.now (faults.Deep p)) (sym c.place-in-Err-Deep.ensures)
    (deep_fault law c.args.toks.now 64 c.specification.new.self.at e))

pub returns-in-Err-Deep-clause-only_tree : goal.returns-in-Err-Deep-clause-only_tree
returns-in-Err-Deep-clause-only_tree c = λ tree step is.
    let e = gave_deep law c.args.toks.now 64 c.in-Err-Deep.field-0 c.new-reader.result c.specification.new.self c.in-Err-Deep.field-0-is c.new-reader.ensures
    c.in-Err-Deep.ensures in
    absurd (no_tree law c.args.toks.now 64 (Deep c.specification.new.self.at) tree e (step, is))

pub returns-in-Err-Deep-clause-only_fault : goal.returns-in-Err-Deep-clause-only_fault
returns-in-Err-Deep-clause-only_fault c = λ f is.
    let e = gave_deep law c.args.toks.now 64 c.in-Err-Deep.field-0 c.new-reader.result c.specification.new.self c.in-Err-Deep.field-0-is c.new-reader.ensures
    c.in-Err-Deep.ensures in
    inr (ap faults.Deep c.place-in-Err-Deep.ensures ∙ deep_only law c.args.toks.now 64 c.specification.new.self.at f e is)
