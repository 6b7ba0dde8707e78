use Rattle.std.proofs.Common.{◌≡◌, ◌∙◌, inr, ℕ, sym, ap, subst, Ok}
use Rattle.vg_core.specs.Syntax.{Syntax, IsOrdered, IsUsedOnce}
use Rattle.vg_cread.specs.Grammar.{unit}
use Rattle.vg_cread.specs.Places.{State}
use Rattle.vg_cread.specs.Spelling.{Spells}
use Rattle.vg_cread.specs.Refusals.{Refuses}
use Rattle.vg_cread.specs.Reading.{Wrong, Deep, read}
use Rattle.vg_cread.specs.declared.reading.ReadFault.TheVariants as faults
use Rattle.vg_cread.proofs.Units.{unit_spelled}
use Rattle.vg_cread.proofs.Telling.{spelled_of}
use Rattle.vg_cread.proofs.Rules.{parts_first, parts_used_once}
use Rattle.vg_cread.proofs.Answering.{gave_wrong, gave_deep, only_tree, no_tree, no_fault, wrong_fault, wrong_only, deep_fault, deep_only}
use Rattle.vg_cread.proofs.reading.read_unit.Goals as goal

pub returns-in-Ok-clause-tree : goal.returns-in-Ok-clause-tree
returns-in-Ok-clause-tree c =
    let e = subst (λ (s : State). read c.args.toks.now 64 unit s ≡ Ok (c.in-Ok.field-0, c.unit.new.self)) c.new-reader.ensures c.in-Ok.ensures in
    subst (λ (t : Syntax). Spells 64 c.args.toks.now t) (sym c.into_tree.ensures) (spelled_of c.args.toks.now 64 c.unit.new.self.tree
    (unit_spelled c.args.toks.now 64 c.in-Ok.field-0 c.unit.new.self e))

pub returns-in-Ok-clause-ordered : goal.returns-in-Ok-clause-ordered
returns-in-Ok-clause-ordered c =
    let e = subst (λ (s : State). read c.args.toks.now 64 unit s ≡ Ok (c.in-Ok.field-0, c.unit.new.self)) c.new-reader.ensures c.in-Ok.ensures in
    subst (λ (t : Syntax). IsOrdered t) (sym c.into_tree.ensures) (parts_first c.args.toks.now 64 c.unit.new.self.tree
    (unit_spelled c.args.toks.now 64 c.in-Ok.field-0 c.unit.new.self e))

pub returns-in-Ok-clause-used_once : goal.returns-in-Ok-clause-used_once
returns-in-Ok-clause-used_once c =
    let e = subst (λ (s : State). read c.args.toks.now 64 unit s ≡ Ok (c.in-Ok.field-0, c.unit.new.self)) c.new-reader.ensures c.in-Ok.ensures in
    subst (λ (t : Syntax). IsUsedOnce t) (sym c.into_tree.ensures) (parts_used_once c.args.toks.now 64 c.unit.new.self.tree
    (unit_spelled c.args.toks.now 64 c.in-Ok.field-0 c.unit.new.self e))

pub returns-in-Ok-clause-only_tree : goal.returns-in-Ok-clause-only_tree
returns-in-Ok-clause-only_tree c = λ tree is.
    let e = subst (λ (s : State). read c.args.toks.now 64 unit s ≡ Ok (c.in-Ok.field-0, c.unit.new.self)) c.new-reader.ensures c.in-Ok.ensures in
    c.into_tree.ensures ∙ only_tree c.args.toks.now 64 c.in-Ok.field-0 c.unit.new.self tree e is

pub returns-in-Ok-clause-only_fault : goal.returns-in-Ok-clause-only_fault
returns-in-Ok-clause-only_fault c = λ f is.
    let e = subst (λ (s : State). read c.args.toks.now 64 unit s ≡ Ok (c.in-Ok.field-0, c.unit.new.self)) c.new-reader.ensures c.in-Ok.ensures in
    no_fault c.args.toks.now c.in-Ok.field-0 c.unit.new.self f e is

pub returns-in-Err-Wrong-clause-fault : goal.returns-in-Err-Wrong-clause-fault
returns-in-Err-Wrong-clause-fault c =
    let e = gave_wrong c.args.toks.now c.in-Err-Wrong.field-0 c.new-reader.result c.unit.new.self c.in-Err-Wrong.field-0-is c.new-reader.ensures
    c.in-Err-Wrong.ensures in
    inr (subst (λ (p : ℕ). Refuses c.args.toks.now (faults.Syntax p)) (sym c.place.ensures) (wrong_fault c.args.toks.now c.unit.new.self.at e))

pub returns-in-Err-Wrong-clause-only_tree : goal.returns-in-Err-Wrong-clause-only_tree
returns-in-Err-Wrong-clause-only_tree c = λ tree is.
    let e = gave_wrong c.args.toks.now c.in-Err-Wrong.field-0 c.new-reader.result c.unit.new.self c.in-Err-Wrong.field-0-is c.new-reader.ensures
    c.in-Err-Wrong.ensures in
    absurd (no_tree c.args.toks.now 64 (Wrong c.unit.new.self.at) tree e is)

pub returns-in-Err-Wrong-clause-only_fault : goal.returns-in-Err-Wrong-clause-only_fault
returns-in-Err-Wrong-clause-only_fault c = λ f is.
    let e = gave_wrong c.args.toks.now c.in-Err-Wrong.field-0 c.new-reader.result c.unit.new.self c.in-Err-Wrong.field-0-is c.new-reader.ensures
    c.in-Err-Wrong.ensures in
    inr (ap faults.Syntax c.place.ensures ∙ wrong_only c.args.toks.now c.unit.new.self.at f e is)

pub returns-in-Err-Deep-clause-fault : goal.returns-in-Err-Deep-clause-fault
returns-in-Err-Deep-clause-fault c =
    let e = gave_deep c.args.toks.now c.in-Err-Deep.field-0 c.new-reader.result c.unit.new.self c.in-Err-Deep.field-0-is c.new-reader.ensures
    c.in-Err-Deep.ensures in
    inr (subst (λ (p : ℕ). Refuses c.args.toks.now (faults.Deep p)) (sym c.place-in-Err-Deep.ensures) (deep_fault c.args.toks.now c.unit.new.self.at e))

pub returns-in-Err-Deep-clause-only_tree : goal.returns-in-Err-Deep-clause-only_tree
returns-in-Err-Deep-clause-only_tree c = λ tree is.
    let e = gave_deep c.args.toks.now c.in-Err-Deep.field-0 c.new-reader.result c.unit.new.self c.in-Err-Deep.field-0-is c.new-reader.ensures
    c.in-Err-Deep.ensures in
    absurd (no_tree c.args.toks.now 64 (Deep c.unit.new.self.at) tree e is)

pub returns-in-Err-Deep-clause-only_fault : goal.returns-in-Err-Deep-clause-only_fault
returns-in-Err-Deep-clause-only_fault c = λ f is.
    let e = gave_deep c.args.toks.now c.in-Err-Deep.field-0 c.new-reader.result c.unit.new.self c.in-Err-Deep.field-0-is c.new-reader.ensures
    c.in-Err-Deep.ensures in
    inr (ap faults.Deep c.place-in-Err-Deep.ensures ∙ deep_only c.args.toks.now c.unit.new.self.at f e is)
