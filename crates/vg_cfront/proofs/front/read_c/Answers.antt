use Rattle.std.proofs.Common.{◌∙◌, List, sym, subst}
use Rattle.vg_core.specs.Syntax.{Syntax}
use Rattle.vg_ctok.specs.declared.kinds.Token.{Token}
use Rattle.vg_cread.specs.Spelling.{Spells}
use Rattle.vg_cfront.specs.Refusals.{of_tokens, of_tree, of_types}
use Rattle.vg_cfront.proofs.Staging.{err_is, tokens_only, tree_only, type_only, unit_only, not_refused, types_fault, told, bytes_told, tokens_told, tree_told}
use Rattle.vg_cfront.proofs.front.read_c.Goals as goal

pub returns-in_err-toks-clause-only_unit : goal.returns-in_err-toks-clause-only_unit
returns-in_err-toks-clause-only_unit c =
    tokens_only c.args.text.now c.from_residual.result c.in_err-toks.field-0.0 (err_is c.from_residual.result (of_tokens c.in_err-toks.field-0.0)
    c.from_residual.ensures) c.in_err-toks.ensures.only_tokens

pub returns-in_err-tree-clause-only_unit : goal.returns-in_err-tree-clause-only_unit
returns-in_err-tree-clause-only_unit c =
    tree_only c.args.text.now c.deref.result.now (λ ts are. c.deref.ensures.value ∙ c.in_ok-toks.ensures.only_tokens ts are)
    c.from_residual-in_err-tree.result c.in_err-tree.field-0.0
    (err_is c.from_residual-in_err-tree.result (of_tree c.in_err-tree.field-0.0) c.from_residual-in_err-tree.ensures) c.in_err-tree.ensures.only_tree

pub returns-in_err-type_unit-clause-fault : goal.returns-in_err-type_unit-clause-fault
returns-in_err-type_unit-clause-fault c =
    types_fault c.args.text.now c.in_ok-toks.toks.items c.in_ok-tree.tree c.from_residual-in_err-type_unit.result c.in_err-type_unit.field-0.0
    (err_is c.from_residual-in_err-type_unit.result (of_types c.in_err-type_unit.field-0.0) c.from_residual-in_err-type_unit.ensures)
    c.in_ok-toks.ensures.tokens
    (subst (λ (ts : List Token). Spells 64 ts c.in_ok-tree.tree) c.deref.ensures.value c.in_ok-tree.ensures.tree) c.in_err-type_unit.ensures.fault

pub returns-in_err-type_unit-clause-only_unit : goal.returns-in_err-type_unit-clause-only_unit
returns-in_err-type_unit-clause-only_unit c =
    type_only c.args.text.now c.deref.result.now (λ ts are. c.deref.ensures.value ∙ c.in_ok-toks.ensures.only_tokens ts are) c.in_ok-tree.tree
    c.in_ok-tree.ensures.only_tree
    c.from_residual-in_err-type_unit.result c.in_err-type_unit.field-0.0
    (err_is c.from_residual-in_err-type_unit.result (of_types c.in_err-type_unit.field-0.0) c.from_residual-in_err-type_unit.ensures)
    c.in_err-type_unit.ensures.only_typed

pub returns-clause-unit : goal.returns-clause-unit
returns-clause-unit c = record {
  of = c.in_ok-type_unit.ensures.text;
  tokens = c.in_ok-toks.toks.items;
  are_tokens = c.in_ok-toks.ensures.tokens;
  spells =
      subst (λ (t : Syntax). Spells 64 c.in_ok-toks.toks.items t) (sym c.in_ok-type_unit.ensures.tree)
      (subst (λ (ts : List Token). Spells 64 ts c.in_ok-tree.tree) c.deref.ensures.value c.in_ok-tree.ensures.tree);
  typed = c.in_ok-type_unit.ensures.typed c.in_ok-tree.ensures.ordered c.in_ok-tree.ensures.used_once;
}

pub returns-clause-only_unit : goal.returns-clause-only_unit
returns-clause-only_unit c =
    unit_only c.args.text.now c.deref.result.now (λ ts are. c.deref.ensures.value ∙ c.in_ok-toks.ensures.only_tokens ts are) c.in_ok-tree.tree
    c.in_ok-tree.ensures.only_tree
    c.in_ok-type_unit.field-0 c.in_ok-type_unit.ensures.text c.in_ok-type_unit.ensures.tree c.in_ok-type_unit.ensures.only_typed

pub returns-clause-only_fault : goal.returns-clause-only_fault
returns-clause-only_fault c = λ e is.
    not_refused c.args.text.now c.deref.result.now (λ ts are. c.deref.ensures.value ∙ c.in_ok-toks.ensures.only_tokens ts are) c.in_ok-tree.tree
    c.in_ok-tree.ensures.only_tree
    c.in_ok-toks.ensures.first_fault c.in_ok-tree.ensures.only_fault c.in_ok-type_unit.ensures.only_fault e is

pub returns-in_err-toks-clause-only_fault : goal.returns-in_err-toks-clause-only_fault
returns-in_err-toks-clause-only_fault c = λ e is.
    told c.from_residual.result (of_tokens c.in_err-toks.field-0.0) e (err_is c.from_residual.result (of_tokens c.in_err-toks.field-0.0)
    c.from_residual.ensures)
    (bytes_told c.args.text.now c.in_err-toks.field-0.0 c.in_err-toks.ensures.first_fault c.in_err-toks.ensures.only_tokens e is)

pub returns-in_err-tree-clause-only_fault : goal.returns-in_err-tree-clause-only_fault
returns-in_err-tree-clause-only_fault c = λ e is.
    told c.from_residual-in_err-tree.result (of_tree c.in_err-tree.field-0.0) e
    (err_is c.from_residual-in_err-tree.result (of_tree c.in_err-tree.field-0.0) c.from_residual-in_err-tree.ensures)
    (tokens_told c.args.text.now c.deref.result.now (λ ts are. c.deref.ensures.value ∙ c.in_ok-toks.ensures.only_tokens ts are) c.in_ok-toks.ensures.first_fault
    c.in_err-tree.field-0.0 c.in_err-tree.ensures.only_fault c.in_err-tree.ensures.only_tree e is)

pub returns-in_err-type_unit-clause-only_fault : goal.returns-in_err-type_unit-clause-only_fault
returns-in_err-type_unit-clause-only_fault c = λ e is.
    told c.from_residual-in_err-type_unit.result (of_types c.in_err-type_unit.field-0.0) e
    (err_is c.from_residual-in_err-type_unit.result (of_types c.in_err-type_unit.field-0.0) c.from_residual-in_err-type_unit.ensures)
    (tree_told c.args.text.now c.deref.result.now (λ ts are. c.deref.ensures.value ∙ c.in_ok-toks.ensures.only_tokens ts are) c.in_ok-toks.ensures.first_fault
    c.in_ok-tree.tree c.in_ok-tree.ensures.only_tree c.in_ok-tree.ensures.only_fault c.in_err-type_unit.field-0.0 c.in_err-type_unit.ensures.only_fault e is)
