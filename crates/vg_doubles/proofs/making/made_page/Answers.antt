use Rattle.std.proofs.Common.{◌≡◌, ◌∙◌}
use Rattle.vg_doubles.specs.Pages.{name_on}
use Rattle.std.proofs.lemmas.Bool.{false≢true}
use Rattle.vg_doubles.proofs.PageBytes.{writing-within, made-there, named}
use Rattle.vg_doubles.proofs.making.made_page.Goals as goal

pub bounds-pages-id : goal.bounds-pages-id
bounds-pages-id c = writing-within c.args.pages.now c.args.id c.requires

pub unreachable-requires : goal.unreachable-requires
unreachable-requires c =
    let name : c.as_str-name.result.now ≡ name_on c.args.pages.now c.args.id =
    c.as_str-name.ensures.value ∙ named c.args.pages.now c.args.id c.index-pages-id.result (writing-within c.args.pages.now c.args.id c.requires)
    c.index-pages-id.is in
    let none = rw name at c.in_default.ensures.none in
    false≢true (rw none at (made-there c.args.pages.now c.args.id c.requires))

pub returns-clause-first : goal.returns-clause-first
returns-clause-first c =
    let name : c.as_str-name.result.now ≡ name_on c.args.pages.now c.args.id =
    c.as_str-name.ensures.value ∙ named c.args.pages.now c.args.id c.index-pages-id.result (writing-within c.args.pages.now c.args.id c.requires)
    c.index-pages-id.is in
    rw name at c.in-Some.ensures.first
