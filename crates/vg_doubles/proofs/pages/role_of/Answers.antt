use Rattle.std.proofs.Common.{◌∙◌, sym, ap}
use Rattle.vg_doubles.specs.declared.pages.Page.{Page}
use Rattle.vg_doubles.proofs.PageRoles.{role_at-get}
use Rattle.vg_doubles.proofs.pages.role_of.Goals as goal

pub returns : goal.returns
returns c = ap (λ (page : Page). page.role) (sym c.index-pages-i.is)
    ∙ sym (role_at-get c.args.pages.now c.args.i c.index-pages-i.result c.requires c.index-pages-i.is)
