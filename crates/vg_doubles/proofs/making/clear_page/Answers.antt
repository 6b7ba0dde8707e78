use Rattle.std.proofs.Common.{refl, ◌∙◌, ap, arith, Some}
use Rattle.vg_doubles.specs.declared.pages.Page.{Page}
use Rattle.vg_doubles.proofs.PageBytes.{made-set, made-set_other, set-same_roles, set-memory, set-readable, length-set_page}
use Rattle.vg_doubles.proofs.making.clear_page.Goals as goal

pub returns-clause-empties : goal.returns-clause-empties
returns-clause-empties c = λ name first.
    let x = c.index_mut-page.result.now in
    let y : Page = record { name = x.name; bytes = c.clear.new.self; role = x.role } in
    let at = c.index_mut-page.ensures.value in
    record {
      empty = made-set name x y refl refl c.args.pages.now.items c.args.i first at ∙ ap Some c.clear.ensures.items;
      others = λ other ne. made-set_other name x y refl refl c.args.pages.now.items c.args.i first at other ne;
    }

pub returns-clause-roles : goal.returns-clause-roles
returns-clause-roles c =
    let x = c.index_mut-page.result.now in
    set-same_roles c.args.pages.now.items c.args.i x (record { name = x.name; bytes = c.clear.new.self; role = x.role }) (omega (arith, c.requires))
    c.index_mut-page.ensures.value refl refl

pub returns-clause-fit : goal.returns-clause-fit
returns-clause-fit c =
    let x = c.index_mut-page.result.now in
    let y : Page = record { name = x.name; bytes = c.clear.new.self; role = x.role } in
    let at = c.index_mut-page.ensures.value in
    record {
      memory = λ room. set-memory c.args.pages.now.items c.args.i x y (omega (arith, c.requires)) at refl refl room
          (λ fit. record { name = fit.name; reserved = omega (arith, fit.reserved, c.clear.ensures.capacity); within = omega (arith, c.clear.ensures.len) });
      readable = set-readable c.args.pages.now.items c.args.i x y (omega (arith, c.requires)) at refl refl;
      count = length-set_page c.args.pages.now.items c.args.i y;
    }
