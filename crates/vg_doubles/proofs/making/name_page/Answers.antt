use Rattle.std.proofs.Common.{◌≡◌, refl, ◌∙◌, ◌++◌, ap, arith, sym, ℕ, List}
use Rattle.std.specs.Prelude.{string_bytes}
use Rattle.std.proofs.lemmas.List.Elements.{All-get_or, All-set}
use Rattle.vg_doubles.specs.declared.pages.Page.{Page}
use Rattle.vg_doubles.specs.declared.pages.Role.TheVariants.{Writing}
use Rattle.vg_doubles.specs.Pages.{HasMemory, IsReadable}
use Rattle.vg_doubles.proofs.NamedLists.{equal, unequal}
use Rattle.vg_doubles.proofs.PageBytes.{made-new, made-new_other, takes-page, writing-readable, length-set_page}
use Rattle.vg_doubles.proofs.making.name_page.Goals as goal

pub unreachable-requires : goal.unreachable-requires
unreachable-requires c =
    let x = c.index_mut-page.result.now in
    let fit = rw (← c.index_mut-page.ensures.value) at (All-get_or (HasMemory c.args.room) c.args.pages.now.items c.args.i x
    (omega (arith, c.requires.within)) c.requires.memory) in
    omega (arith, fit.name, c.requires.short, c.clear.ensures.capacity, c.clear.ensures.len, c.in_default.ensures.full)

pub returns-clause-empties : goal.returns-clause-empties
returns-clause-empties c =
    let y : Page = record { name = c.push_str.new.self; bytes = c.clear-2.new.self; role = Writing } in
    let is : string_bytes y.name ≡ c.args.name.now = c.in-Ok.ensures.bytes ∙ ap (λ (l : List ℕ). l ++ c.args.name.now) c.clear.ensures.bytes in
    record {
      empty = made-new c.args.name.now c.args.pages.now.items c.args.i y (omega (arith, c.requires.within)) (equal is) c.clear-2.ensures.items c.requires.empty;
      others = λ other ne. made-new_other other c.args.pages.now.items c.args.i y c.requires.free (unequal (λ e. ne (sym e ∙ is)));
    }

pub returns-clause-opens : goal.returns-clause-opens
returns-clause-opens c = λ held.
    let y : Page = record { name = c.push_str.new.self; bytes = c.clear-2.new.self; role = Writing } in
    let is : string_bytes y.name ≡ c.args.name.now = c.in-Ok.ensures.bytes ∙ ap (λ (l : List ℕ). l ++ c.args.name.now) c.clear.ensures.bytes in
    takes-page held c.args.pages.now.items c.args.i y c.args.name.now (omega (arith, c.requires.within)) c.requires.free refl is

pub returns-clause-fit : goal.returns-clause-fit
returns-clause-fit c =
    let x = c.index_mut-page.result.now in
    let y : Page = record { name = c.push_str.new.self; bytes = c.clear-2.new.self; role = Writing } in
    record {
      memory = λ room all.
          let was = rw (← c.index_mut-page.ensures.value) at (All-get_or (HasMemory room) c.args.pages.now.items c.args.i x
          (omega (arith, c.requires.within)) all) in
          All-set (HasMemory room) c.args.pages.now.items c.args.i y (record {
            name = omega (arith, was.name, c.clear.ensures.capacity, c.in-Ok.ensures.capacity);
            reserved = omega (arith, was.reserved, c.clear-2.ensures.capacity);
            within = omega (arith, c.clear-2.ensures.len);
          }) all;
      readable = λ held all. All-set (IsReadable held) c.args.pages.now.items c.args.i y (writing-readable held y refl) all;
      count = length-set_page c.args.pages.now.items c.args.i y;
    }
