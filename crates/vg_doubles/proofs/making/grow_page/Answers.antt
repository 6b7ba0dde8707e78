use Rattle.std.proofs.Common.{◌<◌, refl, ap, arith, length, List, ℕ}
use Rattle.std.proofs.lemmas.List.Elements.{All-get_or}
use Rattle.vg_doubles.specs.declared.pages.Page.{Page}
use Rattle.vg_doubles.specs.Pages.{HasMemory}
use Rattle.vg_doubles.proofs.PageRoles.{bytes_on-get}
use Rattle.vg_doubles.proofs.PageBytes.{appended, set-same_roles, set-memory, set-readable}
use Rattle.vg_doubles.proofs.making.grow_page.Goals as goal

pub unreachable-requires : goal.unreachable-requires
unreachable-requires c =
    let x = c.index_mut-page.result.now in
    let within : c.args.i < length c.args.pages.now.items = omega (arith, c.requires.within) in
    let fit = rw (← c.index_mut-page.ensures.value) at (All-get_or (HasMemory c.args.room) c.args.pages.now.items c.args.i x within c.requires.memory) in
    let bytes = ap (λ (l : List ℕ). length l) (bytes_on-get c.args.pages.now.items c.args.i x within c.index_mut-page.ensures.value) in
    omega (arith, fit.reserved, c.requires.fits, bytes, x.bytes.ok.0, c.in_default.ensures.full)

pub returns-clause-grows : goal.returns-clause-grows
returns-clause-grows c = λ name first.
    let x = c.index_mut-page.result.now in
    let y : Page = record { name = x.name; bytes = c.extend_from_slice.new.self; role = x.role } in
    appended name c.args.piece.now c.args.pages.now.items c.args.i x y refl refl first c.index_mut-page.ensures.value c.in-Ok.ensures.items

pub returns-clause-roles : goal.returns-clause-roles
returns-clause-roles c =
    let x = c.index_mut-page.result.now in
    let y : Page = record { name = x.name; bytes = c.extend_from_slice.new.self; role = x.role } in
    set-same_roles c.args.pages.now.items c.args.i x y (omega (arith, c.requires.within)) c.index_mut-page.ensures.value refl refl

pub returns-clause-memory : goal.returns-clause-memory
returns-clause-memory c =
    let x = c.index_mut-page.result.now in
    let y : Page = record { name = x.name; bytes = c.extend_from_slice.new.self; role = x.role } in
    let within : c.args.i < length c.args.pages.now.items = omega (arith, c.requires.within) in
    let at = c.index_mut-page.ensures.value in
    let bytes = ap (λ (l : List ℕ). length l) (bytes_on-get c.args.pages.now.items c.args.i x within at) in
    set-memory c.args.pages.now.items c.args.i x y within at refl refl c.args.room
    (λ fit. record {
      name = fit.name;
      reserved = omega (arith, fit.reserved, c.in-Ok.ensures.capacity);
      within = omega (arith, c.in-Ok.ensures.len, c.requires.fits, bytes, x.bytes.ok.0);
    })
    c.requires.memory

pub returns-clause-readable : goal.returns-clause-readable
returns-clause-readable c =
    let x = c.index_mut-page.result.now in
    let y : Page = record { name = x.name; bytes = c.extend_from_slice.new.self; role = x.role } in
    set-readable c.args.pages.now.items c.args.i x y (omega (arith, c.requires.within)) c.index_mut-page.ensures.value refl refl
