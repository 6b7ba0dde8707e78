use Rattle.std.proofs.Common.{ap, arith, length, List, ℕ}
use Rattle.std.proofs.lemmas.List.Elements.{All-get_or}
use Rattle.std.specs.Prelude.{vec_len}
use Rattle.vg_doubles.specs.declared.pages.Page.{Page}
use Rattle.vg_doubles.specs.Pages.{HasMemory}
use Rattle.vg_doubles.proofs.PageRoles.{bytes_on-get}
use Rattle.vg_doubles.proofs.making.room_for.Goals as goal

pub returns-clause-taken : goal.returns-clause-taken
returns-clause-taken c =
    let x = c.index-pages-i.result in
    let bytes = ap (λ (l : List ℕ). length l) (bytes_on-get c.args.pages.now c.args.i x c.requires.within c.index-pages-i.is) in
    let at = ap (λ (page : Page). vec_len page.bytes) c.index-pages-i.is in
    omega (arith, bytes, x.bytes.ok.0, at, c.len.ensures, c.min.ensures)

pub returns-clause-fits : goal.returns-clause-fits
returns-clause-fits c =
    let x = c.index-pages-i.result in
    let bytes = ap (λ (l : List ℕ). length l) (bytes_on-get c.args.pages.now c.args.i x c.requires.within c.index-pages-i.is) in
    let at = ap (λ (page : Page). vec_len page.bytes) c.index-pages-i.is in
    let fit = rw (← c.index-pages-i.is) at (All-get_or (HasMemory c.args.room) c.args.pages.now c.args.i x c.requires.within c.requires.memory) in
    omega (arith, bytes, x.bytes.ok.0, at, c.len.ensures, c.min.ensures, fit.within)
