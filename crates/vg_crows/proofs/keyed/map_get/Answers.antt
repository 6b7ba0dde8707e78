use Rattle.std.proofs.Common.{◌≡◌, ◌∙◌, ap, sym, refl, Result, Ok}
use Rattle.vg_abs.specs.Rows as library
use Rattle.vg_abs.specs.State as tables
use Rattle.vg_crows.specs.declared.answer.Stop.{Stop}
use Rattle.vg_crows.specs.State.{or_wrong}
use Rattle.vg_crows.specs.Access.{bytes_behind}
use Rattle.vg_crows.specs.Rows.{answered, target}
use Rattle.vg_crows.specs.Views.{seen, with_value}
use Rattle.vg_crows.proofs.Answered.{key_read, get_told}
use Rattle.vg_crows.proofs.Asking.{told_as, untouched}
use Rattle.vg_crows.proofs.keyed.map_get.Goals as goal

pub returns-clause-value : goal.returns-clause-value
returns-clause-value g c = λ choices.
    let s = seen c.args.memory.now c.args.frame.now (g.L.Lib.library c.args.lib.now) c.args.book.now in
    let bytes = c.read_key.new.into in
    let read : or_wrong (bytes_behind s c.args.key (tables.link_of_map s.library c.args.map.number).key_length) ≡ Ok bytes =
    sym c.read_key.ensures.value ∙ ap (λ (r : Result (Unit {0}) Stop). with_value r bytes) c.in_ok-read_key.was in
    let quiet = sym c.missed.ensures.missed ∙ c.if-missed.false in
    let found = told_as (g.L.Lib.library c.args.lib.now) (g.L.Lib.library c.map_get-found.new.self) _ c.map_get-found.result
    c.map_get-found.ensures c.requires.told quiet in
    let same = (untouched (g.L.Lib.library c.args.lib.now) (g.L.Lib.library c.map_get-found.new.self) _ (λ a. a) c.map_get-found.result
    c.map_get-found.ensures c.requires.told).state_is in
    c.answer_stored.ensures.value
    ∙ (ap (λ (state : tables.State). answered (record s { library = state }) (target c.args.index 4) c.map_get-found.result) same
    ∙ sym (key_read choices s c.args.map.number c.args.key (λ bytes. library.MapGet c.args.map.number bytes) (target c.args.index 4) bytes refl read
    ∙ get_told choices s c.args.map.number bytes (record { pointer = c.args.index; size = 4 }) c.map_get-found.result found))
