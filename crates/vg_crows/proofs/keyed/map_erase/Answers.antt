use Rattle.std.proofs.Common.{◌≡◌, ◌∙◌, ap, sym, refl, [], ◌∷◌, Result, Ok, None, false}
use Rattle.vg_abs.specs.Rows as library
use Rattle.vg_abs.specs.State as tables
use Rattle.vg_crows.specs.declared.answer.Answer.{Answer}
use Rattle.vg_crows.specs.declared.answer.Answer.TheVariants as answers
use Rattle.vg_crows.specs.declared.answer.Stop.{Stop}
use Rattle.vg_crows.specs.State.{State, or_wrong}
use Rattle.vg_crows.specs.Access.{bytes_behind}
use Rattle.vg_crows.specs.Record.{fresh}
use Rattle.vg_crows.specs.Views.{beside, seen, gives, with_value, is_untold}
use Rattle.vg_crows.proofs.Answered.{key_read, key_fails, key_passes}
use Rattle.vg_crows.proofs.Steps.{met_last, passed, nothing, each_met, still_met, left_is}
use Rattle.vg_crows.proofs.keyed.map_erase.Goals as goal

pub returns-in_err-needs_present-clause-value : goal.returns-in_err-needs_present-clause-value
returns-in_err-needs_present-clause-value g c = λ choices.
    let s = seen c.args.memory.now c.args.frame.now (g.L.Lib.library c.args.lib.now) c.args.book.now in
    let t = seen c.args.memory.now c.args.frame.now (g.L.Lib.library c.needs_present.new.lib) c.args.book.now in
    let bytes = c.read_key.new.into in
    let read : or_wrong (bytes_behind s c.args.key (tables.link_of_map s.library c.args.map.number).key_length) ≡ Ok bytes =
    sym c.read_key.ensures.value ∙ ap (λ (r : Result (Unit {0}) Stop). with_value r bytes) c.in_ok-read_key.was in
    ap (λ (r : Result Answer Stop). gives r t)
    (passed c.from_residual-in_err-needs_present.result c.in_err-needs_present.field-0.0 c.from_residual-in_err-needs_present.ensures.1)
    ∙ sym (key_read choices s c.args.map.number c.args.key (λ bytes. library.MapErase c.args.map.number bytes) None bytes refl read
    ∙ key_fails choices s (library.MapErase c.args.map.number bytes) None c.in_err-needs_present.field-0.0
    (met_last s 6 (library.IsPresent c.args.map.number bytes) ∙ (sym (c.needs_present.ensures.value c.args.book.now) ∙ c.in_err-needs_present.was)))

pub map_erase-requires-clause-needs : goal.map_erase-requires-clause-needs
map_erase-requires-clause-needs g c = λ told.
    let s = beside nothing (g.L.Lib.library c.args.lib.now) (fresh []) in
    let bytes = c.read_key.new.into in
    still_met (g.L.Lib.library c.args.lib.now).state (g.L.Lib.library c.needs_present.new.lib).state
    (library.IsPresent c.args.map.number bytes ∷ []) c.needs_present.ensures.untouched.state_is
    (each_met s 6 (library.IsPresent c.args.map.number bytes ∷ [])
    (met_last s 6 (library.IsPresent c.args.map.number bytes) ∙ (sym (c.needs_present.ensures.value (fresh [])) ∙ c.in_ok-needs_present.was)))

pub returns-clause-value : goal.returns-clause-value
returns-clause-value g c = λ choices.
    let s = seen c.args.memory.now c.args.frame.now (g.L.Lib.library c.args.lib.now) c.args.book.now in
    let bytes = c.read_key.new.into in
    let call = library.MapErase c.args.map.number bytes in
    let read : or_wrong (bytes_behind s c.args.key (tables.link_of_map s.library c.args.map.number).key_length) ≡ Ok bytes =
    sym c.read_key.ensures.value ∙ ap (λ (r : Result (Unit {0}) Stop). with_value r bytes) c.in_ok-read_key.was in
    let told : (g.L.Lib.library c.needs_present.new.lib).missed ≡ false =
    c.needs_present.ensures.missed ∙ ap (λ (r : Result (Unit {0}) Stop). is_untold r) c.in_ok-needs_present.was in
    let left = (c.map_erase.ensures.done told).state_is ∙ ap (λ state. library.effect state call 0) c.needs_present.ensures.untouched.state_is in
    ap (λ (t : State). Ok (answers.Nothing, t)) (left_is s.memory (g.L.Lib.library c.map_erase.new.self) c.mark.new.self _ _ left c.mark.ensures)
    ∙ sym (key_read choices s c.args.map.number c.args.key (λ bytes. library.MapErase c.args.map.number bytes) None bytes refl read
    ∙ key_passes choices s call None
    (met_last s 6 (library.IsPresent c.args.map.number bytes) ∙ (sym (c.needs_present.ensures.value c.args.book.now) ∙ c.in_ok-needs_present.was)))
