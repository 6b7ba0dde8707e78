use Rattle.std.proofs.Common.{◌≡◌, ◌∙◌, ap, sym, [], ◌∷◌, Result, Ok, Err, Some, None, true, false, arith}
use Rattle.vg_abs.specs.Rows as library
use Rattle.vg_abs.specs.State as tables
use Rattle.vg_crows.specs.declared.answer.Answer.{Answer}
use Rattle.vg_crows.specs.declared.answer.Answer.TheVariants as answers
use Rattle.vg_crows.specs.declared.answer.Stop.{Stop}
use Rattle.vg_crows.specs.State.{State, or_wrong}
use Rattle.vg_crows.specs.Access.{bytes_behind}
use Rattle.vg_crows.specs.Record.{fresh}
use Rattle.vg_crows.specs.Views.{beside, seen, gives, with_value, is_untold}
use Rattle.vg_crows.proofs.Answered.{key_before, key_stop, key_read, key_fails, key_passes}
use Rattle.vg_crows.proofs.Steps.{met_last, passed, nothing, each_met, three_met, still_met, left_is}
use Rattle.vg_crows.proofs.keyed.map_put.Goals as goal

pub returns-in_err-put_needs-clause-value : goal.returns-in_err-put_needs-clause-value
returns-in_err-put_needs-clause-value g c = λ choices.
    let s = seen c.args.memory.now c.args.frame.now (g.L.Lib.library c.args.lib.now) c.args.book.now in
    ap (λ (r : Result Answer Stop). gives r s) (passed c.from_residual.result c.in_err-put_needs.field-0.0 c.from_residual.ensures.1)
    ∙ sym (key_before choices s c.args.map.number c.args.key (λ bytes. library.MapPut c.args.map.number bytes c.args.index) None c.in_err-put_needs.field-0.0
    (sym (c.put_needs.ensures.value s.memory c.args.book.now) ∙ c.in_err-put_needs.was))

pub returns-in_err-read_key-clause-value : goal.returns-in_err-read_key-clause-value
returns-in_err-read_key-clause-value g c = λ choices.
    let s = seen c.args.memory.now c.args.frame.now (g.L.Lib.library c.args.lib.now) c.args.book.now in
    let numbers = sym (c.put_needs.ensures.value s.memory c.args.book.now) ∙ c.in_ok-put_needs.was in
    let unread : or_wrong (bytes_behind s c.args.key (tables.link_of_map s.library c.args.map.number).key_length) ≡ Err c.in_err-read_key.field-0.0 =
    sym c.read_key.ensures.value ∙ ap (λ (r : Result (Unit {0}) Stop). with_value r c.read_key.new.into) c.in_err-read_key.was in
    ap (λ (r : Result Answer Stop). gives r s)
    (passed c.from_residual-in_err-read_key.result c.in_err-read_key.field-0.0 c.from_residual-in_err-read_key.ensures.1)
    ∙ sym (key_stop choices s c.args.map.number c.args.key (λ bytes. library.MapPut c.args.map.number bytes c.args.index) None c.in_err-read_key.field-0.0
    numbers unread)

pub returns-in_err-needs_absent-clause-value : goal.returns-in_err-needs_absent-clause-value
returns-in_err-needs_absent-clause-value g c = λ choices.
    let s = seen c.args.memory.now c.args.frame.now (g.L.Lib.library c.args.lib.now) c.args.book.now in
    let t = seen c.args.memory.now c.args.frame.now (g.L.Lib.library c.needs_absent.new.lib) c.args.book.now in
    let numbers = sym (c.put_needs.ensures.value s.memory c.args.book.now) ∙ c.in_ok-put_needs.was in
    let bytes = c.read_key.new.into in
    let read : or_wrong (bytes_behind s c.args.key (tables.link_of_map s.library c.args.map.number).key_length) ≡ Ok bytes =
    sym c.read_key.ensures.value ∙ ap (λ (r : Result (Unit {0}) Stop). with_value r bytes) c.in_ok-read_key.was in
    ap (λ (r : Result Answer Stop). gives r t)
    (passed c.from_residual-in_err-needs_absent.result c.in_err-needs_absent.field-0.0 c.from_residual-in_err-needs_absent.ensures.1)
    ∙ sym (key_read choices s c.args.map.number c.args.key (λ bytes. library.MapPut c.args.map.number bytes c.args.index) None bytes numbers read
    ∙ key_fails choices s (library.MapPut c.args.map.number bytes c.args.index) None c.in_err-needs_absent.field-0.0
    (met_last s 5 (library.IsAbsent c.args.map.number bytes) ∙ (sym (c.needs_absent.ensures.value c.args.book.now) ∙ c.in_err-needs_absent.was)))

pub map_put-requires-clause-needs : goal.map_put-requires-clause-needs
map_put-requires-clause-needs g c = λ told.
    let l = g.L.Lib.library c.args.lib.now in
    let s = beside nothing l (fresh []) in
    let bytes = c.read_key.new.into in
    let numbers = each_met s 5 (library.HasRoom c.args.map.number ∷ library.IsInMap c.args.map.number c.args.index ∷ [])
    (sym (c.put_needs.ensures.value nothing (fresh [])) ∙ c.in_ok-put_needs.was) in
    let absent = each_met s 5 (library.IsAbsent c.args.map.number bytes ∷ [])
    (met_last s 5 (library.IsAbsent c.args.map.number bytes) ∙ (sym (c.needs_absent.ensures.value (fresh [])) ∙ c.in_ok-needs_absent.was)) in
    let d = library.MayBeHanded in
    still_met l.state (g.L.Lib.library c.needs_absent.new.lib).state
    (library.HasRoom c.args.map.number ∷ library.IsInMap c.args.map.number c.args.index ∷ library.IsAbsent c.args.map.number bytes ∷ [])
    c.needs_absent.ensures.untouched.state_is
    (three_met (λ (need : library.Need). library.is_met l.state library.fresh need ≡ Some true) (library.HasRoom c.args.map.number)
    (library.IsInMap c.args.map.number c.args.index) (library.IsAbsent c.args.map.number bytes)
    (numbers 0 d (omega arith)) (numbers 1 d (omega arith)) (absent 0 d (omega arith)))

pub returns-clause-value : goal.returns-clause-value
returns-clause-value g c = λ choices.
    let s = seen c.args.memory.now c.args.frame.now (g.L.Lib.library c.args.lib.now) c.args.book.now in
    let bytes = c.read_key.new.into in
    let numbers = sym (c.put_needs.ensures.value s.memory c.args.book.now) ∙ c.in_ok-put_needs.was in
    let call = library.MapPut c.args.map.number bytes c.args.index in
    let read : or_wrong (bytes_behind s c.args.key (tables.link_of_map s.library c.args.map.number).key_length) ≡ Ok bytes =
    sym c.read_key.ensures.value ∙ ap (λ (r : Result (Unit {0}) Stop). with_value r bytes) c.in_ok-read_key.was in
    let told : (g.L.Lib.library c.needs_absent.new.lib).missed ≡ false =
    c.needs_absent.ensures.missed ∙ ap (λ (r : Result (Unit {0}) Stop). is_untold r) c.in_ok-needs_absent.was in
    let left = (c.map_put.ensures.done told).state_is ∙ ap (λ state. library.effect state call 0) c.needs_absent.ensures.untouched.state_is in
    ap (λ (t : State). Ok (answers.Nothing, t)) (left_is s.memory (g.L.Lib.library c.map_put.new.self) c.mark.new.self _ _ left c.mark.ensures)
    ∙ sym (key_read choices s c.args.map.number c.args.key (λ bytes. library.MapPut c.args.map.number bytes c.args.index) None bytes numbers read
    ∙ key_passes choices s call None
    (met_last s 5 (library.IsAbsent c.args.map.number bytes) ∙ (sym (c.needs_absent.ensures.value c.args.book.now) ∙ c.in_ok-needs_absent.was)))
