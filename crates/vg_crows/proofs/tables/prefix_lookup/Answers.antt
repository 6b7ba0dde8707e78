use Rattle.std.proofs.Common.{◌∙◌, ap, sym, ℕ, Option}
use Rattle.vg_abs.specs.State as tables
use Rattle.vg_crows.specs.Rows.{answered, target}
use Rattle.vg_crows.specs.Views.{seen}
use Rattle.vg_crows.proofs.Answered.{lookup_told}
use Rattle.vg_crows.proofs.Asking.{told_as, untouched}
use Rattle.vg_crows.proofs.tables.prefix_lookup.Goals as goal

pub returns-clause-value : goal.returns-clause-value
returns-clause-value g c = λ choices.
    let s = seen c.args.memory.now c.args.frame.now (g.L.Lib.library c.args.lib.now) c.args.book.now in
    let quiet = sym c.missed.ensures.missed ∙ c.if-missed.false in
    let found = told_as (g.L.Lib.library c.args.lib.now) (g.L.Lib.library c.lookup-found.new.self) _ c.lookup-found.result
    c.lookup-found.ensures c.requires.told quiet in
    let same = (untouched (g.L.Lib.library c.args.lib.now) (g.L.Lib.library c.lookup-found.new.self) _ (λ a. a) c.lookup-found.result
    c.lookup-found.ensures c.requires.told).state_is in
    c.answer_stored.ensures.value
    ∙ (ap (λ (state : tables.State). answered (record s { library = state }) (target c.args.value 2) c.widened.result) same
    ∙ (ap (λ (f : Option ℕ). answered s (target c.args.value 2) f) c.widened.ensures
    ∙ sym (lookup_told choices s c.args.table.number c.args.address (record { pointer = c.args.value; size = 2 }) c.lookup-found.result found)))
