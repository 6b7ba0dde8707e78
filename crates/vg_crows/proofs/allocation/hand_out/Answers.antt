use Rattle.std.proofs.Common.{◌≡◌, ◌∙◌, sym, ap, subst, ℕ, None, Result, IfOk}
use Rattle.vg_cmemory.specs.State as memory
use Rattle.vg_abs.specs.Rows as library
use Rattle.vg_crows.specs.declared.answer.Answer.{Answer}
use Rattle.vg_crows.specs.declared.answer.Stop.{Stop}
use Rattle.vg_crows.specs.State.{State}
use Rattle.vg_crows.specs.Access.{store}
use Rattle.vg_crows.specs.Rows.{done}
use Rattle.vg_crows.specs.Views.{beside, seen, gives}
use Rattle.vg_crows.proofs.Choices.{guided_on}
use Rattle.vg_crows.proofs.Allocated.{cells_stay, noted_same, handed_out, placed, is_no_stop}
use Rattle.vg_crows.proofs.allocation.hand_out.Goals as goal

pub store-stored-requires-clause-cells : goal.store-stored-requires-clause-cells
store-stored-requires-clause-cells g c =
    let l = g.L.Lib.library c.args.lib.now in
    let m = g.L.Lib.library c.take_choice.new.lib in
    let own : memory.State = record { own = c.args.memory.now; frame = c.args.frame.now } in
    let left = subst (λ (r : Result ℕ Stop). IfOk r (λ choice. beside own m c.take_choice.new.book
    ≡ done (beside own l c.args.book.now) (library.ChainAllocate c.args.chain.number c.args.time) choice)) c.in_ok-choice.was (c.take_choice.ensures.left own)
    in
    let same = noted_same own l c.args.book.now c.args.chain.number c.args.time c.in_ok-choice.choice m c.take_choice.new.book left in
    cells_stay l m c.args.book.now c.take_choice.new.book c.args.chain.number c.args.time c.in_ok-choice.choice c.requires.chain.of_chain c.requires.free
    same.0 same.1 c.requires.cells

pub returns-clause-value : goal.returns-clause-value
returns-clause-value g c = λ choices guides.
    let l = g.L.Lib.library c.args.lib.now in
    let m = g.L.Lib.library c.take_choice.new.lib in
    let n = g.L.Lib.library c.store-stored.new.lib in
    let own : memory.State = record { own = c.args.memory.now; frame = c.args.frame.now } in
    let choice = c.in_ok-choice.choice in
    let t = seen c.store-stored.new.memory c.store-stored.new.frame n c.store-stored.new.book in
    let left = subst (λ (r : Result ℕ Stop). IfOk r (λ choice. beside own m c.take_choice.new.book
    ≡ done (beside own l c.args.book.now) (library.ChainAllocate c.args.chain.number c.args.time) choice)) c.in_ok-choice.was (c.take_choice.ensures.left own)
    in
    let before = guided_on m n c.take_choice.new.book c.store-stored.new.book choices c.store-stored.ensures.choices c.store-stored.ensures.handed guides in
    let chosen = sym (c.take_choice.ensures.value choices own before) ∙ c.in_ok-choice.was in
    let put = c.store-stored.ensures.value ∙ ap (λ (x : State). store x c.args.index None 4 4 choice) left in
    placed choices (beside own l c.args.book.now) c.args.chain.number c.args.time choice c.args.index (gives c.yes.result t) chosen
    (ap (λ (r : Result Answer Stop). gives r t) c.yes.ensures
    ∙ handed_out l own c.args.book.now c.args.index c.args.chain.number c.args.time choice t c.store-stored.result c.requires.chain.of_chain c.requires.free
    c.requires.writable put)

pub returns-clause-stops : goal.returns-clause-stops
returns-clause-stops g c =
    let l = g.L.Lib.library c.args.lib.now in
    let m = g.L.Lib.library c.take_choice.new.lib in
    let n = g.L.Lib.library c.store-stored.new.lib in
    let own : memory.State = record { own = c.args.memory.now; frame = c.args.frame.now } in
    let choice = c.in_ok-choice.choice in
    let t = seen c.store-stored.new.memory c.store-stored.new.frame n c.store-stored.new.book in
    let left = subst (λ (r : Result ℕ Stop). IfOk r (λ choice. beside own m c.take_choice.new.book
    ≡ done (beside own l c.args.book.now) (library.ChainAllocate c.args.chain.number c.args.time) choice)) c.in_ok-choice.was (c.take_choice.ensures.left own)
    in
    let put = c.store-stored.ensures.value ∙ ap (λ (x : State). store x c.args.index None 4 4 choice) left in
    is_no_stop _ c.yes.result t _
    (ap (λ (r : Result Answer Stop). gives r t) c.yes.ensures
    ∙ handed_out l own c.args.book.now c.args.index c.args.chain.number c.args.time choice t c.store-stored.result c.requires.chain.of_chain c.requires.free
    c.requires.writable put)
