use Rattle.std.proofs.Common.{◌∙◌, sym, ap, subst, ℕ, [], ◌∷◌, ◌++◌, Option}
use Rattle.vg_abs.specs.Library.{Allocates}
use Rattle.vg_crows.specs.Record.{Record}
use Rattle.vg_crows.proofs.Choices.{misses, hands, lacking, choice_is, guided, guided_next, guided_same}
use Rattle.vg_crows.proofs.allocation.take_choice.Goals as goal

pub returns-then-missed-clause-value : goal.returns-then-missed-clause-value
returns-then-missed-clause-value g c = λ choices own guides.
    let s = g.L.Lib.library c.args.lib.now in
    let t = g.L.Lib.library c.chain_allocate-handed.new.self in
    let gone = misses s t c.args.chain.number c.args.time c.chain_allocate-handed.result c.chain_allocate-handed.ensures c.requires.told c.requires.free
    (sym c.missed.ensures.missed ∙ c.if-missed.true) in
    let before = guided_same s t c.args.book.now choices gone.1.choices_stay guides in
    sym (lacking choices own s c.args.book.now c.args.chain.number c.args.time c.requires.free before.rest gone.0)

pub returns-clause-value : goal.returns-clause-value
returns-clause-value g c = λ choices own guides.
    let s = g.L.Lib.library c.args.lib.now in
    let t = g.L.Lib.library c.chain_allocate-handed.new.self in
    let handed = subst (λ (r : Option ℕ). Allocates s t c.args.chain.number c.args.time r) c.in-Some.is c.chain_allocate-handed.ensures in
    let out = hands s t c.args.chain.number c.args.time c.in-Some.choice handed c.requires.told c.requires.free
    (sym c.missed.ensures.missed ∙ c.if-missed.false) in
    let noted = ap (λ (r : Record). r.handed) c.hand.ensures
    ∙ ap (λ (r : Record). r.handed ++ (c.args.chain.number, c.in-Some.choice) ∷ []) c.mark.ensures in
    let next = guided_next t c.args.book.now c.hand.new.self c.args.chain.number c.in-Some.choice choices noted guides in
    sym (choice_is choices own s c.args.book.now c.args.chain.number c.args.time c.in-Some.choice c.requires.free next out.free)

pub returns-clause-guides : goal.returns-clause-guides
returns-clause-guides g c = λ choices guides.
    let s = g.L.Lib.library c.args.lib.now in
    let t = g.L.Lib.library c.chain_allocate-handed.new.self in
    let handed = subst (λ (r : Option ℕ). Allocates s t c.args.chain.number c.args.time r) c.in-Some.is c.chain_allocate-handed.ensures in
    let out = hands s t c.args.chain.number c.args.time c.in-Some.choice handed c.requires.told c.requires.free
    (sym c.missed.ensures.missed ∙ c.if-missed.false) in
    let noted = ap (λ (r : Record). r.handed) c.hand.ensures
    ∙ ap (λ (r : Record). r.handed ++ (c.args.chain.number, c.in-Some.choice) ∷ []) c.mark.ensures in
    guided s t c.args.book.now c.hand.new.self c.args.chain.number c.args.time c.in-Some.choice choices out noted guides
