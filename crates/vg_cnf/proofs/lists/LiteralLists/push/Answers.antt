use Rattle.std.proofs.Common.{◌≡◌, ◌++◌, ◌∷◌, [], ap, ◌∙◌, arith}
use Rattle.vg_cnf.proofs.Pieces.{pushed-cuts, pushed-pieces}
use Rattle.vg_cnf.proofs.lists.LiteralLists.push.Goals as goal

pub invariant_of-self-2 : goal.invariant_of-self-2
invariant_of-self-2 c =
    let old = c.self.inside.literals.items in
    let ends = c.self.inside.ends.items in
    let new = c.extend_from_slice.new.self.items in
    let items : new ≡ old ++ c.args.list.now = c.in_ok-extend_from_slice.ensures.items in
    let places : c.push_reserved.new.self.items ≡ ends ++ c.len.result ∷ [] =
    c.push_reserved.ensures.items ∙ ap (λ xs. xs ++ c.len.result ∷ []) c.reserve.ensures.items in
    pushed-cuts old c.args.list.now ends new c.push_reserved.new.self.items c.len.result items (omega arith) places c.self.invariant

pub returns-clause-ok : goal.returns-clause-ok
returns-clause-ok c =
    let old = c.self.inside.literals.items in
    let ends = c.self.inside.ends.items in
    let new = c.extend_from_slice.new.self.items in
    let items : new ≡ old ++ c.args.list.now = c.in_ok-extend_from_slice.ensures.items in
    let places : c.push_reserved.new.self.items ≡ ends ++ c.len.result ∷ [] =
    c.push_reserved.ensures.items ∙ ap (λ xs. xs ++ c.len.result ∷ []) c.reserve.ensures.items in
    pushed-pieces old c.args.list.now ends new c.push_reserved.new.self.items c.len.result items (omega arith) places c.self.invariant
    ∙ ap (λ xs. xs ++ c.args.list.now ∷ []) c.self.view_is
