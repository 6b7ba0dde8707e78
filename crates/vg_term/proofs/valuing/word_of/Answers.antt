use Rattle.std.proofs.Common.{◌≡◌, ◌∙◌, ◌∷◌, [], refl, sym, ap, Some, arith}
use Rattle.std.proofs.lemmas.Option.{slice_get_within}
use Rattle.vg_bits.specs.declared.word.Word.{Word}
use Rattle.vg_term.specs.Terms.{width_at}
use Rattle.vg_term.specs.declared.node.Parts.TheVariants.{Zero, One, Two, Three}
use Rattle.vg_term.specs.declared.node.Node.TheVariants as nodes
use Rattle.vg_term.proofs.Values.{here_is, part_in, part_bits, op_fits, op_reckoned, var_reckoned, var_word}
use Rattle.vg_term.proofs.valuing.word_of.Goals as goal

pub index-requires : goal.index-requires
index-requires c =
    let word = c.requires.assigns c.args.term.0 (nodes.Var c.in-Var.number c.in-Var.width, width_at c.args.terms.now c.args.term) c.in-Var.ensures.node in
    omega (arith, slice_get_within c.args.assign.now.words.items c.in-Var.number word.0 word.1, c.args.assign.now.words.ok)

pub returns-in-Var : goal.returns-in-Var
returns-in-Var c =
    let word = c.requires.assigns c.args.term.0 (nodes.Var c.in-Var.number c.in-Var.width, width_at c.args.terms.now c.args.term) c.in-Var.ensures.node in
    let is : word.0 ≡ c.index.result.now = var_word c.args.assign.now.words.items c.in-Var.number word.0 c.index.result.now word.1 c.index.ensures in
    var_reckoned c.node.ensures.made c.args.assign.now.words.items c.args.term c.in-Var.number c.in-Var.width (width_at c.args.terms.now c.args.term)
    c.in-Var.ensures.node c.index.result.now (word.1 ∙ ap Some is) (sym (ap (λ (w : Word). w.width) is) ∙ word.2)

pub apply-requires : goal.apply-requires
apply-requires c = op_fits c.node.ensures.made c.args.assign.now.words.items c.args.term c.in-Op.op Zero (width_at c.args.terms.now c.args.term)
    (here_is c.node.ensures.made c.args.assign.now.words.items c.args.room.now c.args.term c.requires.stands c.requires.room c.requires.before
    c.in-Op.op c.in-Op.parts (width_at c.args.terms.now c.args.term) c.in-Op.ensures.node Zero c.in-Zero.is) ([]) refl

pub returns-in-Zero : goal.returns-in-Zero
returns-in-Zero c = op_reckoned c.node.ensures.made c.args.assign.now.words.items c.args.term c.in-Op.op Zero (width_at c.args.terms.now c.args.term)
    (here_is c.node.ensures.made c.args.assign.now.words.items c.args.room.now c.args.term c.requires.stands c.requires.room c.requires.before
    c.in-Op.op c.in-Op.parts (width_at c.args.terms.now c.args.term) c.in-Op.ensures.node Zero c.in-Zero.is) ([]) refl c.apply.result
    c.apply.ensures.width c.apply.ensures.value

pub bounds-room-a : goal.bounds-room-a
bounds-room-a c = part_in c.node.ensures.made c.args.assign.now.words.items c.args.room.now c.args.term c.requires.stands c.requires.room
    c.requires.before c.in-Op.op c.in-Op.parts (width_at c.args.terms.now c.args.term) c.in-Op.ensures.node (One c.in-One.a) c.in-One.is 0 c.in-One.a
    (omega arith)

pub apply-requires-in-One : goal.apply-requires-in-One
apply-requires-in-One c = op_fits c.node.ensures.made c.args.assign.now.words.items c.args.term c.in-Op.op (One c.in-One.a)
    (width_at c.args.terms.now c.args.term) (here_is c.node.ensures.made c.args.assign.now.words.items c.args.room.now c.args.term c.requires.stands
    c.requires.room c.requires.before c.in-Op.op c.in-Op.parts (width_at c.args.terms.now c.args.term) c.in-Op.ensures.node (One c.in-One.a)
    c.in-One.is) (c.index-room-a.result ∷ []) (λ j. part_bits c.node.ensures.made c.args.assign.now.words.items c.args.room.now c.args.term
    c.requires.stands c.requires.room c.requires.before c.in-Op.op c.in-Op.parts (width_at c.args.terms.now c.args.term) c.in-Op.ensures.node
    (One c.in-One.a) c.in-One.is 0 c.in-One.a (omega arith) c.index-room-a.result c.index-room-a.is j ∷ [])

pub returns-in-One : goal.returns-in-One
returns-in-One c = op_reckoned c.node.ensures.made c.args.assign.now.words.items c.args.term c.in-Op.op (One c.in-One.a)
    (width_at c.args.terms.now c.args.term) (here_is c.node.ensures.made c.args.assign.now.words.items c.args.room.now c.args.term c.requires.stands
    c.requires.room c.requires.before c.in-Op.op c.in-Op.parts (width_at c.args.terms.now c.args.term) c.in-Op.ensures.node (One c.in-One.a)
    c.in-One.is) (c.index-room-a.result ∷ []) (λ j. part_bits c.node.ensures.made c.args.assign.now.words.items c.args.room.now c.args.term
    c.requires.stands c.requires.room c.requires.before c.in-Op.op c.in-Op.parts (width_at c.args.terms.now c.args.term) c.in-Op.ensures.node
    (One c.in-One.a) c.in-One.is 0 c.in-One.a (omega arith) c.index-room-a.result c.index-room-a.is j ∷ []) c.apply-in-One.result
    c.apply-in-One.ensures.width c.apply-in-One.ensures.value

pub bounds-room-a-in-Two : goal.bounds-room-a-in-Two
bounds-room-a-in-Two c = part_in c.node.ensures.made c.args.assign.now.words.items c.args.room.now c.args.term c.requires.stands c.requires.room
    c.requires.before c.in-Op.op c.in-Op.parts (width_at c.args.terms.now c.args.term) c.in-Op.ensures.node (Two c.in-Two.a c.in-Two.b) c.in-Two.is 0
    c.in-Two.a (omega arith)

pub bounds-room-b : goal.bounds-room-b
bounds-room-b c = part_in c.node.ensures.made c.args.assign.now.words.items c.args.room.now c.args.term c.requires.stands c.requires.room
    c.requires.before c.in-Op.op c.in-Op.parts (width_at c.args.terms.now c.args.term) c.in-Op.ensures.node (Two c.in-Two.a c.in-Two.b) c.in-Two.is 1
    c.in-Two.b (omega arith)

pub apply-requires-in-Two : goal.apply-requires-in-Two
apply-requires-in-Two c = op_fits c.node.ensures.made c.args.assign.now.words.items c.args.term c.in-Op.op (Two c.in-Two.a c.in-Two.b)
    (width_at c.args.terms.now c.args.term) (here_is c.node.ensures.made c.args.assign.now.words.items c.args.room.now c.args.term c.requires.stands
    c.requires.room c.requires.before c.in-Op.op c.in-Op.parts (width_at c.args.terms.now c.args.term) c.in-Op.ensures.node
    (Two c.in-Two.a c.in-Two.b) c.in-Two.is) (c.index-room-a-in-Two.result ∷ c.index-room-b.result ∷ [])
    (λ j. part_bits c.node.ensures.made c.args.assign.now.words.items c.args.room.now c.args.term c.requires.stands c.requires.room c.requires.before
    c.in-Op.op c.in-Op.parts (width_at c.args.terms.now c.args.term) c.in-Op.ensures.node (Two c.in-Two.a c.in-Two.b) c.in-Two.is 0 c.in-Two.a
    (omega arith) c.index-room-a-in-Two.result c.index-room-a-in-Two.is j ∷ part_bits c.node.ensures.made c.args.assign.now.words.items
    c.args.room.now c.args.term c.requires.stands c.requires.room c.requires.before c.in-Op.op c.in-Op.parts (width_at c.args.terms.now c.args.term)
    c.in-Op.ensures.node (Two c.in-Two.a c.in-Two.b) c.in-Two.is 1 c.in-Two.b (omega arith) c.index-room-b.result c.index-room-b.is j ∷ [])

pub returns-in-Two : goal.returns-in-Two
returns-in-Two c = op_reckoned c.node.ensures.made c.args.assign.now.words.items c.args.term c.in-Op.op (Two c.in-Two.a c.in-Two.b)
    (width_at c.args.terms.now c.args.term) (here_is c.node.ensures.made c.args.assign.now.words.items c.args.room.now c.args.term c.requires.stands
    c.requires.room c.requires.before c.in-Op.op c.in-Op.parts (width_at c.args.terms.now c.args.term) c.in-Op.ensures.node
    (Two c.in-Two.a c.in-Two.b) c.in-Two.is) (c.index-room-a-in-Two.result ∷ c.index-room-b.result ∷ [])
    (λ j. part_bits c.node.ensures.made c.args.assign.now.words.items c.args.room.now c.args.term c.requires.stands c.requires.room c.requires.before
    c.in-Op.op c.in-Op.parts (width_at c.args.terms.now c.args.term) c.in-Op.ensures.node (Two c.in-Two.a c.in-Two.b) c.in-Two.is 0 c.in-Two.a
    (omega arith) c.index-room-a-in-Two.result c.index-room-a-in-Two.is j ∷ part_bits c.node.ensures.made c.args.assign.now.words.items
    c.args.room.now c.args.term c.requires.stands c.requires.room c.requires.before c.in-Op.op c.in-Op.parts (width_at c.args.terms.now c.args.term)
    c.in-Op.ensures.node (Two c.in-Two.a c.in-Two.b) c.in-Two.is 1 c.in-Two.b (omega arith) c.index-room-b.result c.index-room-b.is j ∷ [])
    c.apply-in-Two.result c.apply-in-Two.ensures.width c.apply-in-Two.ensures.value

pub bounds-room-c : goal.bounds-room-c
bounds-room-c c = part_in c.node.ensures.made c.args.assign.now.words.items c.args.room.now c.args.term c.requires.stands c.requires.room
    c.requires.before c.in-Op.op c.in-Op.parts (width_at c.args.terms.now c.args.term) c.in-Op.ensures.node
    (Three c.in-Three.c c.in-Three.a c.in-Three.b) c.in-Three.is 0 c.in-Three.c (omega arith)

pub bounds-room-a-in-Three : goal.bounds-room-a-in-Three
bounds-room-a-in-Three c = part_in c.node.ensures.made c.args.assign.now.words.items c.args.room.now c.args.term c.requires.stands c.requires.room
    c.requires.before c.in-Op.op c.in-Op.parts (width_at c.args.terms.now c.args.term) c.in-Op.ensures.node
    (Three c.in-Three.c c.in-Three.a c.in-Three.b) c.in-Three.is 1 c.in-Three.a (omega arith)

pub bounds-room-b-in-Three : goal.bounds-room-b-in-Three
bounds-room-b-in-Three c = part_in c.node.ensures.made c.args.assign.now.words.items c.args.room.now c.args.term c.requires.stands c.requires.room
    c.requires.before c.in-Op.op c.in-Op.parts (width_at c.args.terms.now c.args.term) c.in-Op.ensures.node
    (Three c.in-Three.c c.in-Three.a c.in-Three.b) c.in-Three.is 2 c.in-Three.b (omega arith)

pub apply-requires-in-Three : goal.apply-requires-in-Three
apply-requires-in-Three c = op_fits c.node.ensures.made c.args.assign.now.words.items c.args.term c.in-Op.op
    (Three c.in-Three.c c.in-Three.a c.in-Three.b) (width_at c.args.terms.now c.args.term)
    (here_is c.node.ensures.made c.args.assign.now.words.items c.args.room.now c.args.term c.requires.stands c.requires.room c.requires.before
    c.in-Op.op c.in-Op.parts (width_at c.args.terms.now c.args.term) c.in-Op.ensures.node (Three c.in-Three.c c.in-Three.a c.in-Three.b)
    c.in-Three.is) (c.index-room-c.result ∷ c.index-room-a-in-Three.result ∷ c.index-room-b-in-Three.result ∷ [])
    (λ j. part_bits c.node.ensures.made c.args.assign.now.words.items c.args.room.now c.args.term c.requires.stands c.requires.room c.requires.before
    c.in-Op.op c.in-Op.parts (width_at c.args.terms.now c.args.term) c.in-Op.ensures.node (Three c.in-Three.c c.in-Three.a c.in-Three.b) c.in-Three.is
    0 c.in-Three.c (omega arith) c.index-room-c.result c.index-room-c.is j ∷ part_bits c.node.ensures.made c.args.assign.now.words.items
    c.args.room.now c.args.term c.requires.stands c.requires.room c.requires.before c.in-Op.op c.in-Op.parts (width_at c.args.terms.now c.args.term)
    c.in-Op.ensures.node (Three c.in-Three.c c.in-Three.a c.in-Three.b) c.in-Three.is 1 c.in-Three.a (omega arith) c.index-room-a-in-Three.result
    c.index-room-a-in-Three.is j ∷ part_bits c.node.ensures.made c.args.assign.now.words.items c.args.room.now c.args.term c.requires.stands
    c.requires.room c.requires.before c.in-Op.op c.in-Op.parts (width_at c.args.terms.now c.args.term) c.in-Op.ensures.node
    (Three c.in-Three.c c.in-Three.a c.in-Three.b) c.in-Three.is 2 c.in-Three.b (omega arith) c.index-room-b-in-Three.result
    c.index-room-b-in-Three.is j ∷ [])

pub returns-in-Three : goal.returns-in-Three
returns-in-Three c = op_reckoned c.node.ensures.made c.args.assign.now.words.items c.args.term c.in-Op.op
    (Three c.in-Three.c c.in-Three.a c.in-Three.b) (width_at c.args.terms.now c.args.term)
    (here_is c.node.ensures.made c.args.assign.now.words.items c.args.room.now c.args.term c.requires.stands c.requires.room c.requires.before
    c.in-Op.op c.in-Op.parts (width_at c.args.terms.now c.args.term) c.in-Op.ensures.node (Three c.in-Three.c c.in-Three.a c.in-Three.b)
    c.in-Three.is) (c.index-room-c.result ∷ c.index-room-a-in-Three.result ∷ c.index-room-b-in-Three.result ∷ [])
    (λ j. part_bits c.node.ensures.made c.args.assign.now.words.items c.args.room.now c.args.term c.requires.stands c.requires.room c.requires.before
    c.in-Op.op c.in-Op.parts (width_at c.args.terms.now c.args.term) c.in-Op.ensures.node (Three c.in-Three.c c.in-Three.a c.in-Three.b) c.in-Three.is
    0 c.in-Three.c (omega arith) c.index-room-c.result c.index-room-c.is j ∷ part_bits c.node.ensures.made c.args.assign.now.words.items
    c.args.room.now c.args.term c.requires.stands c.requires.room c.requires.before c.in-Op.op c.in-Op.parts (width_at c.args.terms.now c.args.term)
    c.in-Op.ensures.node (Three c.in-Three.c c.in-Three.a c.in-Three.b) c.in-Three.is 1 c.in-Three.a (omega arith) c.index-room-a-in-Three.result
    c.index-room-a-in-Three.is j ∷ part_bits c.node.ensures.made c.args.assign.now.words.items c.args.room.now c.args.term c.requires.stands
    c.requires.room c.requires.before c.in-Op.op c.in-Op.parts (width_at c.args.terms.now c.args.term) c.in-Op.ensures.node
    (Three c.in-Three.c c.in-Three.a c.in-Three.b) c.in-Three.is 2 c.in-Three.b (omega arith) c.index-room-b-in-Three.result
    c.index-room-b-in-Three.is j ∷ []) c.apply-in-Three.result c.apply-in-Three.ensures.width c.apply-in-Three.ensures.value
