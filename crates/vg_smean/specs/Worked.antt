-- Small steps, each with what comes of it: the definitions on examples that can be worked by hand.
use Rattle.std.specs.Prelude.{ℕ, ◌≡◌, List, [], ◌∷◌, Bool, true, false, Some, None}
use Rattle.std.specs.FinMap.{empty, insert}
use Rattle.vg_core.specs.declared.verdict.Verdict.TheVariants.{Drop, Send, Flood}
use Rattle.vg_stree.specs.declared.code.SExpr.{SExpr}
use Rattle.vg_stree.specs.declared.code.SExpr.TheVariants.{Number, Port, Local, Length, Frame}
use Rattle.vg_stree.specs.declared.code.SExpr.TheVariants as expressions
use Rattle.vg_stree.specs.declared.code.FrameWord.TheVariants.{U8, Be16}
use Rattle.vg_stree.specs.declared.code.Operation.{Operation}
use Rattle.vg_stree.specs.declared.code.Operator.{Operator}
use Rattle.vg_stree.specs.declared.code.Operator.TheVariants.{Subtract, Multiply, ShiftLeft}
use Rattle.vg_stree.specs.declared.code.SStmt.{SStmt}
use Rattle.vg_stree.specs.declared.code.SStmt.TheVariants as statements
use Rattle.vg_stree.specs.declared.shape.FieldType.TheVariants as types
use Rattle.vg_stree.specs.declared.shape.Width.TheVariants.{Bits8}
use Rattle.vg_stree.specs.declared.shape.Size.TheVariants as sizes
use Rattle.vg_stree.specs.declared.shape.ObjectKind.TheVariants as kinds
use Rattle.vg_stree.specs.Specification.{Specification}
use Rattle.vg_abs.specs.declared.object.Object.TheVariants.{Map, Chain, Keys}
use Rattle.vg_abs.specs.Tables.{Link}
use Rattle.vg_abs.specs.State.{State}
use Rattle.vg_smean.specs.Step.{StepEnd, Done, ChoiceRefused, AsksMore, step}

-- a specification of two ports whose step is this statement
abbrev pub of_statement : List SExpr → List Operation → SStmt → Specification
of_statement expressions operations statement = record {
  names = [];
  shape = record { ports = 2; numbers = []; structs = []; fields = []; objects = []; rules = []; premises = [] };
  code = record { expressions = expressions; operations = operations; statements = statement ∷ []; items = 0 ∷ [] };
  step = record { from = 0; count = 1 };
}

-- no objects
abbrev pub nothing : State
nothing = record { full = true; objects = [] }

-- `send first operator second;`
abbrev pub sending : Operator → (first second : SExpr) → Specification
sending operator first second =
    of_statement (first ∷ second ∷ expressions.Chain 0 (record { from = 0; count = 1 }) ∷ []) (record { operator = operator; operand = 1 } ∷ [])
    (statements.Send 2)

-- what the step of a specification comes to, with a frame of three bytes at a port, at time 0
abbrev pub comes_to : Specification → ℕ → List ℕ → StepEnd
comes_to spec port choices = step spec [] nothing port (1 ∷ 2 ∷ 3 ∷ []) 0 choices

-- ---- a link

-- a link of this capacity, whose keys are one byte, with nothing in it
abbrev pub empty_link : ℕ → Link
empty_link capacity = record {
  capacity = capacity;
  key_length = 1;
  keys = empty;
  times = empty;
  cells = empty;
  size = 0;
  count = 0;
  highest = 0;
  bounds = empty;
}

-- a state with this link alone
abbrev pub with_this : Bool → Link → State
with_this full link = record { full = full; objects = Map link ∷ Chain ∷ Keys ∷ [] }

-- `add L {port} as i { send i; }` and then `send length;`, on two ports
abbrev pub adding : Specification
adding = record {
  names = [];
  shape = record {
    ports = 2;
    numbers = [];
    structs = record { at = 0; fields = record { from = 0; count = 1 } } ∷ [];
    fields = record { at = 0; of = types.Number Bits8 } ∷ [];
    objects = record { at = 0; kind = kinds.Map 0 (sizes.Count 2) } ∷ record { at = 0; kind = kinds.Chain } ∷ record { at = 0; kind = kinds.Keys } ∷ [];
    rules = [];
    premises = [];
  };
  code = record {
    expressions = Port ∷ Local 0 ∷ Length ∷ [];
    operations = [];
    statements = statements.Send 1 ∷ statements.Add 0 (record { from = 0; count = 1 }) (record { from = 1; count = 1 }) (record { from = 2; count = 0 })
        ∷ statements.Send 2 ∷ [];
    items = 0 ∷ 0 ∷ 1 ∷ 2 ∷ [];
  };
  step = record { from = 2; count = 2 };
}

-- what it comes to with a frame of two bytes, whose length is no port, at port 0 and time 5
abbrev pub adds : State → List ℕ → StepEnd
adds s choices = step adding [] s 0 (7 ∷ 7 ∷ []) 5 choices

-- the link once index 1 was handed out to the key 0
abbrev pub entered : Link
entered = record (empty_link 2) {
  keys = insert empty (0 ∷ []) (Some 1);
  times = insert empty 1 (Some 5);
  cells = insert empty 1 (0 ∷ []);
  size = 1;
  count = 1;
  highest = 5;
}

-- a partial state's link, which tells that the key 0 is absent, and nothing else
abbrev pub told_absent : Link
told_absent = record (empty_link 2) { keys = insert empty (0 ∷ []) None }

-- ---- several statements

-- a specification of two ports with that link, whose step is the last so many of these statements, which stand behind the items
abbrev pub of_statements : List SExpr → List SStmt → List ℕ → (from count : ℕ) → Specification
of_statements expressions statements items from count = record {
  names = [];
  shape = adding.shape;
  code = record { expressions = expressions; operations = []; statements = statements; items = items };
  step = record { from = from; count = count };
}

-- what its step comes to with no frame's bytes at port 1, at time 5
abbrev pub ends : Specification → State → List ℕ → StepEnd
ends spec s choices = step spec [] s 1 [] 5 choices

-- `if port { flood; } else { drop; }`
abbrev pub branching : Specification
branching =
    of_statements (Port ∷ [])
    (statements.Flood ∷ statements.Drop ∷ statements.If 0 (record { from = 0; count = 1 }) (record { from = 1; count = 1 }) ∷ [])
    (0 ∷ 1 ∷ 2 ∷ []) 2 1

-- `if 1 { let a = 1; } let b = 0; send b;`: the second name is again the first that is in scope
abbrev pub scoped : Specification
scoped =
    of_statements (Number 1 ∷ Number 0 ∷ Local 0 ∷ [])
    (statements.Let 0 ∷ statements.If 0 (record { from = 0; count = 1 }) (record { from = 0; count = 0 }) ∷ statements.Let 1 ∷ statements.Send 2 ∷ [])
    (0 ∷ 1 ∷ 2 ∷ 3 ∷ []) 1 3

-- `define f(a) = a;` and `let x = 0; send f(1);`: a define sees its own parameters alone
abbrev pub calling : Specification
calling =
    of_statements (Local 0 ∷ Number 0 ∷ Number 1 ∷ expressions.Call 0 (record { from = 0; count = 1 }) ∷ [])
    (statements.Let 1 ∷ statements.Send 3 ∷ []) (2 ∷ 0 ∷ 1 ∷ []) 1 2

-- `let x = 1 ? 0 : has(L, 1); drop;`
abbrev pub choosing : Specification
choosing =
    of_statements (Number 1 ∷ Number 0 ∷ expressions.Has 0 0 ∷ expressions.Choose 0 1 2 ∷ [])
    (statements.Let 3 ∷ statements.Drop ∷ []) (0 ∷ 1 ∷ []) 0 2

-- `touch L 1;`
abbrev pub touching : Specification
touching = of_statements (Number 1 ∷ []) (statements.Touch 0 0 ∷ []) (0 ∷ []) 0 1

-- `find L {256} as i { send i; } else { flood; }`, whose key is one byte
abbrev pub finding : Specification
finding =
    of_statements (Number 256 ∷ Local 0 ∷ [])
    (statements.Send 1 ∷ statements.Flood
    ∷ statements.Find 0 (record { from = 0; count = 1 }) (record { from = 0; count = 1 }) (record { from = 1; count = 1 }) ∷ [])
    (0 ∷ 1 ∷ 2 ∷ []) 2 1

pub record WorkedSteps : Type 0 where
  -- `send 1 - port;` exchanges two ports
  pub swap : comes_to (sending Subtract (Number 1) Port) 0 [] ≡ Done (Send 1) nothing (1 ∷ 2 ∷ 3 ∷ [])
  pub swapped : comes_to (sending Subtract (Number 1) Port) 1 [] ≡ Done (Send 0) nothing (1 ∷ 2 ∷ 3 ∷ [])
  -- a difference stops at 0, and doesn't wrap
  pub no_less : comes_to (sending Subtract Port (Number 5)) 1 [] ≡ Done (Send 0) nothing (1 ∷ 2 ∷ 3 ∷ [])
  -- a shift by 64 gives 0; it isn't one by 64 modulo 64
  pub shifted_out : comes_to (sending ShiftLeft (Number 1) (Number 64)) 0 [] ≡ Done (Send 0) nothing (1 ∷ 2 ∷ 3 ∷ [])
  -- what is no port is a drop
  pub no_port : comes_to (sending Multiply (Number 2) (Number 1)) 0 [] ≡ Done Drop nothing (1 ∷ 2 ∷ 3 ∷ [])
  -- an index that is to be handed out and isn't asked for is refused
  pub left : comes_to (sending Subtract (Number 1) Port) 0 (7 ∷ []) ≡ ChoiceRefused
  -- `frame.be16[2] = 258;` writes 1 and not the 2 behind it, which would stand past the end; the step then ends, which is a drop
  pub written : step (of_statement (Number 2 ∷ Number 258 ∷ []) [] (statements.SetFrame Be16 0 1)) [] nothing 0 (9 ∷ 9 ∷ 9 ∷ []) 0 []
      ≡ Done Drop nothing (9 ∷ 9 ∷ 1 ∷ [])
  -- `send frame.u8[3];` reads 0 past the end
  pub read_past : step (of_statement (Number 3 ∷ Frame U8 0 ∷ []) [] (statements.Send 1)) [] nothing 1 (1 ∷ 1 ∷ 1 ∷ []) 0 []
      ≡ Done (Send 0) nothing (1 ∷ 1 ∷ 1 ∷ [])
  -- an index that is free is handed out, and the step ends in the block
  pub added : adds (with_this true (empty_link 2)) (1 ∷ []) ≡ Done (Send 1) (with_this true entered) (7 ∷ 7 ∷ [])
  -- an index has to be there, below the capacity, and free
  pub no_choice : adds (with_this true (empty_link 2)) [] ≡ ChoiceRefused
  pub beyond : adds (with_this true (empty_link 2)) (2 ∷ []) ≡ ChoiceRefused
  pub in_use : adds (with_this true (record (empty_link 2) { times = insert empty 1 (Some 0); count = 1 })) (1 ∷ []) ≡ ChoiceRefused
  -- where the key is present, or no index is free, none is taken
  pub present : adds (with_this true entered) [] ≡ Done Drop (with_this true entered) (7 ∷ 7 ∷ [])
  pub used_up : adds (with_this true (empty_link 0)) [] ≡ Done Drop (with_this true (empty_link 0)) (7 ∷ 7 ∷ [])
  -- a partial state that doesn't tell of the key, or of the index, is asked
  pub key_asked : adds (with_this false (empty_link 2)) (1 ∷ []) ≡ AsksMore
  pub index_asked : adds (with_this false told_absent) (1 ∷ []) ≡ AsksMore
  pub untold_missing : adds (with_this false told_absent) [] ≡ ChoiceRefused
  pub untold_beyond : adds (with_this false told_absent) (2 ∷ []) ≡ ChoiceRefused
  -- what isn't 0 is true
  pub branched : ends branching nothing [] ≡ Done Flood nothing []
  -- a name goes with its block, and a define sees its parameters alone
  pub name_gone : ends scoped nothing [] ≡ Done (Send 0) nothing []
  pub own_names : ends calling nothing [] ≡ Done (Send 1) nothing []
  -- both sides of a choice are evaluated, and so ask
  pub both_asked : ends choosing (with_this false (empty_link 2)) [] ≡ AsksMore
  -- a free index isn't touched, and the highest time stays
  pub not_touched : ends touching (with_this true (empty_link 2)) [] ≡ Done Drop (with_this true (empty_link 2)) []
  -- a key's bytes are its values modulo the sizes of its fields: 256 in one byte is the key 0
  pub found : ends finding (with_this true entered) [] ≡ Done (Send 1) (with_this true entered) []
