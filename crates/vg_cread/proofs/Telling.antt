-- The tests of the grammar, token by token: each tells the side. So the tests lead to all that is spelled, and to nothing else.
use Rattle.std.proofs.Common.{◌≡◌, ℕ, zero, suc, Bool, true, false, Option, List, length, slice_get, refl, sym, subst, arith}
use Rattle.std.specs.Prelude.{◌&&◌, ◌||◌, not}
use Rattle.std.proofs.lemmas.Bool.{and_parts}
use Rattle.std.proofs.lemmas.Option.{slice_get_past}
use Rattle.vg_core.specs.Syntax.{Syntax}
use Rattle.vg_ctok.specs.declared.kinds.Token.{Token}
use Rattle.vg_ctok.specs.declared.kinds.TokenKind.{TokenKind}
use Rattle.vg_ctok.specs.declared.kinds.TokenKind.TheVariants as kinds
use Rattle.vg_ctok.specs.declared.kinds.Keyword.TheVariants as words
use Rattle.vg_ctok.specs.declared.kinds.Sign.TheVariants as signs
use Rattle.vg_cread.specs.Forms.{Form, Plain, Inner, ◌⊛◌, ◌⊳◌, optional, Nested, Expression, Operand, Statement, Body}
use Rattle.vg_cread.specs.Grammar.{begins, form, sign, word, name, flagged, base, int_type, star, handle, array_length, initial, expression, operator}
use Rattle.vg_cread.specs.Grammar.{binary, link, unary, postfix, suffix, primary, arguments, no_postfix, opened, statement, block, pieces, piece}
use Rattle.vg_cread.specs.Grammar.{declaration, if_statement, otherwise, for_statement, step, return_statement, simple_statement, assignment, action}
use Rattle.vg_cread.specs.Grammar.{field, fields, attribute, packing, struct_item, extern_item, param, params, answer, function, item, items, unit}
use Rattle.vg_cread.specs.Kinds.{is_sign, is_binary}
use Rattle.vg_cread.specs.Places.{State}
use Rattle.vg_cread.specs.Spelling.{spelled_inner, start, Spells}
use Rattle.vg_cread.specs.Guided.{guided_inner, Guides}
use Rattle.vg_cread.proofs.Rooms.{form_eats}
use Rattle.vg_cread.proofs.Choices.{first, follows, tells, led, and_both, implies, After, Leading, leads, leads_some, guide, plain, implied, some_passes}

expression_begins : (kind : TokenKind) (from to : ℕ) → implies (first (form Expression) (record { kind = kind; from = from; to = to }))
    (begins Expression (record { kind = kind; from = from; to = to })) ≡ true
unfolding expression binary link operator unary postfix suffix primary opened no_postfix arguments sign word name base int_type star
expression_begins (kinds.Sign signs.Plus) from to = refl
expression_begins (kinds.Keyword words.If) from to = refl
expression_begins _ from to = refl

operand_tells : (kind : TokenKind) (from to : ℕ) → tells (form Operand) (follows Operand (record { kind = kind; from = from; to = to }))
    (record { kind = kind; from = from; to = to }) ≡ true
unfolding unary postfix suffix primary opened no_postfix arguments sign word name base int_type star
operand_tells (kinds.Sign signs.Plus) from to = refl
operand_tells (kinds.Keyword words.If) from to = refl
operand_tells _ from to = refl

operand_begins : (kind : TokenKind) (from to : ℕ) → implies (first (form Operand) (record { kind = kind; from = from; to = to }))
    (begins Operand (record { kind = kind; from = from; to = to })) ≡ true
unfolding unary postfix suffix primary opened no_postfix arguments sign word name base int_type star
operand_begins (kinds.Sign signs.Plus) from to = refl
operand_begins (kinds.Keyword words.If) from to = refl
operand_begins _ from to = refl

-- the operators of a rank and those below it, where a token may stand behind their operands, or not
abbrev loose : ℕ → Bool → Token → Bool
loose zero behind t = implies behind (follows Operand t)
loose (suc rank) behind t = loose rank ((is_binary (suc rank) t || false) || behind) t && implies behind (not (is_binary (suc rank) t))

unary_tells : (kind : TokenKind) (from to : ℕ) → tells unary false (record { kind = kind; from = from; to = to }) ≡ true
unfolding unary postfix suffix primary opened no_postfix arguments sign word name base int_type star
unary_tells (kinds.Sign signs.Plus) from to = refl
unary_tells (kinds.Keyword words.If) from to = refl
unary_tells _ from to = refl

any_tells : (behind : Bool) (t : Token) → implies behind (follows Operand t) ≡ true → tells unary behind t ≡ true
any_tells true t is = subst (λ (b : Bool). tells unary b t ≡ true) is (operand_tells t.kind t.from t.to)
any_tells false t is = unary_tells t.kind t.from t.to

implies_itself : (b : Bool) → implies (b || false) b ≡ true
implies_itself true = refl
implies_itself false = refl

binary_tells : (rank : ℕ) (behind : Bool) (t : Token) → loose rank behind t ≡ true → tells (binary rank) behind t ≡ true
unfolding binary link operator
binary_tells zero behind t is = any_tells behind t is
binary_tells (suc rank) behind t is =
    let parts = and_parts (loose rank ((is_binary (suc rank) t || false) || behind) t) (implies behind (not (is_binary (suc rank) t))) is in
    let below = binary_tells rank ((is_binary (suc rank) t || false) || behind) t parts.0 in
    let tests = and_both (implies (is_binary (suc rank) t || false) (is_binary (suc rank) t)) (implies behind (not (is_binary (suc rank) t)))
    (implies_itself (is_binary (suc rank) t)) parts.1 in
    and_both (tells (binary rank) ((is_binary (suc rank) t || false) || behind) t && tells (binary rank) ((is_binary (suc rank) t || false) || behind) t)
    (implies (is_binary (suc rank) t || false) (is_binary (suc rank) t) && implies behind (not (is_binary (suc rank) t)))
    (and_both (tells (binary rank) ((is_binary (suc rank) t || false) || behind) t) (tells (binary rank) ((is_binary (suc rank) t || false) || behind)
    t) below below) tests

abbrev pair : ℕ → ℕ → ℕ × ℕ
pair a b = (a, b)

abbrev choice : Form (Option (ℕ × ℕ))
choice = optional (is_sign signs.Question) (Plain pair ⊛ (sign signs.Question ⊳ Inner Expression) ⊛ (sign signs.Colon ⊳ Inner Expression))

choice_tells : (kind : TokenKind) (from to : ℕ) → tells choice (follows Expression (record { kind = kind; from = from; to = to }))
    (record { kind = kind; from = from; to = to }) ≡ true
unfolding sign
choice_tells (kinds.Sign signs.Plus) from to = refl
choice_tells (kinds.Keyword words.If) from to = refl
choice_tells _ from to = refl

ranks_tell : (kind : TokenKind) (from to : ℕ)
    → loose 10 (led choice (follows Expression (record { kind = kind; from = from; to = to })) (record { kind = kind; from = from; to = to }))
    (record { kind = kind; from = from; to = to }) ≡ true
unfolding sign
ranks_tell (kinds.Sign signs.Plus) from to = refl
ranks_tell (kinds.Keyword words.If) from to = refl
ranks_tell _ from to = refl

expression_tells : (t : Token) → tells (form Expression) (follows Expression t) t ≡ true
unfolding expression
expression_tells t =
    and_both (tells (binary 10) (led choice (follows Expression t) t) t) (tells choice (follows Expression t) t)
    (binary_tells 10 (led choice (follows Expression t) t) t (ranks_tell t.kind t.from t.to)) (choice_tells t.kind t.from t.to)

statement_tells : (kind : TokenKind) (from to : ℕ) → tells (form Statement) (follows Statement (record { kind = kind; from = from; to = to }))
    (record { kind = kind; from = from; to = to }) ≡ true
unfolding statement block pieces piece declaration if_statement otherwise for_statement step return_statement simple_statement assignment action
    array_length initial sign word name base int_type star
statement_tells (kinds.Sign signs.Plus) from to = refl
statement_tells (kinds.Keyword words.If) from to = refl
statement_tells _ from to = refl

statement_begins : (kind : TokenKind) (from to : ℕ) → implies (first (form Statement) (record { kind = kind; from = from; to = to }))
    (begins Statement (record { kind = kind; from = from; to = to })) ≡ true
unfolding statement block pieces piece declaration if_statement otherwise for_statement step return_statement simple_statement assignment action
    array_length initial sign word name base int_type star
statement_begins (kinds.Sign signs.Plus) from to = refl
statement_begins (kinds.Keyword words.If) from to = refl
statement_begins _ from to = refl

body_tells : (kind : TokenKind) (from to : ℕ) → tells (form Body) (follows Body (record { kind = kind; from = from; to = to }))
    (record { kind = kind; from = from; to = to }) ≡ true
unfolding block pieces piece declaration array_length initial sign word name base int_type star
body_tells (kinds.Sign signs.Plus) from to = refl
body_tells (kinds.Keyword words.If) from to = refl
body_tells _ from to = refl

body_begins : (kind : TokenKind) (from to : ℕ) → implies (first (form Body) (record { kind = kind; from = from; to = to }))
    (begins Body (record { kind = kind; from = from; to = to })) ≡ true
unfolding block pieces piece declaration array_length initial sign word name base int_type star
body_begins (kinds.Sign signs.Plus) from to = refl
body_begins (kinds.Keyword words.If) from to = refl
body_begins _ from to = refl

pub form_tells : (n : Nested) (t : Token) → tells (form n) (follows n t) t ≡ true
form_tells Expression t = expression_tells t
form_tells Operand t = operand_tells t.kind t.from t.to
form_tells Statement t = statement_tells t.kind t.from t.to
form_tells Body t = body_tells t.kind t.from t.to

pub form_begins : (n : Nested) (t : Token) → implies (first (form n) t) (begins n t) ≡ true
form_begins Expression t = expression_begins t.kind t.from t.to
form_begins Operand t = operand_begins t.kind t.from t.to
form_begins Statement t = statement_begins t.kind t.from t.to
form_begins Body t = body_begins t.kind t.from t.to

unit_kinds : (kind : TokenKind) (from to : ℕ) → tells unit false (record { kind = kind; from = from; to = to }) ≡ true
unfolding unit items item struct_item extern_item function fields field attribute packing param params answer flagged handle array_length sign word
    name base int_type star
unit_kinds (kinds.Sign signs.Plus) from to = refl
unit_kinds (kinds.Keyword words.If) from to = refl
unit_kinds _ from to = refl

pub unit_tells : (t : Token) → tells unit false t ≡ true
unit_tells t = unit_kinds t.kind t.from t.to

module _ (toks : List Token) where
  pub inner_leads : (room : ℕ) → Leading toks (spelled_inner toks room)
  inner_leads zero n s a u is = absurd is
  inner_leads (suc room) n s a u is =
      let next = leads_some toks (form n) s u (form_eats n) (leads toks (spelled_inner toks room) (inner_leads room) (form n) s a u is) in
      (next.0, next.1, implied (first (form n) next.0) (begins n next.0) (form_begins n next.0) next.2)

  pub inner_guided : (room : ℕ) (n : Nested) (s : State) (a : ℕ) (u : State) → spelled_inner toks room n s a u
      → After (follows n) (slice_get toks u.at) → guided_inner toks room n s a u
  inner_guided zero n s a u is after = absurd is
  inner_guided (suc room) n s a u is after =
      let next = inner_leads (suc room) n s a u is in (
        some_passes (begins n) (slice_get toks s.at) next.0 next.1 next.2,
        guide toks (spelled_inner toks room) (guided_inner toks room) (inner_leads room) (inner_guided room) (form n) (follows n) (form_tells n) s a u is after,
      )

  -- what tokens spell, the tests lead to
  pub guided_of : (room : ℕ) (tree : Syntax) → Spells room toks tree → Guides room toks tree
  guided_of room tree (root, is) = (
    root,
    guide toks (spelled_inner toks room) (guided_inner toks room) (inner_leads room) (inner_guided room) unit (λ t. false) unit_tells start root
        (record { at = length toks; tree = tree }) is
        (subst (λ o. After (λ t. false) o) (sym (slice_get_past toks (length toks) (omega arith))) tt),
  )

  pub inner_plain : (room : ℕ) (n : Nested) (s : State) (a : ℕ) (u : State) → guided_inner toks room n s a u → spelled_inner toks room n s a u
  inner_plain zero n s a u is = absurd is
  inner_plain (suc room) n s a u (so, is) = plain toks (guided_inner toks room) (spelled_inner toks room) (inner_plain room) (form n) s a u is

  -- and what they lead to is spelled
  pub spelled_of : (room : ℕ) (tree : Syntax) → Guides room toks tree → Spells room toks tree
  spelled_of room tree (root, is) = (
    root,
    plain toks (guided_inner toks room) (spelled_inner toks room) (inner_plain room) unit start root
        (record { at = length toks; tree = tree }) is,
  )
