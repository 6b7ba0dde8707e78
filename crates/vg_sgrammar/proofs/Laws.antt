-- The grammar's forms meet what makes reading the same as spelling.
use Rattle.std.proofs.Common.{◌≡◌, ◌≤◌, inl, inr, ℕ, zero, suc, Bool, true, false, List, [], ◌∷◌, ◌++◌, length, slice_get, Option, Some, None, refl}
use Rattle.std.proofs.Common.{sym, subst, arith}
use Rattle.std.specs.Prelude.{◌&&◌, ◌||◌, not, is_some}
use Rattle.std.proofs.lemmas.Bool.{and_parts}
use Rattle.std.proofs.lemmas.Option.{slice_get_cases}
use Rattle.vg_forms.specs.Forms.{Plain, One, Inner, ◌⊛◌, ◌⊳◌, optional, one_more}
use Rattle.vg_forms.specs.Places.{State, passes}
use Rattle.vg_forms.specs.Spelling.{start}
use Rattle.vg_forms.specs.Guided.{guided}
use Rattle.vg_forms.proofs.Checks.{eats, tidy, implies, Hints, first, led, tells, sample, whole, stops, fits, calls, leads, Law}
use Rattle.vg_stok.specs.declared.kinds.TokenKind.{TokenKind}
use Rattle.vg_stok.specs.declared.kinds.TokenKind.TheVariants as kinds
use Rattle.vg_stok.specs.declared.kinds.Word.TheVariants as words
use Rattle.vg_stok.specs.declared.kinds.Sign.TheVariants as signs
use Rattle.vg_stree.specs.declared.code.Operation.{Operation}
use Rattle.vg_sgrammar.specs.Written.{Written}
use Rattle.vg_sgrammar.specs.Kinds.{SToken, is_sign, is_word, is_binary, binary_of, any_token}
use Rattle.vg_sgrammar.specs.Rules.{Nested, Expression, Operand, Statement, Block, SForm, sgrammar, begins, form, sign, word, name, number, number_alone}
use Rattle.vg_sgrammar.specs.Rules.{some_expressions, next_expression, ranked, arguments, behind_name, frame_word, pair, framed, parens, has}
use Rattle.vg_sgrammar.specs.Rules.{frame_primary, cell_primary}
use Rattle.vg_sgrammar.specs.Rules.{known, named_primary, primary, unary, operator, operation_of, operation}
use Rattle.vg_sgrammar.specs.Rules.{operations, binary, expression, otherwise, assigned, let_statement, alone, send_statement, if_statement}
use Rattle.vg_sgrammar.specs.Rules.{frame_statement, cell_statement, expire_statement, key, keyed, indexed, lookup_statement, link_statement}
use Rattle.vg_sgrammar.specs.Rules.{statement, statements}
use Rattle.vg_sgrammar.specs.Rules.{block, ports, width, config, premise, field_type, field, fields, struct_declaration, size, link, vector, prefix, rule}
use Rattle.vg_sgrammar.specs.Rules.{some_names, next_name, parameters, define, declaration, declarations, ended, specification}

and_both : (a b : Bool) → a ≡ true → b ≡ true → (a && b) ≡ true
and_both a b one two = rw (one, two) refl

-- each counted construct has a token
pub binary_eats : (rank : ℕ) → eats (binary rank) ≡ true
unfolding binary ranked operations operation operator unary primary parens has frame_primary cell_primary known named_primary framed
    frame_word number_alone behind_name arguments some_expressions next_expression sign word name number
binary_eats zero = refl
binary_eats (suc rank) = rw (binary_eats rank) refl

pub form_eats : (n : Nested) → eats (form n) ≡ true
unfolding expression unary primary statement block statements parens has frame_primary cell_primary known named_primary framed frame_word
    number_alone behind_name arguments some_expressions next_expression sign word name number link_statement assigned otherwise let_statement
    alone send_statement if_statement frame_statement cell_statement expire_statement key keyed indexed lookup_statement
form_eats Expression = rw (binary_eats 10) refl
form_eats Operand = refl
form_eats Statement = refl
form_eats Block = refl

binary_tidy : (rank : ℕ) → tidy (binary rank) ≡ true
unfolding binary ranked operations operation operator unary primary parens has frame_primary cell_primary known named_primary framed
    frame_word number_alone behind_name arguments some_expressions next_expression sign word name number
binary_tidy zero = refl
binary_tidy (suc rank) = rw (binary_tidy rank) refl

pub form_tidy : (n : Nested) → tidy (form n) ≡ true
unfolding expression unary primary statement block statements parens has frame_primary cell_primary known named_primary framed frame_word
    number_alone behind_name arguments some_expressions next_expression sign word name number link_statement assigned otherwise let_statement
    alone send_statement if_statement frame_statement cell_statement expire_statement key keyed indexed lookup_statement
form_tidy Expression = rw (binary_tidy 10) refl
form_tidy Operand = refl
form_tidy Statement = refl
form_tidy Block = refl

pub unit_tidy : tidy specification ≡ true
unfolding specification declarations declaration ended ports config width premise struct_declaration fields field field_type link size vector
    prefix rule define parameters some_names next_name assigned sign word name number
unit_tidy = refl

-- hints
abbrev token : TokenKind → SToken
token kind = record { kind = kind; from = 0; to = 0 }

abbrev samples : List SToken
samples =
    token kinds.Name ∷ token (kinds.Number 0) ∷ token (kinds.Word words.Ports) ∷ token (kinds.Word words.Config) ∷
    token (kinds.Word words.Premise) ∷ token (kinds.Word words.Struct) ∷ token (kinds.Word words.Link) ∷ token (kinds.Word words.Vector) ∷
    token (kinds.Word words.Prefix) ∷ token (kinds.Word words.Rule) ∷ token (kinds.Word words.Define) ∷ token (kinds.Word words.Step) ∷
    token (kinds.Word words.Let) ∷ token (kinds.Word words.Drop) ∷ token (kinds.Word words.Flood) ∷ token (kinds.Word words.Send) ∷
    token (kinds.Word words.If) ∷ token (kinds.Word words.Else) ∷ token (kinds.Word words.Frame) ∷ token (kinds.Word words.Expire) ∷
    token (kinds.Word words.Before) ∷ token (kinds.Word words.Find) ∷ token (kinds.Word words.As) ∷ token (kinds.Word words.Add) ∷
    token (kinds.Word words.Touch) ∷ token (kinds.Word words.Remove) ∷ token (kinds.Word words.Lookup) ∷ token (kinds.Word words.Cell) ∷
    token (kinds.Word words.Length) ∷ token (kinds.Word words.Port) ∷ token (kinds.Word words.Now) ∷ token (kinds.Word words.Has) ∷
    token (kinds.Word words.U8) ∷ token (kinds.Word words.U16) ∷ token (kinds.Word words.U32) ∷ token (kinds.Word words.U64) ∷
    token (kinds.Word words.Be16) ∷ token (kinds.Word words.Be32) ∷ token (kinds.Word words.Be48) ∷ token (kinds.Word words.Be64) ∷
    token (kinds.Word words.B1) ∷ token (kinds.Word words.B2) ∷ token (kinds.Word words.B3) ∷ token (kinds.Word words.B4) ∷
    token (kinds.Word words.B5) ∷ token (kinds.Word words.B6) ∷ token (kinds.Word words.B7) ∷ token (kinds.Word words.B8) ∷
    token (kinds.Sign signs.Range) ∷ token (kinds.Sign signs.ShiftLeft) ∷ token (kinds.Sign signs.ShiftRight) ∷
    token (kinds.Sign signs.LessEqual) ∷ token (kinds.Sign signs.GreaterEqual) ∷ token (kinds.Sign signs.EqualEqual) ∷
    token (kinds.Sign signs.NotEqual) ∷ token (kinds.Sign signs.AndAnd) ∷ token (kinds.Sign signs.OrOr) ∷ token (kinds.Sign signs.Plus) ∷
    token (kinds.Sign signs.Minus) ∷ token (kinds.Sign signs.Star) ∷ token (kinds.Sign signs.Slash) ∷ token (kinds.Sign signs.Percent) ∷
    token (kinds.Sign signs.And) ∷ token (kinds.Sign signs.Or) ∷ token (kinds.Sign signs.Xor) ∷ token (kinds.Sign signs.Not) ∷
    token (kinds.Sign signs.Less) ∷ token (kinds.Sign signs.Greater) ∷ token (kinds.Sign signs.Assign) ∷ token (kinds.Sign signs.Question) ∷
    token (kinds.Sign signs.Colon) ∷ token (kinds.Sign signs.Semicolon) ∷ token (kinds.Sign signs.Comma) ∷ token (kinds.Sign signs.Dot) ∷
    token (kinds.Sign signs.LeftParen) ∷ token (kinds.Sign signs.RightParen) ∷ token (kinds.Sign signs.LeftBrace) ∷
    token (kinds.Sign signs.RightBrace) ∷ token (kinds.Sign signs.LeftBracket) ∷ token (kinds.Sign signs.RightBracket) ∷ []

abbrev whole_inner : Nested → List SToken
whole_inner Expression = token kinds.Name ∷ []
whole_inner Operand = token kinds.Name ∷ []
whole_inner Statement = token (kinds.Word words.Drop) ∷ token (kinds.Sign signs.Semicolon) ∷ []
whole_inner Block = token (kinds.Sign signs.LeftBrace) ∷ token (kinds.Sign signs.RightBrace) ∷ []

abbrev closes_kind : TokenKind → Bool
closes_kind (kinds.Sign signs.RightParen) = true
closes_kind (kinds.Sign signs.RightBracket) = true
closes_kind (kinds.Sign signs.RightBrace) = true
closes_kind (kinds.Sign signs.LeftBrace) = true
closes_kind (kinds.Sign signs.Semicolon) = true
closes_kind (kinds.Sign signs.Colon) = true
closes_kind (kinds.Word words.As) = true
closes_kind _ = false

abbrev closes : SToken → Bool
closes t = closes_kind t.kind

abbrev follows : Nested → SToken → Bool
follows Expression t = closes t || is_sign signs.Comma t
follows Operand t = not (is_sign signs.LeftParen t || is_sign signs.LeftBracket t)
follows Statement t = not (is_word words.Else t)
follows Block t = true

abbrev pub hints : Hints TokenKind Nested
hints = record {
  follows = follows;
  any = token kinds.Name;
  samples = samples;
  whole_inner = whole_inner;
  closes = closes;
  flat = λ n. true;
}

-- the tests tell the sides
operand_tells : (kind : TokenKind) (from to : ℕ) → tells sgrammar hints (form Operand) (follows Operand
    (record { kind = kind; from = from; to = to })) (record { kind = kind; from = from; to = to }) ≡ true
unfolding unary primary parens has frame_primary cell_primary known named_primary framed frame_word number_alone behind_name arguments
    some_expressions next_expression sign word name number
operand_tells (kinds.Sign signs.Plus) from to = refl
operand_tells (kinds.Word words.If) from to = refl
operand_tells _ from to = refl

operand_begins : (kind : TokenKind) (from to : ℕ) → implies (first sgrammar (form Operand) (record { kind = kind; from = from; to = to }))
    (begins Operand (record { kind = kind; from = from; to = to })) ≡ true
unfolding unary primary parens has frame_primary cell_primary known named_primary framed frame_word number_alone behind_name arguments
    some_expressions next_expression sign word name number
operand_begins (kinds.Sign signs.Plus) from to = refl
operand_begins (kinds.Word words.If) from to = refl
operand_begins _ from to = refl

expression_begins : (kind : TokenKind) (from to : ℕ) → implies (first sgrammar (form Expression) (record { kind = kind; from = from; to = to }))
    (begins Expression (record { kind = kind; from = from; to = to })) ≡ true
unfolding expression binary ranked operations operation operator unary primary parens has frame_primary cell_primary known named_primary
    framed frame_word number_alone behind_name arguments some_expressions next_expression sign word name number
expression_begins (kinds.Sign signs.Plus) from to = refl
expression_begins (kinds.Word words.If) from to = refl
expression_begins _ from to = refl

unary_tells : (kind : TokenKind) (from to : ℕ) → tells sgrammar hints unary false (record { kind = kind; from = from; to = to }) ≡ true
unfolding unary primary parens has frame_primary cell_primary known named_primary framed frame_word number_alone behind_name arguments
    some_expressions next_expression sign word name number
unary_tells (kinds.Sign signs.Plus) from to = refl
unary_tells (kinds.Word words.If) from to = refl
unary_tells _ from to = refl

statement_tells : (kind : TokenKind) (from to : ℕ) → tells sgrammar hints (form Statement) (follows Statement
    (record { kind = kind; from = from; to = to })) (record { kind = kind; from = from; to = to }) ≡ true
unfolding statement link_statement assigned otherwise let_statement alone send_statement if_statement frame_statement cell_statement
    expire_statement key keyed indexed lookup_statement framed frame_word number_alone some_expressions next_expression sign word name number
statement_tells (kinds.Sign signs.Plus) from to = refl
statement_tells (kinds.Word words.If) from to = refl
statement_tells _ from to = refl

statement_begins : (kind : TokenKind) (from to : ℕ) → implies (first sgrammar (form Statement) (record { kind = kind; from = from; to = to }))
    (begins Statement (record { kind = kind; from = from; to = to })) ≡ true
unfolding statement link_statement assigned otherwise let_statement alone send_statement if_statement frame_statement cell_statement
    expire_statement key keyed indexed lookup_statement framed frame_word number_alone some_expressions next_expression sign word name number
statement_begins (kinds.Sign signs.Plus) from to = refl
statement_begins (kinds.Word words.If) from to = refl
statement_begins _ from to = refl

block_tells : (kind : TokenKind) (from to : ℕ) → tells sgrammar hints (form Block) (follows Block (record { kind = kind; from = from; to = to }))
    (record { kind = kind; from = from; to = to }) ≡ true
unfolding block statements sign
block_tells (kinds.Sign signs.Plus) from to = refl
block_tells (kinds.Word words.If) from to = refl
block_tells _ from to = refl

block_begins : (kind : TokenKind) (from to : ℕ) → implies (first sgrammar (form Block) (record { kind = kind; from = from; to = to })) (begins Block
    (record { kind = kind; from = from; to = to })) ≡ true
unfolding block statements sign
block_begins (kinds.Sign signs.Plus) from to = refl
block_begins (kinds.Word words.If) from to = refl
block_begins _ from to = refl

unit_kinds : (kind : TokenKind) (from to : ℕ) → tells sgrammar hints specification false (record { kind = kind; from = from; to = to }) ≡ true
unfolding specification declarations declaration ended ports config width premise struct_declaration fields field field_type link size vector
    prefix rule define parameters some_names next_name assigned sign word name number
unit_kinds (kinds.Sign signs.Plus) from to = refl
unit_kinds (kinds.Word words.If) from to = refl
unit_kinds _ from to = refl

-- the operators of a rank and those below it, where a token may stand behind their operands, or not
abbrev loose : ℕ → Bool → SToken → Bool
loose zero behind t = implies behind (follows Operand t)
loose (suc rank) behind t = loose rank ((is_binary (suc rank) t || false) || behind) t && implies behind (not (is_binary (suc rank) t))

any_tells : (behind : Bool) (t : SToken) → implies behind (follows Operand t) ≡ true → tells sgrammar hints unary behind t ≡ true
any_tells true t is = subst (λ (b : Bool). tells sgrammar hints unary b t ≡ true) is (operand_tells t.kind t.from t.to)
any_tells false t is = unary_tells t.kind t.from t.to

implies_itself : (b : Bool) → implies (b || false) b ≡ true
implies_itself true = refl
implies_itself false = refl

and_true : (b : Bool) → (b && true) ≡ b
and_true true = refl
and_true false = refl

binary_tells : (rank : ℕ) (behind : Bool) (t : SToken) → loose rank behind t ≡ true → tells sgrammar hints (binary rank) behind t ≡ true
unfolding binary ranked operations operation operator
binary_tells zero behind t is = any_tells behind t is
binary_tells (suc rank) behind t is =
    let now = is_binary (suc rank) t in
    let more = (now || false) || behind in
    let parts = and_parts (loose rank more t) (implies behind (not now)) is in
    let below = binary_tells rank more t parts.0 in
    let left = subst (λ (b : Bool). tells sgrammar hints (binary rank) ((now || false) || b) t ≡ true) (sym (and_true behind)) below in
    let tests = and_both (implies (now || false) now) (implies behind (not now)) (implies_itself now) parts.1 in
    and_both (tells sgrammar hints (binary rank) ((now || false) || (behind && true)) t)
    (tells sgrammar hints (binary rank) more t && (implies (now || false) now && implies behind (not now))) left
    (and_both (tells sgrammar hints (binary rank) more t) (implies (now || false) now && implies behind (not now)) below tests)

abbrev choice : SForm (Option (ℕ × ℕ))
choice = optional (is_sign signs.Question) (Plain pair ⊛ (sign signs.Question ⊳ Inner Expression) ⊛ (sign signs.Colon ⊳ Inner Expression))

choice_tells : (kind : TokenKind) (from to : ℕ) → tells sgrammar hints choice (follows Expression (record { kind = kind; from = from; to = to }))
    (record { kind = kind; from = from; to = to }) ≡ true
unfolding sign
choice_tells (kinds.Sign signs.Plus) from to = refl
choice_tells (kinds.Word words.If) from to = refl
choice_tells _ from to = refl

ranks_tell : (kind : TokenKind) (from to : ℕ) → loose 10 (led sgrammar choice (follows Expression (record { kind = kind; from = from; to = to }))
    (record { kind = kind; from = from; to = to })) (record { kind = kind; from = from; to = to }) ≡ true
unfolding sign
ranks_tell (kinds.Sign signs.Plus) from to = refl
ranks_tell (kinds.Word words.If) from to = refl
ranks_tell _ from to = refl

expression_tells : (t : SToken) → tells sgrammar hints (form Expression) (follows Expression t) t ≡ true
unfolding expression
expression_tells t =
    and_both (tells sgrammar hints (binary 10) (led sgrammar choice (follows Expression t) t) t) (tells sgrammar hints choice (follows Expression t) t)
    (binary_tells 10 (led sgrammar choice (follows Expression t) t) t (ranks_tell t.kind t.from t.to)) (choice_tells t.kind t.from t.to)

pub form_tells : (n : Nested) (t : SToken) → tells sgrammar hints (form n) (follows n t) t ≡ true
form_tells Expression t = expression_tells t
form_tells Operand t = operand_tells t.kind t.from t.to
form_tells Statement t = statement_tells t.kind t.from t.to
form_tells Block t = block_tells t.kind t.from t.to

pub form_begins : (n : Nested) (t : SToken) → implies (first sgrammar (form n) t) (begins n t) ≡ true
form_begins Expression t = expression_begins t.kind t.from t.to
form_begins Operand t = operand_begins t.kind t.from t.to
form_begins Statement t = statement_begins t.kind t.from t.to
form_begins Block t = block_begins t.kind t.from t.to

pub unit_tells : (t : SToken) → tells sgrammar hints specification false t ≡ true
unit_tells t = unit_kinds t.kind t.from t.to

-- where forms end
closing : (P : SToken → Type 0)
    → ((from to : ℕ) → P (record { kind = kinds.Sign signs.RightParen; from = from; to = to }))
    → ((from to : ℕ) → P (record { kind = kinds.Sign signs.RightBracket; from = from; to = to }))
    → ((from to : ℕ) → P (record { kind = kinds.Sign signs.RightBrace; from = from; to = to }))
    → ((from to : ℕ) → P (record { kind = kinds.Sign signs.LeftBrace; from = from; to = to }))
    → ((from to : ℕ) → P (record { kind = kinds.Sign signs.Semicolon; from = from; to = to }))
    → ((from to : ℕ) → P (record { kind = kinds.Sign signs.Colon; from = from; to = to }))
    → ((from to : ℕ) → P (record { kind = kinds.Word words.As; from = from; to = to }))
    → (t : SToken) → closes t ≡ true → P t
closing P a b c d e f g t is = by t.kind t.from t.to is
  where
    by : (k : TokenKind) (from to : ℕ) → closes_kind k ≡ true → P (record { kind = k; from = from; to = to })
    by (kinds.Sign signs.RightParen) from to is = a from to
    by (kinds.Sign signs.RightBracket) from to is = b from to
    by (kinds.Sign signs.RightBrace) from to is = c from to
    by (kinds.Sign signs.LeftBrace) from to is = d from to
    by (kinds.Sign signs.Semicolon) from to is = e from to
    by (kinds.Sign signs.Colon) from to is = f from to
    by (kinds.Word words.As) from to is = g from to
    by _ from to is = absurd (cc)

unary_stops : (t : SToken) → closes t ≡ true → stops hints unary t ≡ true
unfolding unary primary parens has frame_primary cell_primary known named_primary framed frame_word number_alone behind_name arguments
    some_expressions next_expression sign word name number
unary_stops t is = closing (λ t. stops hints unary t ≡ true) (λ from to. refl) (λ from to. refl) (λ from to. refl) (λ from to. refl)
    (λ from to. refl) (λ from to. refl) (λ from to. refl) t is

choice_stops : (t : SToken) → closes t ≡ true → stops hints choice t ≡ true
unfolding sign
choice_stops t is = closing (λ t. stops hints choice t ≡ true) (λ from to. refl) (λ from to. refl) (λ from to. refl) (λ from to. refl)
    (λ from to. refl) (λ from to. refl) (λ from to. refl) t is

statement_stops : (t : SToken) → closes t ≡ true → stops hints statement t ≡ true
unfolding statement link_statement assigned otherwise let_statement alone send_statement if_statement frame_statement cell_statement
    expire_statement key keyed indexed lookup_statement framed frame_word number_alone some_expressions next_expression sign word name number
statement_stops t is = closing (λ t. stops hints statement t ≡ true) (λ from to. refl) (λ from to. refl) (λ from to. refl) (λ from to. refl)
    (λ from to. refl) (λ from to. refl) (λ from to. refl) t is

block_stops : (t : SToken) → closes t ≡ true → stops hints block t ≡ true
unfolding block statements sign
block_stops t is = closing (λ t. stops hints block t ≡ true) (λ from to. refl) (λ from to. refl) (λ from to. refl) (λ from to. refl)
    (λ from to. refl) (λ from to. refl) (λ from to. refl) t is

not_binary : (rank : ℕ) (t : SToken) → closes t ≡ true → not (is_binary rank t) ≡ true
not_binary rank t is = closing (λ t. not (is_binary rank t) ≡ true) (λ from to. refl) (λ from to. refl) (λ from to. refl) (λ from to. refl)
    (λ from to. refl) (λ from to. refl) (λ from to. refl) t is

binary_stops : (rank : ℕ) (t : SToken) → closes t ≡ true → stops hints (binary rank) t ≡ true
unfolding binary ranked operations operation operator
binary_stops zero t is = unary_stops t is
binary_stops (suc rank) t is = rw (binary_stops rank t is, binary_eats rank, not_binary (suc rank) t is) refl

expression_stops : (t : SToken) → closes t ≡ true → stops hints expression t ≡ true
unfolding expression sign
expression_stops t is = rw (choice_stops t is, binary_eats 10, binary_stops 10 t is) refl

pub form_stops : (n : Nested) (t : SToken) → closes t ≡ true → stops hints (form n) t ≡ true
form_stops Expression = expression_stops
form_stops Operand = unary_stops
form_stops Statement = statement_stops
form_stops Block = block_stops

-- shortest spellings
unary_fits : fits hints unary ≡ true
unfolding unary primary parens has frame_primary cell_primary known named_primary framed frame_word number_alone behind_name arguments
    some_expressions next_expression sign word name number
unary_fits = refl

binary_whole : (rank : ℕ) → whole hints (binary rank) ≡ token kinds.Name ∷ []
unfolding binary ranked operations operation operator unary primary parens has frame_primary cell_primary known named_primary framed
    frame_word number_alone behind_name arguments some_expressions next_expression sign word name number
binary_whole zero = refl
binary_whole (suc rank) = rw (binary_whole rank) refl

abbrev plain : {A : Type 0} → A → SForm A
plain a = Plain a

abbrev one : {A : Type 0} → (SToken → Option A) → SForm A
one test = One test

leads_any : {A : Type 0} (a : A) (p : SToken → Bool) (xs : List SToken) → leads p xs ≡ true → leads (stops hints (plain a)) xs ≡ true
leads_any a p [] is = absurd (cc)
leads_any a p (x ∷ xs) is = refl

pair_fits : {A B C : Type 0} (p : A → B → C) (test : SToken → Option A) (right : SForm B) → fits hints (one test) ≡ true
    → fits hints right ≡ true → eats right ≡ true → whole hints right ≡ token kinds.Name ∷ [] → fits hints (Plain p ⊛ One test ⊛ right) ≡ true
pair_fits p test right first two eat is = rw (leads_any p (λ t. is_some (test t)) (sample hints test) first, first, two, eat, is) refl

operation_fits : (rank : ℕ) → fits hints (operator (suc rank)) ≡ true → fits hints (binary rank) ≡ true
    → fits hints (operation (suc rank) (binary rank)) ≡ true
unfolding operation operator
operation_fits rank one is = pair_fits operation_of (binary_of (suc rank)) (binary rank) one is (binary_eats rank) (binary_whole rank)

leads_last : {A : Type 0} (a : A) (xs : List SToken) (t : SToken) → leads (stops hints (plain a)) (xs ++ t ∷ []) ≡ true
leads_last a [] t = refl
leads_last a (x ∷ xs) t = refl

operations_fit : (rank : ℕ) → fits hints (operation (suc rank) (binary rank)) ≡ true → fits hints (operations (suc rank) (binary rank)) ≡ true
unfolding operations operation operator
operations_fit rank is = rw (
  is,
  binary_whole rank,
  leads_last (one_more {G = Written} {A = Operation}) (sample hints (binary_of (suc rank)))
      (token kinds.Name),
) refl

operations_eat : (rank : ℕ) → eats (operations (suc rank) (binary rank)) ≡ false
unfolding operations
operations_eat rank = refl

operations_whole : (rank : ℕ) → whole hints (operations (suc rank) (binary rank)) ≡ []
unfolding operations
operations_whole rank = refl

rank_fits : (rank : ℕ) → fits hints (binary rank) ≡ true → fits hints (operator (suc rank)) ≡ true → fits hints (binary (suc rank)) ≡ true
unfolding binary ranked
rank_fits rank is one = rw (
  is,
  operations_fit rank (operation_fits rank one is),
  operations_eat rank,
  operations_whole rank,
  binary_eats rank,
  binary_whole rank,
) refl

binary_fits : fits hints (binary 10) ≡ true
unfolding operator binary ranked
binary_fits = rank_fits 9 (rank_fits 8 (rank_fits 7 (rank_fits 6 (rank_fits 5 (rank_fits 4 (rank_fits 3 (rank_fits 2 (rank_fits 1
    (rank_fits 0 unary_fits refl) refl) refl) refl) refl) refl) refl) refl) refl) refl

expression_fits : fits hints expression ≡ true
unfolding expression sign
expression_fits = rw (binary_fits, binary_eats 10, binary_whole 10) refl

pub form_fits : (n : Nested) → fits hints (form n) ≡ true
unfolding statement block statements link_statement assigned otherwise let_statement alone send_statement if_statement frame_statement
    cell_statement expire_statement key keyed indexed lookup_statement framed frame_word number_alone some_expressions next_expression sign
    word name number
form_fits Expression = expression_fits
form_fits Operand = unary_fits
form_fits Statement = refl
form_fits Block = refl

pub unit_fits : fits hints specification ≡ true
unfolding specification declarations declaration ended ports config width premise struct_declaration fields field field_type link size vector
    prefix rule define parameters some_names next_name assigned sign word name number
unit_fits = refl

pub form_whole : (n : Nested) → whole hints (form n) ≡ whole_inner n
unfolding expression unary primary statement block statements parens has frame_primary cell_primary known named_primary framed frame_word
    number_alone behind_name arguments some_expressions next_expression sign word name number link_statement assigned otherwise let_statement
    alone send_statement if_statement frame_statement cell_statement expire_statement key keyed indexed lookup_statement
form_whole Expression = rw (binary_whole 10) refl
form_whole Operand = refl
form_whole Statement = refl
form_whole Block = refl

binary_calls : (rank : ℕ) (ready : Nested → Bool) → calls ready (binary rank) ≡ true
unfolding binary ranked operations operation operator unary primary parens has frame_primary cell_primary known named_primary framed
    frame_word number_alone behind_name arguments some_expressions next_expression sign word name number
binary_calls zero ready = refl
binary_calls (suc rank) ready = rw (binary_calls rank ready) refl

pub all_calls : (n : Nested) (ready : Nested → Bool) → calls ready (form n) ≡ true
unfolding expression unary primary statement block statements parens has frame_primary cell_primary known named_primary framed frame_word
    number_alone behind_name arguments some_expressions next_expression sign word name number link_statement assigned otherwise let_statement
    alone send_statement if_statement frame_statement cell_statement expire_statement key keyed indexed lookup_statement
all_calls Expression ready = rw (binary_calls 10 ready) refl
all_calls Operand ready = refl
all_calls Statement ready = refl
all_calls Block ready = refl

pub begun : (n : Nested) → leads (begins n) (whole_inner n) ≡ true
begun Expression = refl
begun Operand = refl
begun Statement = refl
begun Block = refl

-- a whole text goes to the last token
no_token : (toks : List SToken) (i : ℕ) (o : Option SToken) → slice_get toks i ≡ o → passes any_token o ≡ false → i ≤ length toks → i ≡ length toks
no_token toks i None is unless within = elim (slice_get_cases toks i).1 [ inl found ↦ absurd (cc (found.2, is)) | inr past ↦ omega (arith, past.0, within) ]
no_token toks i (Some t) is unless within = absurd (cc unless)

pub unit_ends : (toks : List SToken) (room root : ℕ) (t : State Written) → guided sgrammar toks room specification (start sgrammar) root t
    → t.at ≤ length toks → t.at ≡ length toks
unfolding specification ended
unit_ends toks room root t (g, u, a, front, (unless, to), same) within =
    no_token toks t.at (slice_get toks t.at) refl (subst (λ (v : State Written). passes any_token (slice_get toks v.at) ≡ false) (sym to) unless) within

abbrev pub law : Law TokenKind Nested Written
law = record {
  grammar = sgrammar;
  hints = hints;
  form_eats = form_eats;
  form_tidy = form_tidy;
  unit_tidy = unit_tidy;
  unit_ends = unit_ends;
  form_tells = form_tells;
  form_begins = form_begins;
  unit_tells = unit_tells;
  form_stops = form_stops;
  form_fits = form_fits;
  unit_fits = unit_fits;
  form_whole = form_whole;
  flat_calls = λ n so. all_calls n (λ m. false);
  form_calls = λ n. all_calls n (λ m. true);
  begun = begun;
}
