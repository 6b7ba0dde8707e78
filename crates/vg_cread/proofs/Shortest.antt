-- The shortest spelling of a form, and the tokens that may stand behind a form and end it.
use Rattle.std.proofs.Common.{◌≡◌, ℕ, zero, suc, Bool, true, false, cond, List, [], ◌∷◌, ◌++◌, Option, refl}
use Rattle.std.specs.Prelude.{◌&&◌, ◌||◌, not, is_some}
use Rattle.vg_core.specs.declared.tree.BinaryOp.{BinaryOp}
use Rattle.vg_core.specs.declared.tree.Kind.TheVariants as nodes
use Rattle.vg_ctok.specs.declared.kinds.Token.{Token}
use Rattle.vg_ctok.specs.declared.kinds.TokenKind.{TokenKind}
use Rattle.vg_ctok.specs.declared.kinds.TokenKind.TheVariants as kinds
use Rattle.vg_ctok.specs.declared.kinds.Keyword.TheVariants as words
use Rattle.vg_ctok.specs.declared.kinds.Sign.TheVariants as signs
use Rattle.vg_ctok.specs.declared.kinds.NumberType.TheVariants as numbers
use Rattle.vg_cread.specs.Forms.{Form, Plain, Place, One, Unless, Both, Either, Chain, Inner, Made, Nested, Expression, Operand, Statement, Body}
use Rattle.vg_cread.specs.Forms.{Growth, node, ◌⊛◌, ◌⊳◌, optional}
use Rattle.vg_cread.specs.Grammar.{begins, form, sign, word, name, flagged, base, int_type, star, handle, array_length, initial, expression, operator}
use Rattle.vg_cread.specs.Grammar.{binary, link, unary, postfix, suffix, primary, arguments, opened, no_postfix, statement, block, pieces, piece}
use Rattle.vg_cread.specs.Grammar.{declaration, if_statement, otherwise, for_statement, step, return_statement, simple_statement, assignment, action}
use Rattle.vg_cread.specs.Grammar.{field, fields, attribute, packing, struct_item, extern_item, param, params, answer, function, item, items, unit}
use Rattle.vg_cread.specs.Kinds.{is_sign, is_binary, binary_of}
use Rattle.vg_cread.proofs.Onward.{eats}
use Rattle.vg_cread.proofs.Rooms.{binary_eats}

abbrev token : TokenKind → Token
token kind = record { kind = kind; from = 0; to = 0 }

-- a token of each kind that the grammar needs somewhere
abbrev pub samples : List Token
samples =
    token kinds.Name ∷ token (kinds.Number (record { value = 0; of = numbers.Int })) ∷ token (kinds.Keyword words.Int)
    ∷ token (kinds.Keyword words.Unsigned) ∷ token (kinds.Keyword words.Struct)
    ∷ token (kinds.Keyword words.Sizeof) ∷ token (kinds.Keyword words.If) ∷ token (kinds.Keyword words.Else) ∷ token (kinds.Keyword words.For)
    ∷ token (kinds.Keyword words.Return)
    ∷ token (kinds.Keyword words.Attribute) ∷ token (kinds.Keyword words.Extern) ∷ token (kinds.Keyword words.Const)
    ∷ token (kinds.Keyword words.Void) ∷ token (kinds.Keyword words.Static)
    ∷ token (kinds.Keyword words.Inline) ∷ token (kinds.Keyword words.Map)
    ∷ token (kinds.Sign signs.RightParen) ∷ token (kinds.Sign signs.RightBracket) ∷ token (kinds.Sign signs.RightBrace)
    ∷ token (kinds.Sign signs.Semicolon) ∷ token (kinds.Sign signs.Colon)
    ∷ token (kinds.Sign signs.LeftParen) ∷ token (kinds.Sign signs.LeftBracket) ∷ token (kinds.Sign signs.LeftBrace) ∷ token (kinds.Sign signs.Comma)
    ∷ token (kinds.Sign signs.Dot)
    ∷ token (kinds.Sign signs.Arrow) ∷ token (kinds.Sign signs.Question) ∷ token (kinds.Sign signs.Assign) ∷ token (kinds.Sign signs.PlusAssign)
    ∷ token (kinds.Sign signs.PlusPlus)
    ∷ token (kinds.Sign signs.MinusMinus) ∷ token (kinds.Sign signs.Star) ∷ token (kinds.Sign signs.Plus) ∷ token (kinds.Sign signs.ShiftLeft)
    ∷ token (kinds.Sign signs.Less)
    ∷ token (kinds.Sign signs.EqualEqual) ∷ token (kinds.Sign signs.And) ∷ token (kinds.Sign signs.Xor) ∷ token (kinds.Sign signs.Or)
    ∷ token (kinds.Sign signs.AndAnd) ∷ token (kinds.Sign signs.OrOr) ∷ []

abbrev pub first_passing : (Token → Bool) → List Token → List Token
first_passing test [] = []
first_passing test (t ∷ ts) = cond (test t) (t ∷ []) (first_passing test ts)

abbrev pub whole_inner : Nested → List Token
whole_inner Expression = token kinds.Name ∷ []
whole_inner Operand = token kinds.Name ∷ []
whole_inner Statement = token kinds.Name ∷ token (kinds.Sign signs.Semicolon) ∷ []
whole_inner Body = token (kinds.Sign signs.LeftBrace) ∷ token (kinds.Sign signs.RightBrace) ∷ []

abbrev pub sample : {A : Type 0} → (Token → Option A) → List Token
sample test = first_passing (λ t. is_some (test t)) samples

-- the shortest spelling of a form: no chain turns, and of two forms the second stands there
abbrev pub whole : {A : Type 0} → Form A → List Token
whole (Plain a) = []
whole Place = []
whole (One test) = sample test
whole (Unless test) = []
whole (Both f x) = whole f ++ whole x
whole (Either test x y) = whole y
whole (Chain test x more) = whole x
whole (Inner n) = whole_inner n
whole (Made f) = whole f

-- the signs that end each construct that is counted
abbrev closes_kind : TokenKind → Bool
closes_kind (kinds.Sign signs.RightParen) = true
closes_kind (kinds.Sign signs.RightBracket) = true
closes_kind (kinds.Sign signs.RightBrace) = true
closes_kind (kinds.Sign signs.Semicolon) = true
closes_kind (kinds.Sign signs.Colon) = true
closes_kind _ = false

abbrev pub closes : Token → Bool
closes t = closes_kind t.kind

-- whether a form ends before a token, wherever the form may end
abbrev pub stops : {A : Type 0} → Form A → Token → Bool
stops (Plain a) t = true
stops Place t = true
stops (One test) t = true
stops (Unless test) t = not (test t)
stops (Both f x) t = stops x t && (eats x || stops f t)
stops (Either test x y) t = stops x t && stops y t && (eats y || not (test t))
stops (Chain test x more) t = stops x t && stops more t && not (test t)
stops (Inner n) t = closes t
stops (Made f) t = stops f t

abbrev pub leads : (Token → Bool) → List Token → Bool
leads p [] = false
leads p (t ∷ ts) = p t

abbrev pub is_empty : List Token → Bool
is_empty [] = true
is_empty (t ∷ ts) = false

-- whether shortest spellings fit together in a form: each ends before the next one's first token
abbrev pub fits : {A : Type 0} → Form A → Bool
fits (Plain a) = true
fits Place = true
fits (One test) = leads (λ t. is_some (test t)) (sample test)
fits (Unless test) = true
fits (Both f x) = fits f && fits x && cond (eats x) (leads (stops f) (whole x)) (is_empty (whole x))
fits (Either test x y) = fits x && fits y && eats x && cond (eats y) (leads (λ t. not (test t)) (whole y)) (is_empty (whole y))
fits (Chain test x more) = fits x && fits more && eats more
fits (Inner n) = true
fits (Made f) = fits f

-- whether the shortest spelling of a form has only such constructs that are counted
abbrev pub calls : {A : Type 0} → (Nested → Bool) → Form A → Bool
calls ready (Plain a) = true
calls ready Place = true
calls ready (One test) = true
calls ready (Unless test) = true
calls ready (Both f x) = calls ready f && calls ready x
calls ready (Either test x y) = calls ready y
calls ready (Chain test x more) = calls ready x
calls ready (Inner n) = ready n
calls ready (Made f) = calls ready f

-- the grammar's forms
pub closing : (P : Token → Type 0) → ((from to : ℕ) → P (record { kind = kinds.Sign signs.RightParen; from = from; to = to }))
    → ((from to : ℕ) → P (record { kind = kinds.Sign signs.RightBracket; from = from; to = to }))
    → ((from to : ℕ) → P (record { kind = kinds.Sign signs.RightBrace; from = from; to = to }))
    → ((from to : ℕ) → P (record { kind = kinds.Sign signs.Semicolon; from = from; to = to }))
    → ((from to : ℕ) → P (record { kind = kinds.Sign signs.Colon; from = from; to = to })) → (t : Token) → closes t ≡ true → P t
closing P a b c d e t is = by t.kind t.from t.to is
  where
    by : (k : TokenKind) (from to : ℕ) → closes_kind k ≡ true → P (record { kind = k; from = from; to = to })
    by (kinds.Sign signs.RightParen) from to is = a from to
    by (kinds.Sign signs.RightBracket) from to is = b from to
    by (kinds.Sign signs.RightBrace) from to is = c from to
    by (kinds.Sign signs.Semicolon) from to is = d from to
    by (kinds.Sign signs.Colon) from to is = e from to
    by _ from to is = absurd (cc)

unary_stops : (t : Token) → closes t ≡ true → stops unary t ≡ true
unfolding unary postfix suffix primary opened no_postfix arguments sign word name base int_type star
unary_stops t is = closing (λ t. stops unary t ≡ true) (λ from to. refl) (λ from to. refl) (λ from to. refl) (λ from to. refl) (λ from to. refl) t is

link_stops : (rank : ℕ) (t : Token) → stops (binary rank) t ≡ true → stops (link (suc rank) (binary rank)) t ≡ true
unfolding link operator
link_stops rank t is = rw (is, binary_eats rank) refl

not_binary : (rank : ℕ) (t : Token) → closes t ≡ true → not (is_binary rank t) ≡ true
not_binary rank t is = closing (λ t. not (is_binary rank t) ≡ true) (λ from to. refl) (λ from to. refl) (λ from to. refl) (λ from to. refl)
    (λ from to. refl) t is

binary_stops : (rank : ℕ) (t : Token) → closes t ≡ true → stops (binary rank) t ≡ true
unfolding binary
binary_stops zero t is = unary_stops t is
binary_stops (suc rank) t is = rw (binary_stops rank t is, link_stops rank t (binary_stops rank t is)) (not_binary (suc rank) t is)

abbrev pair : ℕ → ℕ → ℕ × ℕ
pair a b = (a, b)

choice_stops : (t : Token) → closes t ≡ true
    → stops (optional (is_sign signs.Question) (Plain pair ⊛ (sign signs.Question ⊳ Inner Expression) ⊛ (sign signs.Colon ⊳ Inner Expression))) t ≡
    true
unfolding sign
choice_stops t is =
    closing (λ t. stops (optional (is_sign signs.Question) (Plain pair ⊛ (sign signs.Question ⊳ Inner Expression) ⊛
    (sign signs.Colon ⊳ Inner Expression))) t ≡ true) (λ from to. refl) (λ from to. refl)
    (λ from to. refl) (λ from to. refl) (λ from to. refl) t is

expression_stops : (t : Token) → closes t ≡ true → stops expression t ≡ true
unfolding expression sign
expression_stops t is = rw (choice_stops t is, binary_eats 10, binary_stops 10 t is) refl

statement_stops : (t : Token) → closes t ≡ true → stops statement t ≡ true
unfolding statement block pieces piece declaration if_statement otherwise for_statement step return_statement simple_statement assignment action
    array_length initial sign word name base int_type star
statement_stops t is = closing (λ t. stops statement t ≡ true) (λ from to. refl) (λ from to. refl) (λ from to. refl) (λ from to. refl) (λ from to. refl) t is

block_stops : (t : Token) → closes t ≡ true → stops block t ≡ true
unfolding block pieces piece declaration array_length initial sign word name base int_type star
block_stops t is = closing (λ t. stops block t ≡ true) (λ from to. refl) (λ from to. refl) (λ from to. refl) (λ from to. refl) (λ from to. refl) t is

pub form_stops : (n : Nested) (t : Token) → closes t ≡ true → stops (form n) t ≡ true
form_stops Expression = expression_stops
form_stops Operand = unary_stops
form_stops Statement = statement_stops
form_stops Body = block_stops

unary_fits : fits unary ≡ true
unfolding unary postfix suffix primary opened no_postfix arguments sign word name base int_type star
unary_fits = refl

unary_whole : whole unary ≡ token kinds.Name ∷ []
unfolding unary postfix primary name
unary_whole = refl

binary_whole : (rank : ℕ) → whole (binary rank) ≡ token kinds.Name ∷ []
unfolding binary
binary_whole zero = unary_whole
binary_whole (suc rank) = binary_whole rank

leads_any : {A : Type 0} (a : A) (p : Token → Bool) (xs : List Token) → leads p xs ≡ true → leads (stops (Plain a)) xs ≡ true
leads_any a p [] is = absurd (cc)
leads_any a p (x ∷ xs) is = refl

pair_fits : {A B C : Type 0} (p : A → B → C) (test : Token → Option A) (right : Form B) → fits (One test) ≡ true → fits right ≡ true
    → eats right ≡ true → whole right ≡ token kinds.Name ∷ [] → fits (Plain p ⊛ One test ⊛ right) ≡ true
pair_fits p test right one two eat is = rw (leads_any p (λ t. is_some (test t)) (sample test) one, one, two, eat, is) refl

abbrev joined : BinaryOp → ℕ → ℕ → ℕ → Growth ℕ
joined op right at left = node at (nodes.Binary op left right)

-- one rank more
link_fits : (rank : ℕ) → fits (operator (suc rank)) ≡ true → fits (binary rank) ≡ true → fits (link (suc rank) (binary rank)) ≡ true
unfolding link operator
link_fits rank one is = pair_fits joined (binary_of (suc rank)) (binary rank) one is (binary_eats rank) (binary_whole rank)

link_eats : (rank : ℕ) → eats (link (suc rank) (binary rank)) ≡ true
unfolding link operator
link_eats rank = refl

rank_fits : (rank : ℕ) → fits (operator (suc rank)) ≡ true → fits (binary rank) ≡ true → fits (binary (suc rank)) ≡ true
unfolding binary
rank_fits rank one is = rw (is, link_fits rank one is, link_eats rank) refl

ranks_fit : (rank : ℕ) → fits (binary rank) ≡ true → fits (operator (suc rank)) ≡ true → fits (binary (suc rank)) ≡ true
ranks_fit rank is one = rank_fits rank one is

binary_fits : fits (binary 10) ≡ true
unfolding operator binary
binary_fits = ranks_fit 9 (ranks_fit 8
    (ranks_fit 7 (ranks_fit 6 (ranks_fit 5 (ranks_fit 4 (ranks_fit 3 (ranks_fit 2 (ranks_fit 1 (ranks_fit 0 unary_fits refl) refl) refl) refl) refl)
    refl) refl) refl) refl) refl

expression_fits : fits expression ≡ true
unfolding expression sign
expression_fits = rw (binary_fits, binary_eats 10, binary_whole 10) refl

statement_fits : fits statement ≡ true
unfolding statement block pieces piece declaration if_statement otherwise for_statement step return_statement simple_statement assignment action
    array_length initial sign word name base int_type star
statement_fits = refl

block_fits : fits block ≡ true
unfolding block pieces piece declaration array_length initial sign word name base int_type star
block_fits = refl

pub form_fits : (n : Nested) → fits (form n) ≡ true
form_fits Expression = expression_fits
form_fits Operand = unary_fits
form_fits Statement = statement_fits
form_fits Body = block_fits

pub unit_fits : fits unit ≡ true
unfolding unit items item struct_item extern_item function fields field attribute packing param params answer flagged handle array_length sign word
    name base int_type star
unit_fits = refl

pub unit_whole : whole unit ≡ []
unfolding unit items
unit_whole = refl

pub form_whole : (n : Nested) → whole (form n) ≡ whole_inner n
unfolding expression unary postfix primary name statement block pieces simple_statement action sign
form_whole Expression = rw (binary_whole 10) refl
form_whole Operand = refl
form_whole Statement = refl
form_whole Body = refl

-- those of which the shortest spelling has no other
abbrev pub flat : Nested → Bool
flat Expression = true
flat Operand = true
flat Statement = false
flat Body = true

binary_calls : (rank : ℕ) → calls (λ n. false) (binary rank) ≡ true
unfolding binary unary postfix primary name
binary_calls zero = refl
binary_calls (suc rank) = binary_calls rank

pub flat_calls : (n : Nested) → flat n ≡ true → calls (λ n. false) (form n) ≡ true
unfolding expression unary postfix primary name block pieces sign
flat_calls Expression is = rw (binary_calls 10) refl
flat_calls Operand is = refl
flat_calls Statement is = absurd (cc)
flat_calls Body is = refl

wider_calls : (rank : ℕ) → calls flat (binary rank) ≡ true
unfolding binary unary postfix primary name
wider_calls zero = refl
wider_calls (suc rank) = wider_calls rank

pub form_calls : (n : Nested) → calls flat (form n) ≡ true
unfolding expression unary postfix primary name statement block pieces simple_statement action sign
form_calls Expression = rw (wider_calls 10) refl
form_calls Operand = refl
form_calls Statement = refl
form_calls Body = refl

-- the first token of a shortest spelling
pub begun : (n : Nested) → leads (begins n) (whole_inner n) ≡ true
begun Expression = refl
begun Operand = refl
begun Statement = refl
begun Body = refl
