-- The steps of the reader: constructs that are counted, ranks of operators, and loops over parts in lists, as chains.
use Rattle.std.proofs.Common.{◌≡◌, ◌<◌, ◌≤◌, ◌+◌, ◌-◌, ℕ, zero, suc, Bool, true, false, List, [], ◌∷◌, ◌++◌, length, slice_get}
use Rattle.std.proofs.Common.{Result, Ok, Err, refl, sym, subst, arith}
use Rattle.vg_forms.specs.Forms.{Plain, Chain, Inner, ◌⊛◌, listed, one_more}
use Rattle.vg_forms.specs.Places.{place_at, passes}
use Rattle.vg_forms.specs.Reading.{Refusal, Wrong, Deep, turn, read, read_inner, Gives}
use Rattle.vg_forms.specs.declared.stops.Stop.{Stop}
use Rattle.vg_forms.specs.declared.stops.Stop.TheVariants as stops
use Rattle.vg_forms.proofs.Checks.{eats}
use Rattle.vg_forms.proofs.Onward.{further, gains}
use Rattle.vg_forms.proofs.Chains.{Going, started, ended, failed, turned, some_next}
use Rattle.vg_forms.proofs.Rooms.{inner_gains}
use Rattle.vg_forms.proofs.Rooms as rooms
use Rattle.vg_stok.specs.declared.kinds.Sign.TheVariants as signs
use Rattle.vg_sgrammar.specs.Kinds.{SToken, is_sign, is_binary, is_name, begins_statement, begins_declaration}
use Rattle.vg_sgrammar.specs.Rules.{Nested, SForm, sgrammar, begins, form, unary, binary, ranked, sign, operator, operation, operations}
use Rattle.vg_sgrammar.specs.Rules.{Expression, Statement, some_expressions, next_expression, statements, name, field, fields, next_name}
use Rattle.vg_sgrammar.specs.Rules.{some_names, done, declaration, declarations, word, ports, config, premise, struct_declaration, link, vector}
use Rattle.vg_sgrammar.specs.Rules.{prefix, rule, define}
use Rattle.vg_sgrammar.specs.declared.tree.Name.{Name}
use Rattle.vg_sgrammar.specs.declared.tree.Field.{Field}
use Rattle.vg_sgrammar.specs.Reader.{SState, reads, reads_inner, next}
use Rattle.vg_sgrammar.specs.declared.reader.Source.{Source}
use Rattle.vg_sgrammar.proofs.Laws.{law}

-- constructs that are counted
pub inner_wrong : (toks : List SToken) (room : ℕ) (n : Nested) (s : SState) → passes (begins n) (slice_get toks s.at) ≡ false
    → read_inner sgrammar toks room n s ≡ Err (Wrong s.at)
inner_wrong toks room n s unless = rooms.inner_wrong law toks room n s unless

pub inner_deep : (toks : List SToken) (room : ℕ) (n : Nested) (s : SState) → passes (begins n) (slice_get toks s.at) ≡ true → room ≡ 0
    → read_inner sgrammar toks room n s ≡ Err (Deep s.at)
inner_deep toks room n s so none = rooms.inner_deep law toks room n s so none

pub inner_read : (toks : List SToken) (room left : ℕ) (n : Nested) (s : SState) → passes (begins n) (slice_get toks s.at) ≡ true → left + 1 ≡ room
    → read_inner sgrammar toks room n s ≡ read sgrammar toks left (form n) s
inner_read toks room left n s so one = rooms.inner_read law toks room left n s so one

-- ranks of operators
pub rank_none : (src : Source) (rank : ℕ) (s : SState) → rank ≡ 0 → reads src unary s ≡ reads src (binary rank) s
unfolding binary
rank_none src rank s none = rw none refl

pub rank_some : (src : Source) (rank : ℕ) (s : SState) → 0 < rank → reads src (ranked rank (binary (rank - 1))) s ≡ reads src (binary rank) s
unfolding binary
rank_some src zero s some = absurd (omega (arith, some))
rank_some src (suc rank) s some = let less : suc rank - 1 ≡ rank = omega arith in rw less refl

-- what a call gives where it stops
pub refused_by : {A B : Type 0} (e : Stop) (t : SState) (one : Result (A × SState) Refusal) (two : Result (B × SState) Refusal)
    → ((f : Refusal) → one ≡ Err f → two ≡ Err f) → Gives (Err e) t one → Gives (Err e) t two
refused_by stops.Wrong t one two h given = h (Wrong t.at) given
refused_by stops.Deep t one two h given = h (Deep t.at) given
refused_by stops.Memory t one two h given = tt

-- a form that eats goes forward
pub goes_on : {A : Type 0} (src : Source) (f : SForm A) (s : SState) (a : A) (t : SState) → eats f ≡ true → reads src f s ≡ Ok (a, t) → s.at < t.at
goes_on src f s a t eats_it e =
    let on : s.at + 1 ≤ t.at = subst (λ b. further b s.at ≤ t.at) eats_it (gains law src.toks.now (read_inner sgrammar src.toks.now src.room)
    (inner_gains law src.toks.now src.room) f s a t e) in
    omega (arith, on)

less_left : (src : Source) (test : SToken → Bool) (s t : SState) → passes test (next src s) ≡ true → s.at < t.at
    → length src.toks.now - t.at < length src.toks.now - s.at
less_left src test s t so on = omega (arith, on, some_next law src.toks.now test s.at so)

-- loops over parts in lists
module _ {A : Type 0} (src : Source) (test : SToken → Bool) (part : SForm A) where
  -- what a list of parts that is read so far comes to
  abbrev pub Listing : List A → SState → Result (List A × SState) Refusal → Type 0
  Listing parts s whole = (at : ℕ) × Going law src.toks.now test (reads src (Plain one_more ⊛ part)) at parts s whole

  list_turn : (at : ℕ) (parts : List A) (s : SState) (n : A) (t : SState) → reads src part s ≡ Ok (n, t)
      → turn (reads src (Plain one_more ⊛ part)) at parts s ≡ Ok (parts ++ n ∷ [], t)
  list_turn at parts s n t e = rw e refl

  list_fails : (at : ℕ) (parts : List A) (s : SState) (f : Refusal) → reads src part s ≡ Err f
      → turn (reads src (Plain one_more ⊛ part)) at parts s ≡ Err f
  list_fails at parts s f e = rw e refl

  pub listing_none : (s : SState) → Listing [] s (reads src (listed test part) s)
  listing_none s = (
    place_at src.toks.now s.at,
    started law src.toks.now (read_inner sgrammar src.toks.now src.room) test (Plain []) (Plain one_more ⊛ part) s [] s refl,
  )

  pub listing_one : (one : SForm A) (s : SState) (n : A) (t : SState) → reads src one s ≡ Ok (n, t)
      → Listing (n ∷ []) t (reads src (Chain test (Plain (λ n. n ∷ []) ⊛ one) (Plain one_more ⊛ part)) s)
  listing_one one s n t e =
      let made : reads src (Plain (λ n. n ∷ []) ⊛ one) s ≡ Ok (n ∷ [], t) = rw e refl in (
        place_at src.toks.now s.at,
        started law src.toks.now (read_inner sgrammar src.toks.now src.room) test (Plain (λ n. n ∷ []) ⊛ one) (Plain one_more ⊛ part) s (n ∷ []) t made,
      )

  pub listing_first : (one : SForm A) (s : SState) (f : Refusal) → reads src one s ≡ Err f
      → reads src (Chain test (Plain (λ n. n ∷ []) ⊛ one) (Plain one_more ⊛ part)) s ≡ Err f
  listing_first one s f e = rw e refl

  pub listing_smaller : (s : SState) (n : A) (t : SState) → eats part ≡ true → passes test (next src s) ≡ true → reads src part s ≡ Ok (n, t)
      → length src.toks.now - t.at < length src.toks.now - s.at
  listing_smaller s n t eats_it so e = less_left src test s t so (goes_on src part s n t eats_it e)

  pub listing_turned : (parts longer : List A) (s : SState) (whole : Result (List A × SState) Refusal) (n : A) (t : SState) → Listing parts s whole
      → eats part ≡ true → passes test (next src s) ≡ true → reads src part s ≡ Ok (n, t) → longer ≡ parts ++ n ∷ [] → Listing longer t whole
  listing_turned parts longer s whole n t going eats_it so e is =
      let on = turned law src.toks.now test (reads src (Plain one_more ⊛ part)) going.0 parts s whole going.1 (parts ++ n ∷ []) t so
      (list_turn going.0 parts s n t e) (goes_on src part s n t eats_it e) in
      (going.0, subst (λ (l : List A). Going law src.toks.now test (reads src (Plain one_more ⊛ part)) going.0 l t whole) (sym is) on)

  pub listing_failed : (parts : List A) (s : SState) (whole : Result (List A × SState) Refusal) (f : Refusal) → Listing parts s whole
      → passes test (next src s) ≡ true → reads src part s ≡ Err f → whole ≡ Err f
  listing_failed parts s whole f going so e =
      failed law src.toks.now test (reads src (Plain one_more ⊛ part)) going.0 parts s whole going.1 f so (list_fails going.0 parts s f e)

  pub listing_ended : (parts : List A) (s : SState) (whole : Result (List A × SState) Refusal) → Listing parts s whole
      → passes test (next src s) ≡ false → whole ≡ Ok (parts, s)
  listing_ended parts s whole going unless = ended law src.toks.now test (reads src (Plain one_more ⊛ part)) going.0 parts s whole going.1 unless

  pub listing_same : (parts now : List A) (s : SState) (whole : Result (List A × SState) Refusal) → now ≡ parts → Listing parts s whole → Listing now s whole
  listing_same parts now s whole is going =
      (going.0, subst (λ (l : List A). Going law src.toks.now test (reads src (Plain one_more ⊛ part)) going.0 l s whole) (sym is) going.1)

-- the operations of a rank
pub operation_eats : (rank : ℕ) (right : SForm ℕ) → eats (operation rank right) ≡ true
unfolding operation operator
operation_eats rank right = refl

pub operations_init : (src : Source) (rank : ℕ) (s : SState)
    → Listing src (is_binary rank) (operation rank (binary (rank - 1))) [] s (reads src (operations rank (binary (rank - 1))) s)
unfolding operations
operations_init src rank s = listing_none src (is_binary rank) (operation rank (binary (rank - 1))) s

-- expressions with commas between them
pub expression_eats : eats next_expression ≡ true
unfolding next_expression sign
expression_eats = refl

pub expressions_init : (src : Source) (s : SState) (n : ℕ) (t : SState) → reads_inner src Expression s ≡ Ok (n, t)
    → Listing src (is_sign signs.Comma) next_expression (n ∷ []) t (reads src some_expressions s)
unfolding some_expressions
expressions_init src s n t e = listing_one src (is_sign signs.Comma) next_expression (Inner Expression) s n t e

-- the statements of a block
pub statements_init : (src : Source) (s : SState) → Listing src begins_statement (Inner Statement) [] s (reads src statements s)
unfolding statements
statements_init src s = listing_none src begins_statement (Inner Statement) s

-- the fields of a struct
pub field_eats : eats field ≡ true
unfolding field name
field_eats = refl

pub fields_init : (src : Source) (s : SState) (f : Field) (t : SState) → reads src field s ≡ Ok (f, t)
    → Listing src is_name field (f ∷ []) t (reads src fields s)
unfolding fields
fields_init src s f t e = listing_one src is_name field field s f t e

-- names with commas between them
pub name_eats : eats next_name ≡ true
unfolding next_name sign
name_eats = refl

pub names_init : (src : Source) (s : SState) (n : Name) (t : SState) → reads src name s ≡ Ok (n, t)
    → Listing src (is_sign signs.Comma) next_name (n ∷ []) t (reads src some_names s)
unfolding some_names
names_init src s n t e = listing_one src (is_sign signs.Comma) next_name name s n t e

-- declarations
abbrev pub Declaring : Source → SState → SState → Type 0
Declaring src s start = (at : ℕ) × Going law src.toks.now begins_declaration (reads src (Plain done ⊛ declaration)) at tt s (reads src declarations start)

declaration_eats : eats declaration ≡ true
unfolding declaration ports config premise struct_declaration link vector prefix rule define word
declaration_eats = refl

done_turn : (src : Source) (at : ℕ) (s : SState) (n : ℕ) (t : SState) → reads src declaration s ≡ Ok (n, t)
    → turn (reads src (Plain done ⊛ declaration)) at tt s ≡ Ok (tt, t)
done_turn src at s n t e = rw e refl

done_fails : (src : Source) (at : ℕ) (s : SState) (f : Refusal) → reads src declaration s ≡ Err f
    → turn (reads src (Plain done ⊛ declaration)) at tt s ≡ Err f
done_fails src at s f e = rw e refl

pub declaring_init : (src : Source) (s : SState) → Declaring src s s
unfolding declarations
declaring_init src s = (
  place_at src.toks.now s.at,
  started law src.toks.now (read_inner sgrammar src.toks.now src.room) begins_declaration (Plain tt) (Plain done ⊛ declaration) s tt s refl,
)

pub declaring_smaller : (src : Source) (s : SState) (n : ℕ) (t : SState) → passes begins_declaration (next src s) ≡ true
    → reads src declaration s ≡ Ok (n, t) → length src.toks.now - t.at < length src.toks.now - s.at
declaring_smaller src s n t so e = less_left src begins_declaration s t so (goes_on src declaration s n t declaration_eats e)

pub declaring_turned : (src : Source) (s start : SState) (n : ℕ) (t : SState) → Declaring src s start → passes begins_declaration (next src s) ≡ true
    → reads src declaration s ≡ Ok (n, t) → Declaring src t start
declaring_turned src s start n t going so e = (
  going.0,
  turned law src.toks.now begins_declaration (reads src (Plain done ⊛ declaration)) going.0 tt s (reads src declarations start) going.1 tt t so
      (done_turn src going.0 s n t e) (goes_on src declaration s n t declaration_eats e),
)

pub declaring_failed : (src : Source) (s start : SState) (f : Refusal) → Declaring src s start → passes begins_declaration (next src s) ≡ true
    → reads src declaration s ≡ Err f → reads src declarations start ≡ Err f
declaring_failed src s start f going so e =
    failed law src.toks.now begins_declaration (reads src (Plain done ⊛ declaration)) going.0 tt s (reads src declarations start) going.1 f so
    (done_fails src going.0 s f e)

pub declaring_ended : (src : Source) (s start : SState) → Declaring src s start → passes begins_declaration (next src s) ≡ false
    → reads src declarations start ≡ Ok (tt, s)
declaring_ended src s start going unless =
    ended law src.toks.now begins_declaration (reads src (Plain done ⊛ declaration)) going.0 tt s (reads src declarations start) going.1 unless
