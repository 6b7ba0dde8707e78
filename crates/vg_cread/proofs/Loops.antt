-- The loops of the reader, as chains.
use Rattle.std.proofs.Common.{◌≡◌, ◌∙◌, ◌<◌, ◌≤◌, ◌+◌, ◌-◌, ℕ, zero, suc, Bool, true, false, List, [], ◌∷◌, ◌++◌, length, Option, Some, None, is_some}
use Rattle.std.proofs.Common.{Result, Ok, Err, refl, sym, ap, subst, arith}
use Rattle.vg_ctok.specs.declared.kinds.Sign.{Sign}
use Rattle.vg_ctok.specs.declared.kinds.Sign.TheVariants as signs
use Rattle.vg_ctok.specs.declared.kinds.Keyword.TheVariants as words
use Rattle.vg_ctok.specs.declared.kinds.Token.{Token}
use Rattle.vg_cread.specs.Forms.{Form, Plain, Chain, Inner, Expression, Growth, ◌⊛◌, ◌⊳◌, listed, one_more}
use Rattle.vg_cread.specs.Kinds.{is_sign, is_word, is_binary, begins_base, begins_expression, begins_piece, begins_suffix, any_token}
use Rattle.vg_cread.specs.Grammar.{sign, word, name, base, int_type, unary, operator, binary, link, postfix, primary, suffix, arguments, declaration}
use Rattle.vg_cread.specs.Grammar.{piece, pieces, field, fields, param, params, answer, flagged, struct_item, extern_item, function, item, items}
use Rattle.vg_cread.specs.Places.{State, place_at, passes}
use Rattle.vg_cread.specs.Reading.{Refusal, Wrong, Deep, ◌>>=◌, turn, turns, read_inner, reads, reads_inner, next, Gives}
use Rattle.vg_cread.specs.declared.reader.Source.{Source}
use Rattle.vg_cread.specs.declared.reader.Stop.{Stop}
use Rattle.vg_cread.specs.declared.reader.Stop.TheVariants as stops
use Rattle.vg_cread.proofs.Onward.{eats, further, gains, turn-onward}
use Rattle.vg_cread.proofs.Chains.{Going, started, ended, failed, turned, some_next}
use Rattle.vg_cread.proofs.Rooms.{inner_gains}

-- a loop over operators of a rank
abbrev pub Linking : Source → ℕ → ℕ → ℕ → State → State → Type 0
Linking src rank at left s start = Going src.toks.now (is_binary rank) (reads src (link rank (binary (rank - 1)))) at left s (reads src (binary rank) start)

-- a loop over suffixes
abbrev pub Following : Source → ℕ → ℕ → State → State → Type 0
Following src at whole s start = Going src.toks.now begins_suffix (reads src suffix) at whole s (reads src postfix start)

-- loops over parts in lists
abbrev pub Listing : Source → (Token → Bool) → Form ℕ → List ℕ → State → Result (List ℕ × State) Refusal → Type 0
Listing src test part parts s whole = (at : ℕ) × Going src.toks.now test (reads src (Plain one_more ⊛ part)) at parts s whole

-- what a call gives where it stops
pub refused_by : {A B : Type 0} (e : Stop) (t : State) (one : Result (A × State) Refusal) (two : Result (B × State) Refusal)
    → ((f : Refusal) → one ≡ Err f → two ≡ Err f) → Gives (Err e) t one → Gives (Err e) t two
refused_by stops.Wrong t one two h given = h (Wrong t.at) given
refused_by stops.Deep t one two h given = h (Deep t.at) given
refused_by stops.Memory t one two h given = tt

-- a form that eats goes forward
pub goes_on : {A : Type 0} (src : Source) (f : Form A) (s : State) (a : A) (t : State) → eats f ≡ true → reads src f s ≡ Ok (a, t) → s.at < t.at
goes_on src f s a t eats_it e =
    let on : s.at + 1 ≤ t.at = subst (λ b. further b s.at ≤ t.at) eats_it (gains src.toks.now (read_inner src.toks.now src.room)
    (inner_gains src.toks.now src.room) f s a t e) in
    omega (arith, on)

pub turn_on : {A : Type 0} (src : Source) (more : Form (ℕ → A → Growth A)) (at : ℕ) (a : A) (s : State) (b : A) (t : State) → eats more ≡ true
    → turn (reads src more) at a s ≡ Ok (b, t) → s.at < t.at
turn_on src more at a s b t eats_it e =
    let on : s.at + 1 ≤ t.at = subst (λ (c : Bool). further c s.at ≤ t.at) eats_it
    (turn-onward src.toks.now (reads src more) (eats more) (λ u g v is. gains src.toks.now (read_inner src.toks.now src.room)
    (inner_gains src.toks.now src.room) more u g v is) at a s b t e) in
    omega (arith, on)

less_left : (src : Source) (test : Token → Bool) (s t : State) → passes test (next src s) ≡ true → s.at < t.at
    → length src.toks.now - t.at < length src.toks.now - s.at
less_left src test s t so on = omega (arith, on, some_next src.toks.now test s.at so)

-- operators of a rank
binary_chain : (src : Source) (rank : ℕ) (s : State) → 0 < rank
    → reads src (Chain (is_binary rank) (binary (rank - 1)) (link rank (binary (rank - 1)))) s ≡ reads src (binary rank) s
unfolding binary
binary_chain src zero s some = absurd (omega (arith, some))
binary_chain src (suc rank) s some = let less : suc rank - 1 ≡ rank = omega arith in rw less refl

pub linking_zero : (src : Source) (rank : ℕ) (s : State) → rank ≡ 0 → reads src unary s ≡ reads src (binary rank) s
unfolding binary
linking_zero src rank s none = rw none refl

pub linking_first : (src : Source) (rank : ℕ) (s : State) (f : Refusal) → 0 < rank → reads src (binary (rank - 1)) s ≡ Err f → reads src (binary rank) s ≡ Err f
linking_first src rank s f some e =
    sym (binary_chain src rank s some)
    ∙ ap (λ r. r >>= λ p. turns src.toks.now (length src.toks.now - p.1.at) (is_binary rank) (reads src (link rank (binary (rank - 1))))
    (place_at src.toks.now s.at) p.0 p.1) e

pub linking_init : (src : Source) (rank at left : ℕ) (s t : State) → 0 < rank → at ≡ place_at src.toks.now s.at
    → reads src (binary (rank - 1)) s ≡ Ok (left, t) → Linking src rank at left t s
linking_init src rank at left s t some place e =
    let going = started src.toks.now (read_inner src.toks.now src.room) (is_binary rank) (binary (rank - 1)) (link rank (binary (rank - 1))) s left t e in
    let here : Going src.toks.now (is_binary rank) (reads src (link rank (binary (rank - 1)))) at left t
    (reads src (Chain (is_binary rank) (binary (rank - 1)) (link rank (binary (rank - 1)))) s) =
    subst (λ (p : ℕ). Going src.toks.now (is_binary rank) (reads src (link rank (binary (rank - 1)))) p left t
    (reads src (Chain (is_binary rank) (binary (rank - 1)) (link rank (binary (rank - 1)))) s)) (sym place) going in
    subst (λ (w : Result (ℕ × State) Refusal). Going src.toks.now (is_binary rank) (reads src (link rank (binary (rank - 1)))) at left t w)
    (binary_chain src rank s some) here

link_eats : (rank : ℕ) (right : Form ℕ) → eats (link rank right) ≡ true
unfolding link operator
link_eats rank right = refl

pub linking_smaller : (src : Source) (rank at left : ℕ) (s : State) (b : ℕ) (t : State) → passes (is_binary rank) (next src s) ≡ true
    → turn (reads src (link rank (binary (rank - 1)))) at left s ≡ Ok (b, t)
    → length src.toks.now - t.at < length src.toks.now - s.at
linking_smaller src rank at left s b t so e =
    less_left src (is_binary rank) s t so (turn_on src (link rank (binary (rank - 1))) at left s b t (link_eats rank (binary (rank - 1))) e)

pub linking_turned : (src : Source) (rank at left : ℕ) (s start : State) (b : ℕ) (t : State) → Linking src rank at left s start
    → passes (is_binary rank) (next src s) ≡ true
    → turn (reads src (link rank (binary (rank - 1)))) at left s ≡ Ok (b, t) → Linking src rank at b t start
linking_turned src rank at left s start b t going so e =
    turned src.toks.now (is_binary rank) (reads src (link rank (binary (rank - 1)))) at left s (reads src (binary rank) start) going b t so e
    (turn_on src (link rank (binary (rank - 1))) at left s b t (link_eats rank (binary (rank - 1))) e)

pub linking_failed : (src : Source) (rank at left : ℕ) (s start : State) (f : Refusal) → Linking src rank at left s start
    → passes (is_binary rank) (next src s) ≡ true
    → turn (reads src (link rank (binary (rank - 1)))) at left s ≡ Err f → reads src (binary rank) start ≡ Err f
linking_failed src rank at left s start f going so e = failed src.toks.now (is_binary rank) (reads src (link rank (binary (rank - 1)))) at left s
    (reads src (binary rank) start) going f so e

-- suffixes
suffix_eats : eats suffix ≡ true
unfolding suffix sign
suffix_eats = refl

pub following_init : (src : Source) (at whole : ℕ) (s t : State) → at ≡ place_at src.toks.now s.at → reads src primary s ≡ Ok (whole, t)
    → Following src at whole t s
unfolding postfix
following_init src at whole s t place e =
    subst (λ (p : ℕ). Going src.toks.now begins_suffix (reads src suffix) p whole t (reads src postfix s)) (sym place)
    (started src.toks.now (read_inner src.toks.now src.room) begins_suffix primary suffix s whole t e)

pub following_smaller : (src : Source) (at whole : ℕ) (s : State) (b : ℕ) (t : State) → passes begins_suffix (next src s) ≡ true
    → turn (reads src suffix) at whole s ≡ Ok (b, t)
    → length src.toks.now - t.at < length src.toks.now - s.at
following_smaller src at whole s b t so e = less_left src begins_suffix s t so (turn_on src suffix at whole s b t suffix_eats e)

pub following_turned : (src : Source) (at whole : ℕ) (s start : State) (b : ℕ) (t : State) → Following src at whole s start
    → passes begins_suffix (next src s) ≡ true
    → turn (reads src suffix) at whole s ≡ Ok (b, t) → Following src at b t start
following_turned src at whole s start b t going so e =
    turned src.toks.now begins_suffix (reads src suffix) at whole s (reads src postfix start) going b t so e (turn_on src suffix at whole s b t suffix_eats e)

pub following_failed : (src : Source) (at whole : ℕ) (s start : State) (f : Refusal) → Following src at whole s start → passes begins_suffix (next src s) ≡ true
    → turn (reads src suffix) at whole s ≡ Err f → reads src postfix start ≡ Err f
following_failed src at whole s start f going so e = failed src.toks.now begins_suffix (reads src suffix) at whole s (reads src postfix start) going f so e

-- lists
list_turn : (src : Source) (part : Form ℕ) (at : ℕ) (parts : List ℕ) (s : State) (n : ℕ) (t : State) → reads src part s ≡ Ok (n, t)
    → turn (reads src (Plain one_more ⊛ part)) at parts s ≡ Ok (parts ++ n ∷ [], t)
list_turn src part at parts s n t e = rw e refl

list_fails : (src : Source) (part : Form ℕ) (at : ℕ) (parts : List ℕ) (s : State) (f : Refusal) → reads src part s ≡ Err f
    → turn (reads src (Plain one_more ⊛ part)) at parts s ≡ Err f
list_fails src part at parts s f e = rw e refl

-- whole is what a list of parts that is read so far comes to
pub listing_none : (src : Source) (test : Token → Bool) (part : Form ℕ) (s : State) → Listing src test part [] s (reads src (listed test part) s)
listing_none src test part s = (
  place_at src.toks.now s.at,
  started src.toks.now (read_inner src.toks.now src.room) test (Plain [])
      (Plain one_more ⊛ part) s [] s refl,
)

pub listing_one : (src : Source) (test : Token → Bool) (first part : Form ℕ) (s : State) (n : ℕ) (t : State) → reads src first s ≡ Ok (n, t)
    → Listing src test part (n ∷ []) t (reads src (Chain test (Plain (λ n. n ∷ []) ⊛ first) (Plain one_more ⊛ part)) s)
listing_one src test first part s n t e =
    let one : reads src (Plain (λ n. n ∷ []) ⊛ first) s ≡ Ok (n ∷ [], t) = rw e refl in (
      place_at src.toks.now s.at,
      started src.toks.now (read_inner src.toks.now src.room) test (Plain (λ n. n ∷ []) ⊛ first) (Plain one_more ⊛ part) s
          (n ∷ []) t one,
    )

pub listing_first : (src : Source) (test : Token → Bool) (first part : Form ℕ) (s : State) (f : Refusal) → reads src first s ≡ Err f
    → reads src (Chain test (Plain (λ n. n ∷ []) ⊛ first) (Plain one_more ⊛ part)) s ≡ Err f
listing_first src test first part s f e = rw e refl

pub listing_smaller : (src : Source) (test : Token → Bool) (part : Form ℕ) (s : State) (n : ℕ) (t : State) → eats part ≡ true
    → passes test (next src s) ≡ true → reads src part s ≡ Ok (n, t)
    → length src.toks.now - t.at < length src.toks.now - s.at
listing_smaller src test part s n t eats_it so e = less_left src test s t so (goes_on src part s n t eats_it e)

pub listing_turned : (src : Source) (test : Token → Bool) (part : Form ℕ) (parts longer : List ℕ) (s : State)
    (whole : Result (List ℕ × State) Refusal) (n : ℕ) (t : State) → Listing src test part parts s whole → eats part ≡ true
    → passes test (next src s) ≡ true → reads src part s ≡ Ok (n, t) → longer ≡ parts ++ n ∷ [] → Listing src test part longer t whole
listing_turned src test part parts longer s whole n t going eats_it so e is =
    let on = turned src.toks.now test (reads src (Plain one_more ⊛ part)) going.0 parts s whole going.1 (parts ++ n ∷ []) t so
    (list_turn src part going.0 parts s n t e) (goes_on src part s n t eats_it e) in
    (going.0, subst (λ (l : List ℕ). Going src.toks.now test (reads src (Plain one_more ⊛ part)) going.0 l t whole) (sym is) on)

pub listing_failed : (src : Source) (test : Token → Bool) (part : Form ℕ) (parts : List ℕ) (s : State) (whole : Result (List ℕ × State) Refusal)
    (f : Refusal) → Listing src test part parts s whole
    → passes test (next src s) ≡ true → reads src part s ≡ Err f → whole ≡ Err f
listing_failed src test part parts s whole f going so e =
    failed src.toks.now test (reads src (Plain one_more ⊛ part)) going.0 parts s whole going.1 f so (list_fails src part going.0 parts s f e)

pub listing_ended : (src : Source) (test : Token → Bool) (part : Form ℕ) (parts : List ℕ) (s : State) (whole : Result (List ℕ × State) Refusal)
    → Listing src test part parts s whole
    → passes test (next src s) ≡ false → whole ≡ Ok (parts, s)
listing_ended src test part parts s whole going unless = ended src.toks.now test (reads src (Plain one_more ⊛ part)) going.0 parts s whole going.1 unless

pub listing_same : (src : Source) (test : Token → Bool) (part : Form ℕ) (parts now : List ℕ) (s : State) (whole : Result (List ℕ × State) Refusal)
    → now ≡ parts → Listing src test part parts s whole → Listing src test part now s whole
listing_same src test part parts now s whole is going =
    (going.0, subst (λ (l : List ℕ). Going src.toks.now test (reads src (Plain one_more ⊛ part)) going.0 l s whole) (sym is) going.1)

-- a part behind a sign
pub behind_sign : (src : Source) (which : Sign) (part : Form ℕ) (s t : State) (u : Unit {0}) {r : Result (ℕ × State) Refusal}
    → reads src (sign which) s ≡ Ok (u, t) → reads src part t ≡ r → reads src (sign which ⊳ part) s ≡ r
behind_sign src which part s t u e is = rw e (same (reads src part t) ∙ is)
  where
    same : (r : Result (ℕ × State) Refusal) → (r >>= λ q. Ok (q.0, q.1)) ≡ r
    same (Ok q) = refl
    same (Err f) = refl

pub no_sign : (src : Source) (which : Sign) (part : Form ℕ) (s : State) (f : Refusal) → reads src (sign which) s ≡ Err f
    → reads src (sign which ⊳ part) s ≡ Err f
no_sign src which part s f e = rw e refl

-- arguments of a call
pub argument_eats : eats (sign signs.Comma ⊳ Inner Expression) ≡ true
unfolding sign
argument_eats = refl

pub arguments_init : (src : Source) (s : State) (n : ℕ) (t : State) → passes begins_expression (next src s) ≡ true → reads_inner src Expression s ≡ Ok (n, t)
    → Listing src (is_sign signs.Comma) (sign signs.Comma ⊳ Inner Expression) (n ∷ []) t (reads src arguments s)
unfolding arguments
arguments_init src s n t so e =
    let chain = listing_one src (is_sign signs.Comma) (Inner Expression) (sign signs.Comma ⊳ Inner Expression) s n t e in
    let whole : reads src (Chain (is_sign signs.Comma) (Plain (λ n. n ∷ []) ⊛ Inner Expression)
    (Plain one_more ⊛ (sign signs.Comma ⊳ Inner Expression))) s ≡ reads src arguments s = rw so refl in (
      chain.0,
      subst (λ (w : Result (List ℕ × State) Refusal). Going src.toks.now (is_sign signs.Comma)
          (reads src (Plain one_more ⊛ (sign signs.Comma ⊳ Inner Expression))) chain.0 (n ∷ []) t w) whole chain.1,
    )

-- the other lists
pub pieces_init : (src : Source) (s : State) → Listing src begins_piece piece [] s (reads src pieces s)
unfolding pieces
pieces_init src s = listing_none src begins_piece piece s

pub piece_eats : eats piece ≡ true
unfolding piece declaration base int_type sign word name
piece_eats = refl

pub fields_init : (src : Source) (s : State) (n : ℕ) (t : State) → reads src field s ≡ Ok (n, t) → Listing src begins_base field (n ∷ []) t (reads src fields s)
unfolding fields
fields_init src s n t e = listing_one src begins_base field field s n t e

pub field_eats : eats field ≡ true
unfolding field base int_type sign word name
field_eats = refl

pub params_init : (src : Source) (s : State) (n : ℕ) (t : State) → passes (is_word words.Void) (next src s) ≡ false → reads src param s ≡ Ok (n, t)
    → Listing src (is_sign signs.Comma) (sign signs.Comma ⊳ param) (n ∷ []) t (reads src params s)
unfolding params
params_init src s n t unless e =
    let chain = listing_one src (is_sign signs.Comma) param (sign signs.Comma ⊳ param) s n t e in
    let whole : reads src (Chain (is_sign signs.Comma) (Plain (λ n. n ∷ []) ⊛ param) (Plain one_more ⊛ (sign signs.Comma ⊳ param))) s ≡ reads src
    params s = rw unless refl in (
      chain.0,
      subst (λ (w : Result (List ℕ × State) Refusal). Going src.toks.now (is_sign signs.Comma)
          (reads src (Plain one_more ⊛ (sign signs.Comma ⊳ param))) chain.0 (n ∷ []) t w) whole chain.1,
    )

pub param_eats : eats (sign signs.Comma ⊳ param) ≡ true
unfolding sign
param_eats = refl

pub items_init : (src : Source) (s : State) → Listing src any_token item [] s (reads src items s)
unfolding items
items_init src s = listing_none src any_token item s

pub item_eats : eats item ≡ true
unfolding item struct_item extern_item function flagged answer int_type sign word name
item_eats = refl

any_some : (o : Option Token) → passes any_token o ≡ is_some o
any_some None = refl
any_some (Some t) = refl

pub some_passes : (o found : Option Token) (b : Bool) → found ≡ o → b ≡ is_some found → b ≡ true → passes any_token o ≡ true
some_passes o found b is tells so = any_some o ∙ ap is_some (sym is) ∙ sym tells ∙ so
