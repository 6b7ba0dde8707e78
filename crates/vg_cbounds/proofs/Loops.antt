-- The loops of a well typed text end in as many turns as typing counts.
use Rattle.std.proofs.Common.{◌≡◌, ℕ, ◌+◌, ◌-◌, ◌%◌, ◌^◌, ◌≤◌, ◌<◌, Bool, true, false, if◌then◌else◌, nat_lt, nat_le, List, length, take, slice_get}
use Rattle.std.proofs.Common.{ℤ, pos, negsuc, Option, Some, None, refl, sym, ap, subst, arith, ◌∙◌, inl, inr}
use Rattle.std.specs.Prelude.{int_lt}
use Rattle.std.proofs.lemmas.Option.{get_or_from_slice_get, slice_get_within, slice_get_read}
use Rattle.std.proofs.lemmas.List.{get_or-take, length-take}
use Rattle.std.proofs.lemmas.Bool.{cases_lt}
use Rattle.std.proofs.lemmas.Bool.Decides.{nat_tests}
use Rattle.std.proofs.lemmas.Nat.{pow_pos, mod_below}
use Rattle.std.proofs.Math.Nat.{mod-le}
use Rattle.std.proofs.Math.Pow.{pow_mono}
use Rattle.vg_bits.specs.Words as bits
use Rattle.vg_bits.proofs.Machine.{signed_pos, signed_neg}
use Rattle.vg_core.specs.Units.{Typed}
use Rattle.vg_core.specs.declared.tree.Name.{Name}
use Rattle.vg_core.specs.declared.tree.IntType.{IntType}
use Rattle.vg_core.specs.declared.tree.IntType.TheVariants as words
use Rattle.vg_core.specs.declared.tree.Kind.{Kind}
use Rattle.vg_core.specs.declared.tree.Kind.TheVariants as nodes
use Rattle.vg_core.specs.declared.types.CType.{CType}
use Rattle.vg_core.specs.declared.types.CType.TheVariants as types
use Rattle.vg_core.specs.declared.types.Integer.{Integer}
use Rattle.vg_core.specs.declared.unit.Note.{Note}
use Rattle.vg_cint.specs.Types.{width, integer_of}
use Rattle.vg_cint.specs.Values.{reading, word_of, converted}
use Rattle.vg_cint.specs.Operators.{less}
use Rattle.vg_cint.specs.declared.value.Value.{Value}
use Rattle.vg_cint.proofs.Laws.{width_some}
use Rattle.vg_cmean.specs.Typings as typings
use Rattle.vg_cmean.specs.Typings.{kind_at}
use Rattle.vg_cmean.specs.Values as values
use Rattle.vg_cmean.specs.Meaning.{first_of, constant, step_of}
use Rattle.vg_ctyper.specs.declared.fault.TypeFault.{TypeFault}
use Rattle.vg_ctyper.specs.declared.fault.Rule.TheVariants as rules_of
use Rattle.vg_ctyper.specs.Demands.{unless, used, used_as}
use Rattle.vg_ctyper.specs.Names.{Known}
use Rattle.vg_ctyper.specs.Notes.{or_zero}
use Rattle.vg_ctyper.specs.Types.{◌>>=◌, noted, type_at, word_at, as_integer, integer_at, constant_at, number, number_at, below_2_32, unsigned_64}
use Rattle.vg_ctyper.specs.Rules.{broken_by, statement_fault, item_fault, for_fault}
use Rattle.vg_ctyper.specs.ExpressionRules.{expression_fault}
use Rattle.vg_ctyper.specs.StatementRules as rules
use Rattle.vg_ctyper.specs.WellTyped.{IsWellTyped, locals_before}
use Rattle.vg_ctyper.proofs.Earliest.{sooner_none}
use Rattle.vg_cbounds.specs.Bounds.{known}
use Rattle.vg_cbounds.proofs.Statements.{EndsWithin}
use Rattle.vg_cbounds.proofs.Counters.{at}
use Rattle.vg_cbounds.proofs.Readings.{most_of, reading_pos, most_below, converted_pos, converted_self}
use Rattle.vg_cbounds.proofs.Signs.{loop_ends}
use Rattle.vg_cbounds.proofs.Ties.{kinds_are_one}

-- ---- what is there where something is answered

bind_some : {A B : Type 0} (o : Option A) (f : A → Option B) (y : B) → (o >>= f) ≡ Some y → (x : A) × (o ≡ Some x) × (f x ≡ Some y)
bind_some None f y e = cc
bind_some (Some x) f y e = (x, refl, e)

noted_some : {A : Type 0} (field : Note → Option A) (o : Option Note) (y : A) → noted field o ≡ Some y → (note : Note) × (o ≡ Some note) × (field note ≡ Some y)
noted_some field None y e = cc
noted_some field (Some note) y e = (note, refl, e)

same_some : {A : Type 0} (x y : A) → Some x ≡ Some y → x ≡ y
same_some x y e = cc

integer_is : (type : CType) (t : Integer) → as_integer type ≡ Some t → type ≡ types.Int t.bits t.signed
integer_is (types.Int bits signed) t e =
    let same : record { bits = bits; signed = signed } ≡ t = same_some _ _ e in
    λ j. types.Int (same j).bits (same j).signed
integer_is _ t e = cc

-- a note that is there among those before
pub get_untake : {A : Type 0} (xs : List A) (n p : ℕ) (x : A) → slice_get (take n xs) p ≡ Some x → slice_get xs p ≡ Some x
get_untake xs n p x e =
    let within : p < length (take n xs) = slice_get_within (take n xs) p x e in
    let short = length-take n xs in
    let h : p < n = omega arith in
    let here : p < length xs = omega arith in
    slice_get_read xs (length xs) p x refl here (sym (get_or_from_slice_get (take n xs) p x x e) ∙ get_or-take n xs p x h)

-- ---- constants

-- a node whose note has an integer type and a word, as the meaning has them
record IsConstant (u : Typed) (p : ℕ) (t : Integer) (w : ℕ) : Type 0 where
  pub type : typings.type_at u p ≡ types.Int t.bits t.signed
  pub word : typings.constant_at u p ≡ w

constant_of_note : (u : Typed) (p : ℕ) (note : Note) (type : CType) (t : Integer) (w : ℕ) → slice_get u.notes p ≡ Some note → note.of ≡ Some type →
    type ≡ types.Int t.bits t.signed → note.constant ≡ Some w → IsConstant u p t w
constant_of_note u p note type t w e of is word = record {
  type = ap typings.type_of_note e ∙ ap typings.or_void of ∙ is;
  word = ap typings.constant_of_note e ∙ ap typings.or_zero word;
}

is_constant : (u : Typed) (n p : ℕ) (t : Integer) (w : ℕ) → integer_at (known u n) p ≡ Some t → word_at (known u n) p ≡ Some w → IsConstant u p t w
is_constant u n p t w e f =
    let type = bind_some (type_at (known u n) p) as_integer t e in
    let one = noted_some (λ (note : Note). note.of) (slice_get (take n u.notes) p) type.0 type.1 in
    let other = noted_some (λ (note : Note). note.constant) (slice_get (take n u.notes) p) w f in
    let same : other.0 ≡ one.0 = same_some _ _ (sym other.1 ∙ one.1) in
    let word : (one.0).constant ≡ Some w = subst (λ (note : Note). note.constant ≡ Some w) same other.2 in
    constant_of_note u p one.0 type.0 t w (get_untake u.notes n p one.0 one.1) one.2 (integer_is type.0 t type.2) word

constant_is : (u : Typed) (p : ℕ) (t : Integer) (w : ℕ) → IsConstant u p t w → constant u p ≡ at t (converted t t w)
constant_is u p t w c =
    (λ j. values.number (values.integer_of (c.type j)) (c.word j))

-- ---- a number, at least 0 and below 2 ^ 32

not_below_zero : (z : ℤ) → int_lt z (pos 0) ≡ false → (r : ℕ) × (z ≡ pos r)
not_below_zero (pos r) e = (r, refl)
not_below_zero (negsuc r) e = cc

number_some : (c : Bool) (o : Option ℕ) (a : ℕ) → (if c then None else o) ≡ Some a → (c ≡ false) × (o ≡ Some a)
number_some true o a e = cc
number_some false o a e = (refl, e)

below_some : (x a : ℕ) → below_2_32 x ≡ Some a → (x ≡ a) × (a < 2 ^ 32)
below_some x a e = grind (arith, nat_tests)

most_at : (s : Bool) (w y r : ℕ) → 0 < w → (if s then bits.signed w (y % 2 ^ w) else pos (y % 2 ^ w)) ≡ pos r →
    (y % 2 ^ w ≡ r) × (r ≤ (if s then 2 ^ (w - 1) - 1 else 2 ^ w - 1))
most_at true w y r some e =
    let short : y % 2 ^ w < 2 ^ w = mod_below y (2 ^ w) (pow_pos w) in
    elim (cases_lt (y % 2 ^ w) (2 ^ (w - 1))) [
      | inl low ↦
          (let is : pos (y % 2 ^ w) ≡ pos r = sym (signed_pos w (y % 2 ^ w) low) ∙ e in
          let same : y % 2 ^ w ≡ r = cc in (same, omega arith))
      | inr high ↦ (let is : negsuc (2 ^ w - 1 - y % 2 ^ w) ≡ pos r = sym (signed_neg w (y % 2 ^ w) high short) ∙ e in cc)
    ]
most_at false w y r some e =
    let short : y % 2 ^ w < 2 ^ w = mod_below y (2 ^ w) (pow_pos w) in
    let same : y % 2 ^ w ≡ r = cc in (same, omega arith)

reading_most : (t : Integer) (y r : ℕ) → reading t y ≡ pos r → (y % 2 ^ width t ≡ r) × (r ≤ most_of t)
unfolding reading
reading_most t y r e = most_at t.signed (width t) y r (width_some t) e

width_most : (t : Integer) → width t ≤ 64
width_most t = grind (arith, nat_tests)

most_64 : (t : Integer) (r : ℕ) → r ≤ most_of t → r ≤ most_of unsigned_64
most_64 t r h =
    let less = most_below t r h in
    let wide : 2 ^ width t ≤ 2 ^ 64 = pow_mono (width_most t) in omega arith

word_cut : (t : Integer) (v : ℕ) → word_of t (pos v) ≡ v % 2 ^ width t
unfolding word_of
word_cut t v = refl

-- a number's word is the number, cut to its type
pub record IsNumber (u : Typed) (p : ℕ) (t : Integer) (a : ℕ) : Type 0 where
  pub value : constant u p ≡ at t a
  pub held : a ≤ most_of t
  pub small : a < 2 ^ 32

number_is : (u : Typed) (p : ℕ) (t : Integer) (w a : ℕ) → IsConstant u p t w → number (record { of = t; word = w }) ≡ Some a → IsNumber u p t a
number_is u p t w a c e =
    let parts = number_some (less t w 0) (below_2_32 (converted unsigned_64 t w)) a e in
    let above : int_lt (reading t w) (pos 0) ≡ false = ap (int_lt (reading t w)) (sym (reading_pos t 0 (omega arith))) ∙ parts.0 in
    let r = not_below_zero (reading t w) above in
    let most = reading_most t w r.0 r.1 in
    let b = below_some (converted unsigned_64 t w) a parts.1 in
    let same : converted unsigned_64 t w ≡ r.0 = converted_pos unsigned_64 t w r.0 r.1 (most_64 t r.0 most.1) in
    let is : r.0 ≡ a = sym same ∙ b.0 in
    record {
      value = constant_is u p t w c ∙ ap (at t) (converted_self t w ∙ most.0 ∙ is);
      held = omega (arith, most.1);
      small = b.1;
    }

number_at_is : (u : Typed) (n p a : ℕ) → number_at (known u n) p ≡ Some a → (t : Integer) × (integer_at (known u n) p ≡ Some t) × IsNumber u p t a
number_at_is u n p a e =
    let v = bind_some (constant_at (known u n) p) number a e in
    let t = bind_some (integer_at (known u n) p) (λ t. word_at (known u n) p >>= λ w. Some (record { of = t; word = w })) v.0 v.1 in
    let w = bind_some (word_at (known u n) p) (λ w. Some (record { of = t.0; word = w })) v.0 t.2 in
    let value : record { of = t.0; word = w.0 } ≡ v.0 = same_some _ _ w.2 in
    (t.0, t.1, number_is u p t.0 w.0 a (is_constant u n p t.0 w.0 t.1 w.1) (ap number value ∙ v.2))

-- ---- what the rules say of a loop that breaks none

for_sound : (u : Typed) (n : ℕ) (of : IntType) (counter : Name) (start : ℕ) (tested : Name) (bound : ℕ) (stepped : Name) (step : Option ℕ) (body : ℕ)
    → IsWellTyped u →
    n < length u.tree.nodes → kind_at u n ≡ nodes.For of counter start tested bound stepped step body →
    for_fault (known u n) n (nodes.For of counter start tested bound stepped step body) ≡ None
for_sound u n of counter start tested bound stepped step body w h e =
    let kind = nodes.For of counter start tested bound stepped step body in
    let k = known u n in
    let locals = locals_before u.text u.tree u.notes n in
    let is : broken_by k locals n kind ≡ None = ap (λ (d : Kind). broken_by k locals n d) (sym e ∙ kinds_are_one u n) ∙ w.sound n h in
    let other = (sooner_none (item_fault k n kind) _ is).1 in
    (sooner_none (statement_fault k locals n kind) (expression_fault k n kind) other).0

unless_none : (k : Known) (n : ℕ) (holds : Bool) (fault : TypeFault) → (if holds then None else Some fault) ≡ None → holds ≡ true
unless_none k n true fault e = refl
unless_none k n false fault e = cc

fits_room : (b c most : ℕ) → nat_le (b + c) most ≡ true → b + c ≤ most
fits_room b c most e = grind (arith, nat_tests)

greatest_is : (p : IntType) → rules.greatest (integer_of p) ≡ most_of (integer_of p)
greatest_is words.Int = refl
greatest_is words.Unsigned = refl
greatest_is words.Int8 = refl
greatest_is words.Int16 = refl
greatest_is words.Int32 = refl
greatest_is words.Int64 = refl
greatest_is words.Uint8 = refl
greatest_is words.Uint16 = refl
greatest_is words.Uint32 = refl
greatest_is words.Uint64 = refl

-- the bound and one step more are in the counter's range
range_room : (k : Known) (n : ℕ) (of : IntType) (bound : ℕ) (step : Option ℕ) (b c : ℕ) → number_at k bound ≡ Some b → rules.step_number k step ≡ Some c →
    rules.range_fault k n of bound step ≡ None → b + c ≤ most_of (integer_of of)
range_room k n of bound step b c e f g =
    let at_bound : (rules.step_number k step >>= λ d. unless k n rules_of.Loop (rules.fits of b d)) ≡ None =
    subst (λ (o : Option ℕ). (o >>= λ a. rules.step_number k step >>= λ d. unless k n rules_of.Loop (rules.fits of a d)) ≡ None) e g in
    let at_step : unless k n rules_of.Loop (rules.fits of b c) ≡ None =
    subst (λ (o : Option ℕ). (o >>= λ d. unless k n rules_of.Loop (rules.fits of b d)) ≡ None) f at_bound in
    let holds : rules.fits of b c ≡ true = unless_none k n (rules.fits of b c) _ at_step in
    let room = fits_room b c (rules.greatest (integer_of of)) holds in
    let same = greatest_is of in omega arith

positive : (o : Option ℕ) (c : ℕ) → o ≡ Some c → rules.is_positive o ≡ true → 0 < c
positive o c e h =
    let is : nat_lt 0 c ≡ true = subst (λ (x : Option ℕ). rules.is_positive x ≡ true) e h in grind (arith, nat_tests)

used_int : (k : Known) (p : ℕ) (t : Integer) (fault : Option TypeFault) → integer_at k p ≡ Some t → used k p fault ≡ None → fault ≡ None
used_int k p t fault e h =
    let type = bind_some (type_at k p) as_integer t e in
    let is = integer_is type.0 t type.2 in
    subst (λ (o : Option CType). (o >>= λ d. used_as k p d fault) ≡ None) (type.1 ∙ ap Some is) h

-- a step is at least 1
step_some : (u : Typed) (n : ℕ) (step : Option ℕ) (c : ℕ) → rules.step_number (known u n) step ≡ Some c → rules.step_fault (known u n) step ≡ None
    → (0 < c) × (c < 2 ^ 32)
step_some u n None c e f = let same : 1 ≡ c = same_some 1 c e in (omega arith, omega arith)
step_some u n (Some p) c e f =
    let number = number_at_is u n p c e in
    let no_fault = used_int (known u n) p number.0 (unless (known u n) p rules_of.Loop (rules.is_positive (number_at (known u n) p))) number.1 f in
    let holds = unless_none (known u n) p (rules.is_positive (number_at (known u n) p)) _ no_fault in
    (positive (number_at (known u n) p) c e holds, number.2.small)

-- ---- a loop whose start, bound and step are numbers

pub loop_is_counted : (u : Typed) (n : ℕ) (of : IntType) (counter : Name) (start : ℕ) (tested : Name) (bound : ℕ) (stepped : Name) (step : Option ℕ)
    (body turns : ℕ) → IsWellTyped u →
    n < length u.tree.nodes → kind_at u n ≡ nodes.For of counter start tested bound stepped step body →
    rules.turns (known u n) of start bound step ≡ Some turns → rules.step_number (known u n) step ≡ Some (step_of u step) →
    EndsWithin turns (first_of u of start) (constant u bound) (step_of u step)
loop_is_counted u n of counter start tested bound stepped step body turns w h e counted stepped_by =
    let k = known u n in
    let t = integer_of of in
    let c = step_of u step in
    let sound = for_sound u n of counter start tested bound stepped step body w h e in
    let named = (sooner_none _ _ sound).1 in
    let rest = (sooner_none _ _ named).1 in
    let both = sooner_none _ _ rest in
    let ranged = (sooner_none _ _ both.0).0 in
    let constants = (sooner_none _ _ (sooner_none _ _ both.1).1).1 in
    let a = bind_some (number_at k start) (λ a. number_at k bound >>= λ b. integer_at k bound >>= λ v. rules.step_number k step >>= λ d. Some
    (rules.turns_of of v a b d)) turns counted in
    let b = bind_some (number_at k bound) (λ b. integer_at k bound >>= λ v. rules.step_number k step >>= λ d. Some (rules.turns_of of v a.0 b d)) turns a.2 in
    let v = bind_some (integer_at k bound) (λ v. rules.step_number k step >>= λ d. Some (rules.turns_of of v a.0 b.0 d)) turns b.2 in
    let d = bind_some (rules.step_number k step) (λ d. Some (rules.turns_of of v.0 a.0 b.0 d)) turns v.2 in
    let same_step : d.0 ≡ c = same_some _ _ (sym d.1 ∙ stepped_by) in
    let first = number_at_is u n start a.0 a.1 in
    let last = number_at_is u n bound b.0 b.1 in
    let same_type : last.0 ≡ v.0 = same_some _ _ (sym last.1 ∙ v.1) in
    let some = step_some u n step c stepped_by constants in
    let room = range_room k n of bound step b.0 c b.1 stepped_by ranged in
    let f = converted t unsigned_64 a.0 in
    let f_is : f ≡ a.0 % 2 ^ width t = ap (word_of t) (reading_pos unsigned_64 a.0 (most_64 first.0 a.0 first.2.held)) ∙ word_cut t a.0 in
    let f_small : f < 2 ^ 32 = let l = mod-le a.0 (2 ^ width t) in let s = first.2.small in omega arith in
    let f_short : f < 2 ^ width t = let l = mod_below a.0 (2 ^ width t) (pow_pos (width t)) in omega arith in
    let held : b.0 ≤ most_of v.0 = subst (λ (x : Integer). b.0 ≤ most_of x) same_type last.2.held in
    let ends = loop_ends of v.0 f b.0 c some.0 (omega (arith, some.1)) held last.2.small room f_small f_short in
    let first_is : first_of u of start ≡ at t f =
    ap (values.converted_to t) first.2.value ∙ ap (at t) (ap (word_of t) (reading_pos first.0 a.0 first.2.held)
    ∙ sym (ap (word_of t) (reading_pos unsigned_64 a.0 (most_64 first.0 a.0 first.2.held)))) in
    let bound_is : constant u bound ≡ at v.0 b.0 = last.2.value ∙ ap (λ (x : Integer). at x b.0) same_type in
    let count : rules.turns_of of v.0 a.0 b.0 c ≡ turns = ap (rules.turns_of of v.0 a.0 b.0) (sym same_step) ∙ same_some _ _ d.2 in
    subst (λ m. EndsWithin m (first_of u of start) (constant u bound) c) count
    (subst (λ (x : Value). EndsWithin (rules.turns_of of v.0 a.0 b.0 c) x (constant u bound) c) (sym first_is)
    (subst (λ (x : Value). EndsWithin (rules.turns_of of v.0 a.0 b.0 c) (at t f) x c) (sym bound_is) ends))

few_counted : (count : Option ℕ) (k : Known) (n : ℕ) → rules.turns_fault k n count ≡ None → or_zero count ≤ 4096
few_counted None k n e = omega arith
few_counted (Some count) k n e = grind (arith, nat_tests)

pub few_turns : (u : Typed) (n : ℕ) (of : IntType) (counter : Name) (start : ℕ) (tested : Name) (bound : ℕ) (stepped : Name) (step : Option ℕ)
    (body : ℕ) → IsWellTyped u →
    n < length u.tree.nodes → kind_at u n ≡ nodes.For of counter start tested bound stepped step body →
    or_zero (rules.turns (known u n) of start bound step) ≤ 4096
few_turns u n of counter start tested bound stepped step body w h e =
    let k = known u n in
    let sound = for_sound u n of counter start tested bound stepped step body w h e in
    let named = (sooner_none _ _ sound).1 in
    let rest = (sooner_none _ _ named).1 in
    let counted = (sooner_none (rules.counter_fault k n of start bound step) (rules.constants_fault k start bound step) rest).0 in
    let turned = (sooner_none (rules.range_fault k n of bound step) (rules.turns_fault k n (rules.turns k of start bound step)) counted).1 in
    few_counted (rules.turns k of start bound step) k n turned
