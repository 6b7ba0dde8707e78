-- Wires: bits of cut and joined words, and what stays of them where terms are added.
use Rattle.std.proofs.Common.{◌≡◌, ℕ, ◌+◌, ◌-◌, ◌*◌, ◌/◌, ◌%◌, ◌^◌, ◌<◌, ◌≤◌, Bool, true, false, List, [], ◌∷◌, ◌++◌, length, get_or, Result, Ok, Err}
use Rattle.std.proofs.Common.{All, refl, sym, ap, subst, ◌∙◌, inl, inr, arith, append_assoc, length-append, append-nil}
use Rattle.std.specs.Int.{bit_at}
use Rattle.std.proofs.lemmas.Bool.{cases_lt}
use Rattle.std.proofs.lemmas.List.{get_or_default}
use Rattle.std.proofs.lemmas.List.Elements.{All-nil, All-cons}
use Rattle.std.proofs.lemmas.Nat.{shr_split, shr-shr}
use Rattle.std.proofs.lemmas.Nat.Bits.{bit_at_cat_low, bit_at_cat_high}
use Rattle.vg_bits.specs.Words as formulas
use Rattle.vg_bits.specs.declared.word.Word.{Word}
use Rattle.vg_term.specs.Operations.{Bits}
use Rattle.vg_term.specs.Terms.{Term, AreTerms, Stands, Needs, width_at, operation}
use Rattle.vg_term.specs.Value.{value_of, Assigns}
use Rattle.vg_term.specs.Folding.{Grows, StandsFor, Folds, Builds, IsWord}
use Rattle.vg_term.specs.Wiring.{wire_value, WireStands, AllStand, Follows, IsRun, IsWired, Grown, BuildsWires}
use Rattle.vg_term.specs.declared.wire.Wire.{Wire}
use Rattle.vg_term.specs.declared.wire.Wire.TheVariants.{Fixed, Bit}
use Rattle.vg_term.specs.declared.node.TermId.{TermId}
use Rattle.vg_term.specs.declared.node.Op.{Op}
use Rattle.vg_term.specs.declared.node.Op.TheVariants as ops
use Rattle.vg_term.specs.declared.stops.TermStop.{TermStop}
use Rattle.vg_term.proofs.Made.{same_width}
use Rattle.vg_term.proofs.Values.{value_stays}
use Rattle.vg_term.proofs.Ranges.{term_range}
use Rattle.vg_term.proofs.Meanings.{old_assigns, folds_to_itself}

-- ---- what stays

pub grown_on : (a b c : List Term) → Grown a b → Grown b c → Grown a c
grown_on a b c f g = record {
  made = g.made;
  grows = (f.grows.0 ++ g.grows.0, g.grows.1 ∙ ap (λ (ts : List Term). ts ++ g.grows.0) f.grows.1 ∙ append_assoc a f.grows.0 g.grows.0);
}

pub stands_later : (old new : List Term) → Grows old new → (id : TermId) → Stands old id → Stands new id
stands_later old new g id h = subst (λ (ts : List Term). id.0 < length ts) (sym g.1) (omega (arith, length-append old g.0, h))

pub width_later : (old new : List Term) → Grows old new → (id : TermId) → Stands old id → width_at new id ≡ width_at old id
width_later old new g id h = ap (λ (ts : List Term). width_at ts id) g.1 ∙ same_width old g.0 id h

pub value_later : (old new : List Term) → AreTerms old → Grows old new → (words : List Word) (id : TermId) → Stands old id
    → value_of new words id ≡ value_of old words id
value_later old new made g words id h = ap (λ (ts : List Term). value_of ts words id) g.1 ∙ value_stays made g.0 words id h

pub assigns_later : (old new : List Term) → Grows old new → (words : List Word) → Assigns words new → Assigns words old
assigns_later old new g words h = old_assigns old g.0 words (subst (Assigns words) g.1 h)

pub wire_stands_later : (old new : List Term) → Grows old new → (wire : Wire) → WireStands old wire → WireStands new wire
wire_stands_later old new g (Fixed holds) h = tt
wire_stands_later old new g (Bit term at) h = (stands_later old new g term h.0, subst (λ n. at < n) (sym (width_later old new g term h.0)) h.1)

pub wire_value_later : (old new : List Term) → AreTerms old → Grows old new → (words : List Word) (wire : Wire) → WireStands old wire
    → wire_value new words wire ≡ wire_value old words wire
wire_value_later old new made g words (Fixed holds) h = refl
wire_value_later old new made g words (Bit term at) h = ap (λ n. bit_at n at) (value_later old new made g words term h.0)

pub all_stand_later : (old new : List Term) → Grows old new → (wires : List Wire) (width : ℕ) → AllStand old wires width → AllStand new wires width
all_stand_later old new g wires width h = record { each = λ i d below. wire_stands_later old new g (get_or wires i d) (h.each i d below) }

pub all_stand_less : {terms : List Term} → (wires : List Wire) (m n : ℕ) → m ≤ n → AllStand terms wires n → AllStand terms wires m
all_stand_less wires m n le h = record { each = λ i d below. h.each i d (omega (arith, below, le)) }

pub wired_later : (old new : List Term) → AreTerms old → Grows old new → (id : TermId) (wires : List Wire) (from width : ℕ)
    → AllStand old wires (from + width) → IsWired old id wires from width → IsWired new id wires from width
wired_later old new made g id wires from width all h = record {
  stands = stands_later old new g id h.stands;
  width = width_later old new g id h.stands ∙ h.width;
  bits = λ words assigns i d below.
      ap (λ n. bit_at n i) (value_later old new made g words id h.stands)
      ∙ h.bits words (assigns_later old new g words assigns) i d below
      ∙ sym (wire_value_later old new made g words (get_or wires (from + i) d) (all.each (from + i) d (omega (arith, below))));
}

-- ---- bits of cut and joined words

pub bit_within : (n w i : ℕ) → i < w → bit_at (n % 2 ^ w) i ≡ bit_at n i
bit_within n w i h = sym (bit_at_cat_low (n / 2 ^ w) w (n % 2 ^ w) i h) ∙ ap (λ m. bit_at m i) (shr_split n w)

pub bit_moved : (n from i : ℕ) → bit_at (n / 2 ^ from) i ≡ bit_at n (from + i)
bit_moved n from i = ap (λ m. m % 2) (shr-shr n from i)

pub bit_cut : (n from w i : ℕ) → i < w → bit_at (formulas.extract from w n) i ≡ bit_at n (from + i)
bit_cut n from w i h = bit_within (n / 2 ^ from) w i h ∙ bit_moved n from i

-- ---- runs

pub run_bit : (wires : List Wire) (from to : ℕ) (first : Wire) (term : TermId) (at : ℕ) → IsRun wires from to → to ≤ length wires
    → get_or wires from first ≡ Bit term at →
    (k : ℕ) (d : Wire) → from + k < to → get_or wires (from + k) d ≡ Bit term (at + k)
run_bit wires from to first term at run long is k d below =
    let start : get_or wires from d ≡ Bit term at = get_or_default wires from d first (omega (arith, below, long)) ∙ is in
    subst (λ (w : Wire). Follows w (get_or wires (from + k) d) k) start (run.each k d below)

pub run_fixed : (wires : List Wire) (from to : ℕ) (first : Wire) (holds : Bool) → IsRun wires from to → to ≤ length wires
    → get_or wires from first ≡ Fixed holds →
    (k : ℕ) (d : Wire) → from + k < to → (other : Bool) × (get_or wires (from + k) d ≡ Fixed other)
run_fixed wires from to first holds run long is k d below =
    let start : get_or wires from d ≡ Fixed holds = get_or_default wires from d first (omega (arith, below, long)) ∙ is in
    subst (λ (w : Wire). Follows w (get_or wires (from + k) d) k) start (run.each k d below)

module _ {terms : List Term} (wires : List Wire) (from to : ℕ) (first : Wire) (term : TermId) (at : ℕ) (run : IsRun wires from to)
    (long : to ≤ length wires) (is : get_or wires from first ≡ Bit term at) (all : AllStand terms wires to) where
  last : (get : get_or wires (from + (to - from - 1)) first ≡ Bit term (at + (to - from - 1))) → WireStands terms (Bit term (at + (to - from - 1)))
  last get = subst (WireStands terms) get (all.each (from + (to - from - 1)) first (omega (arith, run.some)))

  pub run_stands : Stands terms term
  run_stands = (last (run_bit wires from to first term at run long is (to - from - 1) first (omega (arith, run.some)))).0

  pub run_fits : at + (to - from) ≤ width_at terms term
  run_fits =
      let below = (last (run_bit wires from to first term at run long is (to - from - 1) first (omega (arith, run.some)))).1 in
      omega (arith, below, run.some)

  -- the whole term
  pub whole_wired : width_at terms term ≡ to - from → IsWired terms term wires from (to - from)
  whole_wired wide =
      let lowest_bit : at ≡ 0 = omega (arith, run_fits, wide, run.some) in
      record {
        stands = run_stands;
        width = wide;
        bits = λ words assigns i d below.
            let get : get_or wires (from + i) d ≡ Bit term (at + i) = run_bit wires from to first term at run long is i d (omega (arith, below)) in
            ap (bit_at (value_of terms words term)) (let e : i ≡ at + i = omega (arith, lowest_bit) in e) ∙ sym (ap (wire_value terms words) get);
      }

-- a part of the term
pub part_wired : {new : List Term} (wires : List Wire) (from to : ℕ) (first : Wire) (term id : TermId) (at : ℕ) → IsRun wires from to
    → to ≤ length wires → get_or wires from first ≡ Bit term at →
    StandsFor new id (ops.Extract at (to - from)) (term ∷ []) → IsWired new id wires from (to - from)
part_wired {new} wires from to first term id at run long is for = record {
  stands = for.stands;
  width = for.width;
  bits = λ words assigns i d below.
      let get : get_or wires (from + i) d ≡ Bit term (at + i) = run_bit wires from to first term at run long is i d (omega (arith, below)) in
      ap (λ n. bit_at n i) (for.value words assigns) ∙ bit_cut (value_of new words term) at (to - from) i below ∙ sym (ap (wire_value new words) get);
}

-- a word
pub word_wired : {new : List Term} (wires : List Wire) (from to : ℕ) (first : Wire) (holds : Bool) (id : TermId) (w : Word) → IsRun wires from to
    → to ≤ length wires → get_or wires from first ≡ Fixed holds →
    from + w.width ≡ to → ((k : ℕ) (d : Wire) (holds : Bool) → from + k < to → get_or wires (from + k) d ≡ Fixed holds
    → bit_at w.value k ≡ formulas.bit holds) →
    StandsFor new id (ops.Const w) [] → IsWired new id wires from (to - from)
word_wired {new} wires from to first holds id w run long is wide bits for = record {
  stands = for.stands;
  width = for.width ∙ (let e : w.width ≡ to - from = omega (arith, wide) in e);
  bits = λ words assigns i d below.
      let get = run_fixed wires from to first holds run long is i d (omega (arith, below)) in
      ap (λ n. bit_at n i) (for.value words assigns) ∙ bits i d get.0 (omega (arith, below)) get.1 ∙ sym (ap (wire_value new words) get.1);
}

-- one above another
pub joined_wired : {terms : List Term} → AreTerms terms → (wires : List Wire) (high low id : TermId) (end n : ℕ) → IsWired terms high wires end n
    → IsWired terms low wires 0 end → StandsFor terms id ops.Concat (high ∷ low ∷ []) →
    IsWired terms id wires 0 (end + n)
joined_wired {terms} made wires high low id end n up down for = record {
  stands = for.stands;
  width = for.width ∙ (λ j. up.width j + down.width j) ∙ (let e : n + end ≡ end + n = omega arith in e);
  bits = λ words assigns i d below.
      let l_below : value_of terms words low < 2 ^ end = subst (λ w. value_of terms words low < 2 ^ w) down.width
      (term_range made words assigns low down.stands).below in
      ap (λ m. bit_at m i) (for.value words assigns ∙ ap (λ w. value_of terms words high * 2 ^ w + value_of terms words low) down.width)
      ∙ elim (cases_lt i end) [
        | inl lower ↦ bit_at_cat_low (value_of terms words high) end (value_of terms words low) i lower ∙ down.bits words assigns i d lower
        | inr upper ↦
            bit_at_cat_high (value_of terms words high) end (value_of terms words low) i l_below upper
            ∙ up.bits words assigns (i - end) d (omega (arith, upper, below))
            ∙ ap (λ k. wire_value terms words (get_or wires k d)) (let e : end + (i - end) ≡ 0 + i = omega (arith, upper) in e)
      ];
}

-- ---- what calls answer

-- an answer that stands for one operation, and so for another
pub folds_also : (old new : List Term) (op op' : Op) (parts parts' : List TermId) (result : Result TermId TermStop)
    → ((id : TermId) → Grows old new → StandsFor new id op parts → StandsFor new id op' parts') →
    Folds old new op parts result → Folds old new op' parts' result
folds_also old new op op' parts parts' (Ok id) turn h = record { grows = h.grows; means = turn id h.grows h.means; kept = tt }
folds_also old new op op' parts parts' (Err stop) turn h = record { grows = h.grows; means = tt; kept = h.kept }

one_part : (terms : List Term) (a : TermId) → Stands terms a → All (Stands terms) (a ∷ [])
one_part terms a h = All-cons (Stands terms) a [] h (All-nil (Stands terms))

pub two_parts : (terms : List Term) (a b : TermId) → Stands terms a → Stands terms b → All (Stands terms) (a ∷ b ∷ [])
two_parts terms a b h k = All-cons (Stands terms) a (b ∷ []) h (one_part terms b k)

zero_above : (p v : ℕ) → 0 * p + v ≡ v
zero_above p v = omega arith

-- an extension for a joined word with 0 above
pub extended_joins : (old new : List Term) (high low : TermId) (w : Word) (n : ℕ) (result : Result TermId TermStop) → AreTerms old → AreTerms new
    → Stands old high → Stands old low → IsWord old high w → w.value ≡ 0 →
    n ≡ width_at old high + width_at old low → n ≤ 64 → Needs old new (operation old (ops.Zext n) (low ∷ [])) result
    → Folds old new ops.Concat (high ∷ low ∷ []) result
extended_joins old new high low w n result was made h l is z wide most needs =
    folds_also old new (ops.Zext n) ops.Concat (low ∷ []) (high ∷ low ∷ []) result
    (λ id g for. record {
      stands = for.stands;
      width = for.width ∙ wide ∙ (λ j. sym (width_later old new g high h) j + sym (width_later old new g low l) j);
      value = λ words assigns.
          let nothing : value_of new words high ≡ 0 = value_later old new was g words high h ∙ ap (λ (b : Bits). b.value) (is words) ∙ z in
          for.value words assigns ∙ sym (ap (λ v. v * 2 ^ width_at new low + value_of new words low) nothing
          ∙ zero_above (2 ^ width_at new low) (value_of new words low));
    })
    (folds_to_itself old new (ops.Zext n) (low ∷ []) result made (one_part old low l) (omega (arith, wide), most) needs)

pub concat_joins : (old new : List Term) (high low : TermId) (result : Result TermId TermStop) → AreTerms new → Stands old high → Stands old low
    → width_at old high + width_at old low ≤ 64 →
    Needs old new (operation old ops.Concat (high ∷ low ∷ [])) result → Folds old new ops.Concat (high ∷ low ∷ []) result
concat_joins old new high low result made h l fits needs = folds_to_itself old new ops.Concat (high ∷ low ∷ []) result made
    (two_parts old high low h l) fits needs

pub builds_word : (old new : List Term) (wires : List Wire) (from to : ℕ) (first : Wire) (holds : Bool) (w : Word) (result : Result TermId TermStop)
    → AreTerms new → IsRun wires from to → to ≤ length wires →
    get_or wires from first ≡ Fixed holds → from + w.width ≡ to →
    ((k : ℕ) (d : Wire) (holds : Bool) → from + k < to → get_or wires (from + k) d ≡ Fixed holds → bit_at w.value k ≡ formulas.bit holds) →
    Needs old new (operation old (ops.Const w) []) result → BuildsWires old new wires from (to - from) result
builds_word old new wires from to first holds w (Ok id) made run long is wide bits needs =
    let folds = folds_to_itself old new (ops.Const w) [] (Ok id) made (All-nil (Stands old)) tt needs in
    record { grown = record { made = made; grows = folds.grows }; wired = word_wired wires from to first holds id w run long is wide bits folds.means }
builds_word old new wires from to first holds w (Err stop) made run long is wide bits needs =
    record {
      grown = record { made = made; grows = (folds_to_itself old new (ops.Const w) [] (Err stop) made (All-nil (Stands old)) tt needs).grows };
      wired = tt;
    }

pub part_builds : (old new : List Term) (wires : List Wire) (from to : ℕ) (first : Wire) (term : TermId) (at : ℕ) (result : Result TermId TermStop)
    → IsRun wires from to → to ≤ length wires →
    get_or wires from first ≡ Bit term at → Builds old new (ops.Extract at (to - from)) (term ∷ []) result → BuildsWires old new wires from (to - from) result
part_builds old new wires from to first term at (Ok id) run long is h = record {
  grown = record { made = h.made; grows = h.grows };
  wired =
      part_wired wires from to first term id at run long is h.means;
}
part_builds old new wires from to first term at (Err stop) run long is h = record { grown = record { made = h.made; grows = h.grows }; wired = tt }

pub builds_whole : (old : List Term) (wires : List Wire) (from to : ℕ) (first : Wire) (term : TermId) (at : ℕ) → AreTerms old → IsRun wires from to
    → to ≤ length wires → get_or wires from first ≡ Bit term at → AllStand old wires to →
    width_at old term ≡ to - from → BuildsWires old old wires from (to - from) (Ok term)
builds_whole old wires from to first term at made run long is all wide =
    record { grown = record { made = made; grows = ([], sym (append-nil old)) }; wired = whole_wired wires from to first term at run long is all wide }

pub part_fits : (old : List Term) (wires : List Wire) (from to : ℕ) (first : Wire) (term : TermId) (at : ℕ) → IsRun wires from to → to ≤ length wires
    → get_or wires from first ≡ Bit term at → AllStand old wires to →
    (0 < to - from) × (at + (to - from) ≤ width_at old term)
part_fits old wires from to first term at run long is all = (omega (arith, run.some), run_fits wires from to first term at run long is all)

pub part_stands : (old : List Term) (wires : List Wire) (from to : ℕ) (first : Wire) (term : TermId) (at : ℕ) → IsRun wires from to
    → to ≤ length wires → get_or wires from first ≡ Bit term at → AllStand old wires to → Stands old term
part_stands old wires from to first term at run long is all = run_stands wires from to first term at run long is all

-- one more piece above what is built
pub pieces_more : (first mid between new : List Term) (wires : List Wire) (high low id : TermId) (end next width : ℕ) → Grown first mid
    → AllStand mid wires width → end ≤ next → next ≤ width → IsWired mid low wires 0 end →
    Grown mid between → IsWired between high wires end (next - end) → Grows between new → AreTerms new → StandsFor new id ops.Concat (high ∷ low ∷ []) →
    Grown first new × IsWired new id wires 0 next × AllStand new wires width
pieces_more first mid between new wires high low id end next width grown all le most down further up grows made for =
    let last : Grown between new = record { made = made; grows = grows } in
    let whole : Grown mid new = grown_on mid between new further last in
    let n : end + (next - end) ≡ next = omega (arith, le) in
    let low_later = wired_later mid new grown.made whole.grows low wires 0 end (all_stand_less wires (0 + end) width (omega (arith, le, most)) all) down in
    let stand_between = all_stand_later mid between further.grows wires width all in
    let high_later = wired_later between new further.made grows high wires end (next - end)
    (all_stand_less wires (end + (next - end)) width (omega (arith, n, most)) stand_between) up in (
      grown_on first mid new grown whole,
      subst (λ k. IsWired new id wires 0 k) n (joined_wired made wires high low id end (next - end) high_later low_later for),
      all_stand_later mid new whole.grows wires width all,
    )

-- ---- fixed bits

lone_bit : (set : Bool) → bit_at (formulas.bit set) 0 ≡ formulas.bit set
lone_bit true = refl
lone_bit false = refl

pub fixed_more : (wires : List Wire) (from at : ℕ) (d0 : Wire) (set : Bool) (low high r : Word) → at < length wires → from + low.width ≡ at
    → high.value ≡ formulas.bit set → r.value ≡ formulas.concat low.width high.value low.value →
    ((holds : Bool) → get_or wires at d0 ≡ Fixed holds → set ≡ holds) →
    ((k : ℕ) (d : Wire) (holds : Bool) → from + k < at → get_or wires (from + k) d ≡ Fixed holds → bit_at low.value k ≡ formulas.bit holds) →
    (k : ℕ) (d : Wire) (holds : Bool) → from + k < at + 1 → get_or wires (from + k) d ≡ Fixed holds → bit_at r.value k ≡ formulas.bit holds
fixed_more wires from at d0 set low high r long wide is_bit is_r known before k d holds below read =
    ap (λ n. bit_at n k) is_r
    ∙ elim (cases_lt k low.width) [
      | inl lower ↦ bit_at_cat_low high.value low.width low.value k lower ∙ before k d holds (omega (arith, lower, wide)) read
      | inr upper ↦
          let here : from + k ≡ at = omega (arith, upper, wide, below) in
          let top : k - low.width ≡ 0 = omega (arith, wide, below) in
          let is_set : set ≡ holds = known holds (get_or_default wires at d0 d long ∙ ap (λ n. get_or wires n d) (sym here) ∙ read) in
          bit_at_cat_high high.value low.width low.value k low.in_range upper ∙ (λ j. bit_at (is_bit j) (top j)) ∙ lone_bit set ∙ ap formulas.bit is_set
    ]
