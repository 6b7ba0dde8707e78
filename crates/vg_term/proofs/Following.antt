-- Where the bits of what an operation answers come from.
use Rattle.std.proofs.Common.{◌≡◌, ℕ, suc, ◌+◌, ◌-◌, ◌*◌, ◌/◌, ◌%◌, ◌^◌, ◌<◌, ◌≤◌, Bool, false, List, [], ◌∷◌, map, slice_get, Option, Some, None}
use Rattle.std.proofs.Common.{All, refl, sym, ap, subst, ◌∙◌, inl, inr, arith}
use Rattle.std.specs.Prelude.{IfSome, nat_eq}
use Rattle.std.specs.Int.{bit_at}
use Rattle.std.proofs.lemmas.Bool.Decides.{eqb_tells}
use Rattle.std.proofs.lemmas.List.Elements.{All-head, All-tail, All-weaker}
use Rattle.std.proofs.lemmas.Nat.{pow_pos, mod_below}
use Rattle.std.proofs.lemmas.Nat.Bits.{bit_at-zero, bit_at_and, bit_at_or, bit_at_xor, bit_at_above, bit_at_cat_low, bit_at_cat_high}
use Rattle.std.proofs.lemmas.Option.{slice_get_within}
use Rattle.vg_bits.specs.Words as formulas
use Rattle.vg_bits.specs.declared.word.Word.{Word}
use Rattle.vg_term.specs.Operations.{Bits, answer, width_of, Fits}
use Rattle.vg_term.specs.Terms.{Term, AreTerms, Stands, width_at, width_in, listed}
use Rattle.vg_term.specs.Value.{value_of, bits_at, entry_value}
use Rattle.vg_term.specs.Folding.{IsWord}
use Rattle.vg_term.specs.Wiring.{wire_value, WireStands, SameWire, Carries, IsCut, IsBitOp, IsBitwise, bit_op, wire_depth}
use Rattle.vg_term.specs.declared.wire.Wire.{Wire}
use Rattle.vg_term.specs.declared.wire.Wire.TheVariants.{Fixed, Bit}
use Rattle.vg_term.specs.declared.node.TermId.{TermId}
use Rattle.vg_term.specs.declared.node.Op.{Op}
use Rattle.vg_term.specs.declared.node.Op.TheVariants as ops
use Rattle.vg_term.specs.declared.node.Parts.{Parts}
use Rattle.vg_term.specs.declared.node.Parts.TheVariants as parts
use Rattle.vg_term.specs.declared.node.Node.TheVariants as nodes
use Rattle.vg_term.proofs.Made.{is_made}
use Rattle.vg_term.proofs.Values.{value_follows}
use Rattle.vg_term.proofs.Ranges.{term_range, width_most}
use Rattle.vg_term.proofs.RuleLaws.{zero_of}
use Rattle.vg_term.proofs.Wires.{bit_within, bit_moved, bit_cut}

pub if_some : {A : Type 0} (P Q : A → Type 0) (r : Option A) → ((x : A) → P x → Q x) → IfSome r P → IfSome r Q
if_some P Q None turn h = tt
if_some P Q (Some x) turn h = turn x h

set_bit : (n : ℕ) (set : Bool) → set ≡ nat_eq (n % 2) 1 → formulas.bit set ≡ n % 2
set_bit n set e =
    let below : n % 2 < 2 = mod_below n 2 (omega arith) in
    elim (eqb_tells (n % 2) 1) [
      | inl one ↦ ap formulas.bit (e ∙ one.0) ∙ sym one.1
      | inr none ↦ ap formulas.bit (e ∙ none.0) ∙ sym (zero_of (n % 2) below none.1)
    ]

-- ---- cuts

-- what is asked where a cut is looked for
abbrev Asked : List Term → Op → Parts → ℕ → Type 0
Asked terms op p at = All (Stands terms) (listed p) × Fits op (map (width_at terms) (listed p)) × (at < width_of op (map (width_at terms) (listed p)))

cut_at : (terms : List Term) (op op' : Op) (p p' : Parts) (at : ℕ) (wire : Wire) → op ≡ op' → p ≡ p' → All (Stands terms) (listed p)
    → Fits op (map (width_at terms) (listed p)) → at < width_of op (map (width_at terms) (listed p)) →
    (Asked terms op' p' at → IsCut terms op' (listed p') at wire) → IsCut terms op (listed p) at wire
cut_at terms op op' p p' at wire e f stand fits within base =
    let asked : Asked terms op p at = (stand, fits, within) in
    subst (λ (o : Op). IsCut terms o (listed p) at wire) (sym e)
    (subst (λ (q : Parts). IsCut terms op' (listed q) at wire) (sym f)
    (base (subst (λ (q : Parts). Asked terms op' q at) f (subst (λ (o : Op). Asked terms o p at) e asked))))

first_below : (n : ℕ) (t : TermId) (more : List TermId) → All (λ (part : TermId). part.0 < n) (t ∷ more) → suc t.0 ≤ n
first_below n t more h = All-head (λ (part : TermId). part.0 < n) t more h

module _ (terms : List Term) (op : Op) (p : Parts) (at : ℕ) (stand : All (Stands terms) (listed p)) (fits : Fits op (map (width_at terms) (listed p)))
    (within : at < width_of op (map (width_at terms) (listed p))) where
  pub cut_word : (w : Word) (set : Bool) → op ≡ ops.Const w → p ≡ parts.Zero → set ≡ nat_eq (w.value / 2 ^ at % 2) 1 → IsCut terms op (listed p) at (Fixed set)
  cut_word w set e f is =
      cut_at terms op (ops.Const w) p parts.Zero at (Fixed set) e f stand fits within
      (λ asked. record { carries = record { stands = tt; value = λ words assigns. set_bit (w.value / 2 ^ at) set is }; below = λ n all. omega arith })

  -- the place is below 128
  pub cut_fits : AreTerms terms → (from w : ℕ) (t : TermId) → op ≡ ops.Extract from w → p ≡ parts.One t → from + at < 2 ^ 8
  cut_fits made from w t e f =
      let asked : Asked terms (ops.Extract from w) (parts.One t) at = subst (λ (q : Parts). Asked terms (ops.Extract from w) q at) f
      (subst (λ (o : Op). Asked terms o p at) e (stand, fits, within)) in
      omega (arith, asked.1, asked.2, width_most made t (All-head (Stands terms) t [] asked.0))

  pub cut_extract : (from w : ℕ) (t : TermId) → op ≡ ops.Extract from w → p ≡ parts.One t → IsCut terms op (listed p) at (Bit t (from + at))
  cut_extract from w t e f =
      cut_at terms op (ops.Extract from w) p (parts.One t) at (Bit t (from + at)) e f stand fits within
      (λ asked. record {
        carries = record {
          stands = (All-head (Stands terms) t [] asked.0, omega (arith, asked.1, asked.2));
          value = λ words assigns. sym (bit_cut (value_of terms words t) from w at asked.2);
        };
        below = λ n all. first_below n t [] all;
      })

  pub cut_extended : (w : ℕ) (t : TermId) → op ≡ ops.Zext w → p ≡ parts.One t → at < width_at terms t → IsCut terms op (listed p) at (Bit t at)
  cut_extended w t e f low =
      cut_at terms op (ops.Zext w) p (parts.One t) at (Bit t at) e f stand fits within
      (λ asked. record {
        carries = record { stands = (All-head (Stands terms) t [] asked.0, low); value = λ words assigns. refl };
        below =
            λ n all. first_below n t [] all;
      })

  pub cut_above : AreTerms terms → (w : ℕ) (t : TermId) → op ≡ ops.Zext w → p ≡ parts.One t → width_at terms t ≤ at → IsCut terms op (listed p) at (Fixed false)
  cut_above made w t e f high =
      cut_at terms op (ops.Zext w) p (parts.One t) at (Fixed false) e f stand fits within
      (λ asked. record {
        carries = record {
          stands = tt;
          value =
              λ words assigns. sym (bit_at_above (value_of terms words t) (width_at terms t) at
              (term_range made words assigns t (All-head (Stands terms) t [] asked.0)).below high);
        };
        below = λ n all. omega arith;
      })

  pub cut_low : (high low : TermId) → op ≡ ops.Concat → p ≡ parts.Two high low → at < width_at terms low → IsCut terms op (listed p) at (Bit low at)
  cut_low high low e f small =
      cut_at terms op ops.Concat p (parts.Two high low) at (Bit low at) e f stand fits within
      (λ asked. record {
        carries = record {
          stands = (All-head (Stands terms) low [] (All-tail (Stands terms) high (low ∷ []) asked.0), small);
          value = λ words assigns. sym (bit_at_cat_low (value_of terms words high) (width_at terms low) (value_of terms words low) at small);
        };
        below = λ n all. first_below n low [] (All-tail (λ (part : TermId). part.0 < n) high (low ∷ []) all);
      })

  pub cut_high : AreTerms terms → (high low : TermId) (width : ℕ) → op ≡ ops.Concat → p ≡ parts.Two high low → width ≡ width_at terms low → width ≤ at
      → IsCut terms op (listed p) at (Bit high (at - width))
  cut_high made high low width e f wide big =
      cut_at terms op ops.Concat p (parts.Two high low) at (Bit high (at - width)) e f stand fits within
      (λ asked. record {
        carries = record {
          stands = (All-head (Stands terms) high (low ∷ []) asked.0, omega (arith, asked.2, wide, big));
          value = λ words assigns.
              let l = All-head (Stands terms) low [] (All-tail (Stands terms) high (low ∷ []) asked.0) in
              sym (bit_at_cat_high (value_of terms words high) (width_at terms low) (value_of terms words low) at
              (term_range made words assigns low l).below (omega (arith, wide, big))
              ∙ ap (λ n. bit_at (value_of terms words high) (at - n)) (sym wide));
        };
        below = λ n all. first_below n high (low ∷ []) all;
      })

-- ---- the wire below

module _ {terms : List Term} (made : AreTerms terms) (term : TermId) (at : ℕ) (op : Op) (p : Parts) (w : ℕ)
    (here : slice_get terms term.0 ≡ Some (nodes.Op op p, w)) where
  pub below_stand : All (Stands terms) (listed p)
  below_stand =
      let within = slice_get_within terms term.0 (nodes.Op op p, w) here in
      All-weaker (λ (part : TermId). part.0 < term.0) (Stands terms) (λ part lower. omega (arith, lower, within)) (listed p)
      (is_made made term.0 op p w here).before

  pub below_fits : Fits op (map (width_at terms) (listed p))
  below_fits = (is_made made term.0 op p w here).fits

  pub below_within : (wire : Wire) → wire ≡ Bit term at → WireStands terms wire → at < width_of op (map (width_at terms) (listed p))
  below_within wire is stands =
      let there : WireStands terms (Bit term at) = subst (WireStands terms) is stands in
      subst (λ n. at < n) (ap width_in here ∙ (is_made made term.0 op p w here).width) there.1

  pub next_below : (wire : Wire) (r : Option Wire) → wire ≡ Bit term at → IfSome r (λ x. IsCut terms op (listed p) at x)
      → IfSome r (λ next. wire_depth next < wire_depth wire)
  next_below wire r is cut =
      if_some (λ x. IsCut terms op (listed p) at x) (λ next. wire_depth next < wire_depth wire) r
      (λ x h. subst (λ (v : Wire). wire_depth x < wire_depth v) (sym is) (let lower = h.below term.0 (is_made made term.0 op p w here).before in
      omega (arith, lower)))
      cut

  pub next_same : (wire : Wire) (r : Option Wire) → wire ≡ Bit term at → IfSome r (λ x. IsCut terms op (listed p) at x)
      → IfSome r (λ next. SameWire terms wire next)
  next_same wire r is cut =
      if_some (λ x. IsCut terms op (listed p) at x) (λ next. SameWire terms wire next) r
      (λ x h. record {
        stands = h.carries.stands;
        value = λ words assigns.
            h.carries.value words assigns
            ∙ ap (λ n. bit_at n at) (sym (value_follows made words term ∙ ap (entry_value words (bits_at terms words)) here))
            ∙ sym (ap (wire_value terms words) is);
      })
      cut

-- ---- wires of an operation

pub carries_on : (terms : List Term) (op : Op) (ps : List TermId) (at : ℕ) (wire other : Wire) → Carries terms op ps at wire
    → SameWire terms wire other → Carries terms op ps at other
carries_on terms op ps at wire other is same = record { stands = same.stands; value = λ words assigns. same.value words assigns ∙ is.value words assigns }

pub bit_law : (op : Op) (a b : Bits) (at : ℕ) → IsBitOp op → bit_at (answer op (a ∷ b ∷ [])) at ≡ bit_op op (bit_at a.value at) (bit_at b.value at)
bit_law ops.And a b at is = bit_at_and a.value b.value at
bit_law ops.Or a b at is = bit_at_or a.value b.value at
bit_law ops.Xor a b at is = bit_at_xor a.value b.value at
bit_law _ a b at is = absurd is

pub carries_bits : (terms : List Term) (op : Op) (a b : TermId) (at : ℕ) (x y wire : Wire) → SameWire terms (Bit a at) x → SameWire terms (Bit b at) y
    → IsBitwise op x y wire → Carries terms op (a ∷ b ∷ []) at wire
carries_bits terms op a b at x y wire same_x same_y is = record {
  stands = is.stands terms same_x.stands same_y.stands;
  value = λ words assigns.
      is.value terms words
      ∙ (λ j. bit_op op (same_x.value words assigns j) (same_y.value words assigns j))
      ∙ sym (bit_law op (bits_at terms words a) (bits_at terms words b) at is.op);
}

-- shifts by a constant
shifted_bit : (n k at : ℕ) → k ≤ at → bit_at (n * 2 ^ k) at ≡ bit_at n (at - k)
shifted_bit n k at h = ap (λ m. bit_at m at) (let e : n * 2 ^ k ≡ n * 2 ^ k + 0 = omega arith in e) ∙ bit_at_cat_high n k 0 at (pow_pos k) h

shifted_none : (n k at : ℕ) → at < k → 0 ≡ bit_at (n * 2 ^ k) at
shifted_none n k at h = sym (ap (λ m. bit_at m at) (let e : n * 2 ^ k ≡ n * 2 ^ k + 0 = omega arith in e) ∙ bit_at_cat_low n k 0 at h ∙ bit_at-zero at)

module _ (terms : List Term) (op : Op) (a b : TermId) (at : ℕ) (by : Word) (const : IsWord terms b by) where
  shift_is : (words : List Word) → by.value ≡ value_of terms words b
  shift_is words = sym (ap (λ (x : Bits). x.value) (const words))

  pub carries_left_none : op ≡ ops.Shl → at < width_at terms a → at < by.value → Carries terms op (a ∷ b ∷ []) at (Fixed false)
  carries_left_none e within small =
      subst (λ (o : Op). Carries terms o (a ∷ b ∷ []) at (Fixed false)) (sym e)
      record {
        stands = tt;
        value = λ words assigns.
            shifted_none (value_of terms words a) by.value at small
            ∙ ap (λ k. bit_at (value_of terms words a * 2 ^ k) at) (shift_is words)
            ∙ sym (bit_within (value_of terms words a * 2 ^ value_of terms words b) (width_at terms a) at within);
      }

  pub carries_left : op ≡ ops.Shl → at < width_at terms a → by.value ≤ at → (k : ℕ) (wire : Wire) → k ≡ by.value
      → SameWire terms (Bit a (at - k)) wire → Carries terms op (a ∷ b ∷ []) at wire
  carries_left e within big k wire k_is same =
      subst (λ (o : Op). Carries terms o (a ∷ b ∷ []) at wire) (sym e)
      record {
        stands = same.stands;
        value = λ words assigns.
            same.value words assigns
            ∙ ap (λ n. bit_at (value_of terms words a) (at - n)) k_is
            ∙ sym (shifted_bit (value_of terms words a) by.value at big)
            ∙ ap (λ n. bit_at (value_of terms words a * 2 ^ n) at) (shift_is words)
            ∙ sym (bit_within (value_of terms words a * 2 ^ value_of terms words b) (width_at terms a) at within);
      }

  pub carries_right_none : AreTerms terms → Stands terms a → op ≡ ops.Lshr → width_at terms a ≤ by.value + at → Carries terms op (a ∷ b ∷ []) at (Fixed false)
  carries_right_none made stands e past =
      subst (λ (o : Op). Carries terms o (a ∷ b ∷ []) at (Fixed false)) (sym e)
      record {
        stands = tt;
        value = λ words assigns.
            sym (bit_at_above (value_of terms words a) (width_at terms a) (by.value + at) (term_range made words assigns a stands).below past)
            ∙ sym (bit_moved (value_of terms words a) by.value at)
            ∙ ap (λ n. bit_at (value_of terms words a / 2 ^ n) at) (shift_is words);
      }

  pub carries_right : op ≡ ops.Lshr → (k : ℕ) (wire : Wire) → k ≡ by.value → SameWire terms (Bit a (at + k)) wire → Carries terms op (a ∷ b ∷ []) at wire
  carries_right e k wire k_is same =
      subst (λ (o : Op). Carries terms o (a ∷ b ∷ []) at wire) (sym e)
      record {
        stands = same.stands;
        value = λ words assigns.
            same.value words assigns
            ∙ ap (bit_at (value_of terms words a)) (let t : at + k ≡ by.value + at = omega (arith, k_is) in t)
            ∙ sym (bit_moved (value_of terms words a) by.value at)
            ∙ ap (λ n. bit_at (value_of terms words a / 2 ^ n) at) (shift_is words);
      }
