-- Records, one after another, up to an end.
use Rattle.std.proofs.Common.{◌≡◌, ◌≢◌, ◌≤◌, ◌<◌, ◌+◌, ◌^◌, ◌⊎◌, inl, inr, ℕ, zero, suc, Option, Some, None, List, [], ◌∷◌, ◌++◌, length, take, drop}
use Rattle.std.proofs.Common.{refl, sym, ap, ◌∙◌, append_assoc, length-append, All, if◌then◌else◌, nat_le, nat_lt, arith}
use Rattle.std.specs.List.{flat_map}
use Rattle.std.proofs.lemmas.List.{drop_at}
use Rattle.std.proofs.lemmas.List.Elements.{All-nil, All-cons}
use Rattle.std.proofs.lemmas.Bool.{cases_lt}
use Rattle.std.proofs.lemmas.Bool.Decides.{nat_tests}
use Rattle.vg_base.specs.Files.{AreBytes}
use Rattle.vg_pcap.specs.declared.faults.Damage.{Damage}
use Rattle.vg_pcap.specs.declared.faults.Damage.TheVariants.{Cut, Long, Fraction}
use Rattle.vg_pcap.specs.Captures.{Encoding, Microseconds, Nanoseconds, Record, RecordHead, HasHead, head_of, IsGood, record_bytes, head_bytes}
use Rattle.vg_pcap.specs.Captures.{IsDamaged, CaptureEnd, Whole, Refused, EndsWith, AreRecords, units_per_second, longest}
use Rattle.vg_pcap.specs.Reading.{HasRecord}
use Rattle.vg_pcap.proofs.NumberBytes.{AreBytes-drop}
use Rattle.vg_pcap.proofs.Pieces.{same_front, no_items}
use Rattle.vg_pcap.proofs.Taken.{HasRecord-of_head}
use Rattle.vg_pcap.proofs.RecordBytes.{head_at, HasHead-length, HasHead-read, HasHead-same}

-- ---- what the numbers before a record tell

-- why a record with these numbers is refused, where so many bytes stand behind them
abbrev judge : ℕ → RecordHead → ℕ → Option Damage
judge units h rest = if nat_le units h.fraction then Some Fraction else if nat_lt longest h.size then Some Long else if nat_lt rest h.size then Some
    Cut else None

judge_fraction : (units : ℕ) (h : RecordHead) (rest : ℕ) → units ≤ h.fraction → judge units h rest ≡ Some Fraction
judge_fraction units h rest second = grind (arith, nat_tests)

judge_long : (units : ℕ) (h : RecordHead) (rest : ℕ) → h.fraction < units → longest < h.size → judge units h rest ≡ Some Long
judge_long units h rest less long = grind (arith, nat_tests)

judge_cut : (units : ℕ) (h : RecordHead) (rest : ℕ) → h.fraction < units → h.size ≤ longest → rest < h.size → judge units h rest ≡ Some Cut
judge_cut units h rest less short cut = grind (arith, nat_tests)

judge_good : (units : ℕ) (h : RecordHead) (rest : ℕ) → h.fraction < units → h.size ≤ longest → h.size ≤ rest → judge units h rest ≡ None
judge_good units h rest less short whole = grind (arith, nat_tests)

-- a judgement of what the bytes begin with is one of what they are said to begin with
told_same : {encoding : Encoding} {bytes : List ℕ} {answer : Option Damage} (h g : RecordHead) (a b : List ℕ) → HasHead encoding bytes h a
    → HasHead encoding bytes g b →
    judge (units_per_second encoding.resolution) g (length b) ≡ answer → judge (units_per_second encoding.resolution) h (length a) ≡ answer
told_same h g a b x y e = let same = HasHead-same h g a b x y in rw (same.0, same.1) e

judged : {encoding : Encoding} {bytes : List ℕ} (h : RecordHead) (behind : List ℕ) (damage : Damage) → HasHead encoding bytes h behind
    → IsDamaged encoding bytes damage →
    judge (units_per_second encoding.resolution) h (length behind) ≡ Some damage
judged h behind Fraction head (g, b, other, second) = told_same h g behind b head other (judge_fraction _ g (length b) second)
judged h behind Long head (g, b, other, less, long) = told_same h g behind b head other (judge_long _ g (length b) less long)
judged h behind Cut head (inl (some, few)) = absurd (omega (arith, HasHead-length behind head))
judged h behind Cut head (inr (g, b, other, less, short, cut)) = told_same h g behind b head other (judge_cut _ g (length b) less short cut)

-- the numbers before a good record
HasRecord-head : {encoding : Encoding} {bytes : List ℕ} {r : Record} (behind : List ℕ) → HasRecord encoding bytes r behind
    → HasHead encoding bytes (head_of r) (r.captured ++ behind)
HasRecord-head {encoding} {r = r} behind is = record {
  seconds = is.good.seconds;
  fraction = fits_four encoding r is.good;
  size = omega (arith, is.good.captured);
  original = is.good.original;
  whole = is.whole ∙ append_assoc (head_bytes encoding (head_of r)) r.captured behind;
}
  where
    fits_four : (encoding : Encoding) (r : Record) → IsGood encoding r → r.fraction < 2 ^ 32
    fits_four encoding r good = elim encoding.resolution as (λ each. r.fraction < units_per_second each → r.fraction < 2 ^ 32)
        [ Microseconds ↦ λ h. omega arith | Nanoseconds ↦ λ h. omega arith ] good.fraction

pub HasRecord-length : {encoding : Encoding} {bytes : List ℕ} {r : Record} (behind : List ℕ) → HasRecord encoding bytes r behind
    → length bytes ≡ 16 + (length r.captured + length behind)
HasRecord-length {r = r} behind is = omega (arith, HasHead-length (r.captured ++ behind) (HasRecord-head behind is), length-append r.captured behind)

-- ---- bytes begin with one thing

some_is : {x y : Damage} → Some x ≡ Some y → x ≡ y
some_is e = cc

pub IsDamaged-some : (encoding : Encoding) (bytes : List ℕ) (damage : Damage) → IsDamaged encoding bytes damage → bytes ≢ []
IsDamaged-some encoding bytes Fraction (h, b, head, second) e = omega (arith, HasHead-length b head, ap (λ (xs : List ℕ). length xs) e)
IsDamaged-some encoding bytes Long (h, b, head, less, long) e = omega (arith, HasHead-length b head, ap (λ (xs : List ℕ). length xs) e)
IsDamaged-some encoding bytes Cut (inl (some, few)) e = some e
IsDamaged-some encoding bytes Cut (inr (h, b, head, less, short, cut)) e = omega (arith, HasHead-length b head, ap (λ (xs : List ℕ). length xs) e)

-- a record is refused for one reason
pub IsDamaged-same : (encoding : Encoding) (bytes : List ℕ) (c d : Damage) → IsDamaged encoding bytes c → IsDamaged encoding bytes d → c ≡ d
IsDamaged-same encoding bytes Fraction d (h, b, head, second) y = some_is (sym (judged h b Fraction head (h, b, head, second)) ∙ judged h b d head y)
IsDamaged-same encoding bytes Long d (h, b, head, less, long) y = some_is (sym (judged h b Long head (h, b, head, less, long)) ∙ judged h b d head y)
IsDamaged-same encoding bytes Cut d (inr (h, b, head, less, short, cut)) y = some_is (sym (judged h b Cut head (inr (h, b, head, less, short, cut)))
    ∙ judged h b d head y)
IsDamaged-same encoding bytes Cut Cut (inl few) y = refl
IsDamaged-same encoding bytes Cut Fraction (inl few) (h, b, head, second) = absurd (omega (arith, few.1, HasHead-length b head))
IsDamaged-same encoding bytes Cut Long (inl few) (h, b, head, less, long) = absurd (omega (arith, few.1, HasHead-length b head))

-- a good record is not refused
pub HasRecord-whole : {encoding : Encoding} {bytes : List ℕ} {r : Record} (behind : List ℕ) (damage : Damage) → HasRecord encoding bytes r behind
    → IsDamaged encoding bytes damage → ⊥
HasRecord-whole {r = r} behind damage is bad =
    let head = HasRecord-head behind is in
    let good = judge_good _ (head_of r) (length (r.captured ++ behind)) is.good.fraction is.good.captured (omega (arith, length-append r.captured behind)) in
    none_some (sym good ∙ judged (head_of r) (r.captured ++ behind) damage head bad)
  where
    none_some : {d : Damage} → None ≡ Some d → ⊥
    none_some e = cc

-- the bytes tell the good record that they begin with, and what stands behind it
pub record SameRecord (r s : Record) (a b : List ℕ) : Type 0 where
  pub record_is : r ≡ s
  pub rest : a ≡ b

abbrev record_with : ℕ → ℕ → ℕ → List ℕ → Record
record_with a b c d = record { seconds = a; fraction = b; original = c; captured = d }

same_fields : {a a' b b' c c' : ℕ} {d d' : List ℕ} → a ≡ a' → b ≡ b' → c ≡ c' → d ≡ d' → record_with a b c d ≡ record_with a' b' c' d'
same_fields p q r s = cc

same_record : {r s : Record} → head_of r ≡ head_of s → r.captured ≡ s.captured → r ≡ s
same_record heads captured = same_fields (ap (λ (h : RecordHead). h.seconds) heads) (ap (λ (h : RecordHead). h.fraction) heads)
    (ap (λ (h : RecordHead). h.original) heads) captured

pub HasRecord-same : {encoding : Encoding} {bytes : List ℕ} (r s : Record) (a b : List ℕ) → HasRecord encoding bytes r a
    → HasRecord encoding bytes s b → SameRecord r s a b
HasRecord-same r s a b x y =
    let heads = HasHead-same (head_of r) (head_of s) (r.captured ++ a) (s.captured ++ b) (HasRecord-head a x) (HasRecord-head b y) in
    let body = same_front r.captured s.captured a b (ap (λ (h : RecordHead). h.size) heads.0) heads.1 in
    record { record_is = same_record heads.0 body.0; rest = body.1 }

-- ---- whole captures

-- the first of good records
first_of : {encoding : Encoding} {bytes : List ℕ} (r : Record) (rs : List Record) (rest : List ℕ) → All (IsGood encoding) (r ∷ rs)
    → bytes ≡ flat_map (record_bytes encoding) (r ∷ rs) ++ rest →
    HasRecord encoding bytes r (flat_map (record_bytes encoding) rs ++ rest)
first_of {encoding} r rs rest good whole = record {
  good = good 0 r (omega arith);
  whole = whole ∙ append_assoc (record_bytes encoding r) (flat_map (record_bytes encoding) rs) rest;
}

others_good : {encoding : Encoding} (r : Record) (rs : List Record) → All (IsGood encoding) (r ∷ rs) → All (IsGood encoding) rs
others_good r rs all = λ k d h. all (suc k) d (omega arith)

-- where no good record is the first, the end is what the bytes begin with
begins_damaged : {encoding : Encoding} {bytes : List ℕ} (damage : Damage) (records : List Record) (end : CaptureEnd) (rest : List ℕ)
    → IsDamaged encoding bytes damage →
    All (IsGood encoding) records → bytes ≡ flat_map (record_bytes encoding) records ++ rest → EndsWith encoding rest end → (records ≡ [])
    × (end ≡ Refused damage)
begins_damaged {encoding} {bytes} damage [] Whole rest bad good whole ends = absurd (IsDamaged-some encoding bytes damage bad (whole ∙ ends))
begins_damaged {encoding} {bytes} damage [] (Refused d) rest bad good whole ends =
    (refl, ap Refused (IsDamaged-same encoding rest d damage ends (rw whole at bad)))
begins_damaged {encoding} {bytes} damage (r ∷ rs) end rest bad good whole ends = absurd (HasRecord-whole _ damage (first_of r rs rest good whole) bad)

begins_none : {encoding : Encoding} (records : List Record) (end : CaptureEnd) (rest : List ℕ) → All (IsGood encoding) records
    → [] ≡ flat_map (record_bytes encoding) records ++ rest →
    EndsWith encoding rest end → (records ≡ []) × (end ≡ Whole)
begins_none [] Whole rest good whole ends = (refl, refl)
begins_none {encoding} [] (Refused d) rest good whole ends = absurd (IsDamaged-some encoding rest d ends (sym whole))
begins_none (r ∷ rs) end rest good whole ends = absurd (omega (arith, HasRecord-length _ (first_of r rs rest good whole)))

-- these records, behind the first one
pub record Follow (encoding : Encoding) (behind : List ℕ) (r : Record) (records : List Record) (end : CaptureEnd) : Type 0 where
  pub others : List Record
  pub first : records ≡ r ∷ others
  pub are : AreRecords encoding behind others end

begins_whole : {encoding : Encoding} {bytes : List ℕ} {r : Record} (behind : List ℕ) (records : List Record) (end : CaptureEnd) (rest : List ℕ)
    → HasRecord encoding bytes r behind →
    All (IsGood encoding) records → bytes ≡ flat_map (record_bytes encoding) records ++ rest → EndsWith encoding rest end → Follow encoding behind r records end
begins_whole behind [] Whole rest is good whole ends = absurd (omega (arith, HasRecord-length behind is, ap (λ (xs : List ℕ). length xs) (whole ∙ ends)))
begins_whole behind [] (Refused d) rest is good whole ends = absurd (HasRecord-whole behind d (rw whole at is) ends)
begins_whole {r = r} behind (s ∷ rs) end rest is good whole ends =
    let same = HasRecord-same r s behind _ is (first_of s rs rest good whole) in
    record {
      others = rs;
      first = ap (λ (q : Record). q ∷ rs) (sym same.record_is);
      are = record { good = others_good s rs good; rest = rest; whole = same.rest; ends = ends };
    }

pub AreRecords-first : {encoding : Encoding} {bytes : List ℕ} {r : Record} (behind : List ℕ) (records : List Record) (end : CaptureEnd)
    → HasRecord encoding bytes r behind →
    AreRecords encoding bytes records end → Follow encoding behind r records end
AreRecords-first behind records end is are = begins_whole behind records end are.rest is are.good are.whole are.ends

pub AreRecords-damaged : (encoding : Encoding) (bytes : List ℕ) (damage : Damage) (records : List Record) (end : CaptureEnd) → IsDamaged encoding bytes damage →
    AreRecords encoding bytes records end → (records ≡ []) × (end ≡ Refused damage)
AreRecords-damaged encoding bytes damage records end bad are = begins_damaged damage records end are.rest bad are.good are.whole are.ends

pub AreRecords-none : (encoding : Encoding) (bytes : List ℕ) (records : List Record) (end : CaptureEnd) → bytes ≡ []
    → AreRecords encoding bytes records end → (records ≡ []) × (end ≡ Whole)
AreRecords-none encoding bytes records end nothing are = begins_none records end are.rest are.good (sym nothing ∙ are.whole) are.ends

pub AreRecords-end : (encoding : Encoding) → AreRecords encoding [] [] Whole
AreRecords-end encoding = record { good = All-nil (IsGood encoding); rest = []; whole = refl; ends = refl }

-- the bytes tell their records, and how they end
pub AreRecords-same : (encoding : Encoding) (bytes : List ℕ) (rs ss : List Record) (c d : CaptureEnd) → AreRecords encoding bytes rs c
    → AreRecords encoding bytes ss d → (rs ≡ ss) × (c ≡ d)
AreRecords-same encoding bytes [] ss Whole d x y = let all = AreRecords-none encoding bytes ss d (x.whole ∙ x.ends) y in (sym all.0, sym all.1)
AreRecords-same encoding bytes [] ss (Refused damage) d x y = let all = AreRecords-damaged encoding bytes damage ss d (rw x.whole x.ends) y in
    (sym all.0, sym all.1)
AreRecords-same encoding bytes (r ∷ rs) ss c d x y =
    let follow = AreRecords-first _ ss d (first_of r rs x.rest x.good x.whole) y in
    let rest : AreRecords encoding (flat_map (record_bytes encoding) rs ++ x.rest) rs c = record {
      good = others_good r rs x.good;
      rest =
          x.rest;
      whole = refl;
      ends = x.ends;
    } in
    let both = AreRecords-same encoding (flat_map (record_bytes encoding) rs ++ x.rest) rs follow.others c d rest follow.are in
    (ap (λ (qs : List Record). r ∷ qs) both.0 ∙ sym follow.first, both.1)

-- ---- any bytes are records up to an end

-- the bytes are at their end, or a good record is the first, or one that is refused
abbrev Begins : Encoding → List ℕ → Type 0
Begins encoding bytes = (bytes ≡ []) ⊎ (((damage : Damage) × IsDamaged encoding bytes damage)
    ⊎ ((r : Record) × (behind : List ℕ) × HasRecord encoding bytes r behind))

begins_short : (encoding : Encoding) (bytes : List ℕ) → length bytes < 16 → Begins encoding bytes
begins_short encoding [] few = inl refl
begins_short encoding (b ∷ bytes) few = inr (inl (Cut, inl (λ e. cc (e), few)))

begins_head : (encoding : Encoding) (bytes rest : List ℕ) (h : RecordHead) → HasHead encoding bytes h rest → Begins encoding bytes
begins_head encoding bytes rest h head = elim (cases_lt h.fraction (units_per_second encoding.resolution)) [
  | inr second ↦ inr (inl (Fraction, (h, rest, head, second)))
  | inl less ↦ elim (cases_lt longest h.size) [
    | inl long ↦ inr (inl (Long, (h, rest, head, less, long)))
    | inr short ↦ elim (cases_lt (length rest) h.size) [
      | inl cut ↦ inr (inl (Cut, inr (h, rest, head, less, short, cut)))
      | inr enough ↦ inr (inr (_, drop h.size rest, HasRecord-of_head bytes rest (take h.size rest) head less short enough refl))
    ]
  ]
]

begins : (encoding : Encoding) (bytes : List ℕ) → AreBytes bytes → Begins encoding bytes
begins encoding bytes small = elim (cases_lt (length bytes) 16) [
  | inl few ↦ begins_short encoding bytes few
  | inr long ↦ begins_head encoding bytes (drop 16 bytes) (head_at encoding bytes) (HasHead-read encoding bytes long small)
]

AreBytes-behind : (front behind : List ℕ) → AreBytes (front ++ behind) → AreBytes behind
AreBytes-behind front behind small = rw (drop_at front behind (length front) refl) at (AreBytes-drop (length front) (front ++ behind) small)

-- a record in front is one more
AreRecords-more : {encoding : Encoding} {bytes : List ℕ} {r : Record} (behind : List ℕ) (records : List Record) (end : CaptureEnd)
    → HasRecord encoding bytes r behind →
    AreRecords encoding behind records end → AreRecords encoding bytes (r ∷ records) end
AreRecords-more {encoding} {r = r} behind records end is are = record {
  good = All-cons (IsGood encoding) r records is.good are.good;
  rest = are.rest;
  whole = is.whole ∙ ap (λ (back : List ℕ). record_bytes encoding r ++ back) are.whole ∙ sym
      (append_assoc (record_bytes encoding r) (flat_map (record_bytes encoding) records) are.rest);
  ends = are.ends;
}

records_upto : (fuel : ℕ) (encoding : Encoding) (bytes : List ℕ) → length bytes ≤ fuel → AreBytes bytes → (records : List Record) × (end : CaptureEnd)
    × AreRecords encoding bytes records end
records_upto zero encoding bytes few small = ([], Whole, rw (no_items bytes (omega arith)) (AreRecords-end encoding))
records_upto (suc fuel) encoding bytes few small = elim (begins encoding bytes small) [
  | inl nothing ↦ ([], Whole, rw nothing (AreRecords-end encoding))
  | inr some ↦ elim some [
    | inl bad ↦ ([], Refused bad.0, record { good = All-nil (IsGood encoding); rest = bytes; whole = refl; ends = bad.1 })
    | inr first ↦
        let behind = first.1 in
        let others = records_upto fuel encoding behind (omega (arith, HasRecord-length behind first.2))
        (AreBytes-behind (record_bytes encoding first.0) behind (rw first.2.whole at small)) in
        (first.0 ∷ others.0, others.1, AreRecords-more behind others.0 others.1 first.2 others.2)
  ]
]

-- any bytes are good records, one after another, up to some end
pub records_of : (encoding : Encoding) (bytes : List ℕ) → AreBytes bytes → (records : List Record) × (end : CaptureEnd) × AreRecords encoding bytes records end
records_of encoding bytes small = records_upto (length bytes) encoding bytes (omega arith) small
