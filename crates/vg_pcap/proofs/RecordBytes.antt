-- What bytes begin with, where records stand.
use Rattle.std.proofs.Common.{◌≡◌, ◌≤◌, ◌+◌, ℕ, List, [], ◌++◌, length, take, drop, refl, sym, ap, ◌∙◌, append_assoc, length-append, length-drop, arith}
use Rattle.std.proofs.lemmas.List.{take-append-drop}
use Rattle.std.proofs.Math.Seq.{take-add}
use Rattle.vg_base.specs.Files.{AreBytes}
use Rattle.vg_pcap.specs.Captures.{Encoding, RecordHead, HasHead, head_bytes, number_bytes}
use Rattle.vg_pcap.specs.Reading.{number_in}
use Rattle.vg_pcap.proofs.NumberBytes.{AreBytes-drop, number_bytes-number, number_bytes-same, length-number_bytes, number_in-small}
use Rattle.vg_pcap.proofs.Pieces.{four_pieces, no_items}

pub length-head_bytes : (encoding : Encoding) (h : RecordHead) → length (head_bytes encoding h) ≡ 16
unfolding head_bytes
length-head_bytes encoding h = simp (length-append, length-number_bytes) refl

pub HasHead-length : {encoding : Encoding} {bytes : List ℕ} {h : RecordHead} (behind : List ℕ) → HasHead encoding bytes h behind
    → length bytes ≡ 16 + length behind
HasHead-length {encoding} {h = h} behind is = rw (is.whole, length-append (head_bytes encoding h) behind, length-head_bytes encoding h) refl

sixteen : (bytes : List ℕ) → take 4 bytes ++ take 4 (drop 4 bytes) ++ take 4 (drop 8 bytes) ++ take 4 (drop 12 bytes) ≡ take 16 bytes
sixteen bytes =
    ap (λ (front : List ℕ). front ++ take 4 (drop 8 bytes) ++ take 4 (drop 12 bytes)) (sym (take-add 4 4 bytes))
    ∙ ap (λ (front : List ℕ). front ++ take 4 (drop 12 bytes)) (sym (take-add 8 4 bytes)) ∙ sym (take-add 12 4 bytes)

-- the numbers in the first sixteen bytes
abbrev pub head_at : Encoding → List ℕ → RecordHead
head_at encoding bytes = record {
  seconds = number_in encoding.order 4 bytes;
  fraction = number_in encoding.order 4 (drop 4 bytes);
  size = number_in encoding.order 4 (drop 8 bytes);
  original = number_in encoding.order 4 (drop 12 bytes);
}

head_at-bytes : (encoding : Encoding) (bytes : List ℕ) → 16 ≤ length bytes → AreBytes bytes → head_bytes encoding (head_at encoding bytes) ≡ take 16 bytes
unfolding head_bytes
head_at-bytes encoding bytes long small =
    let o = encoding.order in
    four_pieces (number_bytes-number o 4 bytes (omega arith) small) (number_bytes-number o 4 (drop 4 bytes) (omega (arith, length-drop 4 bytes))
    (AreBytes-drop 4 bytes small))
    (number_bytes-number o 4 (drop 8 bytes) (omega (arith, length-drop 8 bytes)) (AreBytes-drop 8 bytes small))
    (number_bytes-number o 4 (drop 12 bytes) (omega (arith, length-drop 12 bytes)) (AreBytes-drop 12 bytes small)) ∙ sixteen bytes

-- sixteen bytes are the numbers before a record
pub HasHead-read : (encoding : Encoding) (bytes : List ℕ) → 16 ≤ length bytes → AreBytes bytes → HasHead encoding bytes (head_at encoding bytes) (drop 16 bytes)
HasHead-read encoding bytes long small =
    let o = encoding.order in
    record {
      seconds = number_in-small o 4 bytes small;
      fraction = number_in-small o 4 (drop 4 bytes) (AreBytes-drop 4 bytes small);
      size = number_in-small o 4 (drop 8 bytes) (AreBytes-drop 8 bytes small);
      original = number_in-small o 4 (drop 12 bytes) (AreBytes-drop 12 bytes small);
      whole = sym (take-append-drop 16 bytes) ∙ ap (λ (front : List ℕ). front ++ drop 16 bytes) (sym (head_at-bytes encoding bytes long small));
    }

pub HasHead-more : {encoding : Encoding} {bytes : List ℕ} {h : RecordHead} {a : List ℕ} (more : List ℕ) → HasHead encoding bytes h a
    → HasHead encoding (bytes ++ more) h (a ++ more)
HasHead-more {encoding} {h = h} {a = a} more is = record {
  seconds = is.seconds;
  fraction = is.fraction;
  size = is.size;
  original = is.original;
  whole = ap (λ (front : List ℕ). front ++ more) is.whole ∙ append_assoc (head_bytes encoding h) a more;
}

abbrev head_with : ℕ → ℕ → ℕ → ℕ → RecordHead
head_with a b c d = record { seconds = a; fraction = b; size = c; original = d }

same_numbers : {a b c d a' b' c' d' : ℕ} → a ≡ a' → b ≡ b' → c ≡ c' → d ≡ d' → head_with a b c d ≡ head_with a' b' c' d'
same_numbers p q r s = cc

same_head : {h g : RecordHead} → h.seconds ≡ g.seconds → h.fraction ≡ g.fraction → h.size ≡ g.size → h.original ≡ g.original → h ≡ g
same_head p q r s = same_numbers p q r s

regroup : (a b c d rest : List ℕ) → a ++ b ++ c ++ d ++ rest ≡ a ++ (b ++ (c ++ (d ++ rest)))
regroup a b c d rest = simp append_assoc

-- the bytes tell the numbers that they begin with, and what stands behind them
pub HasHead-same : {encoding : Encoding} {bytes : List ℕ} (h g : RecordHead) (a b : List ℕ) → HasHead encoding bytes h a → HasHead encoding bytes g b
    → (h ≡ g) × (a ≡ b)
unfolding head_bytes
HasHead-same {encoding} h g a b x y =
    let o = encoding.order in
    let both = sym (regroup (number_bytes o 4 h.seconds) (number_bytes o 4 h.fraction) (number_bytes o 4 h.size) (number_bytes o 4 h.original) a)
    ∙ (sym x.whole ∙ y.whole)
    ∙ regroup (number_bytes o 4 g.seconds) (number_bytes o 4 g.fraction) (number_bytes o 4 g.size) (number_bytes o 4 g.original) b in
    let seconds = number_bytes-same o 4 h.seconds g.seconds _ _ x.seconds y.seconds both in
    let fraction = number_bytes-same o 4 h.fraction g.fraction _ _ x.fraction y.fraction seconds.rest in
    let size = number_bytes-same o 4 h.size g.size _ _ x.size y.size fraction.rest in
    let original = number_bytes-same o 4 h.original g.original _ _ x.original y.original size.rest in
    (same_head seconds.number fraction.number size.number original.number, original.rest)

-- these numbers stand at their places in sixteen bytes
pub HasHead-sixteen : (encoding : Encoding) (bytes : List ℕ) (h : RecordHead) → length bytes ≡ 16 → AreBytes bytes
    → h.seconds ≡ number_in encoding.order 4 bytes →
    h.fraction ≡ number_in encoding.order 4 (drop 4 bytes) → h.size ≡ number_in encoding.order 4 (drop 8 bytes)
    → h.original ≡ number_in encoding.order 4 (drop 12 bytes) →
    HasHead encoding bytes h []
HasHead-sixteen encoding bytes h size small p q r s =
    let nothing : drop 16 bytes ≡ [] = no_items (drop 16 bytes) (omega (arith, length-drop 16 bytes)) in
    let same : head_at encoding bytes ≡ h = same_head (sym p) (sym q) (sym r) (sym s) in
    rw (same, nothing) at (HasHead-read encoding bytes (omega arith) small)
