-- Headers at the front of a file.
use Rattle.std.proofs.Common.{◌≡◌, ◌≤◌, ℕ, ◌+◌, List, [], ◌++◌, length, take, drop, refl, sym, ap, ◌∙◌, append_assoc, append-nil, length-append}
use Rattle.std.proofs.Common.{length-drop, arith}
use Rattle.std.proofs.lemmas.List.{drop_at, take_at, length-take-le, take-append-drop, take-append-le, drop-append-le}
use Rattle.std.proofs.Math.Seq.{take-add}
use Rattle.vg_pcap.specs.Captures.{Encoding, HasHeader, HasMagic, IsBadHeader, header_bytes, magic_bytes, version_bytes, link_bytes}
use Rattle.vg_pcap.specs.declared.faults.HeaderField.{HeaderField}
use Rattle.vg_pcap.specs.declared.faults.HeaderField.TheVariants.{Length, Magic, Version, Link}
use Rattle.vg_pcap.proofs.NumberBytes.{length-number_bytes}
use Rattle.vg_pcap.proofs.Pieces.{four_pieces, no_items}

pub length-header_bytes : (encoding : Encoding) (ignored : List ℕ) → length ignored ≡ 12 → length (header_bytes encoding ignored) ≡ 24
unfolding header_bytes
length-header_bytes encoding ignored size =
    simp (length-append, length-number_bytes) (omega arith)

twenty_four : (file : List ℕ) → take 24 file ≡ take 4 file ++ take 4 (drop 4 file) ++ take 12 (drop 8 file) ++ take 4 (drop 20 file)
twenty_four file =
    take-add 20 4 file ∙ ap (λ (front : List ℕ). front ++ take 4 (drop 20 file)) (take-add 8 12 file)
    ∙ ap (λ (front : List ℕ). front ++ take 12 (drop 8 file) ++ take 4 (drop 20 file)) (take-add 4 4 file)

-- a header's parts stand at their places
pub header_of_parts : (encoding : Encoding) (file : List ℕ) → take 4 file ≡ magic_bytes encoding → take 4 (drop 4 file) ≡ version_bytes encoding
    → take 4 (drop 20 file) ≡ link_bytes encoding →
    take 24 file ≡ header_bytes encoding (take 12 (drop 8 file))
unfolding header_bytes
header_of_parts encoding file magic version link =
    let ignored : take 12 (drop 8 file) ≡ take 12 (drop 8 file) = refl in
    twenty_four file ∙ four_pieces magic version ignored link

pub HasHeader-of_parts : (encoding : Encoding) (file : List ℕ) → 24 ≤ length file → take 4 file ≡ magic_bytes encoding
    → take 4 (drop 4 file) ≡ version_bytes encoding →
    take 4 (drop 20 file) ≡ link_bytes encoding → HasHeader encoding file (drop 24 file)
HasHeader-of_parts encoding file long magic version link = record {
  ignored = take 12 (drop 8 file);
  ignored_size = length-take-le 12 (drop 8 file) (omega (arith, length-drop 8 file));
  whole = sym (take-append-drop 24 file) ∙ ap (λ (front : List ℕ). front ++ drop 24 file) (header_of_parts encoding file magic version link);
}

-- the parts of a header
pub record HasParts (encoding : Encoding) (file : List ℕ) : Type 0 where
  pub long : 24 ≤ length file
  pub magic : take 4 file ≡ magic_bytes encoding
  pub version : take 4 (drop 4 file) ≡ version_bytes encoding
  pub link : take 4 (drop 20 file) ≡ link_bytes encoding

pub HasHeader-length : {encoding : Encoding} {file : List ℕ} (behind : List ℕ) → HasHeader encoding file behind → length file ≡ 24 + length behind
HasHeader-length {encoding} behind is =
    rw (is.whole, length-append (header_bytes encoding is.ignored) behind, length-header_bytes encoding is.ignored is.ignored_size) refl

regroup : (m v i l behind : List ℕ) → m ++ v ++ i ++ l ++ behind ≡ m ++ (v ++ (i ++ (l ++ behind)))
regroup m v i l behind = simp append_assoc

-- four pieces of these lengths, and what stands at their places
places : (m v i l behind : List ℕ) → length m ≡ 4 → length v ≡ 4 → length i ≡ 12 → length l ≡ 4 →
    (take 4 (m ++ v ++ i ++ l ++ behind) ≡ m) × (take 4 (drop 4 (m ++ v ++ i ++ l ++ behind)) ≡ v) × (take 4 (drop 20 (m ++ v ++ i ++ l ++ behind)) ≡ l)
places m v i l behind size_m size_v size_i size_l =
    let at_version : drop 4 (m ++ v ++ i ++ l ++ behind) ≡ v ++ (i ++ (l ++ behind)) = ap (drop 4) (regroup m v i l behind)
    ∙ drop_at m (v ++ (i ++ (l ++ behind))) 4 size_m in
    let front : length (m ++ v ++ i) ≡ 20 = omega (arith, length-append (m ++ v) i, length-append m v) in
    let at_link : drop 20 (m ++ v ++ i ++ l ++ behind) ≡ l ++ behind = ap (drop 20) (append_assoc (m ++ v ++ i) l behind)
    ∙ drop_at (m ++ v ++ i) (l ++ behind) 20 front in (
      ap (take 4) (regroup m v i l behind) ∙ take_at m (v ++ (i ++ (l ++ behind))) 4 size_m,
      ap (take 4) at_version ∙ take_at v (i ++ (l ++ behind)) 4 size_v,
      ap (take 4) at_link ∙ take_at l behind 4 size_l,
    )

length-version_bytes : (encoding : Encoding) → length (version_bytes encoding) ≡ 4
length-version_bytes encoding = simp (length-append, length-number_bytes) refl

header_parts : (encoding : Encoding) (ignored behind : List ℕ) → length ignored ≡ 12 → HasParts encoding (header_bytes encoding ignored ++ behind)
unfolding header_bytes
header_parts encoding ignored behind size =
    let o = encoding.order in
    let at = places (magic_bytes encoding) (version_bytes encoding) ignored (link_bytes encoding) behind (length-number_bytes o 4 _)
    (length-version_bytes encoding) size (length-number_bytes o 4 1) in
    record {
      long = omega (arith, length-append (header_bytes encoding ignored) behind, length-header_bytes encoding ignored size);
      magic = at.0;
      version = at.1;
      link = at.2;
    }

pub HasHeader-parts : {encoding : Encoding} {file : List ℕ} (behind : List ℕ) → HasHeader encoding file behind → HasParts encoding file
HasHeader-parts {encoding} behind is = rw is.whole (header_parts encoding is.ignored behind is.ignored_size)

pub magic_of : {encoding : Encoding} {file : List ℕ} → 24 ≤ length file → take 4 file ≡ magic_bytes encoding → HasMagic encoding file
magic_of long magic = record { long = long; magic = magic }

pub HasHeader-whole : (encoding : Encoding) (header : List ℕ) → length header ≡ 24 → take 4 header ≡ magic_bytes encoding
    → take 4 (drop 4 header) ≡ version_bytes encoding →
    take 4 (drop 20 header) ≡ link_bytes encoding → HasHeader encoding header []
HasHeader-whole encoding header size magic version link =
    let is = HasHeader-of_parts encoding header (omega arith) magic version link in
    let nothing : drop 24 header ≡ [] = no_items (drop 24 header) (omega (arith, length-drop 24 header)) in
    rw nothing at is

-- a header, and what stands behind it
pub HasHeader-more : {encoding : Encoding} {header : List ℕ} (behind : List ℕ) → HasHeader encoding header [] → HasHeader encoding (header ++ behind) behind
HasHeader-more {encoding} behind is = record {
  ignored = is.ignored;
  ignored_size = is.ignored_size;
  whole = ap (λ (front : List ℕ). front ++ behind) (is.whole ∙ append-nil (header_bytes encoding is.ignored));
}

-- four bytes of a header stand at their place also where more follows
same_part : (k : ℕ) (header behind : List ℕ) → k + 4 ≤ length header → take 4 (drop k (header ++ behind)) ≡ take 4 (drop k header)
same_part k header behind within =
    ap (take 4) (drop-append-le k header behind (omega arith)) ∙ take-append-le 4 (drop k header) behind (omega (arith, length-drop k header))

magic_more : {encoding : Encoding} (header behind : List ℕ) → HasMagic encoding header → HasMagic encoding (header ++ behind)
magic_more header behind is = let long = is.long in record {
  long = omega (arith, length-append header behind);
  magic = take-append-le 4 header behind (omega arith) ∙ is.magic;
}

-- what is refused of 24 bytes is refused of a file that begins with them
pub IsBadHeader-more : (header behind : List ℕ) (field : HeaderField) → length header ≡ 24 → IsBadHeader header field → IsBadHeader (header ++ behind) field
IsBadHeader-more header behind Length size few = absurd (omega arith)
IsBadHeader-more header behind Magic size (long, none) =
    (omega (arith, length-append header behind), λ encoding e. none encoding (sym (take-append-le 4 header behind (omega arith)) ∙ e))
IsBadHeader-more header behind Version size (encoding, magic, other) =
    (encoding, magic_more header behind magic, λ e. other (sym (same_part 4 header behind (omega arith)) ∙ e))
IsBadHeader-more header behind Link size (encoding, magic, version, other) = (
  encoding,
  magic_more header behind magic,
  same_part 4 header behind (omega arith) ∙ version,
  λ e. other (sym (same_part 20 header behind (omega arith)) ∙ e),
)
