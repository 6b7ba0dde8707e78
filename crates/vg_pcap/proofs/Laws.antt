-- What a reader of the definitions may rely on: any file has a bad header or is one stream, and what is written is read again as the same frames.
use Rattle.std.proofs.Common.{◌≡◌, ◌≢◌, ◌≤◌, ◌⊎◌, inl, inr, max, ℕ, suc, List, [], ◌∷◌, ◌++◌, length, take, drop, slice_index, append-nil, refl, sym}
use Rattle.std.proofs.Common.{ap, ◌∙◌, All, arith}
use Rattle.std.specs.List.{flat_map}
use Rattle.std.specs.List.Sorted.{IsNonDecreasingBy}
use Rattle.std.specs.Prelude.{map}
use Rattle.std.proofs.lemmas.List.Elements.{All-nil, All-cons}
use Rattle.std.proofs.lemmas.Bool.{cases_Bool, cases_lt, false≢true}
use Rattle.std.proofs.lemmas.Slice.Eq.{bytes_eq-Decides}
use Rattle.std.specs.Str.{bytes_eq}
use Rattle.std.proofs.lemmas.List.{drop_at}
use Rattle.std.proofs.Math.Nat.{max-eq_right}
use Rattle.vg_base.specs.Files.{AreBytes}
use Rattle.vg_pcap.specs.declared.faults.HeaderField.{HeaderField}
use Rattle.vg_pcap.specs.declared.faults.HeaderField.TheVariants.{Length, Magic, Version, Link}
use Rattle.vg_pcap.specs.Captures.{Encoding, Order, Little, Big, Resolution, Microseconds, Nanoseconds, magic_bytes, version_bytes, link_bytes}
use Rattle.vg_pcap.specs.Captures.{number_bytes, longest, HasHeader, IsBadHeader, header_bytes, IsGood, record_bytes, CaptureEnd, Whole, AreRecords}
use Rattle.vg_pcap.specs.Frames.{Framed, Stream, Fits, frames_after, time_of, HoldsStream, written_encoding, written_record, record_of, capture_of}
use Rattle.vg_pcap.proofs.FileHeaders.{HasParts, HasHeader-of_parts, HasHeader-parts, length-header_bytes}
use Rattle.vg_pcap.proofs.RecordLists.{AreRecords-same}
use Rattle.vg_pcap.proofs.Starting.{stream_behind}

-- ---- headers

abbrev encoding_with : Order → Resolution → Encoding
encoding_with order resolution = record { order = order; resolution = resolution }

first_differs : {xs ys : List ℕ} → xs ≡ ys → slice_index xs 0 ≡ slice_index ys 0
first_differs e = ap (λ (bytes : List ℕ). slice_index bytes 0) e

third_differs : {xs ys : List ℕ} → xs ≡ ys → slice_index xs 2 ≡ slice_index ys 2
third_differs e = ap (λ (bytes : List ℕ). slice_index bytes 2) e

-- a magic is one of one encoding
same_magic : (order : Order) (resolution : Resolution) (order' : Order) (resolution' : Resolution)
    → magic_bytes (encoding_with order resolution) ≡ magic_bytes (encoding_with order' resolution') →
    encoding_with order resolution ≡ encoding_with order' resolution'
same_magic Little Microseconds Little Microseconds e = refl
same_magic Little Microseconds Little Nanoseconds e = absurd (omega (arith, first_differs e))
same_magic Little Microseconds Big Microseconds e = absurd (omega (arith, first_differs e))
same_magic Little Microseconds Big Nanoseconds e = absurd (omega (arith, first_differs e))
same_magic Little Nanoseconds Little Microseconds e = absurd (omega (arith, first_differs e))
same_magic Little Nanoseconds Little Nanoseconds e = refl
same_magic Little Nanoseconds Big Microseconds e = absurd (omega (arith, first_differs e))
same_magic Little Nanoseconds Big Nanoseconds e = absurd (omega (arith, first_differs e))
same_magic Big Microseconds Little Microseconds e = absurd (omega (arith, first_differs e))
same_magic Big Microseconds Little Nanoseconds e = absurd (omega (arith, first_differs e))
same_magic Big Microseconds Big Microseconds e = refl
same_magic Big Microseconds Big Nanoseconds e = absurd (omega (arith, third_differs e))
same_magic Big Nanoseconds Little Microseconds e = absurd (omega (arith, first_differs e))
same_magic Big Nanoseconds Little Nanoseconds e = absurd (omega (arith, first_differs e))
same_magic Big Nanoseconds Big Microseconds e = absurd (omega (arith, third_differs e))
same_magic Big Nanoseconds Big Nanoseconds e = refl

pub magic_tells : (e f : Encoding) (front : List ℕ) → front ≡ magic_bytes e → front ≡ magic_bytes f → e ≡ f
magic_tells e f front x y = same_magic e.order e.resolution f.order f.resolution (sym x ∙ y)

-- what stands behind a header is told by the file
pub HasHeader-same : {e f : Encoding} {file : List ℕ} (a b : List ℕ) → HasHeader e file a → HasHeader f file b → (e ≡ f) × (a ≡ b)
HasHeader-same {e} {f} {file} a b x y = (
  magic_tells e f (take 4 file) (HasHeader-parts a x).magic (HasHeader-parts b y).magic,
  sym (drop_at (header_bytes e x.ignored) a 24 (length-header_bytes e x.ignored x.ignored_size)) ∙ ap (drop 24) (sym x.whole ∙ y.whole)
      ∙ drop_at (header_bytes f y.ignored) b 24 (length-header_bytes f y.ignored y.ignored_size),
)

-- a file with a header has no bad one
pub IsBadHeader-none : {encoding : Encoding} {file : List ℕ} (behind : List ℕ) (field : HeaderField) → HasHeader encoding file behind
    → IsBadHeader file field → ⊥
IsBadHeader-none {encoding} {file} behind field is bad = has_none field (HasHeader-parts behind is) bad
  where
    has_none : (field : HeaderField) → HasParts encoding file → IsBadHeader file field → ⊥
    has_none Length parts few = omega (arith, parts.long)
    has_none Magic parts (long, none) = none encoding parts.magic
    has_none Version parts (f, has, other) = let same = magic_tells f encoding (take 4 file) has.magic parts.magic in other (rw same parts.version)
    has_none Link parts (f, has, version, other) = let same = magic_tells f encoding (take 4 file) has.magic parts.magic in other (rw same parts.link)

-- a header is bad for one reason
pub IsBadHeader-same : (file : List ℕ) (c d : HeaderField) → IsBadHeader file c → IsBadHeader file d → c ≡ d
IsBadHeader-same file Length Length x y = refl
IsBadHeader-same file Length Magic x (long, none) = absurd (omega arith)
IsBadHeader-same file Length Version x (f, has, other) = absurd (omega (arith, has.long))
IsBadHeader-same file Length Link x (f, has, version, other) = absurd (omega (arith, has.long))
IsBadHeader-same file Magic Length (long, none) y = absurd (omega arith)
IsBadHeader-same file Magic Magic x y = refl
IsBadHeader-same file Magic Version (long, none) (f, has, other) = absurd (none f has.magic)
IsBadHeader-same file Magic Link (long, none) (f, has, version, other) = absurd (none f has.magic)
IsBadHeader-same file Version Length (f, has, other) y = absurd (omega (arith, has.long))
IsBadHeader-same file Version Magic (f, has, other) (long, none) = absurd (none f has.magic)
IsBadHeader-same file Version Version x y = refl
IsBadHeader-same file Version Link (f, has, other) (g, has_too, version, link) =
    let same = magic_tells f g (take 4 file) has.magic has_too.magic in absurd (other (rw same version))
IsBadHeader-same file Link Length (f, has, version, other) y = absurd (omega (arith, has.long))
IsBadHeader-same file Link Magic (f, has, version, other) (long, none) = absurd (none f has.magic)
IsBadHeader-same file Link Version (f, has, version, link) (g, has_too, other) =
    let same = magic_tells g f (take 4 file) has_too.magic has.magic in absurd (other (rw same version))
IsBadHeader-same file Link Link x y = refl

-- ---- streams

abbrev stream_with : List Framed → CaptureEnd → Stream
stream_with frames end = record { frames = frames; end = end }

same_parts : {f g : List Framed} {x y : CaptureEnd} → f ≡ g → x ≡ y → stream_with f x ≡ stream_with g y
same_parts p q = cc

same_stream : {a b : Stream} → a.frames ≡ b.frames → a.end ≡ b.end → a ≡ b
same_stream p q = same_parts p q

-- a file is one stream at most
pub HoldsStream-same : (file : List ℕ) (a b : Stream) → HoldsStream file a → HoldsStream file b → a ≡ b
HoldsStream-same file a b (e, x) (f, y) =
    let headers = HasHeader-same x.held.behind y.held.behind x.held.header y.held.header in
    let second : AreRecords e x.held.behind y.records b.end = rw (headers.0, headers.1) y.held.records_are in
    let records = AreRecords-same e x.held.behind x.records y.records a.end b.end x.held.records_are second in
    let frames : a.frames ≡ b.frames = x.are ∙ ap (frames_after e 0) records.0 ∙ ap (λ (g : Encoding). frames_after g 0 y.records) headers.0 ∙ sym y.are in
    same_stream frames records.1

-- ---- any file

same_or_not : (a b : List ℕ) → (a ≡ b) ⊎ (a ≢ b)
same_or_not a b = elim (cases_Bool (bytes_eq a b)) [
  | inl same ↦ inl ((bytes_eq-Decides a b).0 same)
  | inr apart ↦ inr (λ e. false≢true (sym apart ∙ (bytes_eq-Decides a b).1 e))
]

magic_or_none : (front : List ℕ) → ((e : Encoding) × (front ≡ magic_bytes e)) ⊎ ((e : Encoding) → front ≢ magic_bytes e)
magic_or_none front = elim (same_or_not front (magic_bytes (encoding_with Little Microseconds))) [
  | inl is ↦ inl (encoding_with Little Microseconds, is)
  | inr not_lm ↦ elim (same_or_not front (magic_bytes (encoding_with Little Nanoseconds))) [
    | inl is ↦ inl (encoding_with Little Nanoseconds, is)
    | inr not_ln ↦ elim (same_or_not front (magic_bytes (encoding_with Big Microseconds))) [
      | inl is ↦ inl (encoding_with Big Microseconds, is)
      | inr not_bm ↦ elim (same_or_not front (magic_bytes (encoding_with Big Nanoseconds))) [
        | inl is ↦ inl (encoding_with Big Nanoseconds, is)
        | inr not_bn ↦ inr (λ e. none_of e.order e.resolution not_lm not_ln not_bm not_bn)
      ]
    ]
  ]
]
  where
    none_of : (order : Order) (resolution : Resolution) → front ≢ magic_bytes (encoding_with Little Microseconds)
        → front ≢ magic_bytes (encoding_with Little Nanoseconds) →
        front ≢ magic_bytes (encoding_with Big Microseconds) → front ≢ magic_bytes (encoding_with Big Nanoseconds)
        → front ≢ magic_bytes (encoding_with order resolution)
    none_of Little Microseconds a b c d = a
    none_of Little Nanoseconds a b c d = b
    none_of Big Microseconds a b c d = c
    none_of Big Nanoseconds a b c d = d

header_or_bad : (file : List ℕ) → ((field : HeaderField) × IsBadHeader file field) ⊎ ((e : Encoding) × HasHeader e file (drop 24 file))
header_or_bad file = elim (cases_lt (length file) 24) [
  | inl few ↦ inl (Length, few)
  | inr long ↦ elim (magic_or_none (take 4 file)) [
    | inr none ↦ inl (Magic, (long, none))
    | inl is ↦ elim (same_or_not (take 4 (drop 4 file)) (version_bytes is.0)) [
      | inr other ↦ inl (Version, (is.0, record { long = long; magic = is.1 }, other))
      | inl version ↦ elim (same_or_not (take 4 (drop 20 file)) (link_bytes is.0)) [
        | inr other ↦ inl (Link, (is.0, record { long = long; magic = is.1 }, version, other))
        | inl link ↦ inr (is.0, HasHeader-of_parts is.0 file long is.1 version link)
      ]
    ]
  ]
]

-- a file has a bad header, or it is a stream
pub stream_or_bad : (file : List ℕ) → AreBytes file → ((field : HeaderField) × IsBadHeader file field) ⊎ ((stream : Stream) × HoldsStream file stream)
stream_or_bad file small = elim (header_or_bad file) [ inl bad ↦ inl bad | inr has ↦ inr (stream_behind has.0 (drop 24 file) has.1 small) ]

-- ---- what is written

flat_map-written : (frames : List Framed) → flat_map record_of frames ≡ flat_map (record_bytes written_encoding) (map written_record frames)
flat_map-written [] = refl
flat_map-written (f ∷ frames) = ap (λ (rest : List ℕ). record_of f ++ rest) (flat_map-written frames)

written_good : (f : Framed) → Fits f → IsGood written_encoding (written_record f)
written_good f fits = record {
  seconds = omega (arith, fits.early);
  fraction = omega arith;
  original = fits.original;
  captured = fits.short;
}

all_good : (frames : List Framed) → All Fits frames → All (IsGood written_encoding) (map written_record frames)
all_good [] fits = All-nil (IsGood written_encoding)
all_good (f ∷ frames) fits =
    All-cons (IsGood written_encoding) (written_record f) (map written_record frames) (written_good f (fits 0 f (omega arith)))
    (all_good frames (λ k d h. fits (suc k) d (omega arith)))

-- a time in nanoseconds is written whole
time_of-written : (f : Framed) → time_of written_encoding (written_record f) ≡ f.time
time_of-written f = omega arith

frames_after-written : (latest : ℕ) (frames : List Framed) → All (λ f. latest ≤ f.time) frames → IsNonDecreasingBy (λ f. f.time) frames
    → frames_after written_encoding latest (map written_record frames) ≡ frames
frames_after-written latest [] later rising = refl
frames_after-written latest (f ∷ frames) later rising =
    let after : latest ≤ f.time = later 0 f (omega arith) in
    let time : max latest (time_of written_encoding (written_record f)) ≡ f.time = rw (time_of-written f) (max-eq_right after) in
    let others = frames_after-written f.time frames (λ k d h. rising 0 (suc k) d (omega arith) (omega arith))
    (λ i j d le h. rising (suc i) (suc j) d (omega arith) (omega arith)) in
    rw (time, others) refl

-- what is written for frames whose times don't fall is a whole capture of these frames
pub HoldsStream-written : (frames : List Framed) → All Fits frames → IsNonDecreasingBy (λ f. f.time) frames
    → HoldsStream (capture_of frames) (record { frames = frames; end = Whole })
HoldsStream-written frames fits rising = (
  written_encoding,
  record {
    records = map written_record frames;
    held = record {
      behind = flat_map record_of frames;
      header = record {
        ignored = number_bytes Little 4 0 ++ number_bytes Little 4 0 ++ number_bytes Little 4 longest;
        ignored_size = refl;
        whole = refl;
      };
      records_are = record {
        good = all_good frames fits;
        rest = [];
        whole = flat_map-written frames ∙ sym (append-nil (flat_map (record_bytes written_encoding) (map written_record frames)));
        ends = refl;
      };
    };
    are = sym (frames_after-written 0 frames (λ k d h. omega arith) rising);
  },
)
