-- Bytes that are read ahead, and then given.
use Rattle.std.proofs.Common.{◌≡◌, ◌≤◌, ◌<◌, ◌+◌, ◌-◌, ℕ, min, List, [], ◌++◌, length, take, drop, Option, Some, None, IsTrue, Ok, refl, sym, ap, ◌∙◌}
use Rattle.std.proofs.Common.{append_assoc, length-append, length-drop, arith}
use Rattle.std.proofs.lemmas.List.{drop_at, take_at, drop-drop, length-take-le, take-append-drop, take-append-le}
use Rattle.std.proofs.Math.Seq.{take-add, take-append-add}
use borrow.Rule.Slice.PartMut.{put_mid, post_of, same_len_mid}
use Rattle.vg_base.specs.Files.{Disk, ReadsNext}
use Rattle.vg_base.proofs.Disks.{ReadKeeps-trans, ReadsNext-keeps}
use Rattle.vg_pcap.specs.Reader.{IsBefore}
use Rattle.vg_pcap.specs.Buffered.{Source, Stays, Gives, Refills}
use Rattle.vg_pcap.proofs.Pieces.{no_items}

-- ---- pieces of the buffer

-- what is given of what is ahead, and what is left of it
pub given_parts : (items ahead copied rest : List ℕ) (from until n : ℕ) → take (until - from) (drop from items) ≡ ahead
    → copied ≡ take (from + n - from) (drop from items) →
    from ≤ until → until ≤ length items → n ≤ until - from → ahead ≡ take n (copied ++ rest) ++ take (until - (from + n)) (drop (from + n) items)
given_parts items ahead copied rest from until n is copy order within small =
    let count : from + n - from ≡ n = omega arith in
    let same : copied ≡ take n (drop from items) = copy ∙ ap (λ (k : ℕ). take k (drop from items)) count in
    let size : length copied ≡ n = ap (λ (xs : List ℕ). length xs) same ∙ length-take-le n (drop from items) (omega (arith, length-drop from items)) in
    let all : until - from ≡ n + (until - (from + n)) = omega arith in
    sym is ∙ ap (λ (k : ℕ). take k (drop from items)) all ∙ take-add n (until - (from + n)) (drop from items)
    ∙ two (sym same ∙ sym (take_at copied rest n size)) (ap (take (until - (from + n))) (drop-drop n from items))
  where
    two : {a b c d : List ℕ} → a ≡ b → c ≡ d → a ++ c ≡ b ++ d
    two p q = cc

-- ---- reading ahead

pub Stays-trans : {s t u : Disk} {a b c : Source} → Stays s t a b → Stays t u b c → Stays s u a c
Stays-trans x y = record {
  keeps = ReadKeeps-trans x.keeps y.keeps;
  shut_faults = y.shut_faults ∙ x.shut_faults;
  id = y.id ∙ x.id;
  readable = y.readable;
  others = λ j ne. y.others j (λ e. ne (e ∙ x.id)) ∙ x.others j ne;
  open_count = y.open_count ∙ x.open_count;
}

-- what was read ahead of a file stands before it
pub refilled : {s t : Disk} {id n : ℕ} {into : List ℕ} (bytes : List ℕ) → ReadsNext s t id into (Ok n) → IsTrue s.tells_held
    → IsBefore s (Some id) [] bytes → IsBefore t (Some id) (take n into) bytes
refilled {n = n} {into = into} bytes read told (name, place, file, opened, held, within, is) =
    let given = read.bytes told name place file opened held in (
      name,
      place + n,
      file,
      read.place told name place opened,
      rw read.held.held held,
      given.within,
      is ∙ sym (take-append-drop n (drop place file)) ∙ two (sym given.next) (drop-drop n place file),
    )
  where
    two : {a b c d : List ℕ} → a ≡ b → c ≡ d → a ++ c ≡ b ++ d
    two p q = cc

-- nothing is read ahead only at the file's end
pub refilled-end : {s t : Disk} {id n : ℕ} {into : List ℕ} (bytes : List ℕ) → ReadsNext s t id into (Ok n) → IsTrue s.tells_held
    → IsBefore s (Some id) [] bytes → 0 < length into →
    take n into ≡ [] → bytes ≡ []
refilled-end {n = n} {into = into} bytes read told (name, place, file, opened, held, within, is) room nothing =
    let given = read.bytes told name place file opened held in
    let none : n ≡ 0 = omega (arith, length-take-le n into read.within, ap (λ (xs : List ℕ). length xs) nothing) in
    is ∙ no_items (drop place file) (omega (arith, length-drop place file, given.end none room))

-- reading ahead, where it went well
pub refill_done : {s t : Disk} {id n : ℕ} {into : List ℕ} (old new : Source) → old.id ≡ Some id → new.id ≡ Some id → new.ahead ≡ take n into
    → 0 < length into → ReadsNext s t id into (Ok n) →
    Refills s t old new (Ok tt)
refill_done old new was now ahead room read = record {
  faults = record { failed = tt; same = read.faults.same; rises = read.faults.rises };
  stays = record {
    keeps = ReadsNext-keeps read;
    shut_faults = read.shut_faults;
    id = now ∙ sym was;
    readable = rw now read.reads;
    others = λ j ne. read.others j (λ e. ne (ap Some e ∙ sym was));
    open_count = read.open_count;
  };
  same = λ told bytes before. rw (now, ahead) (refilled bytes read told (rw was at before));
  end = λ told bytes before nothing. refilled-end bytes read told (rw was at before) room (sym ahead ∙ nothing);
}

-- ---- giving

-- what is ahead is given in part
given_of : (t : Disk) (id : Option ℕ) (ahead rest into bytes : List ℕ) (n : ℕ) → ahead ≡ take n into ++ rest → n ≡ min (length ahead) (length into)
    → (id ≡ None → ahead ≡ []) →
    IsBefore t id ahead bytes → (n ≤ length bytes) × (take n into ≡ take n bytes) × IsBefore t id rest (drop n bytes)
given_of t None ahead rest into bytes n parts count none is =
    let nothing = none refl in
    let zero_is : n ≡ 0 = omega (arith, ap (λ (xs : List ℕ). length xs) nothing) in
    rw (zero_is, is) (omega arith, refl, refl)
given_of t (Some id) ahead rest into bytes n parts count none (name, place, file, opened, held, within, is) =
    let size : length (take n into) ≡ n = length-take-le n into (omega arith) in
    let whole : bytes ≡ take n into ++ (rest ++ drop place file) = is ∙ ap (λ (front : List ℕ). front ++ drop place file) parts
    ∙ append_assoc (take n into) rest (drop place file) in (
      omega (arith, size, ap (λ (xs : List ℕ). length xs) whole, length-append (take n into) (rest ++ drop place file)),
      sym (ap (take n) whole ∙ take_at (take n into) (rest ++ drop place file) n size),
      (name, place, file, opened, held, within, ap (drop n) whole ∙ drop_at (take n into) (rest ++ drop place file) n size),
    )

pub given : {t : Disk} {mid new : Source} {n : ℕ} {into : List ℕ} (bytes : List ℕ) → mid.ahead ≡ take n into ++ new.ahead → new.id ≡ mid.id
    → n ≡ min (length mid.ahead) (length into) →
    (mid.id ≡ None → mid.ahead ≡ []) → IsBefore t mid.id mid.ahead bytes → Gives t new n into bytes
given {t} {mid} {new} {n} {into} bytes parts same count none before =
    let all = given_of t mid.id mid.ahead new.ahead into bytes n parts count none before in
    record { within = all.0; next = all.1; after = rw same all.2 }

take_put : (a m k : ℕ) (xs ys : List ℕ) → a ≤ length xs → m ≤ length ys → take (a + m) (put_mid a k xs ys) ≡ take a xs ++ take m ys
take_put a m k xs ys long enough =
    let size : length (take a xs) ≡ a = length-take-le a xs long in
    ap (λ (n : ℕ). take (n + m) (put_mid a k xs ys)) (sym size) ∙ take-append-add (take a xs) (ys ++ post_of a k xs) m
    ∙ ap (λ (back : List ℕ). take a xs ++ back) (take-append-le m ys (post_of a k xs) enough)

-- some bytes were given, and then some more
pub Gives-more : {t u : Disk} {mid new : Source} {a m : ℕ} {xs ys bytes : List ℕ} (k n : ℕ) → n ≡ a + m → a ≤ length xs → m ≤ length ys
    → Gives t mid a xs bytes → Gives u new m ys (drop a bytes) →
    Gives u new n (put_mid a k xs ys) bytes
Gives-more {a = a} {m} {xs} {ys} {bytes} k n count long enough first more = record {
  within = omega (arith, first.within, more.within, length-drop a bytes);
  next = rw count (take_put a m k xs ys long enough ∙ two first.next more.next ∙ sym (take-add a m bytes));
  after = rw (count, ← drop-drop m a bytes) more.after;
}
  where
    two : {a b c d : List ℕ} → a ≡ b → c ≡ d → a ++ c ≡ b ++ d
    two p q = cc

-- nothing is left behind what was given
pub given_all : {n : ℕ} (bytes : List ℕ) → n ≤ length bytes → drop n bytes ≡ [] → n ≡ length bytes
given_all {n} bytes within e = omega (arith, length-drop n bytes, ap (λ (xs : List ℕ). length xs) e)

-- the part of a list from a place on
pub length-part : (a : ℕ) (xs : List ℕ) → a ≤ length xs → length (take (length xs - a) (drop a xs)) ≡ length xs - a
length-part a xs long = length-take-le (length xs - a) (drop a xs) (omega (arith, length-drop a xs))

-- a part that was written leaves the length
pub length-put : (a : ℕ) (xs ys : List ℕ) → length ys ≡ length (take (length xs - a) (drop a xs)) → length (put_mid a (length xs - a) xs ys) ≡ length xs
length-put a xs ys size = same_len_mid a (length xs - a) xs ys size
