-- What a writer puts down.
use Rattle.std.proofs.Common.{◌≡◌, ◌≤◌, ◌+◌, ℕ, inl, inr, List, [], ◌++◌, length, take, drop, Result, Ok, Err, sym, ap, ◌∙◌, append_assoc, length-append, arith}
use mathlib.Core.Path.{fun_ext}
use borrow.Rule.Slice.PartMut.{put_mid}
use Rattle.std.proofs.lemmas.Bool.{cases_eq}
use Rattle.std.proofs.lemmas.List.{take_at, take-append-drop}
use Rattle.std.proofs.lemmas.Slice.{take-put_mid}
use Rattle.vg_base.specs.declared.faults.Failed.{Failed}
use Rattle.vg_base.specs.Files.{Disk, Writes, Creates, WritesAll, Closes}
use Rattle.vg_base.proofs.Disks.{SameHeld-trans, WriteKeeps-open, WritesAll-then, WritesAll-stops}
use Rattle.vg_pcap.specs.Captures.{RecordHead, head_bytes}
use Rattle.vg_pcap.specs.Frames.{Framed, written_encoding, record_of, header}
use Rattle.vg_pcap.specs.Reading.{written_head}
use Rattle.vg_pcap.specs.Writer.{StartsWriting}
use Rattle.vg_pcap.proofs.RecordBytes.{length-head_bytes}

-- ---- a frame

abbrev framed : ℕ → ℕ → List ℕ → Framed
framed time original bytes = record { time = time; original = original; bytes = bytes }

-- what goes out first: the head, and the first bytes of the frame
pub first_piece : (h : RecordHead) (zeros here bytes copied : List ℕ) (k : ℕ) → bytes ≡ head_bytes written_encoding h ++ zeros → copied ≡ here →
    take (16 + length here) (put_mid 16 k bytes copied) ≡ head_bytes written_encoding h ++ here
first_piece h zeros here bytes copied k filled copy =
    let size = length-head_bytes written_encoding h in
    let long : 16 ≤ length bytes = omega (arith, size, length-append (head_bytes written_encoding h) zeros, ap (λ (xs : List ℕ). length xs) filled) in
    take-put_mid 16 k bytes copied (16 + length here) (ap (λ (xs : List ℕ). 16 + length xs) (sym copy)) long
    ∙ two (ap (take 16) filled ∙ take_at (head_bytes written_encoding h) zeros 16 size) copy
  where
    two : {a b c d : List ℕ} → a ≡ b → c ≡ d → a ++ c ≡ b ++ d
    two p q = cc

-- the record of a frame in two pieces
record_split : (time original : ℕ) (frame here rest : List ℕ) → frame ≡ here ++ rest →
    (head_bytes written_encoding (written_head time original (length frame)) ++ here) ++ rest ≡ record_of (framed time original frame)
record_split time original frame here rest split =
    let head = head_bytes written_encoding (written_head time original (length frame)) in
    append_assoc head here rest ∙ ap (λ (back : List ℕ). head ++ back) (sym split)

pub put_both : {s t u : Disk} {id : ℕ} (time original : ℕ) (frame here rest piece : List ℕ) (result : Result (Unit {0}) Failed) → frame ≡ here ++ rest →
    piece ≡ head_bytes written_encoding (written_head time original (length frame)) ++ here → WritesAll s t id piece (Ok tt) → WritesAll t u id rest result →
    WritesAll s u id (record_of (framed time original frame)) result
put_both time original frame here rest piece result split is first second =
    rw (← record_split time original frame here rest split, ← is) (WritesAll-then result first second)

pub put_first : {s t : Disk} {id : ℕ} {e : Failed} (time original : ℕ) (frame here rest piece : List ℕ) → frame ≡ here ++ rest →
    piece ≡ head_bytes written_encoding (written_head time original (length frame)) ++ here → WritesAll s t id piece (Err e)
    → WritesAll s t id (record_of (framed time original frame)) (Err e)
put_first time original frame here rest piece split is first =
    rw (← record_split time original frame here rest split, ← is) (WritesAll-stops rest first)

-- ---- the header

pub starts_writing : {s m t : Disk} {name : List ℕ} {id : ℕ} → Creates s m name (Ok id) → WritesAll m t id header (Ok tt) → StartsWriting s t name (Ok id)
starts_writing {s} {m} {t} {name} {id} creates writes = record {
  faults = record { failed = tt; same = writes.faults.same ∙ creates.faults.same; rises = omega (arith, writes.faults.same, creates.faults.same) };
  read_faults = writes.keeps.read_faults ∙ creates.read_faults;
  shut_faults = writes.keeps.shut_faults ∙ creates.shut_faults;
  held = SameHeld-trans creates.held writes.keeps.held;
  opens = record {
    was = creates.opens.was;
    now = WriteKeeps-open Writes id writes.keeps creates.opens.now;
    others = λ j apart. ap (λ (o : ℕ → _). o j) writes.keeps.ids.opened ∙ creates.opens.others j apart;
    one_more = writes.keeps.ids.open_count ∙ creates.opens.one_more;
  };
  named = λ told. ap (λ (o : ℕ → _). o id) writes.keeps.ids.opened ∙ creates.named told;
  made = λ told. (writes.whole (rw creates.held.tells_made told) name (creates.named told)).grown [] (creates.empty told).empty;
  others = λ told other apart. (writes.whole (rw creates.held.tells_made told) name (creates.named told)).others other apart
      ∙ (creates.empty told).others other apart;
  closed = tt;
  begun = tt;
}

pub starts_failed : {s m t u : Disk} {name : List ℕ} {id : ℕ} {e f : Failed} (closed : Result (Unit {0}) Failed) → Creates s m name (Ok id)
    → WritesAll m t id header (Err e) → Closes t u id closed →
    StartsWriting s u name (Err f)
starts_failed {s} {m} {t} {u} {name} {id} closed creates writes closes =
    let shut = closes.of_write (WriteKeeps-open Writes id writes.keeps creates.opens.now) in
    record {
      faults = record {
        failed = omega (arith, writes.faults.failed, creates.faults.same, shut.0.rises);
        same = tt;
        rises = omega (arith, writes.faults.rises, creates.faults.same, shut.0.rises);
      };
      read_faults = closes.read_faults ∙ writes.keeps.read_faults ∙ creates.read_faults;
      shut_faults = shut.1 ∙ writes.keeps.shut_faults ∙ creates.shut_faults;
      held = SameHeld-trans creates.held (SameHeld-trans writes.keeps.held closes.held);
      opens = tt;
      named = tt;
      made = tt;
      others = λ told other apart.
          let part = writes.prefix (rw creates.held.tells_made told) name (creates.named told) in
          ap (λ (o : List ℕ → _). o other) closes.made ∙ part.2.others other apart ∙ (creates.empty told).others other apart;
      closed = record {
        opened = fun_ext (λ j. elim (cases_eq j id) [
          | inl same ↦ rw same (closes.closes.now ∙ sym creates.opens.was)
          | inr apart ↦ closes.closes.others j apart ∙ ap (λ (o : ℕ → _). o j) writes.keeps.ids.opened ∙ creates.opens.others j apart
        ]);
        open_count = omega (arith, closes.closes.one_less, writes.keeps.ids.open_count, creates.opens.one_more);
      };
      begun = λ told.
          let part = writes.prefix (rw creates.held.tells_made told) name (creates.named told) in
          inr (part.0, part.1, ap (λ (o : List ℕ → _). o name) closes.made ∙ part.2.grown [] (creates.empty told).empty);
    }

pub in_two : (n : ℕ) (frame here rest : List ℕ) → here ≡ take n frame → rest ≡ drop n frame → frame ≡ here ++ rest
in_two n frame here rest p q = sym (take-append-drop n frame) ∙ two (sym p) (sym q)
  where
    two : {a b c d : List ℕ} → a ≡ b → c ≡ d → a ++ c ≡ b ++ d
    two p q = cc
