-- What the files hold once a frame was written.
use Rattle.std.proofs.lemmas.Option.{slice_get_within}
use Rattle.std.proofs.lemmas.List.Elements.{All-head, All-tail}
use Rattle.std.proofs.Common.{◌≡◌, ◌≢◌, ◌<◌, ◌≤◌, ◌+◌, ◌∙◌, ℕ, List, [], ◌∷◌, ◌++◌, length, take, drop, slice_get, IsTrue, Some, Result, Ok, Err, inl}
use Rattle.std.proofs.Common.{inr, refl, sym, append-nil, append_assoc, take-append-drop, arith}
use Rattle.vg_base.proofs.Disks.{WriteKeeps-trans}
use Rattle.vg_base.specs.declared.faults.Failed.{Failed}
use Rattle.vg_base.specs.Files.{Disk, Appends, Rose, WritesAll, WriteKeeps}
use Rattle.vg_replay.proofs.Growing.{told_after, piece_below-within}
use Rattle.vg_replay.proofs.Pieces.{capture_to-more, log_of-more}
use Rattle.vg_replay.proofs.Places.{All-at, All-right}
use Rattle.vg_replay.specs.Outputs.{Handled, piece_to, capture_to, line_of, log_of}
use Rattle.vg_replay.specs.Replays.{ReplayFiles, AreReplayFiles, IsNoneOf, KeepsOthers, WroteAll, WroteParts}
use Rattle.vg_replay.specs.UnderWay.{Replaying, IsSound, HasOpened}
use Rattle.vg_replay.specs.Writing.{AreTold, Puts, pieces_of, WritesFrame}

-- ---- faults, and what stays

pub frame_keeps : {s t : Disk} {ids : List ℕ} {log number : ℕ} {h : Handled} (r : Result (Unit {0}) Failed) → WritesFrame s t ids log number h r
    → WriteKeeps s t
frame_keeps r w = elim w.whole_or_not [
  | inl both ↦ WriteKeeps-trans both.1.keeps both.2.keeps
  | inr puts ↦ puts.1.keeps
]

pub frame_same : {s t : Disk} {ids : List ℕ} {log number : ℕ} {h : Handled} → WritesFrame s t ids log number h (Ok tt) → t.write_faults ≡ s.write_faults
frame_same w = elim w.whole_or_not [
  | inl both ↦ both.2.faults.same ∙ both.1.faults.same
  | inr puts ↦ absurd puts.0
]

pub frame_rose : {s t : Disk} {ids : List ℕ} {log number : ℕ} {h : Handled} {e : Failed} → WritesFrame s t ids log number h (Err e)
    → Rose s.write_faults t.write_faults
frame_rose w = elim w.whole_or_not [
  | inl both ↦ let rose = both.2.faults.failed in omega (arith, both.1.faults.same, rose)
  | inr puts ↦ puts.1.faults.failed
]

-- ---- names

pub log_is_none : {n : ReplayFiles} → AreReplayFiles n → IsNoneOf n.outs n.log
log_is_none {n} names = All-right (λ other. n.log ≢ other) n.ins n.outs names.log

pub told_of : {s t : Disk} {n : ReplayFiles} {r : Replaying} → IsSound n r → HasOpened s t n r → IsTrue s.tells_made → AreTold t r.outs n.outs
told_of sound opened told = record {
  told = rw opened.held.tells_made told;
  ports = sound.outs;
  named = opened.outs_named told;
  apart = sound.names.apart;
}

not_log : {n : ReplayFiles} → AreReplayFiles n → (port : ℕ) (name : List ℕ) → slice_get n.outs port ≡ Some name → name ≢ n.log
not_log {n} names port name at same = All-at (λ other. n.log ≢ other) n.outs port name (log_is_none names) at (sym same)

-- ---- the captures, and then the log

captures_more : {s t b : Disk} {n : ReplayFiles} {past : List Handled} {ids : List ℕ} (h : Handled) → AreTold t ids n.outs → WroteAll s t n past
    → Puts t b ids (pieces_of h) (length ids) (Ok tt) →
    (port : ℕ) (name : List ℕ) → slice_get n.outs port ≡ Some name → b.made name ≡ Some (capture_to port (past ++ h ∷ []))
captures_more {s} {t} {b} {n} {past} {ids} h told wrote puts port name at =
    let within : port < length ids = let below = slice_get_within n.outs port name at in omega (arith, below, told.ports) in
    let grown = puts.grown n.outs told port name (capture_to port past) at (wrote.outs port name at) in
    rw (capture_to-more port past h) (rw (piece_below-within (length ids) (pieces_of h) port within) at grown)

log_kept : {s t b : Disk} {n : ReplayFiles} {past : List Handled} {pieces : ℕ → List ℕ} {ids : List ℕ} {count : ℕ} (r : Result (Unit {0}) Failed)
    → AreReplayFiles n → AreTold t ids n.outs → WroteAll s t n past
    → Puts t b ids pieces count r → b.made n.log ≡ Some (log_of past)
log_kept {n = n} r names told wrote puts = puts.others n.outs told n.log (log_is_none names) ∙ wrote.log

log_appends : {s t b u : Disk} {n : ReplayFiles} {r : Replaying} {pieces : ℕ → List ℕ} {count : ℕ} {line : List ℕ} → HasOpened s t n r
    → IsTrue s.tells_made → Puts t b r.outs pieces count (Ok tt) → WritesAll b u r.log line (Ok tt)
    → Appends b.made u.made n.log line
log_appends {n = n} opened told puts writes = writes.whole (told_after puts.keeps (rw opened.held.tells_made told)) n.log
    (rw puts.keeps.ids.opened (opened.log_named told))

log_appends_part : {s t b u : Disk} {n : ReplayFiles} {r : Replaying} {pieces : ℕ → List ℕ} {count : ℕ} {line : List ℕ} {e : Failed}
    → HasOpened s t n r → IsTrue s.tells_made → Puts t b r.outs pieces count (Ok tt) → WritesAll b u r.log line (Err e)
    → (k : ℕ) × (k ≤ length line) × Appends b.made u.made n.log (take k line)
log_appends_part {n = n} opened told puts writes = writes.prefix (told_after puts.keeps (rw opened.held.tells_made told)) n.log
    (rw puts.keeps.ids.opened (opened.log_named told))

-- a frame was written whole
pub wrote_more : {s t u : Disk} {n : ReplayFiles} {r : Replaying} {past : List Handled} {number : ℕ} (h : Handled) → IsSound n r → HasOpened s t n r
    → IsTrue s.tells_made → WroteAll s t n past → number ≡ length past + 1
    → WritesFrame t u r.outs r.log number h (Ok tt) → WroteAll s u n (past ++ h ∷ [])
wrote_more {n = n} {r = r} {past = past} h sound opened told wrote is w = elim w.whole_or_not [
  | inl both ↦
      let appends = log_appends opened told both.1 both.2 in
      record {
        outs = λ port name at. appends.others name (not_log sound.names port name at) ∙ captures_more h (told_of sound opened told) wrote both.1 port name at;
        log = rw (log_of-more past h, ← is) (appends.grown (log_of past) (log_kept (Ok tt) sound.names (told_of sound opened told) wrote both.1));
      }
  | inr puts ↦ absurd puts.0
]

-- a frame was written in part
pub wrote_parts : {s t u : Disk} {n : ReplayFiles} {r : Replaying} {past : List Handled} {number : ℕ} {e : Failed} (h : Handled) → IsSound n r
    → HasOpened s t n r → IsTrue s.tells_made → WroteAll s t n past → number ≡ length past + 1
    → WritesFrame t u r.outs r.log number h (Err e) → WroteParts s u n (past ++ h ∷ [])
wrote_parts {u = u} {n = n} {r = r} {past = past} {number = number} {e = e} h sound opened told wrote is w = elim w.whole_or_not [
  | inl both ↦
      let appends = log_appends_part opened told both.1 both.2 in
      let line = line_of number h in
      let captures : (port : ℕ) (name : List ℕ) → slice_get n.outs port ≡ Some name → u.made name ≡ Some (capture_to port (past ++ h ∷ [])) =
      λ port name at. appends.2.others name (not_log sound.names port name at) ∙ captures_more h (told_of sound opened told) wrote both.1 port name at in
      record {
        outs = λ port name at. inr (capture_to port (past ++ h ∷ []), [], captures port name at, sym (append-nil (capture_to port (past ++ h ∷ []))));
        handled = past;
        begun = h ∷ [];
        one = omega arith;
        frames_are = refl;
        log = inr (
          log_of past ++ take appends.0 line,
          drop appends.0 line,
          appends.2.grown (log_of past) (log_kept (Ok tt) sound.names (told_of sound opened told) wrote both.1),
          rw (log_of-more past h, ← is, append_assoc, take-append-drop) refl,
        );
        whole = inr (
          (λ port name at. (piece_to port h, rw (capture_to-more port past h) at (captures port name at))),
          (take appends.0 line, appends.2.grown (log_of past) (log_kept (Ok tt) sound.names (told_of sound opened told) wrote both.1)),
        );
        line = inr (λ port name at. ([], rw append-nil (captures port name at)));
      }
  | inr puts ↦
      let all = told_of sound opened told in
      let begun : (port : ℕ) (name : List ℕ) → slice_get n.outs port ≡ Some name → (part : List ℕ) × (rest : List ℕ)
      × (u.made name ≡ Some (capture_to port past ++ part)) × (piece_to port h ≡ part ++ rest) =
      λ port name at. puts.1.begun n.outs all port name (capture_to port past) at (wrote.outs port name at) in
      record {
        outs = λ port name at.
            let part = begun port name at in
            inr (capture_to port past ++ part.0, part.1, part.2, rw (capture_to-more port past h, part.3, append_assoc) refl);
        log = inr (log_of past, line_of number h, log_kept (Err e) sound.names all wrote puts.1, rw (log_of-more past h, ← is) refl);
        handled = past;
        begun = h ∷ [];
        one = omega arith;
        frames_are = refl;
        whole = inr (
          (λ port name at. let part = begun port name at in (part.0, part.2)),
          ([], rw append-nil (log_kept (Err e) sound.names all wrote puts.1)),
        );
        line = inl (inr (log_of past, [], log_kept (Err e) sound.names all wrote puts.1, sym (append-nil (log_of past))));
      }
]

-- no other file was changed
pub others_more : {s t u : Disk} {n : ReplayFiles} {r : Replaying} {number : ℕ} {h : Handled} (q : Result (Unit {0}) Failed) → IsSound n r
    → HasOpened s t n r → IsTrue s.tells_made → KeepsOthers s t n
    → WritesFrame t u r.outs r.log number h q → KeepsOthers s u n
others_more {n = n} (Ok done) sound opened told others w name none = elim w.whole_or_not [
  | inl both ↦
      (log_appends opened told both.1 both.2).others name (All-head (λ other. name ≢ other) n.log n.outs none)
      ∙ both.1.others n.outs (told_of sound opened told) name (All-tail (λ other. name ≢ other) n.log n.outs none) ∙ others name none
  | inr puts ↦ absurd puts.0
]
others_more {n = n} (Err e) sound opened told others w name none = elim w.whole_or_not [
  | inl both ↦
      (log_appends_part opened told both.1 both.2).2.others name (All-head (λ other. name ≢ other) n.log n.outs none)
      ∙ both.1.others n.outs (told_of sound opened told) name (All-tail (λ other. name ≢ other) n.log n.outs none) ∙ others name none
  | inr puts ↦ puts.1.others n.outs (told_of sound opened told) name (All-tail (λ other. name ≢ other) n.log n.outs none) ∙ others name none
]

-- what was written whole holds no more than it should
pub whole_parts : {s t : Disk} {n : ReplayFiles} {past : List Handled} → WroteAll s t n past → WroteParts s t n past
whole_parts {s} {t} {n} {past} wrote = record {
  outs = λ port name at. inr (capture_to port past, [], wrote.outs port name at, sym (append-nil (capture_to port past)));
  log = inr (log_of past, [], wrote.log, sym (append-nil (log_of past)));
  handled = past;
  begun = [];
  one = omega arith;
  frames_are = sym (append-nil past);
  whole = inr ((λ port name at. ([], rw append-nil (wrote.outs port name at))), ([], rw append-nil wrote.log));
  line = inr (λ port name at. ([], rw append-nil (wrote.outs port name at)));
}
