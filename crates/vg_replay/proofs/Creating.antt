-- Outputs that are created, and closed.
use Rattle.std.proofs.lemmas.Bool.{cases_lt}
use Rattle.std.proofs.lemmas.Bool.Decides.{eqb_tells}
use Rattle.std.proofs.lemmas.Option.{slice_get_within}
use Rattle.std.proofs.lemmas.List.Elements.{All-head, All-tail}
use Rattle.std.proofs.Common.{◌≡◌, ◌≢◌, ◌∙◌, ℕ, List, [], ◌∷◌, ◌++◌, length, take, drop, slice_get, IsTrue, Option, Some, None, Result, Ok, Err, inl}
use Rattle.std.proofs.Common.{inr, refl, sym, ap, append-nil, append_assoc, take-append-drop, length-append, arith}
use Rattle.vg_base.proofs.Disks.{SameHeld-refl, SameHeld-trans}
use Rattle.vg_base.specs.declared.faults.Failed.{Failed}
use Rattle.vg_base.specs.Files.{Disk, Writes, IsOpen, writing, Creates, Closes, OpensOne}
use Rattle.vg_pcap.specs.Frames.{header}
use Rattle.vg_pcap.specs.Writer.{StartsWriting, IsBegun}
use Rattle.vg_replay.proofs.Places.{All-at, All-last, differ_at, at_left, at_end}
use Rattle.vg_replay.proofs.Ids.{DiffersBy-none, DiffersBy-append, opens_one, closes_one, closed_again, AreWritable-none, AreWritable-push, AreWritable-same}
use Rattle.vg_replay.specs.Replays.{IsPart}
use Rattle.vg_replay.specs.UnderWay.{AreWritable, AreNamed}
use Rattle.vg_replay.specs.Writing.{HasCreated, HasFailed, ClosesWritten, HasCreatedAll, HasFailedAll}

some_is : {A : Type 0} {x y : A} → Some x ≡ Some y → x ≡ y
some_is e = cc

-- a file that is open is not one that is only opened now
other_id : (s : Disk) (id new : ℕ) (name : List ℕ) → s.opened id ≡ writing name → s.opened new ≡ None → id ≢ new
other_id s id new name is was same = let none = rw (same, was) at is in absurd cc

-- ---- one capture after another

pub HasCreated-none : (s : Disk) (names : List (List ℕ)) → HasCreated s s names []
HasCreated-none s names = record {
  few = omega arith;
  no_fault = record { read_faults = refl; write_faults = refl };
  held = SameHeld-refl s;
  opens = DiffersBy-none s;
  writable = AreWritable-none s;
  named = λ told port id name at is. absurd cc;
  made = λ told apart port name below at. absurd (omega (arith, below));
  rest = λ told apart port name below at. refl;
  others = λ told name none. refl;
}

named_next : (t u : Disk) (names : List (List ℕ)) (ids : List ℕ) (this : List ℕ) (new : ℕ) → AreNamed t ids names
    → slice_get names (length ids) ≡ Some this → OpensOne t u Writes new
    → u.opened new ≡ writing this → AreNamed u (ids ++ new ∷ []) names
named_next t u names ids this new named at_this opens is port id name at_id at_name = elim (eqb_tells port (length ids)) [
  | inl same ↦
      let name_is : name ≡ this = some_is (sym at_name ∙ (rw same.1 at_this)) in
      let id_is : id ≡ new = some_is (sym at_id ∙ (rw same.1 (at_end ids new))) in
      rw (name_is, id_is) is
  | inr other ↦
      let within = slice_get_within (ids ++ new ∷ []) port id at_id in
      let before : slice_get ids port ≡ Some id = sym (at_left ids (new ∷ []) port (omega (arith, within, other.1, length-append ids (new ∷ [])))) ∙ at_id in
      let was = named port id name before at_name in
      opens.others id (other_id t id new name was opens.was) ∙ was
]

pub HasCreated-next : {s t u : Disk} {names : List (List ℕ)} {ids : List ℕ} {new : ℕ} (this : List ℕ) → HasCreated s t names ids
    → slice_get names (length ids) ≡ Some this
    → StartsWriting t u this (Ok new) → HasCreated s u names (ids ++ new ∷ [])
HasCreated-next {s} {t} {u} {names} {ids} {new} this x at_this y = record {
  few = let within = slice_get_within names (length ids) this at_this in omega (arith, within, length-append ids (new ∷ []));
  no_fault = record { read_faults = y.read_faults ∙ x.no_fault.read_faults; write_faults = y.faults.same ∙ x.no_fault.write_faults };
  held = SameHeld-trans x.held y.held;
  opens = DiffersBy-append ids (new ∷ []) x.opens (opens_one y.opens);
  writable = AreWritable-push ids x.writable y.opens;
  named = λ told. named_next t u names ids this new (x.named told) at_this y.opens (y.named (rw x.held.tells_made told));
  made = λ told apart port name below at. elim (eqb_tells port (length ids)) [
    | inl same ↦
        let name_is : name ≡ this = some_is (sym at ∙ (rw same.1 at_this)) in
        rw name_is (y.made (rw x.held.tells_made told))
    | inr other ↦
        y.others (rw x.held.tells_made told) name (differ_at names port (length ids) name this apart at at_this other.1)
        ∙ x.made told apart port name (omega (arith, below, other.1, length-append ids (new ∷ []))) at
  ];
  rest = λ told apart port name below at.
      let other : port ≢ length ids = λ e. omega (arith, below, e, length-append ids (new ∷ [])) in
      y.others (rw x.held.tells_made told) name (differ_at names port (length ids) name this apart at at_this other)
      ∙ x.rest told apart port name (omega (arith, below, length-append ids (new ∷ []))) at;
  others = λ told name none. y.others (rw x.held.tells_made told) name (All-at (λ other. name ≢ other) names (length ids) this none at_this)
      ∙ x.others told name none;
}

-- first bytes of a file that was begun
begun_part : (s t u : Disk) (name whole : List ℕ) → IsBegun t u name whole → t.made name ≡ s.made name → IsPart s u name whole
begun_part s t u name whole (inl same) was = inl (same ∙ was)
begun_part s t u name whole (inr some) was = inr (take some.0 whole, drop some.0 whole, some.2, rw take-append-drop refl)

whole_part : (s u : Disk) (name whole : List ℕ) → u.made name ≡ Some whole → IsPart s u name whole
whole_part s u name whole is = inr (whole, [], is, sym (append-nil whole))

pub HasCreated-fails : {s t u : Disk} {names : List (List ℕ)} {ids : List ℕ} (this : List ℕ) {e : Failed} → HasCreated s t names ids
    → slice_get names (length ids) ≡ Some this
    → StartsWriting t u this (Err e) → HasFailed s u names ids
HasCreated-fails {s} {t} {u} {names} {ids} this x at_this y = record {
  rose = rw x.no_fault.write_faults at y.faults.failed;
  read_faults = y.read_faults ∙ x.no_fault.read_faults;
  held = SameHeld-trans x.held y.held;
  opens = record {
    closed = x.opens.closed;
    others = λ id none. rw y.closed.opened (x.opens.others id none);
    count = omega (arith, y.closed.open_count, x.opens.count);
  };
  writable = AreWritable-same ids y.closed x.writable;
  parts = λ told apart port name at.
      let later : IsTrue t.tells_made = rw x.held.tells_made told in
      elim (eqb_tells port (length ids)) [
        | inl same ↦
            let name_is : name ≡ this = some_is (sym at ∙ (rw same.1 at_this)) in
            rw name_is (begun_part s t u this header (y.begun later) (x.rest told apart (length ids) this (omega arith) at_this))
        | inr other ↦
            let kept = y.others later name (differ_at names port (length ids) name this apart at at_this other.1) in
            elim (cases_lt port (length ids)) [
              | inl below ↦ whole_part s u name header (kept ∙ x.made told apart port name below at)
              | inr above ↦ inl (kept ∙ x.rest told apart port name above at)
            ]
      ];
  others = λ told name none. y.others (rw x.held.tells_made told) name (All-at (λ other. name ≢ other) names (length ids) this none at_this)
      ∙ x.others told name none;
}

-- ---- the log

named_stays : (t u : Disk) (names : List (List ℕ)) (ids : List ℕ) (new : ℕ) → AreNamed t ids names → OpensOne t u Writes new → AreNamed u ids names
named_stays t u names ids new named opens port id name at_id at_name =
    let was = named port id name at_id at_name in
    opens.others id (other_id t id new name was opens.was) ∙ was

pub created_all : {s t u : Disk} {outs : List (List ℕ)} {log : List ℕ} {ids : List ℕ} {log_id : ℕ} → HasCreated s t outs ids
    → length ids ≡ length outs → Creates t u log (Ok log_id)
    → HasCreatedAll s u outs log ids log_id
created_all {s} {t} {u} {outs} {log} {ids} {log_id} x all y = record {
  ports = all;
  no_fault = record { read_faults = y.read_faults ∙ x.no_fault.read_faults; write_faults = y.faults.same ∙ x.no_fault.write_faults };
  held = SameHeld-trans x.held y.held;
  opens = DiffersBy-append ids (log_id ∷ []) x.opens (opens_one y.opens);
  writable = AreWritable-push ids x.writable y.opens;
  named = λ told. named_stays t u outs ids log_id (x.named told) y.opens;
  log_named = λ told. y.named (rw x.held.tells_made told);
  made = λ told apart none port name at.
      let within = slice_get_within outs port name at in
      (y.empty (rw x.held.tells_made told)).others name (λ same. All-at (λ other. log ≢ other) outs port name none at (sym same))
      ∙ x.made told apart port name (omega (arith, within, all)) at;
  log_made = λ told. (y.empty (rw x.held.tells_made told)).empty;
  others = λ told name none. (y.empty (rw x.held.tells_made told)).others name (All-head (λ other. name ≢ other) log outs none)
      ∙ x.others told name (All-tail (λ other. name ≢ other) log outs none);
}

-- the log couldn't be created
pub created_fails : {s t u : Disk} {outs : List (List ℕ)} {log : List ℕ} {ids : List ℕ} {e : Failed} → HasCreated s t outs ids
    → length ids ≡ length outs → Creates t u log (Err e) → HasFailed s u outs ids
created_fails {s} {t} {u} {outs} {log} {ids} x all y = record {
  rose = rw x.no_fault.write_faults at y.faults.failed;
  read_faults = y.read_faults ∙ x.no_fault.read_faults;
  held = SameHeld-trans x.held y.held;
  opens = record {
    closed = x.opens.closed;
    others = λ id none. rw y.err.0.opened (x.opens.others id none);
    count = omega (arith, y.err.0.open_count, x.opens.count);
  };
  writable = AreWritable-same ids y.err.0 x.writable;
  parts = λ told apart port name at.
      let within = slice_get_within outs port name at in
      whole_part s u name header (ap (λ (made : List ℕ → Option (List ℕ)). made name) y.err.1 ∙ x.made told apart port name (omega (arith, within, all)) at);
  others = λ told name none. ap (λ (made : List ℕ → Option (List ℕ)). made name) y.err.1 ∙ x.others told name none;
}

part_same : (s t u : Disk) (name whole : List ℕ) → u.made name ≡ t.made name → IsPart s t name whole → IsPart s u name whole
part_same s t u name whole same (inl kept) = inl (same ∙ kept)
part_same s t u name whole same (inr part) = inr (part.0, part.1, same ∙ part.2, part.3)

-- what was created before was closed again
pub failed_all : {s t u : Disk} {outs : List (List ℕ)} {ids : List ℕ} (log : List ℕ) (q : Result (Unit {0}) Failed) → HasFailed s t outs ids
    → ClosesWritten t u ids q → HasFailedAll s u outs log
failed_all {s} {t} {u} {outs} {ids} log q x y =
    let same : (name : List ℕ) → u.made name ≡ t.made name = λ name. ap (λ (made : List ℕ → Option (List ℕ)). made name) y.made in
    record {
      rose = let rose = x.rose in omega (arith, rose, y.faults.rises);
      read_faults = y.read_faults ∙ x.read_faults;
      held = SameHeld-trans x.held y.held;
      ids = closed_again ids x.opens y.closes;
      parts = λ told apart port name at. part_same s t u name header (same name) (x.parts told apart port name at);
      log_made = λ told none. same log ∙ x.others told log none;
      others = λ told name none. same name ∙ x.others told name (All-tail (λ other. name ≢ other) log outs none);
    }

-- ---- closing

pub ClosesWritten-none : (s : Disk) → ClosesWritten s s [] (Ok tt)
ClosesWritten-none s = record {
  faults = record { failed = tt; same = refl; rises = omega arith };
  read_faults = refl;
  held = SameHeld-refl s;
  made =
      refl;
  closes = DiffersBy-none s;
}

pub ClosesWritten-next : {s t u : Disk} {ids : List ℕ} {id : ℕ} (r : Result (Unit {0}) Failed) → ClosesWritten s t ids r → IsOpen Writes (t.opened id)
    → Closes t u id (Ok tt)
    → ClosesWritten s u (id ∷ ids) r
ClosesWritten-next {s} {t} {u} {ids} {id} (Ok done) x open_for y = record {
  faults = record {
    failed = tt;
    same = (y.of_write open_for).0.same ∙ x.faults.same;
    rises = let more = (y.of_write open_for).0.rises in
        omega (arith, x.faults.rises, more);
  };
  read_faults = y.read_faults ∙ x.read_faults;
  held = SameHeld-trans x.held y.held;
  made = y.made ∙ x.made;
  closes = DiffersBy-append (id ∷ []) ids (closes_one y.closes) x.closes;
}
ClosesWritten-next {s} {t} {u} {ids} {id} (Err e) x open_for y = record {
  faults = record {
    failed = let more = (y.of_write open_for).0.rises in let rose = x.faults.failed in omega (arith, rose, more);
    same = tt;
    rises =
        let more = (y.of_write open_for).0.rises in omega (arith, x.faults.rises, more);
  };
  read_faults = y.read_faults ∙ x.read_faults;
  held = SameHeld-trans x.held y.held;
  made = y.made ∙ x.made;
  closes = DiffersBy-append (id ∷ []) ids (closes_one y.closes) x.closes;
}

pub ClosesWritten-fails : {s t u : Disk} {ids : List ℕ} {id : ℕ} {e : Failed} (r : Result (Unit {0}) Failed) (f : Failed) → ClosesWritten s t ids r
    → IsOpen Writes (t.opened id) → Closes t u id (Err e)
    → ClosesWritten s u (id ∷ ids) (Err f)
ClosesWritten-fails {s} {t} {u} {ids} {id} r f x open_for y = record {
  faults = record {
    failed = let rose = (y.of_write open_for).0.failed in omega (arith, rose, x.faults.rises);
    same = tt;
    rises = let more =
        (y.of_write open_for).0.rises in omega (arith, x.faults.rises, more);
  };
  read_faults = y.read_faults ∙ x.read_faults;
  held = SameHeld-trans x.held y.held;
  made = y.made ∙ x.made;
  closes = DiffersBy-append (id ∷ []) ids (closes_one y.closes) x.closes;
}

-- a file, and then others
pub closes_then : {s t u : Disk} {ids : List ℕ} {id : ℕ} (r : Result (Unit {0}) Failed) → IsOpen Writes (s.opened id) → Closes s t id (Ok tt)
    → ClosesWritten t u ids r → ClosesWritten s u (ids ++ id ∷ []) r
closes_then {s} {t} {u} {ids} {id} (Ok done) open_for x y = record {
  faults = record {
    failed = tt;
    same = y.faults.same ∙ (x.of_write open_for).0.same;
    rises = let more = (x.of_write open_for).0.rises in
        omega (arith, y.faults.rises, more);
  };
  read_faults = y.read_faults ∙ x.read_faults;
  held = SameHeld-trans x.held y.held;
  made = y.made ∙ x.made;
  closes = DiffersBy-append ids (id ∷ []) y.closes (closes_one x.closes);
}
closes_then {s} {t} {u} {ids} {id} (Err e) open_for x y = record {
  faults = record {
    failed = let more = (x.of_write open_for).0.rises in let rose = y.faults.failed in omega (arith, rose, more);
    same = tt;
    rises =
        let more = (x.of_write open_for).0.rises in omega (arith, y.faults.rises, more);
  };
  read_faults = y.read_faults ∙ x.read_faults;
  held = SameHeld-trans x.held y.held;
  made = y.made ∙ x.made;
  closes = DiffersBy-append ids (id ∷ []) y.closes (closes_one x.closes);
}

pub closes_fails : {s t u : Disk} {ids : List ℕ} {id : ℕ} {e : Failed} (r : Result (Unit {0}) Failed) (f : Failed) → IsOpen Writes (s.opened id)
    → Closes s t id (Err e) → ClosesWritten t u ids r
    → ClosesWritten s u (ids ++ id ∷ []) (Err f)
closes_fails {s} {t} {u} {ids} {id} r f open_for x y = record {
  faults = record {
    failed = let rose = (x.of_write open_for).0.failed in omega (arith, rose, y.faults.rises);
    same = tt;
    rises = let more =
        (x.of_write open_for).0.rises in omega (arith, y.faults.rises, more);
  };
  read_faults = y.read_faults ∙ x.read_faults;
  held = SameHeld-trans x.held y.held;
  made = y.made ∙ x.made;
  closes = DiffersBy-append ids (id ∷ []) y.closes (closes_one x.closes);
}

-- ---- the last of several

pub popped : (all items left closed : List ℕ) (last : ℕ) → items ≡ left ++ last ∷ [] → all ≡ items ++ closed → all ≡ left ++ last ∷ closed
popped all items left closed last is whole = whole ∙ ap (λ l. l ++ closed) is ∙ append_assoc left (last ∷ []) closed

pub last_open : {s : Disk} (ids : List ℕ) (last : ℕ) → AreWritable s (ids ++ last ∷ []) → IsOpen Writes (s.opened last)
last_open {s} ids last writable = All-last (λ id. IsOpen Writes (s.opened id)) ids last writable.opened
