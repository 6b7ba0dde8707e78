-- One call after another.
use Rattle.std.proofs.Common.{◌≡◌, ℕ, ◌+◌, List, [], ◌++◌, take, drop, Option, Some, None, IsSome, refl, ◌∙◌, ap, append_assoc, append-nil, IsTrue}
use Rattle.std.proofs.Common.{Result, Ok, Err, length, length-append, arith}
use Rattle.std.proofs.lemmas.List.{take-append-le}
use Rattle.std.proofs.Math.Seq.{take-add, take-append-add}
use Rattle.vg_base.specs.declared.faults.Failed.{Failed}
use Rattle.vg_base.specs.Files.{Mode, Opened, IsOpen, Disk, WritesAll, ReadsNext, GivesNext, Contents, writing, Appends, WriteKeeps, ReadKeeps}
use Rattle.vg_base.specs.Files.{SameHeld, SameIds}

-- an id that is open for something is open
pub IsOpen-some : (mode : Mode) (o : Option Opened) → IsOpen mode o → IsSome o
IsOpen-some mode None h = absurd h
IsOpen-some mode (Some id) h = refl

-- after a write each id is open for what it was
pub WriteKeeps-open : {s t : Disk} (mode : Mode) (id : ℕ) → WriteKeeps s t → IsOpen mode (s.opened id) → IsOpen mode (t.opened id)
WriteKeeps-open mode id keeps h = rw keeps.ids.opened h

pub Appends-none : (made : Contents) (name : List ℕ) → Appends made made name []
Appends-none made name = record { grown = λ bytes e. rw append-nil e; others = λ other ne. refl }

pub Appends-more : {a b c : Contents} {name p q : List ℕ} → Appends a b name p → Appends b c name q → Appends a c name (p ++ q)
Appends-more {p = p} {q = q} x y = record {
  grown = λ bytes e. y.grown (bytes ++ p) (x.grown bytes e) ∙ ap Some (append_assoc bytes p q);
  others = λ other ne. y.others other ne ∙ x.others other ne;
}

-- a part of a piece, and then a part of what is left of it
pub Appends-take : {a b c : Contents} {name : List ℕ} (piece : List ℕ) (k n : ℕ) → Appends a b name (take k piece)
    → Appends b c name (take n (drop k piece)) → Appends a c name (take (k + n) piece)
Appends-take piece k n x y = rw take-add (Appends-more x y)

pub SameHeld-refl : (s : Disk) → SameHeld s s
SameHeld-refl s = record { tells_held = refl; held = refl; tells_made = refl }

pub SameHeld-trans : {s t u : Disk} → SameHeld s t → SameHeld t u → SameHeld s u
SameHeld-trans x y = record {
  tells_held = y.tells_held ∙ x.tells_held;
  held = y.held ∙ x.held;
  tells_made = y.tells_made ∙ x.tells_made;
}

pub SameIds-trans : {s t u : Disk} → SameIds s t → SameIds t u → SameIds s u
SameIds-trans x y = record { opened = y.opened ∙ x.opened; open_count = y.open_count ∙ x.open_count }

pub WriteKeeps-refl : (s : Disk) → WriteKeeps s s
WriteKeeps-refl s = record {
  read_faults = refl;
  shut_faults = refl;
  held = SameHeld-refl s;
  ids = record { opened = refl; open_count = refl };
}

pub WriteKeeps-trans : {s t u : Disk} → WriteKeeps s t → WriteKeeps t u → WriteKeeps s u
WriteKeeps-trans x y = record {
  read_faults = y.read_faults ∙ x.read_faults;
  shut_faults = y.shut_faults ∙ x.shut_faults;
  held = SameHeld-trans x.held y.held;
  ids = SameIds-trans x.ids y.ids;
}

pub ReadKeeps-trans : {s t u : Disk} → ReadKeeps s t → ReadKeeps t u → ReadKeeps s u
ReadKeeps-trans x y = record {
  write_faults = y.write_faults ∙ x.write_faults;
  held = SameHeld-trans x.held y.held;
  made = y.made ∙ x.made;
}

-- what was told is told, and the id still writes to that file
pub appends_after : {s t : Disk} {last : Contents} (id : ℕ) (piece : List ℕ) (k n : ℕ) → WriteKeeps s t →
    (IsTrue s.tells_made → (name : List ℕ) → s.opened id ≡ writing name → Appends s.made t.made name (take k piece)) →
    (IsTrue t.tells_made → (name : List ℕ) → t.opened id ≡ writing name → Appends t.made last name (take n (drop k piece))) →
    IsTrue s.tells_made → (name : List ℕ) → s.opened id ≡ writing name → Appends s.made last name (take (k + n) piece)
appends_after {s} {t} id piece k n keeps first then told name is =
    let told_t : IsTrue t.tells_made = rw keeps.held.tells_made told in
    let is_t : t.opened id ≡ writing name = rw keeps.ids.opened is in
    Appends-take piece k n (first told name is) (then told_t name is_t)

-- a read is no write
pub ReadsNext-keeps : {s t : Disk} {id : ℕ} {into : List ℕ} {result : Result ℕ Failed} → ReadsNext s t id into result → ReadKeeps s t
ReadsNext-keeps read = record { write_faults = read.write_faults; held = read.held; made = read.made }

-- the first bytes of a file, and those that a read gives after them
pub take-next : {bytes : List ℕ} {place n : ℕ} {into : List ℕ} (got : List ℕ) → GivesNext bytes place n into →
    got ≡ take place bytes → got ++ take n into ≡ take (place + n) bytes
take-next got next is = rw (take-add, next.next, is) refl

-- what is told after a file was only read is what was told before
pub told_before : {s t : Disk} → ReadKeeps s t → IsTrue s.tells_held → IsTrue t.tells_held
told_before keeps told = rw keeps.held.tells_held told

pub held_before : {s t : Disk} {name bytes : List ℕ} → ReadKeeps s t → s.held name ≡ Some bytes → t.held name ≡ Some bytes
held_before keeps held = rw keeps.held.held held

-- a whole piece, and then another
pub WritesAll-then : {s t u : Disk} {id : ℕ} {p q : List ℕ} (r : Result (Unit {0}) Failed) → WritesAll s t id p (Ok tt) → WritesAll t u id q r
    → WritesAll s u id (p ++ q) r
WritesAll-then {s} {t} {p = p} {q = q} (Ok done) x y = record {
  faults = record { failed = tt; same = y.faults.same ∙ x.faults.same; rises = omega (arith, x.faults.rises, y.faults.rises) };
  keeps = WriteKeeps-trans x.keeps y.keeps;
  whole = λ told name is. Appends-more (x.whole told name is) (y.whole (rw x.keeps.held.tells_made told) name (rw x.keeps.ids.opened is));
  prefix = tt;
}
WritesAll-then {s} {t} {p = p} {q = q} (Err e) x y = record {
  faults = record { failed = rw x.faults.same at y.faults.failed; same = tt; rises = omega (arith, x.faults.rises, y.faults.rises) };
  keeps = WriteKeeps-trans x.keeps y.keeps;
  whole = tt;
  prefix = λ told name is.
      let part = y.prefix (rw x.keeps.held.tells_made told) name (rw x.keeps.ids.opened is) in
      let both = Appends-more (x.whole told name is) part.2 in
      (length p + part.0, omega (arith, part.1, length-append p q), rw (take-append-add p q part.0) both);
}

-- where the first piece fails, so does the whole
pub WritesAll-stops : {s t : Disk} {id : ℕ} {p : List ℕ} (q : List ℕ) {e : Failed} → WritesAll s t id p (Err e) → WritesAll s t id (p ++ q) (Err e)
WritesAll-stops {p = p} q x = record {
  faults = x.faults;
  keeps = x.keeps;
  whole = tt;
  prefix = λ told name is.
      let part = x.prefix told name is in
      (part.0, omega (arith, part.1, length-append p q), rw (take-append-le part.0 p q part.1) part.2);
}
