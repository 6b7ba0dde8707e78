-- What a write does to the captures of the ports.
use Rattle.std.proofs.lemmas.Bool.{false≢true, cases_Bool}
use Rattle.std.proofs.lemmas.Bool.Decides.{eqb_tells}
use Rattle.std.proofs.lemmas.Option.{slice_get_within}
use Rattle.std.proofs.Common.{◌≡◌, ◌≢◌, ◌<◌, ◌+◌, ◌∙◌, ℕ, List, [], ◌++◌, length, take, drop, slice_get, nat_lt, false, IsTrue, IsErr, is_err, Some}
use Rattle.std.proofs.Common.{Result, Ok, Err, inl, inr, refl, sym, append-nil, take-append-drop, lt-ltb, ltb-true, ltb-false, arith}
use Rattle.vg_base.proofs.Disks.{WriteKeeps-trans, WriteKeeps-refl}
use Rattle.vg_base.specs.declared.faults.Failed.{Failed}
use Rattle.vg_base.specs.Files.{Disk, Appends, WritesAll, WriteKeeps}
use Rattle.vg_replay.proofs.Places.{at_place, differ_at, All-at}
use Rattle.vg_replay.specs.Writing.{AreTold, Puts, HaveGrown, HaveBegun, piece_below}

-- a failure has one value
pub failed_is : {A : Type 0} (r : Result A Failed) → IsErr r → r ≡ Err (record {})
failed_is (Ok x) is = absurd (false≢true is)
failed_is (Err e) is = refl

-- what was told is told
pub told_after : {s t : Disk} → WriteKeeps s t → IsTrue s.tells_made → IsTrue t.tells_made
told_after keeps told = rw keeps.held.tells_made told

AreTold-after : {s t : Disk} {ids : List ℕ} {names : List (List ℕ)} → WriteKeeps s t → AreTold s ids names → AreTold t ids names
AreTold-after keeps told = record {
  told = told_after keeps told.told;
  ports = told.ports;
  named = rw keeps.ids.opened told.named;
  apart = told.apart;
}

-- ---- how many ports have got their piece

piece_below-none : (pieces : ℕ → List ℕ) (port : ℕ) → piece_below 0 pieces port ≡ []
piece_below-none pieces port = elim (cases_Bool (nat_lt port 0)) [
  | inl below ↦ let lt = ltb-true port 0 below in absurd (omega (arith, lt))
  | inr not ↦ rw not refl
]

piece_below-this : (count : ℕ) (pieces : ℕ → List ℕ) → piece_below (count + 1) pieces count ≡ pieces count
piece_below-this count pieces = rw (lt-ltb count (count + 1) (omega arith)) refl

piece_below-here : (count : ℕ) (pieces : ℕ → List ℕ) → piece_below count pieces count ≡ []
piece_below-here count pieces = elim (cases_Bool (nat_lt count count)) [
  | inl below ↦ let lt = ltb-true count count below in absurd (omega (arith, lt))
  | inr not ↦ rw not refl
]

pub piece_below-within : (count : ℕ) (pieces : ℕ → List ℕ) (port : ℕ) → port < count → piece_below count pieces port ≡ pieces port
piece_below-within count pieces port below = rw (lt-ltb port count below) refl

piece_below-next : (count : ℕ) (pieces : ℕ → List ℕ) (port : ℕ) → port ≢ count → piece_below (count + 1) pieces port ≡ piece_below count pieces port
piece_below-next count pieces port other = elim (cases_Bool (nat_lt port count)) [
  | inl below ↦ let lt = ltb-true port count below in rw (below, lt-ltb port (count + 1) (omega (arith, lt))) refl
  | inr not ↦ elim (cases_Bool (nat_lt port (count + 1))) [
    | inl below ↦ let lt = ltb-true port (count + 1) below in let ge = ltb-false port count not in absurd (omega (arith, lt, ge, other))
    | inr also ↦ rw (not, also) refl
  ]
]

piece_below-part : (count : ℕ) (pieces : ℕ → List ℕ) (port : ℕ) → (rest : List ℕ) × (pieces port ≡ piece_below count pieces port ++ rest)
piece_below-part count pieces port = elim (cases_Bool (nat_lt port count)) [
  | inl below ↦ ([], rw (below, append-nil) refl)
  | inr not ↦ (pieces port, rw not refl)
]

-- ---- one port after another

pub Puts-none : (s : Disk) (ids : List ℕ) (pieces : ℕ → List ℕ) → Puts s s ids pieces 0 (Ok tt)
Puts-none s ids pieces = record {
  faults = record { failed = tt; same = refl; rises = omega arith };
  keeps = WriteKeeps-refl s;
  grown = λ names told port name bytes at is. rw (piece_below-none pieces port, append-nil) is;
  begun = λ names told. tt;
  others = λ names told name none. refl;
}

-- the name of the port that is written next
name_of : (ids : List ℕ) (names : List (List ℕ)) (port id : ℕ) → length ids ≡ length names → slice_get ids port ≡ Some id → (name : List ℕ)
    × (slice_get names port ≡ Some name)
name_of ids names port id long at = at_place names port [] (let within = slice_get_within ids port id at in omega (arith, within, long))

grown_next : (s t u : Disk) (ids : List ℕ) (names : List (List ℕ)) (pieces : ℕ → List ℕ) (count : ℕ) (this : List ℕ) → AreTold s ids names
    → slice_get names count ≡ Some this →
    HaveGrown s t names pieces count → Appends t.made u.made this (pieces count) → HaveGrown s u names pieces (count + 1)
grown_next s t u ids names pieces count this told at_this before appends port name bytes at is = elim (eqb_tells port count) [
  | inl same ↦
      let here : slice_get names count ≡ Some name = rw (← same.1) at in
      let named : name ≡ this = some_is (sym here ∙ at_this) in
      let was : t.made this ≡ Some bytes = rw (same.1, named, piece_below-here count pieces, append-nil) at (before port name bytes at is) in
      rw (same.1, named, piece_below-this count pieces) (appends.grown bytes was)
  | inr other ↦
      rw (piece_below-next count pieces port other.1) (appends.others name (differ_at names port count name this told.apart at at_this other.1)
      ∙ before port name bytes at is)
]
  where
    some_is : {x y : List ℕ} → Some x ≡ Some y → x ≡ y
    some_is e = cc

begun_next : (s t u : Disk) (ids : List ℕ) (names : List (List ℕ)) (pieces : ℕ → List ℕ) (count : ℕ) (this : List ℕ) (n : ℕ) → AreTold s ids names
    → slice_get names count ≡ Some this →
    HaveGrown s t names pieces count → Appends t.made u.made this (take n (pieces count)) → HaveBegun s u names pieces
begun_next s t u ids names pieces count this n told at_this before appends port name bytes at is = elim (eqb_tells port count) [
  | inl same ↦
      let here : slice_get names count ≡ Some name = rw (← same.1) at in
      let named : name ≡ this = some_is (sym here ∙ at_this) in
      let was : t.made this ≡ Some bytes = rw (same.1, named, piece_below-here count pieces, append-nil) at (before port name bytes at is) in
      (take n (pieces count), drop n (pieces count), rw named (appends.grown bytes was), rw (same.1, take-append-drop) refl)
  | inr other ↦
      let part = piece_below-part count pieces port in (
        piece_below count pieces port,
        part.0,
        appends.others name (differ_at names port count name this told.apart at at_this other.1)
            ∙ before port name bytes at is,
        part.1,
      )
]
  where
    some_is : {x y : List ℕ} → Some x ≡ Some y → x ≡ y
    some_is e = cc

pub Puts-next : {s t u : Disk} {ids : List ℕ} {pieces : ℕ → List ℕ} {count id : ℕ} (r : Result (Unit {0}) Failed) → slice_get ids count ≡ Some id
    → Puts s t ids pieces count (Ok tt)
    → WritesAll t u id (pieces count) r → Puts s u ids pieces (count + 1) r
Puts-next {s} {t} {u} {ids} {pieces} {count} {id} (Ok done) at x y = record {
  faults = record { failed = tt; same = y.faults.same ∙ x.faults.same; rises = omega (arith, x.faults.rises, y.faults.rises) };
  keeps = WriteKeeps-trans x.keeps y.keeps;
  grown = λ names told.
      let this = name_of ids names count id told.ports at in
      let later = AreTold-after x.keeps told in
      grown_next s t u ids names pieces count this.0 told this.1 (x.grown names told) (y.whole later.told this.0 (later.named count id this.0 at this.1));
  begun = λ names told. tt;
  others = λ names told name none.
      let this = name_of ids names count id told.ports at in
      let later = AreTold-after x.keeps told in
      (y.whole later.told this.0 (later.named count id this.0 at this.1)).others name (All-at (λ other. name ≢ other) names count this.0 none this.1)
      ∙ x.others names told name none;
}
Puts-next {s} {t} {u} {ids} {pieces} {count} {id} (Err e) at x y = record {
  faults = record { failed = rw x.faults.same at y.faults.failed; same = tt; rises = omega (arith, x.faults.rises, y.faults.rises) };
  keeps = WriteKeeps-trans x.keeps y.keeps;
  grown = λ names told. tt;
  begun = λ names told.
      let this = name_of ids names count id told.ports at in
      let later = AreTold-after x.keeps told in
      let part = y.prefix later.told this.0 (later.named count id this.0 at this.1) in
      begun_next s t u ids names pieces count this.0 part.0 told this.1 (x.grown names told) part.2;
  others = λ names told name none.
      let this = name_of ids names count id told.ports at in
      let later = AreTold-after x.keeps told in
      let part = y.prefix later.told this.0 (later.named count id this.0 at this.1) in
      part.2.others name (All-at (λ other. name ≢ other) names count this.0 none this.1) ∙ x.others names told name none;
}

-- where a port's piece fails, it doesn't matter how many were to be written
pub Puts-stops : {s t : Disk} {ids : List ℕ} {pieces : ℕ → List ℕ} {count : ℕ} (all : ℕ) {e : Failed} → Puts s t ids pieces count (Err e)
    → Puts s t ids pieces all (Err e)
Puts-stops all x = record { faults = x.faults; keeps = x.keeps; grown = λ names told. tt; begun = x.begun; others = x.others }

-- what is no failure is done
pub ok_is : (r : Result (Unit {0}) Failed) → is_err r ≡ false → r ≡ Ok tt
ok_is (Ok done) is = refl
ok_is (Err e) is = absurd (false≢true (sym is))
