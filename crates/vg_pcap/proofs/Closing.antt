-- Closing one input after another.
use Rattle.std.proofs.Common.{◌≡◌, ◌≢◌, ℕ, zero, suc, ◌<◌, ⊎_elim, refl, ◌∙◌, sym, ap, subst, List, [], ◌∷◌, ◌++◌, length, slice_get, Ok, Err, Some}
use Rattle.std.proofs.Common.{None, Option, Result, arith, append_assoc, append-nil}
use Rattle.std.specs.Result.{result_and}
use Rattle.std.specs.List.{cons_option}
use Rattle.std.proofs.lemmas.Bool.{cases_eq}
use Rattle.std.proofs.lemmas.List.Elements.{All-nil, All-cons, All-head, All-tail, All-weaker}
use Rattle.std.proofs.lemmas.Option.{slice_get_within}
use Rattle.vg_base.specs.Files.{Disk, Counts, ReadKeeps, SameIds, ClosesOne}
use Rattle.vg_base.specs.declared.faults.Failed.{Failed}
use Rattle.vg_base.specs.Several.{DiffersBy}
use Rattle.vg_base.proofs.Disks.{ReadKeeps-trans, SameHeld-refl}
use Rattle.vg_pcap.specs.Reader.{IsReadable, Shuts}
use Rattle.vg_pcap.specs.Merge.{Input, AreReadable, ids_of, ClosesInputs}
use Rattle.vg_pcap.specs.Inputs.{AreApart}
use Rattle.vg_pcap.proofs.Arriving.{All-from_places, All-at_place}
use Rattle.vg_pcap.proofs.Staying.{SameId, IsReadable-stays}

-- ---- places in appended lists

pub slice_get-append_left : {A : Type 0} (xs ys : List A) (i : ℕ) (x : A) → slice_get xs i ≡ Some x → slice_get (xs ++ ys) i ≡ Some x
slice_get-append_left [] ys i x at = absurd cc
slice_get-append_left (y ∷ xs) ys zero x at = at
slice_get-append_left (y ∷ xs) ys (suc i) x at = slice_get-append_left xs ys i x at

pub slice_get-append_next : {A : Type 0} (xs ys : List A) (x : A) → slice_get (xs ++ x ∷ ys) (length xs) ≡ Some x
slice_get-append_next [] ys x = refl
slice_get-append_next (y ∷ xs) ys x = slice_get-append_next xs ys x

-- ---- counts

pub Counts-then : {a b c : ℕ} (first second : Result (Unit {0}) Failed) → Counts a b first → Counts b c second → Counts a c (result_and first second)
Counts-then (Ok done) (Ok done-2) x y = record { failed = tt; same = y.same ∙ x.same; rises = omega (arith, x.rises, y.rises) }
Counts-then (Ok done) (Err e) x y = record {
  failed = (let rose = y.failed in let same = x.same in omega arith);
  same = tt;
  rises =
      omega (arith, x.rises, y.rises);
}
Counts-then (Err e) (Ok done) x y = record {
  failed = (let rose = x.failed in let same = y.same in omega arith);
  same = tt;
  rises =
      omega (arith, x.rises, y.rises);
}
Counts-then (Err e) (Err e-2) x y = record {
  failed = (let rose = x.failed in let rises = y.rises in omega arith);
  same = tt;
  rises =
      omega (arith, x.rises, y.rises);
}

-- ---- the ids

-- no id makes a difference
pub differs-none : (s : Disk) → DiffersBy s s []
differs-none s = record { closed = All-nil (λ id. s.opened id ≡ None); others = λ id all. refl; count = omega arith }

-- one more id is closed, or none
pub differs-more : {s t u : Disk} {ids : List ℕ} (id : Option ℕ) → DiffersBy t s ids → (id ≡ None → SameIds t u)
    → ((j : ℕ) → id ≡ Some j → ClosesOne t u j) → DiffersBy u s (cons_option id ids)
differs-more {s} {t} {u} {ids} None before none one =
    let same = none refl in
    record {
      closed = All-weaker (λ id. t.opened id ≡ None) (λ id. u.opened id ≡ None) (λ id e. ap (λ f. f id) same.opened ∙ e) ids before.closed;
      others = λ id all. before.others id all ∙ sym (ap (λ f. f id) same.opened);
      count = omega (arith, before.count, same.open_count);
    }
differs-more {s} {t} {u} {ids} (Some j) before none one =
    let closes = one j refl in
    let still_closed : (id : ℕ) → t.opened id ≡ None → u.opened id ≡ None =
    λ id e. ⊎_elim (λ (same : id ≡ j). ap u.opened same ∙ closes.now) (λ (ne : id ≢ j). closes.others id ne ∙ e) (cases_eq id j) in
    record {
      closed = All-cons (λ id. u.opened id ≡ None) j ids closes.now (All-weaker (λ id. t.opened id ≡ None) (λ id. u.opened id ≡ None) still_closed ids
          before.closed);
      others = λ id all. before.others id (All-tail (λ other. id ≢ other) j ids all) ∙ sym (closes.others id (All-head (λ other. id ≢ other) j ids all));
      count = omega (arith, before.count, closes.one_less);
    }

-- ---- one after another

-- the last inputs were closed, and these are left
pub record Closing (s t : Disk) (all rest : List Input) (result : Result (Unit {0}) Failed) : Type 0 where
  pub closed : List Input
  pub whole : all ≡ rest ++ closed
  pub faults : Counts s.shut_faults t.shut_faults result
  pub read_faults : t.read_faults ≡ s.read_faults
  pub keeps : ReadKeeps s t
  pub closes : DiffersBy t s (ids_of closed)
  pub readable : AreReadable t rest

pub closing-none : {s : Disk} (inputs : List Input) → AreReadable s inputs → Closing s s inputs inputs (Ok tt)
closing-none {s} inputs readable = record {
  closed = [];
  whole = sym (append-nil inputs);
  faults = record { failed = tt; same = refl; rises = omega arith };
  read_faults = refl;
  keeps = record { write_faults = refl; held = SameHeld-refl s; made = refl };
  closes = differs-none s;
  readable = readable;
}

-- the input that is closed next can be read
pub last_readable : {s t : Disk} {all items : List Input} {result : Result (Unit {0}) Failed} (rest : List Input) (input : Input)
    → Closing s t all items result → items ≡ rest ++ input ∷ [] → IsReadable t input.reader.id
last_readable {s} {t} {all} {items} rest input before is =
    All-at_place (λ i. IsReadable t i.reader.id) items (length rest) input before.readable
    (ap (λ l. slice_get l (length rest)) is ∙ slice_get-append_next rest [] input)

pub closing-more : {s t u : Disk} {all items : List Input} {first second : Result (Unit {0}) Failed} (rest : List Input) (input : Input)
    → AreApart all → Closing s t all items first → items ≡ rest ++ input ∷ [] → Shuts t u input.reader.id second
    → Closing s u all rest (result_and first second)
closing-more {s} {t} {u} {all} {items} {first} {second} rest input apart before is shuts =
    let whole : all ≡ rest ++ input ∷ before.closed = before.whole ∙ (ap (λ l. l ++ before.closed) is ∙ append_assoc rest (input ∷ []) before.closed) in
    record {
      closed = input ∷ before.closed;
      whole = whole;
      faults = Counts-then first second before.faults shuts.faults;
      read_faults = shuts.read_faults ∙ before.read_faults;
      keeps = ReadKeeps-trans before.keeps shuts.keeps;
      closes = differs-more input.reader.id before.closes shuts.none shuts.one;
      readable = All-from_places (λ i. IsReadable u i.reader.id) rest
          (λ p x at.
          let there : slice_get items p ≡ Some x = ap (λ l. slice_get l p) is ∙ slice_get-append_left rest (input ∷ []) p x at in
          let readable : IsReadable t x.reader.id = All-at_place (λ i. IsReadable t i.reader.id) items p x before.readable there in
          let lt : p < length rest = slice_get_within rest p x at in
          let in_all : slice_get all p ≡ Some x = ap (λ l. slice_get l p) whole ∙ slice_get-append_left rest (input ∷ before.closed) p x at in
          let last_in_all : slice_get all (length rest) ≡ Some input = ap (λ l. slice_get l (length rest)) whole
          ∙ slice_get-append_next rest before.closed input in
          let stands : SameId t u x.reader.id =
          record {
            stands = λ j x-is. same_after input.reader.id j (λ same. let same_place =
                apart.places p (length rest) x input j in_all last_in_all x-is same in omega arith) shuts.none shuts.one;
          } in
          IsReadable-stays x.reader.id readable stands);
    }
  where
    same_after : (id : Option ℕ) (j : ℕ) → (id ≡ Some j → ⊥) → (id ≡ None → SameIds t u) → ((k : ℕ) → id ≡ Some k → ClosesOne t u k) → u.opened j ≡ t.opened j
    same_after None j ne none one = ap (λ f. f j) (none refl).opened
    same_after (Some k) j ne none one = (one k refl).others j (λ e. ne (ap Some (sym e)))

pub closing-all : {s t : Disk} {all rest : List Input} {result : Result (Unit {0}) Failed} → rest ≡ [] → Closing s t all rest result
    → ClosesInputs s t all result
closing-all {s} {t} {all} {rest} none closing =
    let whole : all ≡ closing.closed = closing.whole ∙ ap (λ l. l ++ closing.closed) none in
    record {
      faults = closing.faults;
      read_faults = closing.read_faults;
      keeps = closing.keeps;
      closes = subst (λ (l : List Input). DiffersBy t s (ids_of l)) (sym whole) closing.closes;
    }
