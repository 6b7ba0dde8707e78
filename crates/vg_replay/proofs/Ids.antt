-- Ids that are opened and closed together.
use Rattle.std.proofs.lemmas.Bool.Decides.{eqb_tells}
use Rattle.std.proofs.lemmas.List.Elements.{All-nil, All-cons, All-append, All-push, All-head, All-contains}
use Rattle.std.proofs.lemmas.List.Quantifiers.{all_pairs_push}
use Rattle.std.proofs.Math.Path.{fun_ext}
use Rattle.std.proofs.Common.{◌≡◌, ◌≢◌, ◌<◌, ◌⊎◌, ◌∙◌, ℕ, suc, List, [], ◌∷◌, ◌++◌, length, get_or, All, AllPairs, Contains, None, inl, inr, refl}
use Rattle.std.proofs.Common.{sym, arith, length-append}
use Rattle.vg_base.specs.Files.{Disk, Mode, Writes, IsOpen, SameIds, OpensOne, ClosesOne}
use Rattle.vg_base.specs.Several.{DiffersBy, AreOpen}
use Rattle.std.proofs.lemmas.Option.{slice_get-get_or}
use Rattle.vg_replay.proofs.Places.{All-left, All-right, AllPairs-left, differ_at, at_left, at_end}
use Rattle.vg_replay.specs.UnderWay.{AreWritable}

-- an id is none of these, or one of them
pub none_or_one : (id : ℕ) (ids : List ℕ) → All (λ other. id ≢ other) ids ⊎ Contains ids id
none_or_one id [] = inl (All-nil (λ other. id ≢ other))
none_or_one id (x ∷ ids) = elim (eqb_tells id x) [
  | inl same ↦ inr (0, omega arith, sym same.1)
  | inr differs ↦ elim (none_or_one id ids) [
    | inl none ↦ inl (All-cons (λ other. id ≢ other) x ids differs.1 none)
    | inr one ↦ inr (suc one.0, omega (arith, one.1), one.2)
  ]
]

-- an id that is opened is none of those that are not
pub open_none : (mode : Mode) (s : Disk) (id : ℕ) (ids : List ℕ) → IsOpen mode (s.opened id) → All (λ j. s.opened j ≡ None) ids → All (λ other. id ≢ other) ids
open_none mode s id ids opened closed k d within same = rw (same, closed k d within) at opened

pub DiffersBy-none : (s : Disk) → DiffersBy s s []
DiffersBy-none s = record { closed = All-nil (λ id. s.opened id ≡ None); others = λ id none. refl; count = omega arith }

pub DiffersBy-append : {s t u : Disk} (xs ys : List ℕ) → DiffersBy s t xs → DiffersBy t u ys → DiffersBy s u (xs ++ ys)
DiffersBy-append {s} {t} {u} xs ys x y = record {
  closed = All-append (λ id. s.opened id ≡ None) xs ys x.closed (λ k d within. elim (none_or_one (get_or ys k d) xs) [
    | inl none ↦ sym (x.others (get_or ys k d) none) ∙ y.closed k d within
    | inr one ↦ All-contains (λ id. s.opened id ≡ None) xs (get_or ys k d) x.closed one
  ]);
  others = λ id none. y.others id (All-right (λ other. id ≢ other) xs ys none) ∙ x.others id (All-left (λ other. id ≢ other) xs ys none);
  count = omega (arith, x.count, y.count, length-append xs ys);
}

pub opens_one : {s t : Disk} {mode : Mode} {id : ℕ} → OpensOne s t mode id → DiffersBy s t (id ∷ [])
opens_one {s} {t} {mode} {id} o = record {
  closed = All-cons (λ j. s.opened j ≡ None) id [] o.was (All-nil (λ j. s.opened j ≡ None));
  others = λ j none. o.others j (All-head (λ other. j ≢ other) id [] none);
  count = omega (arith, o.one_more);
}

pub closes_one : {s t : Disk} {id : ℕ} → ClosesOne s t id → DiffersBy t s (id ∷ [])
closes_one {s} {t} {id} c = record {
  closed = All-cons (λ j. t.opened j ≡ None) id [] c.now (All-nil (λ j. t.opened j ≡ None));
  others = λ j none. sym (c.others j (All-head (λ other. j ≢ other) id [] none));
  count = omega (arith, c.one_less);
}

-- what was opened and closed again makes no difference
pub closed_again : {s t u : Disk} (ids : List ℕ) → DiffersBy s t ids → DiffersBy u t ids → SameIds s u
closed_again {s} {t} {u} ids opens closes =
    let at : (id : ℕ) → u.opened id ≡ s.opened id = λ id. elim (none_or_one id ids) [
      | inl none ↦ sym (closes.others id none) ∙ opens.others id none
      | inr one ↦ All-contains (λ j. u.opened j ≡ None) ids id closes.closed one ∙ sym (All-contains (λ j. s.opened j ≡ None) ids id opens.closed one)
    ] in
    record { opened = fun_ext at; open_count = omega (arith, opens.count, closes.count) }

-- ---- different ids, opened for writing

pub AreWritable-none : (s : Disk) → AreWritable s []
AreWritable-none s = record { opened = All-nil (λ id. IsOpen Writes (s.opened id)); apart = λ i j d below within. absurd (omega (arith, within)) }

-- ids that are opened stay so where others are opened or closed
pub open_stays : (s t : Disk) (mode : Mode) (ids changed : List ℕ) → AreOpen s mode ids → All (λ j. s.opened j ≡ None) changed →
    ((id : ℕ) → All (λ other. id ≢ other) changed → t.opened id ≡ s.opened id) → AreOpen t mode ids
open_stays s t mode ids changed opened closed same k d within =
    let here = opened k d within in
    rw (same (get_or ids k d) (open_none mode s (get_or ids k d) changed here closed)) here

pub AreWritable-push : {s t : Disk} {id : ℕ} (ids : List ℕ) → AreWritable s ids → OpensOne s t Writes id → AreWritable t (ids ++ id ∷ [])
AreWritable-push {s} {t} {id} ids w o = record {
  opened = All-push (λ j. IsOpen Writes (t.opened j)) ids id (open_stays s t Writes ids (id ∷ []) w.opened ((opens_one o).closed)
      (λ j none. o.others j (All-head (λ other. j ≢ other) id [] none))) o.now;
  apart = all_pairs_push ◌≢◌ ids id w.apart (λ k d within same. let here = w.opened k d within in rw (same, o.was) at here);
}

-- the ids but the last one, which is closed
pub AreWritable-pop : {s t : Disk} {id : ℕ} (ids : List ℕ) → AreWritable s (ids ++ id ∷ []) → ClosesOne s t id → AreWritable t ids
AreWritable-pop {s} {t} {id} ids w c = record {
  opened = λ k d within.
      let here = All-left (λ j. IsOpen Writes (s.opened j)) ids (id ∷ []) w.opened k d within in
      let other : get_or ids k d ≢ id = λ same. differs_last ids id w.apart k d within same in
      rw (c.others (get_or ids k d) other) here;
  apart = AllPairs-left ◌≢◌ ids (id ∷ []) w.apart;
}
  where
    differs_last : (ids : List ℕ) (id : ℕ) → AllPairs ◌≢◌ (ids ++ id ∷ []) → (k d : ℕ) → k < length ids → get_or ids k d ≢ id
    differs_last ids id apart k d within same =
        differ_at (ids ++ id ∷ []) k (length ids) (get_or ids k d) id apart (at_left ids (id ∷ []) k within ∙ slice_get-get_or ids k d within)
        (at_end ids id) (λ e. let short = within in omega (arith, e, short)) same

pub AreWritable-same : {s t : Disk} (ids : List ℕ) → SameIds s t → AreWritable s ids → AreWritable t ids
AreWritable-same ids same w = record { opened = rw same.opened w.opened; apart = w.apart }
