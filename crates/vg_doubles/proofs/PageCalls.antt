-- What opening, reading, writing and closing pages does to what is seen of files in memory.
use Rattle.std.proofs.Common.{◌≡◌, ◌≢◌, ℕ, zero, suc, ◌+◌, ◌-◌, ◌<◌, List, [], ◌∷◌, length, true, false, Some, None, IsSome, refl, sym, ◌∙◌, ap, arith}
use Rattle.std.specs.Prelude.{string_bytes, All, ◌&&◌, nat_lt, nat_le, min, unwrap_or, option_and_then}
use Rattle.std.proofs.lemmas.List.Elements.{All-head, All-tail}
use Rattle.vg_doubles.specs.declared.pages.Place.{Place}
use Rattle.vg_doubles.specs.declared.pages.Role.{Role}
use Rattle.vg_doubles.specs.declared.pages.Role.TheVariants.{Free, Reading, Writing, WasRead, Written}
use Rattle.vg_doubles.specs.declared.pages.Page.{Page}
use Rattle.vg_base.specs.Files.{Opened, AreBytes, Reads, Writes, IsOpen, reading, writing, GivesNext}
use Rattle.vg_doubles.specs.Named.{Named, lookup, name_at, bytes_at}
use Rattle.vg_doubles.specs.Pages.{is_made, made_on, made_at, seen_as, opened_on, role_at, name_on, open_weight, free_weight, is_reading, open_pages}
use Rattle.vg_doubles.specs.Pages.{free_pages, with_role, closed, HasMemory, IsReadable, KeepsFit, TakesPage, StartsReading, ReadsOn}
use Rattle.vg_doubles.proofs.PageRoles.{opened-seen, weight-within, reading-weight, reads-reading, writes-writing, some-weight, length-with_role}
use Rattle.vg_doubles.proofs.PageRoles.{opened-with_role, opened-with_role_other, open_pages-with_role, free_pages-with_role, made-with_role}
use Rattle.vg_doubles.proofs.PageRoles.{memory-with_role, readable-with_role}

some_is : {A : Type 0} {x y : A} → Some x ≡ Some y → x ≡ y
some_is e = cc

pub names-are : {a b : Opened} → Some a ≡ Some b → (a.name ≡ b.name) × (a.place ≡ b.place)
names-are e = (ap (λ (o : Opened). o.name) (some_is e), ap (λ (o : Opened). o.place) (some_is e))

reading_is : {p q : Place} → Reading p ≡ Reading q → p ≡ q
reading_is e = cc

-- an open id has a page

module _ (held : List Named) (ps : List Page) (id : ℕ) where
  pub open-weight : IsSome (opened_on held ps id) → open_weight (role_at ps id) ≡ 1
  open-weight h = some-weight held (name_on ps id) (role_at ps id) (rw (← opened-seen held ps id) h)

  pub open-within : IsSome (opened_on held ps id) → id < length ps
  open-within h = weight-within ps id (open-weight h)

  pub reader-reading : IsOpen Reads (opened_on held ps id) → is_reading (role_at ps id) ≡ true
  reader-reading h = reads-reading held (name_on ps id) (role_at ps id) (rw (← opened-seen held ps id) h)

  pub reader-within : IsOpen Reads (opened_on held ps id) → id < length ps
  reader-within h = weight-within ps id (reading-weight (role_at ps id) (reader-reading h))

  pub writer-writing : IsOpen Writes (opened_on held ps id) → role_at ps id ≡ Writing
  writer-writing h = writes-writing held (name_on ps id) (role_at ps id) (rw (← opened-seen held ps id) h)

  pub writer-seen : role_at ps id ≡ Writing → opened_on held ps id ≡ writing (name_on ps id)
  writer-seen e = opened-seen held ps id ∙ ap (seen_as held (name_on ps id)) e

  pub reader-seen : (place : Place) → role_at ps id ≡ Reading place → opened_on held ps id ≡ reading (name_at held place.file) place.at
  reader-seen place e = opened-seen held ps id ∙ ap (seen_as held (name_on ps id)) e

-- a file was opened for reading

module _ {held : List Named} {old new : List Page} {name : List ℕ} {id : ℕ} (starts : StartsReading held old new name id) where
  abbrev place : Place
  place = record { file = starts.file; at = 0 }

  pub starts-takes : TakesPage held old new (reading name 0) id
  starts-takes = rw starts.now (record {
    was = opened-seen held old id ∙ ap (seen_as held (name_on old id)) starts.was;
    now = opened-with_role held old id (Reading place) starts.within ∙ ap (λ (l : List ℕ). reading l 0) starts.named;
    others = λ j ne. opened-with_role_other held old id (Reading place) j ne;
    one_more = omega (arith, open_pages-with_role old id (Reading place) starts.within, ap open_weight starts.was);
    one_less = omega (arith, free_pages-with_role old id (Reading place) starts.within, ap free_weight starts.was);
  })

  pub starts-made : made_on new ≡ made_on old
  starts-made = ap made_on starts.now ∙ made-with_role old id (Reading place) (rw starts.was refl)

  pub starts-exists : IsSome (lookup held name)
  starts-exists = rw (← starts.named, starts.first.found) refl

  pub starts-bytes : (file : List ℕ) → lookup held name ≡ Some file → AreBytes file
  starts-bytes file is =
      let stored : bytes_at held starts.file ≡ file = some_is (sym starts.first.found ∙ ap (lookup held) starts.named ∙ is) in
      rw (← stored) starts.bytes

  pub starts-memory : (room : ℕ) → All (HasMemory room) old → All (HasMemory room) new
  starts-memory room all = rw starts.now (memory-with_role room old id (Reading place) all)

  pub starts-readable : All (IsReadable held) old → All (IsReadable held) new
  starts-readable all = rw starts.now (readable-with_role held old id (Reading place) (λ p e. rw (← reading_is e) starts.first)
      (λ p e. rw (← reading_is e) (omega arith)) all)

  pub starts-count : length new ≡ length old
  starts-count = ap (λ (ps : List Page). length ps) starts.now ∙ length-with_role old id (Reading place)

-- an id was read from

module _ {held : List Named} {old new : List Page} {id n : ℕ} {into : List ℕ} (read : ReadsOn held old new id n into) where
  abbrev next_place : Place
  next_place = record { file = read.place.file; at = read.place.at + n }

  here : id < length old
  here = weight-within old id (ap open_weight read.was)

  pub reads-bytes : (name : List ℕ) (place : ℕ) (bytes : List ℕ) → opened_on held old id ≡ reading name place → lookup held name ≡ Some bytes
      → GivesNext bytes place n into
  reads-bytes name place bytes is found =
      let same = names-are (sym (reader-seen held old id read.place read.was) ∙ is) in
      let stored : bytes_at held read.place.file ≡ bytes = some_is (sym read.first.found ∙ ap (lookup held) same.0 ∙ found) in
      rw (← stored, ← same.1) read.next

  now_seen : opened_on held new id ≡ reading (name_at held read.place.file) (read.place.at + n)
  now_seen = ap (λ (ps : List Page). opened_on held ps id) read.now ∙ opened-with_role held old id (Reading next_place) here

  pub reads-place : (name : List ℕ) (place : ℕ) → opened_on held old id ≡ reading name place → opened_on held new id ≡ reading name (place + n)
  reads-place name place is =
      let same = names-are (sym (reader-seen held old id read.place read.was) ∙ is) in
      rw (← same.0, ← same.1) now_seen

  pub reads-open : IsOpen Reads (opened_on held new id)
  reads-open = rw now_seen refl

  pub reads-others : (j : ℕ) → j ≢ id → opened_on held new j ≡ opened_on held old j
  reads-others j ne = ap (λ (ps : List Page). opened_on held ps j) read.now ∙ opened-with_role_other held old id (Reading next_place) j ne

  pub reads-open_pages : open_pages new ≡ open_pages old
  reads-open_pages = rw read.now (omega (arith, open_pages-with_role old id (Reading next_place) here, ap open_weight read.was))

  pub reads-free_pages : free_pages new ≡ free_pages old
  reads-free_pages = rw read.now (omega (arith, free_pages-with_role old id (Reading next_place) here, ap free_weight read.was))

  pub reads-made : made_on new ≡ made_on old
  reads-made = ap made_on read.now ∙ made-with_role old id (Reading next_place) (rw read.was refl)

  pub reads-memory : (room : ℕ) → All (HasMemory room) old → All (HasMemory room) new
  reads-memory room all = rw read.now (memory-with_role room old id (Reading next_place) all)

  pub reads-readable : All (IsReadable held) old → All (IsReadable held) new
  reads-readable all = rw read.now (readable-with_role held old id (Reading next_place) (λ p e. rw (← reading_is e) read.first)
      (λ p e. rw (← reading_is e) read.next.within) all)

  pub reads-count : length new ≡ length old
  reads-count = ap (λ (ps : List Page). length ps) read.now ∙ length-with_role old id (Reading next_place)

-- what is seen of the written bytes behind an id that writes
pub made_behind-writing : (held : List Named) (ps : List Page) (id : ℕ) → role_at ps id ≡ Writing
    → unwrap_or (option_and_then (λ (file : Opened). made_on ps file.name) (opened_on held ps id)) [] ≡ made_at ps id
made_behind-writing held ps id e = rw (writer-seen held ps id e) refl

-- what is taken of a piece is some of it, where there is room
pub takes-some : (n len room made : ℕ) → n ≡ min len (room - made) → false ≡ (nat_lt 0 len && nat_le room made) → 0 < len → 0 < n
takes-some n len room made e f some = grind arith

-- an id was closed

closed-seen : (held : List Named) (name : List ℕ) (r : Role) → seen_as held name (closed r) ≡ None
closed-seen held name (Reading _) = refl
closed-seen held name Writing = refl
closed-seen held name Free = refl
closed-seen held name WasRead = refl
closed-seen held name Written = refl

closed-weights : (r : Role) → (open_weight (closed r) ≡ 0) × (free_weight (closed r) ≡ 0)
closed-weights (Reading _) = (refl, refl)
closed-weights Writing = (refl, refl)
closed-weights Free = (refl, refl)
closed-weights WasRead = (refl, refl)
closed-weights Written = (refl, refl)

closed-made : (r : Role) → open_weight r ≡ 1 → (is_made (closed r) ≡ is_made r) × (free_weight r ≡ 0)
closed-made (Reading place) h = (refl, refl)
closed-made Writing h = (refl, refl)
closed-made Free h = absurd (omega (arith, h))
closed-made WasRead h = absurd (omega (arith, h))
closed-made Written h = absurd (omega (arith, h))

closed-unread : (r : Role) (place : Place) → closed r ≡ Reading place → ⊥
closed-unread (Reading p) place e = cc (e)
closed-unread Writing place e = cc (e)
closed-unread Free place e = cc (e)
closed-unread WasRead place e = cc (e)
closed-unread Written place e = cc (e)

pub close-fit : (ps : List Page) (id : ℕ) → KeepsFit ps (with_role ps id (closed (role_at ps id)))
close-fit ps id = record {
  memory = λ room all. memory-with_role room ps id (closed (role_at ps id)) all;
  readable = λ held all. readable-with_role held ps id (closed (role_at ps id)) (λ p e. absurd (closed-unread (role_at ps id) p e))
      (λ p e. absurd (closed-unread (role_at ps id) p e)) all;
  count = length-with_role ps id (closed (role_at ps id));
}

-- this id is closed, and no other is touched
pub record ClosesPage (held : List Named) (old new : List Page) (id : ℕ) : Type 0 where
  pub now : opened_on held new id ≡ None
  pub others : (j : ℕ) → j ≢ id → opened_on held new j ≡ opened_on held old j
  pub one_less : open_pages new + 1 ≡ open_pages old
  pub free_pages : free_pages new ≡ free_pages old
  pub made : made_on new ≡ made_on old

pub closes-page : (held : List Named) (old new : List Page) (id : ℕ) → new ≡ with_role old id (closed (role_at old id))
    → IsSome (opened_on held old id) → ClosesPage held old new id
closes-page held old new id e is =
    let r = role_at old id in
    let w = open-weight held old id is in
    let h = open-within held old id is in
    rw e (record {
      now = opened-with_role held old id (closed r) h ∙ closed-seen held (name_on old id) r;
      others = λ j ne. opened-with_role_other held old id (closed r) j ne;
      one_less = omega (arith, open_pages-with_role old id (closed r) h, w, (closed-weights r).0);
      free_pages = omega (arith, free_pages-with_role old id (closed r) h, (closed-weights r).1, (closed-made r w).1);
      made = made-with_role old id (closed r) (closed-made r w).0;
    })

-- pages that are all free

pub blank-free_pages : (ps : List Page) → All (λ (page : Page). page.role ≡ Free) ps → free_pages ps ≡ length ps
blank-free_pages [] h = refl
blank-free_pages (p ∷ ps) h = omega (
  arith,
  ap free_weight (All-head (λ (page : Page). page.role ≡ Free) p ps h),
  blank-free_pages ps (All-tail (λ (page : Page). page.role ≡ Free) p ps h),
)

pub blank-open_pages : (ps : List Page) → All (λ (page : Page). page.role ≡ Free) ps → open_pages ps ≡ 0
blank-open_pages [] h = refl
blank-open_pages (p ∷ ps) h = omega (
  arith,
  ap open_weight (All-head (λ (page : Page). page.role ≡ Free) p ps h),
  blank-open_pages ps (All-tail (λ (page : Page). page.role ≡ Free) p ps h),
)

pub blank-opened : (held : List Named) (ps : List Page) (id : ℕ) → All (λ (page : Page). page.role ≡ Free) ps → opened_on held ps id ≡ None
blank-opened held [] id h = refl
blank-opened held (p ∷ ps) zero h = ap (seen_as held (string_bytes p.name)) (All-head (λ (page : Page). page.role ≡ Free) p ps h)
blank-opened held (p ∷ ps) (suc id) h = blank-opened held ps id (All-tail (λ (page : Page). page.role ≡ Free) p ps h)

pub blank-made : (ps : List Page) (name : List ℕ) → All (λ (page : Page). page.role ≡ Free) ps → made_on ps name ≡ None
blank-made [] name h = refl
blank-made (p ∷ ps) name h = rw (All-head (λ (page : Page). page.role ≡ Free) p ps h) (blank-made ps name (All-tail (λ (page : Page). page.role ≡ Free) p ps h))
