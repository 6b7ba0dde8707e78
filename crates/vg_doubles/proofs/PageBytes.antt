-- The pages of files in memory: one with other bytes, and what was written under each name.
use Rattle.std.proofs.Common.{◌≡◌, ◌≢◌, ℕ, zero, suc, ◌+◌, ◌<◌, ◌≤◌, List, [], ◌∷◌, ◌++◌, length, set, get_or, true, false, Option, Some, IfSome}
use Rattle.std.proofs.Common.{IsSome, refl, sym, ◌∙◌, ap, inl, inr, cond, arith}
use mathlib.Core.Path.{fun_ext}
use Rattle.std.specs.Prelude.{string_bytes, All, ◌&&◌, ◌||◌, nat_eq, nat_lt, nat_le, min, ◌-◌}
use Rattle.std.proofs.lemmas.Bool.{cases_Bool, false≢true}
use Rattle.std.proofs.lemmas.Slice.Eq.{bytes_eq-Decides}
use Rattle.std.proofs.lemmas.List.Elements.{All-set, All-get_or}
use Rattle.vg_doubles.specs.declared.pages.Role.TheVariants.{Free, Writing}
use Rattle.vg_doubles.specs.declared.pages.Page.{Page}
use Rattle.vg_base.specs.Files.{Opened, writing, Appends}
use Rattle.vg_doubles.specs.Named.{Named}
use Rattle.vg_doubles.specs.Pages.{is_made, is_made_as, made_on, IsFirstMade, seen_as, seen, opened_on, role_at, name_on, bytes_on, made_at}
use Rattle.vg_doubles.specs.Pages.{open_weight, free_weight, open_pages, free_pages, HasMemory, IsReadable, SameRoles, KeepsFit, TakesPage}
use Rattle.vg_doubles.proofs.NamedLists.{equal, unequal}
use Rattle.vg_doubles.proofs.PageRoles.{opened-seen, weight-within, role_at-get, name_on-get, readable_role}

-- one page changed

pub opened-set : (held : List Named) (ps : List Page) (i : ℕ) (y : Page) → i < length ps → opened_on held (set ps i y) i ≡ seen held y
opened-set held [] i y h = absurd (omega arith)
opened-set held (p ∷ ps) zero y h = refl
opened-set held (p ∷ ps) (suc i) y h = opened-set held ps i y (omega arith)

pub opened-set_other : (held : List Named) (ps : List Page) (i : ℕ) (y : Page) (j : ℕ) → j ≢ i → opened_on held (set ps i y) j ≡ opened_on held ps j
opened-set_other held [] i y j ne = refl
opened-set_other held (p ∷ ps) zero y zero ne = absurd (ne refl)
opened-set_other held (p ∷ ps) zero y (suc j) ne = refl
opened-set_other held (p ∷ ps) (suc i) y zero ne = refl
opened-set_other held (p ∷ ps) (suc i) y (suc j) ne = opened-set_other held ps i y j (λ e. ne (ap suc e))

pub open_pages-set : (ps : List Page) (i : ℕ) (y : Page) → i < length ps → open_pages (set ps i y) + open_weight (role_at ps i) ≡ open_pages ps +
    open_weight y.role
open_pages-set [] i y h = absurd (omega arith)
open_pages-set (p ∷ ps) zero y h = omega arith
open_pages-set (p ∷ ps) (suc i) y h = omega (arith, open_pages-set ps i y (omega arith))

pub free_pages-set : (ps : List Page) (i : ℕ) (y : Page) → i < length ps → free_pages (set ps i y) + free_weight (role_at ps i) ≡ free_pages ps +
    free_weight y.role
free_pages-set [] i y h = absurd (omega arith)
free_pages-set (p ∷ ps) zero y h = omega arith
free_pages-set (p ∷ ps) (suc i) y h = omega (arith, free_pages-set ps i y (omega arith))

pub length-set_page : (ps : List Page) (i : ℕ) (y : Page) → length (set ps i y) ≡ length ps
length-set_page [] i y = refl
length-set_page (p ∷ ps) zero y = refl
length-set_page (p ∷ ps) (suc i) y = ap suc (length-set_page ps i y)

-- a page with other bytes, for what it was for

module _ (ps : List Page) (i : ℕ) (x y : Page) (h : i < length ps) (e : x ≡ get_or ps i x) (role : y.role ≡ x.role)
    (name : string_bytes y.name ≡ string_bytes x.name) where
  opened_same : (held : List Named) (j : ℕ) → opened_on held (set ps i y) j ≡ opened_on held ps j
  opened_same held = go ps i h e
    where
      go : (ps : List Page) (i : ℕ) → i < length ps → x ≡ get_or ps i x → (j : ℕ) → opened_on held (set ps i y) j ≡ opened_on held ps j
      go [] i h e j = refl
      go (p ∷ ps) zero h e zero = rw (role, name, e) refl
      go (p ∷ ps) zero h e (suc j) = refl
      go (p ∷ ps) (suc i) h e zero = refl
      go (p ∷ ps) (suc i) h e (suc j) = go ps i (omega arith) e j

  role_same : (j : ℕ) → role_at (set ps i y) j ≡ role_at ps j
  role_same = go ps i h e
    where
      go : (ps : List Page) (i : ℕ) → i < length ps → x ≡ get_or ps i x → (j : ℕ) → role_at (set ps i y) j ≡ role_at ps j
      go [] i h e j = refl
      go (p ∷ ps) zero h e zero = role ∙ ap (λ (z : Page). z.role) e
      go (p ∷ ps) zero h e (suc j) = refl
      go (p ∷ ps) (suc i) h e zero = refl
      go (p ∷ ps) (suc i) h e (suc j) = go ps i (omega arith) e j

  pub set-same_roles : SameRoles ps (set ps i y)
  set-same_roles =
      let was : role_at ps i ≡ y.role = role_at-get ps i x h e ∙ sym role in
      record {
        opened = λ held. fun_ext (opened_same held);
        open_pages = omega (arith, open_pages-set ps i y h, ap open_weight was);
        free_pages = omega (arith, free_pages-set ps i y h, ap free_weight was);
        roles = role_same;
        count = length-set_page ps i y;
      }

  pub set-memory : (room : ℕ) → (HasMemory room x → HasMemory room y) → All (HasMemory room) ps → All (HasMemory room) (set ps i y)
  set-memory room keeps all = All-set (HasMemory room) ps i y (keeps (rw e (All-get_or (HasMemory room) ps i x h all))) all

  pub set-readable : (held : List Named) → All (IsReadable held) ps → All (IsReadable held) (set ps i y)
  set-readable held all = All-set (IsReadable held) ps i y (readable_role held x y role (rw e (All-get_or (IsReadable held) ps i x h all))) all

-- what was written, where one page has changed

pub made-first : (name : List ℕ) (ps : List Page) (i : ℕ) (x : Page) → IsFirstMade name ps i → x ≡ get_or ps i x → made_on ps name ≡ Some x.bytes.items
made-first name [] i x first e = absurd first
made-first name (p ∷ ps) zero x first e = rw first (ap (λ (z : Page). Some z.bytes.items) (sym e))
made-first name (p ∷ ps) (suc i) x first e = rw first.0 (made-first name ps i x first.1 e)

pub first-within : (name : List ℕ) (ps : List Page) (i : ℕ) → IsFirstMade name ps i → i < length ps
first-within name [] i first = absurd first
first-within name (p ∷ ps) zero first = omega arith
first-within name (p ∷ ps) (suc i) first = omega (arith, first-within name ps i first.1)

-- a page for the file of one name is for no other
pub for_one : (name other : List ℕ) (p : Page) → is_made_as name p ≡ true → other ≢ name → is_made_as other p ≡ false
for_one name other p is ne = elim (cases_Bool (is_made p.role)) [
  | inl made ↦
      let same : string_bytes p.name ≡ name = (bytes_eq-Decides (string_bytes p.name) name).0 (rw made at is) in
      rw made (unequal (λ e. ne (sym e ∙ same)))
  | inr not_made ↦ absurd (false≢true (rw not_made at is))
]

-- the first page of a name with other bytes
module _ (name : List ℕ) (x y : Page) (role : y.role ≡ x.role) (same_name : string_bytes y.name ≡ string_bytes x.name) where
  same_for : (other : List ℕ) (p : Page) → x ≡ p → is_made_as other y ≡ is_made_as other p
  same_for other p e = rw (role, same_name, e) refl

  pub made-set : (ps : List Page) (i : ℕ) → IsFirstMade name ps i → x ≡ get_or ps i x → made_on (set ps i y) name ≡ Some y.bytes.items
  made-set [] i first e = absurd first
  made-set (p ∷ ps) zero first e = rw (same_for name p e, first) refl
  made-set (p ∷ ps) (suc i) first e = rw first.0 (made-set ps i first.1 e)

  pub made-set_other : (ps : List Page) (i : ℕ) → IsFirstMade name ps i → x ≡ get_or ps i x → (other : List ℕ) → other ≢ name
      → made_on (set ps i y) other ≡ made_on ps other
  made-set_other [] i first e other ne = refl
  made-set_other (p ∷ ps) zero first e other ne =
      let apart : is_made_as other p ≡ false = for_one name other p first ne in
      rw (same_for other p e, apart) refl
  made-set_other (p ∷ ps) (suc i) first e other ne = ap (λ (o : Option (List ℕ)). cond (is_made_as other p) (Some p.bytes.items) o)
      (made-set_other ps i first.1 e other ne)

-- a free page becomes one for a created file

pub made-new : (name : List ℕ) (ps : List Page) (i : ℕ) (y : Page) → i < length ps → is_made_as name y ≡ true → y.bytes.items ≡ []
    → IfSome (made_on ps name) (λ bytes. bytes ≡ []) → made_on (set ps i y) name ≡ Some []
made-new name [] i y h is none empty = absurd (omega arith)
made-new name (p ∷ ps) zero y h is none empty = rw is (ap Some none)
made-new name (p ∷ ps) (suc i) y h is none empty = elim (cases_Bool (is_made_as name p)) [
  | inl for ↦ rw for (ap Some (rw for at empty))
  | inr apart ↦ rw apart (made-new name ps i y (omega arith) is none (rw apart at empty))
]

pub made-new_other : (other : List ℕ) (ps : List Page) (i : ℕ) (y : Page) → role_at ps i ≡ Free → is_made_as other y ≡ false
    → made_on (set ps i y) other ≡ made_on ps other
made-new_other other [] i y free apart = refl
made-new_other other (p ∷ ps) zero y free apart = rw (apart, free) refl
made-new_other other (p ∷ ps) (suc i) y free apart = ap (λ (o : Option (List ℕ)). cond (is_made_as other p) (Some p.bytes.items) o)
    (made-new_other other ps i y free apart)

pub takes-page : (held : List Named) (ps : List Page) (i : ℕ) (y : Page) (name : List ℕ) → i < length ps → role_at ps i ≡ Free → y.role ≡ Writing
    → string_bytes y.name ≡ name → TakesPage held ps (set ps i y) (writing name) i
takes-page held ps i y name h free writes is = record {
  was = opened-seen held ps i ∙ ap (seen_as held (name_on ps i)) free;
  now = opened-set held ps i y h ∙ ap (seen_as held (string_bytes y.name)) writes ∙ ap writing is;
  others = λ j ne. opened-set_other held ps i y j ne;
  one_more = omega (arith, open_pages-set ps i y h, ap open_weight free, ap open_weight writes);
  one_less = omega (arith, free_pages-set ps i y h, ap free_weight free, ap free_weight writes);
}

-- a page that writes reads nothing
pub writing-readable : (held : List Named) (y : Page) → y.role ≡ Writing → IsReadable held y
writing-readable held y writes = record {
  first = λ place is. absurd (cc (sym writes ∙ is));
  within = λ place is. absurd (cc (sym writes ∙ is));
}

some_is : {A : Type 0} {x y : A} → Some x ≡ Some y → x ≡ y
some_is e = cc

-- the first page of a name has grown
pub appended : (name piece : List ℕ) (ps : List Page) (i : ℕ) (x y : Page) → y.role ≡ x.role → string_bytes y.name ≡ string_bytes x.name
    → IsFirstMade name ps i → x ≡ get_or ps i x →
    y.bytes.items ≡ x.bytes.items ++ piece → Appends (made_on ps) (made_on (set ps i y)) name piece
appended name piece ps i x y role same_name first at grown = record {
  grown = λ bytes is.
      let old : x.bytes.items ≡ bytes = some_is (sym (made-first name ps i x first at) ∙ is) in
      made-set name x y role same_name ps i first at ∙ ap Some (grown ∙ ap (λ (l : List ℕ). l ++ piece) old);
  others = λ other ne. made-set_other name x y role same_name ps i first at other ne;
}

-- the page of an id is one for its own file
pub made-there : (ps : List Page) (i : ℕ) → role_at ps i ≡ Writing → IsSome (made_on ps (name_on ps i))
made-there [] i e = absurd (cc (e))
made-there (p ∷ ps) zero e = rw (e, equal {a = string_bytes p.name} refl) refl
made-there (p ∷ ps) (suc i) e = elim (cases_Bool (is_made_as (name_on ps i) p)) [
  | inl here ↦ rw here refl
  | inr apart ↦ rw apart (made-there ps i e)
]

pub writing-within : (ps : List Page) (i : ℕ) → role_at ps i ≡ Writing → i < length ps
writing-within ps i e = weight-within ps i (ap open_weight e)

-- what an index gives has the name on the page
pub named : (ps : List Page) (i : ℕ) (x : Page) → i < length ps → x ≡ get_or ps i x → string_bytes (get_or ps i x).name ≡ name_on ps i
named ps i x h e = ap (λ (z : Page). string_bytes z.name) (sym e) ∙ sym (name_on-get ps i x h e)

-- what was written to the file of a page stands on the first page for it
pub made_at-first : (ps : List Page) (id i : ℕ) → IsFirstMade (name_on ps id) ps i → made_at ps id ≡ bytes_on ps i
made_at-first ps id i first = rw (first_bytes (name_on ps id) ps i first) refl
  where
    first_bytes : (name : List ℕ) (ps : List Page) (i : ℕ) → IsFirstMade name ps i → made_on ps name ≡ Some (bytes_on ps i)
    first_bytes name [] i first = absurd first
    first_bytes name (p ∷ ps) zero first = rw first refl
    first_bytes name (p ∷ ps) (suc i) first = rw first.0 (first_bytes name ps i first.1)

-- where a page is free and the name is not too long, a file can be created
pub creates : (n len : ℕ) → 0 < n → len ≤ 256 → false ≡ (nat_eq n 0 || nat_lt 256 len)
creates n len some short =
    let free : nat_eq n 0 ≡ false = grind arith in
    let fits : nat_lt 256 len ≡ false = grind arith in
    rw (free, fits) refl

-- what is written to is full, or there is nothing to write
pub refuses : (n len room made : ℕ) → n ≡ min len (room - made) → (nat_eq n 0 && nat_lt 0 len) ≡ (nat_lt 0 len && nat_le room made)
refuses n len room made e = grind arith

pub KeepsFit-trans : {a b c : List Page} → KeepsFit a b → KeepsFit b c → KeepsFit a c
KeepsFit-trans x y = record {
  memory = λ room all. y.memory room (x.memory room all);
  readable = λ held all. y.readable held (x.readable held all);
  count = y.count ∙ x.count;
}

-- a page is taken where before only bytes have changed
pub takes-after : {held : List Named} {a b c : List Page} {file : Option Opened} {id : ℕ} → SameRoles a b → TakesPage held b c file id
    → TakesPage held a c file id
takes-after {held} {id = id} x y = record {
  was = sym (ap (λ (f : ℕ → Option Opened). f id) (x.opened held)) ∙ y.was;
  now = y.now;
  others = λ j ne. y.others j ne ∙ ap (λ (f : ℕ → Option Opened). f j) (x.opened held);
  one_more = omega (arith, y.one_more, x.open_pages);
  one_less = omega (arith, y.one_less, x.free_pages);
}
