-- The pages of files in memory: what one is for, one given another role, and the first of a kind.
use Rattle.std.proofs.Common.{◌≡◌, ◌≢◌, ℕ, zero, suc, ◌+◌, ◌<◌, ◌≤◌, List, [], ◌∷◌, length, set, get_or, drop, true, false, Option, Some, IsSome}
use Rattle.std.proofs.Common.{refl, sym, ◌∙◌, ap, cond, add-zero, arith}
use mathlib.Core.Path.{fun_ext}
use Rattle.std.proofs.lemmas.List.{drop_more}
use Rattle.std.specs.Prelude.{string_bytes, All, ◌||◌, nat_eq, is_none}
use Rattle.std.proofs.lemmas.Bool.{false≢true}
use Rattle.std.proofs.lemmas.List.Elements.{All-cons, All-head, All-tail}
use Rattle.vg_doubles.specs.declared.pages.Place.{Place}
use Rattle.vg_doubles.specs.declared.pages.Role.{Role}
use Rattle.vg_doubles.specs.declared.pages.Role.TheVariants.{Free, Reading, Writing, WasRead, Written}
use Rattle.vg_doubles.specs.declared.pages.Page.{Page}
use Rattle.vg_base.specs.Files.{Reads, Writes, IsOpen}
use Rattle.vg_doubles.specs.Named.{Named, bytes_at, IsFirst}
use Rattle.vg_doubles.specs.Pages.{is_made, is_made_as, made_on, IsFirstMade, seen_as, opened_on, role_at, name_on, bytes_on, open_weight}
use Rattle.vg_doubles.specs.Pages.{free_weight, is_reading, open_pages, free_pages, with_role, HasMemory, IsReadable}

-- what is seen of an id is what is seen of its page
pub opened-seen : (held : List Named) (ps : List Page) (i : ℕ) → opened_on held ps i ≡ seen_as held (name_on ps i) (role_at ps i)
opened-seen held [] i = refl
opened-seen held (p ∷ ps) zero = refl
opened-seen held (p ∷ ps) (suc i) = opened-seen held ps i

pub weight-within : (ps : List Page) (i : ℕ) → open_weight (role_at ps i) ≡ 1 → i < length ps
weight-within [] i h = absurd (omega (arith, h))
weight-within (p ∷ ps) zero h = omega arith
weight-within (p ∷ ps) (suc i) h = omega (arith, weight-within ps i h)

pub reading-weight : (r : Role) → is_reading r ≡ true → open_weight r ≡ 1
reading-weight (Reading place) h = refl
reading-weight Free h = absurd (false≢true h)
reading-weight Writing h = absurd (false≢true h)
reading-weight WasRead h = absurd (false≢true h)
reading-weight Written h = absurd (false≢true h)

pub reads-reading : (held : List Named) (name : List ℕ) (r : Role) → IsOpen Reads (seen_as held name r) → is_reading r ≡ true
reads-reading held name (Reading place) h = refl
reads-reading held name Writing h = absurd (cc (h))
reads-reading held name Free h = absurd h
reads-reading held name WasRead h = absurd h
reads-reading held name Written h = absurd h

pub writes-writing : (held : List Named) (name : List ℕ) (r : Role) → IsOpen Writes (seen_as held name r) → r ≡ Writing
writes-writing held name (Reading place) h = absurd (cc (h))
writes-writing held name Writing h = refl
writes-writing held name Free h = absurd h
writes-writing held name WasRead h = absurd h
writes-writing held name Written h = absurd h

pub some-weight : (held : List Named) (name : List ℕ) (r : Role) → IsSome (seen_as held name r) → open_weight r ≡ 1
some-weight held name (Reading place) h = refl
some-weight held name Writing h = refl
some-weight held name Free h = absurd (false≢true h)
some-weight held name WasRead h = absurd (false≢true h)
some-weight held name Written h = absurd (false≢true h)

-- one page given another role

pub length-with_role : (ps : List Page) (i : ℕ) (r : Role) → length (with_role ps i r) ≡ length ps
length-with_role [] i r = refl
length-with_role (p ∷ ps) zero r = refl
length-with_role (p ∷ ps) (suc i) r = ap suc (length-with_role ps i r)

pub with_role-set : (ps : List Page) (i : ℕ) (x : Page) (r : Role) → i < length ps → x ≡ get_or ps i x → set ps i (record x { role = r }) ≡ with_role ps i r
with_role-set [] i x r h e = absurd (omega arith)
with_role-set (p ∷ ps) zero x r h e = rw e refl
with_role-set (p ∷ ps) (suc i) x r h e = ap (λ (l : List Page). p ∷ l) (with_role-set ps i x r (omega arith) e)

pub opened-with_role : (held : List Named) (ps : List Page) (i : ℕ) (r : Role) → i < length ps
    → opened_on held (with_role ps i r) i ≡ seen_as held (name_on ps i) r
opened-with_role held [] i r h = absurd (omega arith)
opened-with_role held (p ∷ ps) zero r h = refl
opened-with_role held (p ∷ ps) (suc i) r h = opened-with_role held ps i r (omega arith)

pub opened-with_role_other : (held : List Named) (ps : List Page) (i : ℕ) (r : Role) (j : ℕ) → j ≢ i → opened_on held (with_role ps i r) j ≡ opened_on held ps j
opened-with_role_other held [] i r j ne = refl
opened-with_role_other held (p ∷ ps) zero r zero ne = absurd (ne refl)
opened-with_role_other held (p ∷ ps) zero r (suc j) ne = refl
opened-with_role_other held (p ∷ ps) (suc i) r zero ne = refl
opened-with_role_other held (p ∷ ps) (suc i) r (suc j) ne = opened-with_role_other held ps i r j (λ e. ne (ap suc e))

pub open_pages-with_role : (ps : List Page) (i : ℕ) (r : Role) → i < length ps → open_pages (with_role ps i r) + open_weight (role_at ps i) ≡
    open_pages ps + open_weight r
open_pages-with_role [] i r h = absurd (omega arith)
open_pages-with_role (p ∷ ps) zero r h = omega arith
open_pages-with_role (p ∷ ps) (suc i) r h = omega (arith, open_pages-with_role ps i r (omega arith))

pub free_pages-with_role : (ps : List Page) (i : ℕ) (r : Role) → i < length ps → free_pages (with_role ps i r) + free_weight (role_at ps i) ≡
    free_pages ps + free_weight r
free_pages-with_role [] i r h = absurd (omega arith)
free_pages-with_role (p ∷ ps) zero r h = omega arith
free_pages-with_role (p ∷ ps) (suc i) r h = omega (arith, free_pages-with_role ps i r (omega arith))

made_at_name : (ps : List Page) (i : ℕ) (r : Role) → is_made r ≡ is_made (role_at ps i) → (name : List ℕ) → made_on (with_role ps i r) name ≡ made_on ps name
made_at_name [] i r e name = refl
made_at_name (p ∷ ps) zero r e name = rw e refl
made_at_name (p ∷ ps) (suc i) r e name = ap (λ (o : Option (List ℕ)). cond (is_made_as name p) (Some p.bytes.items) o) (made_at_name ps i r e name)

pub made-with_role : (ps : List Page) (i : ℕ) (r : Role) → is_made r ≡ is_made (role_at ps i) → made_on (with_role ps i r) ≡ made_on ps
made-with_role ps i r e = fun_ext (made_at_name ps i r e)

all-with_role : (P : Page → Type 0) (ps : List Page) (i : ℕ) (r : Role) → ((p : Page) → P p → P (record p { role = r })) → All P ps → All P (with_role ps i r)
all-with_role P [] i r f h = h
all-with_role P (p ∷ ps) zero r f h = All-cons P (record p { role = r }) ps (f p (All-head P p ps h)) (All-tail P p ps h)
all-with_role P (p ∷ ps) (suc i) r f h = All-cons P p (with_role ps i r) (All-head P p ps h) (all-with_role P ps i r f (All-tail P p ps h))

pub memory-with_role : (room : ℕ) (ps : List Page) (i : ℕ) (r : Role) → All (HasMemory room) ps → All (HasMemory room) (with_role ps i r)
memory-with_role room ps i r = all-with_role (HasMemory room) ps i r (λ p h. record { name = h.name; reserved = h.reserved; within = h.within })

pub role_at-get : (ps : List Page) (i : ℕ) (x : Page) → i < length ps → x ≡ get_or ps i x → role_at ps i ≡ x.role
role_at-get [] i x h e = absurd (omega arith)
role_at-get (p ∷ ps) zero x h e = ap (λ (z : Page). z.role) (sym e)
role_at-get (p ∷ ps) (suc i) x h e = role_at-get ps i x (omega arith) e

pub name_on-get : (ps : List Page) (i : ℕ) (x : Page) → i < length ps → x ≡ get_or ps i x → name_on ps i ≡ string_bytes x.name
name_on-get [] i x h e = absurd (omega arith)
name_on-get (p ∷ ps) zero x h e = ap (λ (z : Page). string_bytes z.name) (sym e)
name_on-get (p ∷ ps) (suc i) x h e = name_on-get ps i x (omega arith) e

pub bytes_on-get : (ps : List Page) (i : ℕ) (x : Page) → i < length ps → x ≡ get_or ps i x → bytes_on ps i ≡ x.bytes.items
bytes_on-get [] i x h e = absurd (omega arith)
bytes_on-get (p ∷ ps) zero x h e = ap (λ (z : Page). z.bytes.items) (sym e)
bytes_on-get (p ∷ ps) (suc i) x h e = bytes_on-get ps i x (omega arith) e

-- what holds of each page for what it is for holds of the page at a place
pub all-role : (P : Page → Type 0) (Q : Role → Type 0) → ((p : Page) → P p → Q p.role) → (ps : List Page) (i : ℕ) → i < length ps → All P ps → Q (role_at ps i)
all-role P Q f [] i h all = absurd (omega arith)
all-role P Q f (p ∷ ps) zero h all = f p (All-head P p ps all)
all-role P Q f (p ∷ ps) (suc i) h all = all-role P Q f ps i (omega arith) (All-tail P p ps all)

-- looking for a free page

pub free_pages-some : (ps : List Page) (i : ℕ) → i < length ps → role_at ps i ≡ Free → 0 < free_pages ps
free_pages-some [] i h e = absurd (omega arith)
free_pages-some (p ∷ ps) zero h e = omega (arith, ap free_weight e)
free_pages-some (p ∷ ps) (suc i) h e = omega (arith, free_pages-some ps i (omega arith) e)

-- looking for the first page of a name

module _ (name : List ℕ) (ps : List Page) (n : ℕ) (x : Page) (h : n < length ps) (e : x ≡ get_or ps n x)
    (first : (k : ℕ) → IsFirstMade name (drop n ps) k → IsFirstMade name ps (n + k)) where
  here : drop n ps ≡ x ∷ drop (n + 1) ps
  here = rw (drop_more ps n x h) (ap (λ (z : Page). z ∷ drop (n + 1) ps) (sym e))

  pub made_here : is_made_as name x ≡ true → IsFirstMade name ps n
  made_here same =
      let at : IsFirstMade name (drop n ps) 0 = rw here same in
      rw add-zero at (first 0 at)

  pub made_passed : is_made_as name x ≡ false → (k : ℕ) → IsFirstMade name (drop (n + 1) ps) k → IsFirstMade name ps (n + 1 + k)
  made_passed apart k is =
      let at : IsFirstMade name (drop n ps) (suc k) = rw here (apart, is) in
      let place : n + suc k ≡ n + 1 + k = omega arith in
      rw place at (first (suc k) at)

  pub made_on-passed : is_made_as name x ≡ false → made_on (drop (n + 1) ps) name ≡ made_on (drop n ps) name
  made_on-passed apart = rw (here, apart) refl

-- what the page at a place reads is there

pub readable-first : (held : List Named) (ps : List Page) (i : ℕ) (place : Place) → i < length ps → All (IsReadable held) ps
    → role_at ps i ≡ Reading place → IsFirst held place.file
readable-first held ps i place h all e = all-role (IsReadable held) (λ (r : Role). (p : Place) → r ≡ Reading p → IsFirst held p.file)
    (λ p fit. fit.first) ps i h all place e

pub readable-within : (held : List Named) (ps : List Page) (i : ℕ) (place : Place) → i < length ps → All (IsReadable held) ps
    → role_at ps i ≡ Reading place → place.at ≤ length (bytes_at held place.file)
readable-within held ps i place h all e = all-role (IsReadable held) (λ (r : Role). (p : Place) → r ≡ Reading p
    → p.at ≤ length (bytes_at held p.file)) (λ p fit. fit.within) ps i h all place e

-- where a page is free and a file is there, it can be opened
pub starts : (n : ℕ) (o : Option (List ℕ)) (x : List ℕ) → 0 < n → o ≡ Some x → false ≡ (nat_eq n 0 || is_none o)
starts n o x h e =
    let some : nat_eq n 0 ≡ false = grind arith in
    rw (e, some) refl

pub readable_role : (held : List Named) (p q : Page) → q.role ≡ p.role → IsReadable held p → IsReadable held q
readable_role held p q e fit = record {
  first = λ place is. fit.first place (sym e ∙ is);
  within = λ place is. fit.within place (sym e ∙ is);
}

-- a page that reads this place, which is there
pub readable-with_role : (held : List Named) (ps : List Page) (i : ℕ) (r : Role) → ((p : Place) → r ≡ Reading p → IsFirst held p.file)
    → ((p : Place) → r ≡ Reading p → p.at ≤ length (bytes_at held p.file)) →
    All (IsReadable held) ps → All (IsReadable held) (with_role ps i r)
readable-with_role held ps i r first within = all-with_role (IsReadable held) ps i r (λ p fit. record { first = first; within = within })
