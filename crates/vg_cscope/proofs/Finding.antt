-- What is found through the buckets is what is found along the declarations.
use Rattle.std.proofs.Common.{◌≡◌, ℕ, zero, suc, ◌-◌, ◌<◌, ◌≤◌, List, [], ◌∷◌, ◌++◌, length, slice_get, get_or, Bool, true, false, Option, Some, None}
use Rattle.std.proofs.Common.{refl, sym, ap, subst, ◌∙◌, arith, inl, inr, if◌then◌else◌, eq-eqb}
use Rattle.std.specs.Prelude.{◌⊎◌, nat_eq}
use Rattle.std.specs.Str.{bytes_eq}
use Rattle.std.proofs.lemmas.Option.{slice_get_read, same_Some}
use Rattle.std.proofs.lemmas.Slice.Eq.{bytes_eq-Decides}
use Rattle.std.proofs.lemmas.Bool.{cases_Bool, eqb-true}
use Rattle.vg_core.specs.declared.tree.Name.{Name}
use Rattle.vg_core.specs.declared.tree.Node.{Node}
use Rattle.vg_core.specs.declared.tree.Kind.{Kind}
use Rattle.vg_cscope.specs.declared.names.Wanted.{Wanted}
use Rattle.vg_cscope.specs.declared.names.Wanted.TheVariants as wanted
use Rattle.vg_cscope.specs.declared.table.Entry.{Entry}
use Rattle.vg_cscope.specs.Scopes.{kind_at, seen_at}
use Rattle.vg_cscope.specs.Names.{Scoped, spelling, ordinary_name, tag_name, field_name, is_named, is_wanted, looked_up, found}
use Rattle.vg_cscope.specs.Tables.{bucket, declared_name, wanted_name, bytes_of, bucket_at, declaration_of, at, has_bucket, last_in, nearer, nearest, IsTable}
use Rattle.vg_cscope.proofs.Looking.{looked_none}

-- ---- the last in a bucket

here : (b : ℕ) (xs : List Entry) (h : ℕ) → has_bucket b (slice_get xs h) ≡ true → last_in b xs (suc h) ≡ suc h
here b xs h e = ap (λ c. if c then suc h else last_in b xs h) e

lower : (b : ℕ) (xs : List Entry) (h : ℕ) → has_bucket b (slice_get xs h) ≡ false → last_in b xs (suc h) ≡ last_in b xs h
lower b xs h e = ap (λ c. if c then suc h else last_in b xs h) e

last_again : (b : ℕ) (xs : List Entry) (h : ℕ) → last_in b xs (last_in b xs h) ≡ last_in b xs h
last_again b xs zero = refl
last_again b xs (suc h) = elim (cases_Bool (has_bucket b (slice_get xs h))) [
  | inl t ↦ ap (last_in b xs) (here b xs h t)
  | inr f ↦ ap (last_in b xs) (lower b xs h f) ∙ last_again b xs h ∙ sym (lower b xs h f)
]

last_low : (b : ℕ) (xs : List Entry) (h : ℕ) → last_in b xs h ≤ h
last_low b xs zero = omega arith
last_low b xs (suc h) = elim (cases_Bool (has_bucket b (slice_get xs h))) [
  | inl t ↦ let e : last_in b xs (suc h) ≡ suc h = here b xs h t in omega arith
  | inr f ↦ let e : last_in b xs (suc h) ≡ last_in b xs h = lower b xs h f in let l : last_in b xs h ≤ h = last_low b xs h in omega arith
]

-- one that is the last in a bucket has that bucket
has_its_bucket : (b : ℕ) (xs : List Entry) (h : ℕ) → last_in b xs (suc h) ≡ suc h → has_bucket b (slice_get xs h) ≡ true
has_its_bucket b xs h e = elim (cases_Bool (has_bucket b (slice_get xs h))) [
  | inl t ↦ t
  | inr f ↦ let l : last_in b xs h ≤ h = last_low b xs h in let same : last_in b xs h ≡ suc h = sym (lower b xs h f) ∙ e in absurd (omega arith)
]

-- ---- what is wanted has the bucket of its name

bytes_same : (xs ys : List ℕ) → bytes_eq xs ys ≡ true → xs ≡ ys
bytes_same xs ys e = (bytes_eq-Decides xs ys).0 e

same_bytes : (text : List ℕ) (name : Name) (o : Option Name) → is_named text name o ≡ true → bytes_of text o ≡ spelling text name
same_bytes text name None e = absurd (cc)
same_bytes text name (Some other) e = sym (bytes_same (spelling text name) (spelling text other) e)

ordinary_declared : (text : List ℕ) (name : Name) (kind : Kind) → is_named text name (ordinary_name kind) ≡ true → declared_name kind ≡ ordinary_name kind
ordinary_declared text name kind e = grind arith

tag_declared : (text : List ℕ) (name : Name) (kind : Kind) → is_named text name (tag_name kind) ≡ true → declared_name kind ≡ tag_name kind
tag_declared text name kind e = grind arith

field_declared : (text : List ℕ) (name : Name) (kind : Kind) → is_named text name (field_name kind) ≡ true → declared_name kind ≡ field_name kind
field_declared text name kind e = grind arith

wanted_bytes :
    (text : List ℕ) (what : Wanted) (name : Name) (kind : Kind) → wanted_name what ≡ Some name → is_wanted text what kind ≡ true →
    bytes_of text (declared_name kind) ≡ bytes_of text (Some name)
wanted_bytes text (wanted.Ordinary own) name kind e w = ap (bytes_of text) (ordinary_declared text own kind w)
    ∙ same_bytes text own (ordinary_name kind) w ∙ ap (bytes_of text) e
wanted_bytes text (wanted.Tag own) name kind e w = ap (bytes_of text) (tag_declared text own kind w) ∙ same_bytes text own (tag_name kind) w
    ∙ ap (bytes_of text) e
wanted_bytes text (wanted.Field own) name kind e w = ap (bytes_of text) (field_declared text own kind w) ∙ same_bytes text own (field_name kind) w
    ∙ ap (bytes_of text) e
wanted_bytes text wanted.Function name kind e w = absurd (cc)

-- ---- along the buckets

module _ (s : Scoped) (what : Wanted) (name : Name) (named : wanted_name what ≡ Some name) (xs : List Entry) (heads : List ℕ) (t : IsTable s xs heads) where
  abbrev b : ℕ
  b = bucket (length heads) (spelling s.text name)

  its_bucket : (h : ℕ) (e : Entry) → slice_get xs h ≡ Some e → is_wanted s.text what (kind_at s.tree e.declaration) ≡ true → e.bucket ≡ b
  its_bucket h e i w = t.buckets h e i ∙ ap (bucket (length heads)) (wanted_bytes s.text what name (kind_at s.tree e.declaration) named w)

  passed : (o : Option Entry) → ((e : Entry) → o ≡ Some e → is_wanted s.text what (kind_at s.tree e.declaration) ≡ true → e.bucket ≡ b)
      → has_bucket b o ≡ false → (r : Option ℕ) → nearer s what o r ≡ r
  passed None only f r = refl
  passed (Some e) only f r = elim (cases_Bool (is_wanted s.text what (kind_at s.tree e.declaration))) [
    | inl w ↦ let same : e.bucket ≡ b = only e refl w in absurd (let y : nat_eq e.bucket b ≡ true = eq-eqb e.bucket b same in cc)
    | inr w ↦ ap (λ c. if c then Some e.declaration else r) w
  ]

  skip : (h : ℕ) → nearest s what xs (last_in b xs h) ≡ nearest s what xs h
  skip zero = refl
  skip (suc h) = elim (cases_Bool (has_bucket b (slice_get xs h))) [
    | inl y ↦ ap (nearest s what xs) (here b xs h y)
    | inr n ↦ ap (nearest s what xs) (lower b xs h n) ∙ skip h ∙ sym (passed (slice_get xs h) (its_bucket h) n (nearest s what xs h))
  ]

  -- the one on top isn't wanted, and the next in its bucket comes
  next_down : (h : ℕ) (e : Entry) → slice_get xs h ≡ Some e → last_in b xs (suc h) ≡ suc h → is_wanted s.text what (kind_at s.tree e.declaration) ≡ false
      → (e.below ≤ h) × (last_in b xs e.below ≡ e.below) × (nearest s what xs e.below ≡ nearest s what xs (suc h))
  next_down h e i own w =
      let y : has_bucket b (slice_get xs h) ≡ true = has_its_bucket b xs h own in
      let same : e.bucket ≡ b = eqb-true e.bucket b (ap (has_bucket b) (sym i) ∙ y) in
      let below : e.below ≡ last_in b xs h = t.belows h e i ∙ ap (λ c. last_in c xs h) same in
      let low : last_in b xs h ≤ h = last_low b xs h in (
        omega arith,
        ap (last_in b xs) below ∙ last_again b xs h ∙ sym below,
        ap (nearest s what xs) below ∙ skip h ∙ sym (ap (λ o. nearer s what o (nearest s what xs h)) i
            ∙ ap (λ c. if c then Some e.declaration else nearest s what xs h) w),
      )

  -- the one on top is wanted
  found_top : (h : ℕ) (e : Entry) → slice_get xs h ≡ Some e → is_wanted s.text what (kind_at s.tree e.declaration) ≡ true
      → nearest s what xs (suc h) ≡ Some e.declaration
  found_top h e i w = ap (λ o. nearer s what o (nearest s what xs h)) i ∙ ap (λ c. if c then Some e.declaration else nearest s what xs h) w

  -- the height at the head of the bucket
  pub begin : (i height : ℕ) → i ≡ b → i < length heads → height ≡ get_or heads i height
      → (height ≤ length xs) × (last_in b xs height ≡ height) × (nearest s what xs height ≡ nearest s what xs (length xs))
  begin i height e l g =
      let read : height ≡ last_in i xs (length xs) = same_Some height (last_in i xs (length xs))
      (sym (slice_get_read heads (length heads) i height refl l g) ∙ t.heads_are i l) in
      let same : height ≡ last_in b xs (length xs) = read ∙ ap (λ c. last_in c xs (length xs)) e in
      let low : last_in b xs (length xs) ≤ length xs = last_low b xs (length xs) in (
        omega arith,
        ap (last_in b xs) same ∙ last_again b xs (length xs) ∙ sym same,
        ap (nearest s what xs) same ∙ skip (length xs),
      )

  top_is : (h : ℕ) (e : Entry) → suc h ≤ length xs → e ≡ get_or xs (suc h - 1) e → slice_get xs h ≡ Some e
  top_is h e l g = let p : suc h - 1 ≡ h = omega arith in slice_get_read xs (length xs) h e refl (omega arith) (g ∙ ap (λ i. get_or xs i e) p)

  -- the entry at a height is wanted
  pub stop : (height : ℕ) (e : Entry) → 0 < height → height ≤ length xs → e ≡ get_or xs (height - 1) e
      → is_wanted s.text what (kind_at s.tree e.declaration) ≡ true → Some e.declaration ≡ nearest s what xs height
  stop zero e z l g w = absurd (omega arith)
  stop (suc h) e z l g w = sym (found_top h e (top_is h e l g) w)

  -- it isn't, and the next one in its bucket comes
  pub go_on : (height : ℕ) (e : Entry) → 0 < height → height ≤ length xs → e ≡ get_or xs (height - 1) e → last_in b xs height ≡ height
      → is_wanted s.text what (kind_at s.tree e.declaration) ≡ false → (e.below < height) × (last_in b xs e.below ≡ e.below)
      × (nearest s what xs e.below ≡ nearest s what xs height)
  go_on zero e z l g own w = absurd (omega arith)
  go_on (suc h) e z l g own w = let r = next_down h e (top_is h e l g) own w in let low : e.below ≤ h = r.0 in (omega arith, r.1, r.2)

-- ---- along the declarations

some_at : {A : Type 0} (xs : List A) (h : ℕ) → h < length xs → (e : A) × (slice_get xs h ≡ Some e)
some_at [] h l = absurd (omega arith)
some_at (x ∷ xs) zero l = (x, refl)
some_at (x ∷ xs) (suc h) l = some_at xs h (omega arith)

module _ (s : Scoped) (what : Wanted) (xs : List Entry) (heads : List ℕ) (t : IsTable s xs heads) where
  along : (nodes : List Node) (h : ℕ) → h ≤ length nodes → h ≤ length xs → looked_up s what nodes (at xs h) ≡ nearest s what xs h
  along nodes zero l m = looked_none s what nodes
  along [] (suc h) l m = absurd (omega arith)
  along (n ∷ ns) (suc h) l m =
      let some = some_at xs h (omega arith) in
      ap (λ o. looked_up s what (n ∷ ns) (declaration_of o)) some.1
      ∙ ap (λ r. if is_wanted s.text what (kind_at s.tree (some.0).declaration) then Some (some.0).declaration else r)
      (ap (looked_up s what ns) (t.chain h some.0 some.1) ∙ along ns h (omega arith) (omega arith))
      ∙ sym (ap (λ o. nearer s what o (nearest s what xs h)) some.1)

  pub found_so : (n : ℕ) (r : Option ℕ) → at xs (length xs) ≡ seen_at s.standings n → length xs ≤ length s.tree.nodes
      → r ≡ nearest s what xs (length xs) → r ≡ found s what n
  found_so n r top low e = e ∙ sym (along s.tree.nodes (length xs) low (omega arith)) ∙ ap (looked_up s what s.tree.nodes) top
