-- Lists of arrivals, and lists of which one element is replaced.
use Rattle.std.proofs.Common.{◌≡◌, ◌≢◌, ℕ, zero, suc, ◌<◌, ◌≤◌, ◌==◌, max, refl, ◌∙◌, ap, subst, List, [], ◌∷◌, ◌++◌, length, get_or, set, map}
use Rattle.std.proofs.Common.{filter, filter_map, All, slice_get, Some, Option, arith, append-nil, eq-eqb, ne_eqb}
use Rattle.std.proofs.lemmas.List.{map-append}
use Rattle.std.proofs.lemmas.List.Elements.{All-cons, All-nil, filter-append}
use Rattle.vg_pcap.specs.Captures.{Encoding, Record}
use Rattle.vg_pcap.specs.Frames.{Framed, frames_after, frame_of, time_of}
use Rattle.vg_pcap.specs.Arrivals.{Arrival, frames_from, EndsAt}

-- ---- one element replaced

pub slice_get-set_same : {A : Type 0} (xs : List A) (i : ℕ) (y : A) → i < length xs → slice_get (set xs i y) i ≡ Some y
slice_get-set_same [] i y lt = absurd (omega arith)
slice_get-set_same (x ∷ xs) zero y lt = refl
slice_get-set_same (x ∷ xs) (suc i) y lt = slice_get-set_same xs i y (omega arith)

pub slice_get-set_other : {A : Type 0} (xs : List A) (i j : ℕ) (y : A) → j ≢ i → slice_get (set xs i y) j ≡ slice_get xs j
slice_get-set_other [] i j y ne = refl
slice_get-set_other (x ∷ xs) zero zero y ne = absurd (ne refl)
slice_get-set_other (x ∷ xs) zero (suc j) y ne = refl
slice_get-set_other (x ∷ xs) (suc i) zero y ne = refl
slice_get-set_other (x ∷ xs) (suc i) (suc j) y ne = slice_get-set_other xs i j y (λ e. ne (ap suc e))

-- what is seen of each element stays where the element that is replaced is seen as before
pub filter_map-same : {A B : Type 0} (f : A → Option B) (xs ys : List A) → length xs ≡ length ys →
    ((i : ℕ) (x y : A) → slice_get xs i ≡ Some x → slice_get ys i ≡ Some y → f x ≡ f y) → filter_map f xs ≡ filter_map f ys
filter_map-same f [] [] long same = refl
filter_map-same f [] (y ∷ ys) long same = absurd (omega arith)
filter_map-same f (x ∷ xs) [] long same = absurd (omega arith)
filter_map-same f (x ∷ xs) (y ∷ ys) long same =
    rw (same 0 x y refl refl, filter_map-same f xs ys (omega arith) (λ i a b ea eb. same (suc i) a b ea eb)) refl

-- what holds of each element, by its place
pub All-from_places : {A : Type 0} (P : A → Type 0) (xs : List A) → ((i : ℕ) (x : A) → slice_get xs i ≡ Some x → P x) → All P xs
All-from_places P [] h = All-nil P
All-from_places P (x ∷ xs) h = All-cons P x xs (h 0 x refl) (All-from_places P xs (λ i y e. h (suc i) y e))

pub All-at_place : {A : Type 0} (P : A → Type 0) (xs : List A) (i : ℕ) (x : A) → All P xs → slice_get xs i ≡ Some x → P x
All-at_place P [] i x all e = absurd cc
All-at_place P (y ∷ xs) zero x all e = let same : y ≡ x = cc in subst P same (all 0 y (omega arith))
All-at_place P (y ∷ xs) (suc i) x all e = All-at_place P xs i x (λ k d lt. all (suc k) d (omega arith)) e

-- ---- frames of a port

-- the frames of an arrival, at a port
abbrev frames_of : ℕ → Arrival → List Framed
frames_of port a = map (λ x. x.frame) (filter (λ x. x.port == port) (a ∷ []))

pub frames_from-append : (port : ℕ) (xs ys : List Arrival) → frames_from port (xs ++ ys) ≡ frames_from port xs ++ frames_from port ys
frames_from-append port xs ys =
    rw (filter-append (λ x. x.port == port) xs ys) (map-append (λ (x : Arrival). x.frame) (filter (λ x. x.port == port) xs)
    (filter (λ x. x.port == port) ys))

pub frames_from-same : (a : Arrival) (xs : List Arrival) → frames_from a.port (a ∷ xs) ≡ a.frame ∷ frames_from a.port xs
frames_from-same a xs = rw (eq-eqb a.port a.port refl) refl

pub frames_from-other : (port : ℕ) (a : Arrival) (xs : List Arrival) → a.port ≢ port → frames_from port (a ∷ xs) ≡ frames_from port xs
frames_from-other port a xs ne = rw (ne_eqb a.port port ne) refl

pub frames_from-push_same : (a : Arrival) (xs : List Arrival) → frames_from a.port (xs ++ a ∷ []) ≡ frames_from a.port xs ++ a.frame ∷ []
frames_from-push_same a xs = frames_from-append a.port xs (a ∷ []) ∙ ap (λ l. frames_from a.port xs ++ l) (frames_from-same a [])

pub frames_from-push_other : (port : ℕ) (a : Arrival) (xs : List Arrival) → a.port ≢ port → frames_from port (xs ++ a ∷ []) ≡ frames_from port xs
frames_from-push_other port a xs ne =
    frames_from-append port xs (a ∷ []) ∙ (ap (λ l. frames_from port xs ++ l) (frames_from-other port a [] ne) ∙ append-nil (frames_from port xs))

-- the last arrival of an appended list
pub EndsAt-push : (a : Arrival) (xs : List Arrival) → EndsAt (xs ++ a ∷ []) a.port
EndsAt-push a [] = refl
EndsAt-push a (x ∷ []) = refl
EndsAt-push a (x ∷ y ∷ xs) = EndsAt-push a (y ∷ xs)

-- ---- times don't fall

pub no_later : (encoding : Encoding) (latest : ℕ) (records : List Record) → All (λ f. latest ≤ f.time) (frames_after encoding latest records)
no_later encoding latest [] = All-nil (λ f. latest ≤ f.time)
no_later encoding latest (r ∷ records) =
    let next : ℕ = max latest (time_of encoding r) in
    let more : (k : ℕ) (d : Framed) → k < length (frames_after encoding next records) → latest ≤ (get_or (frames_after encoding next records) k d).time =
    λ k d lt. let here = no_later encoding next records k d lt in omega arith in
    All-cons (λ f. latest ≤ f.time) (frame_of encoding latest r) (frames_after encoding next records) (omega arith) more
