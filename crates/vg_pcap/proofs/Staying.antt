-- What is still to come stays where the files that are read stay as they are.
use Rattle.std.proofs.Common.{◌≡◌, ◌≢◌, ℕ, zero, suc, refl, ◌∙◌, sym, ap, subst, List, [], ◌∷◌, All, get_or, slice_get, filter_map, Some, None, Option}
use Rattle.std.proofs.lemmas.List.Elements.{All-nil, All-cons, All-head, All-tail}
use Rattle.std.specs.List.{cons_option}
use Rattle.vg_base.specs.Files.{Disk, Mode, Reads, Writes, Opened, IsOpen, SameHeld, SameIds, WriteKeeps, OpensOne, ClosesOne}
use Rattle.vg_base.specs.Several.{DiffersBy}
use Rattle.vg_pcap.specs.Frames.{Stream}
use Rattle.vg_pcap.specs.Arrivals.{Arrival}
use Rattle.vg_pcap.specs.Reader.{Reader, IsBefore, StillComes, IsReadable}
use Rattle.vg_pcap.specs.Merge.{Input, InputComes, Comes, AreToCome, AreReadable, ids_of}
use Rattle.vg_pcap.proofs.Arriving.{All-from_places, All-at_place}

-- what can be read is told as before, and the ids of these inputs stand where they stood
pub record SameReading (s t : Disk) (inputs : List Input) : Type 0 where
  pub tells_held : t.tells_held ≡ s.tells_held
  pub held : t.held ≡ s.held
  pub opened : All (λ id. t.opened id ≡ s.opened id) (ids_of inputs)

-- ---- one reader

-- the id of a reader, where it has one, stands where it stood
pub record SameId (s t : Disk) (id : Option ℕ) : Type 0 where
  pub stands : (j : ℕ) → id ≡ Some j → t.opened j ≡ s.opened j

pub IsReadable-stays : {s t : Disk} (id : Option ℕ) → IsReadable s id → SameId s t id → IsReadable t id
IsReadable-stays None readable same = tt
IsReadable-stays {s} {t} (Some j) readable same = rw (same.stands j refl) readable

pub IsBefore-stays : {s t : Disk} (id : Option ℕ) (ahead bytes : List ℕ) → IsBefore s id ahead bytes → t.held ≡ s.held → SameId s t id
    → IsBefore t id ahead bytes
IsBefore-stays None ahead bytes before held same = before
IsBefore-stays {s} {t} (Some j) ahead bytes before held same =
    (before.0, before.1, before.2, same.stands j refl ∙ before.3, ap (λ (h : List ℕ → Option (List ℕ)). h before.0) held ∙ before.4, before.5, before.6)

pub StillComes-stays : {s t : Disk} {r : Reader} {stream : Stream} → StillComes s r stream → t.tells_held ≡ s.tells_held → t.held ≡ s.held
    → SameId s t r.id → StillComes t r stream
StillComes-stays {s} {t} {r} {stream} still tells held same = record {
  told = rw tells still.told;
  bytes = still.bytes;
  before = IsBefore-stays r.id r.ahead still.bytes still.before held same;
  records = still.records;
  are = still.are;
  frames = still.frames;
}

pub InputComes-stays : {s t : Disk} {input : Input} {stream : Stream} → InputComes s input stream → t.tells_held ≡ s.tells_held → t.held ≡ s.held
    → SameId s t input.reader.id → InputComes t input stream
InputComes-stays {s} {t} {input} {stream} comes tells held same = record {
  waiting = λ w. let c = comes.waiting w in (c.0, c.1, StillComes-stays c.2 tells held same);
  ended = comes.ended;
}

-- ---- several

-- what holds of what is seen of all elements holds of that of one
pub All-filter_map : {A B : Type 0} (P : B → Type 0) (f : A → Option B) (xs : List A) (i : ℕ) (x : A) (y : B) → All P (filter_map f xs)
    → slice_get xs i ≡ Some x → f x ≡ Some y → P y
All-filter_map P f [] i x y all at is = absurd cc
All-filter_map P f (z ∷ xs) zero x y all at is =
    let at-2 : z ≡ x = cc in
    let same : f z ≡ Some y = ap f at-2 ∙ is in
    let all-2 : All P (y ∷ filter_map f xs) = rw same at all in
    All-head P y (filter_map f xs) all-2
All-filter_map {B = B} P f (z ∷ xs) (suc i) x y all at is = All-filter_map P f xs i x y (rest (f z) (filter_map f xs) all) at is
  where
    rest : (o : Option B) (ys : List B) → All P (cons_option o ys) → All P ys
    rest None ys h = h
    rest (Some b) ys h = All-tail P b ys h

pub SameId-of : {s t : Disk} {inputs : List Input} → SameReading s t inputs → (port : ℕ) (input : Input) → slice_get inputs port ≡ Some input
    → SameId s t input.reader.id
SameId-of {s} {t} {inputs} same port input at =
    record { stands = λ j is. All-filter_map (λ id. t.opened id ≡ s.opened id) (λ i. i.reader.id) inputs port input j same.opened at is }

pub AreReadable-stays : {s t : Disk} {inputs : List Input} → SameReading s t inputs → AreReadable s inputs → AreReadable t inputs
AreReadable-stays {s} {t} {inputs} same readable =
    All-from_places (λ i. IsReadable t i.reader.id) inputs
    (λ port input at. IsReadable-stays input.reader.id (All-at_place (λ i. IsReadable s i.reader.id) inputs port input readable at)
    (SameId-of same port input at))

pub Comes-stays : {s t : Disk} {inputs : List Input} {streams : List Stream} {past : List Arrival} → SameReading s t inputs
    → Comes s inputs streams past → Comes t inputs streams past
Comes-stays {s} {t} {inputs} same comes = record {
  left = comes.left;
  first = comes.first;
  ports = comes.ports;
  still = λ port input at. InputComes-stays (comes.still port input at) same.tells_held same.held (SameId-of same port input at);
  counts = comes.counts;
}

pub AreToCome-stays : {s t : Disk} {inputs : List Input} {streams : List Stream} → SameReading s t inputs → AreToCome s inputs streams
    → AreToCome t inputs streams
AreToCome-stays {s} {t} {inputs} same comes = record {
  ports = comes.ports;
  still = λ port input at. StillComes-stays (comes.still port input at) same.tells_held same.held (SameId-of same port input at);
  none = comes.none;
}

-- ---- what leaves the files that are read as they are

pub SameReading-refl : (s : Disk) (inputs : List Input) → SameReading s s inputs
SameReading-refl s inputs = record { tells_held = refl; held = refl; opened = λ k d lt. refl }

pub SameReading-trans : {s t u : Disk} {inputs : List Input} → SameReading s t inputs → SameReading t u inputs → SameReading s u inputs
SameReading-trans x y = record { tells_held = y.tells_held ∙ x.tells_held; held = y.held ∙ x.held; opened = λ k d lt. y.opened k d lt ∙ x.opened k d lt }

-- the same ids are open
pub SameReading-ids : {s t : Disk} (inputs : List Input) → SameHeld s t → SameIds s t → SameReading s t inputs
SameReading-ids inputs held same =
    record { tells_held = held.tells_held; held = held.held; opened = λ k d lt. ap (λ f. f (get_or (ids_of inputs) k d)) same.opened }

-- something was written
pub SameReading-writes : {s t : Disk} (inputs : List Input) → WriteKeeps s t → SameReading s t inputs
SameReading-writes inputs keeps = SameReading-ids inputs keeps.held keeps.ids

-- the ids of inputs that can be read are open for reading
pub ids_open : (s : Disk) (inputs : List Input) → AreReadable s inputs → All (λ id. IsOpen Reads (s.opened id)) (ids_of inputs)
ids_open s [] readable = All-nil (λ id. IsOpen Reads (s.opened id))
ids_open s (x ∷ inputs) readable =
    one x.reader.id (All-head (λ i. IsReadable s i.reader.id) x inputs readable) (ids_open s inputs
    (All-tail (λ i. IsReadable s i.reader.id) x inputs readable))
  where
    one : (id : Option ℕ) → IsReadable s id → All (λ j. IsOpen Reads (s.opened j)) (ids_of inputs)
        → All (λ j. IsOpen Reads (s.opened j)) (cons_option id (ids_of inputs))
    one None is rest = rest
    one (Some j) is rest = All-cons (λ k. IsOpen Reads (s.opened k)) j (ids_of inputs) is rest

-- what is open for reading differs from an id that isn't
apart_from : (s t : Disk) (inputs : List Input) (id : ℕ) → AreReadable s inputs → (IsOpen Reads (s.opened id) → ⊥)
    → ((j : ℕ) → j ≢ id → t.opened j ≡ s.opened j) → All (λ j. t.opened j ≡ s.opened j) (ids_of inputs)
apart_from s t inputs id readable not others k d lt =
    others (get_or (ids_of inputs) k d) (λ same. not (subst (λ (j : ℕ). IsOpen Reads (s.opened j)) same (ids_open s inputs readable k d lt)))

-- another file was opened
pub SameReading-opens : {s t : Disk} {mode : Mode} {id : ℕ} (inputs : List Input) → AreReadable s inputs → SameHeld s t → OpensOne s t mode id
    → SameReading s t inputs
SameReading-opens {s} {t} {mode} {id} inputs readable held opens = record {
  tells_held = held.tells_held;
  held = held.held;
  opened = apart_from s t inputs id readable (λ is. rw opens.was at is) opens.others;
}

-- a file that was written was closed
pub SameReading-closes : {s t : Disk} {id : ℕ} (inputs : List Input) → AreReadable s inputs → SameHeld s t → IsOpen Writes (s.opened id)
    → ClosesOne s t id → SameReading s t inputs
SameReading-closes {s} {t} {id} inputs readable held writes closes = record {
  tells_held = held.tells_held;
  held = held.held;
  opened = apart_from s t inputs id readable (one_mode (s.opened id) writes) closes.others;
}
  where
    one_mode : (o : Option Opened) → IsOpen Writes o → IsOpen Reads o → ⊥
    one_mode None w r = w
    one_mode (Some o) w r = let both = sym w ∙ r in cc

-- other files were opened, or several were closed
pub SameReading-differs : {s t : Disk} {ids : List ℕ} (inputs : List Input) → AreReadable s inputs → SameHeld s t → DiffersBy s t ids → SameReading s t inputs
SameReading-differs {s} {t} {ids} inputs readable held differs = record {
  tells_held = held.tells_held;
  held = held.held;
  opened = λ k d lt. differs.others (get_or (ids_of inputs) k d)
      (λ i e within same.
      let is = ids_open s inputs readable k d lt in
      rw (ap s.opened same ∙ differs.closed i e within) at is);
}
