-- The capture of one port is opened after that of another.
use Rattle.std.proofs.Common.{◌≡◌, ◌≢◌, ℕ, zero, suc, ◌+◌, ◌<◌, ◌≤◌, ◌⊎◌, inl, inr, ⊎_elim, refl, ◌∙◌, sym, ap, subst, List, [], ◌∷◌, ◌++◌, length}
use Rattle.std.proofs.Common.{All, Contains, get_or, slice_get, codes, bytes_eq, Bool, true, false, IsTrue, Ok, Err, Some, None, Option, Result}
use Rattle.std.proofs.Common.{arith, append-nil, take, drop, take_all, length-append, length-take-le, take-append-drop}
use Rattle.std.specs.List.{cons_option}
use Rattle.std.proofs.Math.Path.{fun_ext}
use Rattle.std.proofs.lemmas.Bool.{cases_eq}
use Rattle.std.proofs.lemmas.List.{length_push, get_or_append_left, get_or_push, take_more, drop_more}
use Rattle.std.proofs.lemmas.List.Elements.{All-nil, All-cons, All-push, All-pop, All-weaker, All-contains, filter_map-append}
use Rattle.std.proofs.lemmas.Option.{slice_get_within, same_Some}
use Rattle.std.proofs.lemmas.Slice.Eq.{bytes_eq-Decides}
use Rattle.vg_base.specs.Files.{Disk, Reads, IsOpen, ReadKeeps, SameIds, OpensOne}
use Rattle.vg_base.specs.declared.faults.Failed.{Failed}
use Rattle.vg_base.specs.Several.{DiffersBy, OpensThese}
use Rattle.vg_base.proofs.Disks.{ReadKeeps-trans, SameHeld-refl, IsOpen-some}
use Rattle.vg_pcap.specs.declared.faults.CaptureFault.{CaptureFault}
use Rattle.vg_pcap.specs.declared.faults.CaptureFault.TheVariants as faults
use Rattle.vg_pcap.specs.declared.faults.HeaderField.{HeaderField}
use Rattle.vg_pcap.specs.Frames.{Stream, HoldsStream}
use Rattle.vg_pcap.specs.Arrivals.{no_frames, stream_at}
use Rattle.vg_pcap.specs.Incoming.{header_fault, ComesIn, HasBadHeader, AllComeIn}
use Rattle.vg_pcap.specs.Reader.{Reader, StillComes, IsReadable, Starts}
use Rattle.vg_pcap.specs.Merge.{Input, AreReadable, ids_of, AreToCome, StartsMerge, ClosesInputs}
use Rattle.vg_pcap.specs.Inputs.{AreApart, AreInputs, IsSound, OpensPort}
use Rattle.vg_pcap.proofs.Arriving.{All-at_place}
use Rattle.vg_pcap.proofs.Staying.{SameId, IsReadable-stays, StillComes-stays}
use Rattle.vg_pcap.proofs.Closing.{slice_get-append_next, differs-none}

-- ---- appended lists

pub at_push : {A : Type 0} (xs : List A) (x : A) (i : ℕ) (y : A) → slice_get (xs ++ x ∷ []) i ≡ Some y → (slice_get xs i ≡ Some y) ⊎ ((i ≡ length xs) × (y ≡ x))
at_push [] x zero y at = inr (refl, same_Some y x (sym at))
at_push [] x (suc i) y at = absurd cc
at_push (z ∷ xs) x zero y at = inl at
at_push (z ∷ xs) x (suc i) y at = ⊎_elim (λ e. inl e) (λ e. inr (ap suc e.0, e.1)) (at_push xs x i y at)

pub slice_get-append_within : {A : Type 0} (xs ys : List A) (i : ℕ) → i < length xs → slice_get (xs ++ ys) i ≡ slice_get xs i
slice_get-append_within [] ys i lt = absurd (omega arith)
slice_get-append_within (x ∷ xs) ys zero lt = refl
slice_get-append_within (x ∷ xs) ys (suc i) lt = slice_get-append_within xs ys i (omega arith)

-- an id is among others or not
pub among : (id : ℕ) (ids : List ℕ) → All (λ other. id ≢ other) ids ⊎ Contains ids id
among id [] = inl (All-nil (λ other. id ≢ other))
among id (j ∷ ids) =
    ⊎_elim
    (λ (same : id ≡ j). inr (0, omega arith, sym same))
    (λ (ne : id ≢ j). ⊎_elim
    (λ (none : All (λ other. id ≢ other) ids). inl (All-cons (λ other. id ≢ other) j ids ne none))
    (λ (h : Contains ids id). let lt = h.1 in inr (suc h.0, omega arith, h.2))
    (among id ids))
    (cases_eq id j)

-- ---- one reader

-- nothing was opened, or one id
pub record OpensAtMost (s t : Disk) (id : Option ℕ) : Type 0 where
  pub none : id ≡ None → SameIds s t
  pub one : (j : ℕ) → id ≡ Some j → OpensOne s t Reads j

pub opens_at_most : {s t : Disk} {name : List ℕ} {r : Reader} → Starts s t name (Ok r) → OpensAtMost s t r.id
opens_at_most {s} {t} {name} {r} starts = by (bytes_eq name (codes "-")) refl
  where
    by : (b : Bool) → bytes_eq name (codes "-") ≡ b → OpensAtMost s t r.id
    by true e =
        let empty = starts.empty ((bytes_eq-Decides name (codes "-")).0 e) in
        let is = empty.0 in
        record { none = λ q. empty.1; one = λ j q. absurd cc }
    by false e =
        let file = starts.file (λ same. let yes_same = (bytes_eq-Decides name (codes "-")).1 same in cc) in
        let is = file.1 in
        record { none = λ q. absurd cc; one = λ j q. let same : file.0 ≡ j = cc in subst (λ (k : ℕ). OpensOne s t Reads k) same file.2 }

-- what is open stays as it is
pub open_stays : {s t : Disk} (id : Option ℕ) (k : ℕ) → OpensAtMost s t id → IsOpen Reads (s.opened k) → t.opened k ≡ s.opened k
open_stays {s} {t} None k opens is = ap (λ f. f k) (opens.none refl).opened
open_stays {s} {t} (Some j) k opens is =
    let one = opens.one j refl in
    one.others k (λ same. let some = IsOpen-some Reads (s.opened k) is in let closed = ap s.opened same ∙ one.was in cc)

-- the file of an input that can be read is open
pub is_open : (s : Disk) (id : Option ℕ) (j : ℕ) → IsReadable s id → id ≡ Some j → IsOpen Reads (s.opened j)
is_open s None j readable is = absurd cc
is_open s (Some k) j readable is = let same : k ≡ j = cc in subst (λ (n : ℕ). IsOpen Reads (s.opened n)) same readable

pub opens_readable : {s t : Disk} (id : Option ℕ) → OpensAtMost s t id → IsReadable t id
opens_readable None opens = tt
opens_readable (Some j) opens = (opens.one j refl).now

-- an input that was open stands where it stood
pub opens_elsewhere : {s t : Disk} (id other : Option ℕ) → OpensAtMost s t id → IsReadable s other → SameId s t other
opens_elsewhere {s} id other opens readable = record { stands = λ j is. open_stays id j opens (is_open s other j readable is) }

-- the ids that are open then
opens_more : {s t u : Disk} {ids : List ℕ} (id : Option ℕ) → OpensThese s t Reads ids → OpensAtMost t u id → OpensThese s u Reads (ids ++ cons_option id [])
opens_more {s} {t} {u} {ids} None these opens =
    let same = opens.none refl in
    let here : OpensThese s u Reads ids = (
      record {
        closed = these.0.closed;
        others = λ k all. ap (λ f. f k) same.opened ∙ these.0.others k all;
        count = omega (arith, these.0.count, same.open_count);
      },
      All-weaker (λ k. IsOpen Reads (t.opened k)) (λ k. IsOpen Reads (u.opened k)) (λ k is. rw same.opened is) ids these.1,
    ) in
    rw append-nil here
opens_more {s} {t} {u} {ids} (Some j) these opens =
    let one = opens.one j refl in
    let apart : All (λ k. j ≢ k) ids =
    All-weaker (λ k. IsOpen Reads (t.opened k)) (λ k. j ≢ k) (λ k is same. let some = IsOpen-some Reads (t.opened k) is in let closed =
    ap t.opened (sym same) ∙ one.was in cc) ids these.1 in (
      record {
        closed = All-push (λ k. s.opened k ≡ None) ids j these.0.closed (sym (these.0.others j apart) ∙ one.was);
        others = λ k all.
            let parts = All-pop (λ other. k ≢ other) (ids ++ j ∷ []) ids (Some j) refl all in
            one.others k parts.1 ∙ these.0.others k parts.0;
        count = omega (arith, these.0.count, one.one_more, length_push ids j);
      },
      All-push (λ k. IsOpen Reads (u.opened k)) ids j
          (All-weaker (λ k. IsOpen Reads (t.opened k)) (λ k. IsOpen Reads (u.opened k)) (λ k is. rw (open_stays (Some j) k opens is) is) ids these.1) one.now,
    )

-- what comes in under a name stays where what can be read does
ComesIn-before : {s t : Disk} (name : List ℕ) (stream : Stream) → ReadKeeps s t → ComesIn t name stream → ComesIn s name stream
ComesIn-before {s} {t} name stream keeps comes =
    ⊎_elim (λ e. inl e)
    (λ (f : (name ≢ codes "-") × (file : List ℕ) × (t.held name ≡ Some file) × HoldsStream file stream). inr
    (f.0, f.1, ap (λ (h : List ℕ → Option (List ℕ)). h name) (sym keeps.held.held) ∙ f.2, f.3))
    comes

HasBadHeader-before : {s t : Disk} (name : List ℕ) (field : HeaderField) → ReadKeeps s t → HasBadHeader t name field → HasBadHeader s name field
HasBadHeader-before {s} {t} name field keeps bad = (bad.0, bad.1, ap (λ (h : List ℕ → Option (List ℕ)). h name) (sym keeps.held.held) ∙ bad.2, bad.3)

-- ---- one after another

-- an input that was opened just now
abbrev pub opened_input : Reader → Input
opened_input reader = record { reader = reader; waits = false }

-- the captures of the first names were opened
pub record Opening (s t : Disk) (names : List (List ℕ)) (inputs : List Input) : Type 0 where
  pub starts : StartsMerge s t names (Ok inputs)
  pub apart : AreApart inputs
  pub idle : All (λ i. i.waits ≡ false) inputs

pub opening-none : (s : Disk) → Opening s s [] []
opening-none s = record {
  starts = record {
    cause = record { fault = tt; same = refl; same_else = tt; rises = omega arith };
    keeps = record { write_faults = refl; held = SameHeld-refl s; made = refl };
    shut_faults = omega arith;
    shut_same = refl;
    ports = refl;
    opens = (differs-none s, All-nil (λ id. IsOpen Reads (s.opened id)));
    readable = All-nil (λ i. IsReadable s i.reader.id);
    comes = λ told. (
      [],
      record { ports = refl; each = λ port name at. absurd cc },
      record {
        ports = refl;
        still = λ port input at. absurd cc;
        none = All-nil (λ i. (i.waits ≡ false) × (i.reader.count ≡ 0));
      },
    );
    closed = tt;
    refused = tt;
    port = tt;
  };
  apart = record { places = λ p q a b id at-a at-b is-a is-b. absurd cc };
  idle = All-nil (λ i. i.waits ≡ false);
}

-- one more id differs from those that are open
apart-more : {t u : Disk} {inputs : List Input} (reader : Reader) → AreApart inputs → AreReadable t inputs → OpensAtMost t u reader.id
    → AreApart (inputs ++ opened_input reader ∷ [])
apart-more {t} {u} {inputs} reader apart readable opens = record {
  places = λ p q a b id at-a at-b is-a is-b.
      ⊎_elim
      (λ (x : slice_get inputs p ≡ Some a). ⊎_elim
      (λ (y : slice_get inputs q ≡ Some b). apart.places p q a b id x y is-a is-b)
      (λ (y : (q ≡ length inputs) × (b ≡ opened_input reader)). absurd (fresh p a id x is-a (sym (ap (λ (i : Input). i.reader.id) y.1) ∙ is-b)))
      (at_push inputs (opened_input reader) q b at-b))
      (λ (x : (p ≡ length inputs) × (a ≡ opened_input reader)). ⊎_elim
      (λ (y : slice_get inputs q ≡ Some b). absurd (fresh q b id y is-b (sym (ap (λ (i : Input). i.reader.id) x.1) ∙ is-a)))
      (λ (y : (q ≡ length inputs) × (b ≡ opened_input reader)). x.0 ∙ sym y.0)
      (at_push inputs (opened_input reader) q b at-b))
      (at_push inputs (opened_input reader) p a at-a);
}
  where
    fresh : (p : ℕ) (x : Input) (id : ℕ) → slice_get inputs p ≡ Some x → x.reader.id ≡ Some id → reader.id ≡ Some id → ⊥
    fresh p x id at is new =
        let open_id = is_open t x.reader.id id (All-at_place (λ i. IsReadable t i.reader.id) inputs p x readable at) is in
        let some = IsOpen-some Reads (t.opened id) open_id in
        let was = (opens.one id new).was in
        cc

come-more : {t u : Disk} {inputs : List Input} {streams : List Stream} {reader : Reader} (stream : Stream) → AreToCome t inputs streams
    → AreReadable t inputs → ReadKeeps t u → OpensAtMost t u reader.id → StillComes u reader stream → reader.count ≡ 0 →
    AreToCome u (inputs ++ opened_input reader ∷ []) (streams ++ stream ∷ [])
come-more {t} {u} {inputs} {streams} {reader} stream come readable keeps opens still fresh = record {
  ports = omega (arith, come.ports, length_push inputs (opened_input reader), length_push streams stream);
  still = λ p x at. ⊎_elim
      (λ (here : slice_get inputs p ≡ Some x).
      let lt = slice_get_within inputs p x here in
      let same : stream_at (streams ++ stream ∷ []) p ≡ stream_at streams p = get_or_append_left streams (stream ∷ []) no_frames p
      (omega (arith, come.ports)) in
      let id : SameId t u x.reader.id = opens_elsewhere reader.id x.reader.id opens (All-at_place (λ i. IsReadable t i.reader.id) inputs p x readable here) in
      subst (λ (st : Stream). StillComes u x.reader st) (sym same) (StillComes-stays (come.still p x here) keeps.held.tells_held keeps.held.held id))
      (λ (new : (p ≡ length inputs) × (x ≡ opened_input reader)).
      let at_end = new.0 in
      let same : stream_at (streams ++ stream ∷ []) p ≡ stream = get_or_push streams stream no_frames p (omega (arith, come.ports)) in
      subst (λ (st : Stream). StillComes u x.reader st) (sym same) (subst (λ (i : Input). StillComes u i.reader stream) (sym new.1) still))
      (at_push inputs (opened_input reader) p x at);
  none = All-push (λ i. (i.waits ≡ false) × (i.reader.count ≡ 0)) inputs (opened_input reader) come.none (refl, fresh);
}

names-more : {s : Disk} {names : List (List ℕ)} {streams : List Stream} (name : List ℕ) (stream : Stream) → AllComeIn s names streams
    → ComesIn s name stream → AllComeIn s (names ++ name ∷ []) (streams ++ stream ∷ [])
names-more {s} {names} {streams} name stream all here = record {
  ports = omega (arith, all.ports, length_push names name, length_push streams stream);
  each = λ p n at. ⊎_elim
      (λ (old : slice_get names p ≡ Some n).
      let lt = slice_get_within names p n old in
      let same : stream_at (streams ++ stream ∷ []) p ≡ stream_at streams p = get_or_append_left streams (stream ∷ []) no_frames p (omega (arith, all.ports)) in
      subst (λ (st : Stream). ComesIn s n st) (sym same) (all.each p n old))
      (λ (new : (p ≡ length names) × (n ≡ name)).
      let at_end = new.0 in
      let same : stream_at (streams ++ stream ∷ []) p ≡ stream = get_or_push streams stream no_frames p (omega (arith, all.ports)) in
      subst (λ (st : Stream). ComesIn s n st) (sym same) (subst (λ (l : List ℕ). ComesIn s l stream) (sym new.1) here))
      (at_push names name p n at);
}

pub opening-more : {s t u : Disk} {names : List (List ℕ)} {inputs : List Input} {reader : Reader} (name : List ℕ) → Opening s t names inputs
    → Starts t u name (Ok reader) → Opening s u (names ++ name ∷ []) (inputs ++ opened_input reader ∷ [])
opening-more {s} {t} {u} {names} {inputs} {reader} name opening one =
    let before = opening.starts in
    let opens = opens_at_most one in
    let ids : ids_of (inputs ++ opened_input reader ∷ []) ≡ ids_of inputs ++ cons_option reader.id [] =
    filter_map-append (λ (i : Input). i.reader.id) inputs (opened_input reader ∷ []) in
    record {
      starts = record {
        cause = record { fault = tt; same = one.cause.same ∙ before.cause.same; same_else = tt; rises = omega (arith, before.cause.rises, one.cause.rises) };
        keeps = ReadKeeps-trans before.keeps one.keeps;
        shut_faults = omega (arith, before.shut_faults, one.shut_faults);
        shut_same = one.shut_same ∙ before.shut_same;
        ports = omega (arith, before.ports, length_push inputs (opened_input reader), length_push names name);
        opens = subst (λ (l : List ℕ). OpensThese s u Reads l) (sym ids) (opens_more reader.id before.opens opens);
        readable = All-push (λ i. IsReadable u i.reader.id) inputs (opened_input reader)
            (All-weaker (λ i. IsReadable t i.reader.id) (λ i. IsReadable u i.reader.id) (λ i readable. IsReadable-stays i.reader.id readable
            (opens_elsewhere reader.id i.reader.id opens readable)) inputs before.readable)
            (opens_readable reader.id opens);
        comes = λ told.
            let first = before.comes told in
            let here = one.comes (rw before.keeps.held.tells_held told) in (
              first.0 ++ here.0 ∷ [],
              names-more name here.0 first.1 (ComesIn-before name here.0 before.keeps here.1),
              come-more here.0 first.2 before.readable one.keeps opens here.2 one.fresh,
            );
        closed = tt;
        refused = tt;
        port = tt;
      };
      apart = apart-more reader opening.apart before.readable opens;
      idle = All-push (λ i. i.waits ≡ false) inputs (opened_input reader) opening.idle refl;
    }

-- ---- a refusal

-- after those that were opened are closed, the same ids are open
same_ids_closed : {s t u v : Disk} {ids : List ℕ} → DiffersBy s t ids → SameIds t u → DiffersBy v u ids → SameIds s v
same_ids_closed {s} {t} {u} {v} {ids} opened same closed = record {
  opened = fun_ext (λ id. ⊎_elim
      (λ (none : All (λ other. id ≢ other) ids). sym (closed.others id none) ∙ (ap (λ f. f id) same.opened ∙ opened.others id none))
      (λ (h : Contains ids id). All-contains (λ k. v.opened k ≡ None) ids id closed.closed h
      ∙ sym (All-contains (λ k. s.opened k ≡ None) ids id opened.closed h))
      (among id ids));
  open_count = omega (arith, opened.count, same.open_count, closed.count);
}

pub opening-refused : {s t u v : Disk} {names : List (List ℕ)} {inputs : List Input} {fault : CaptureFault} {result : Result (Unit {0}) Failed}
    (name : List ℕ) (more : List (List ℕ)) (port : ℕ) → Opening s t names inputs → Starts t u name (Err fault) → ClosesInputs u v inputs result
    → port ≡ length names →
    StartsMerge s v (names ++ name ∷ more) (Err (record { port = port; fault = fault }))
opening-refused {s} {t} {u} {v} {names} {inputs} {fault} {result} name more port opening one closes is =
    let before = opening.starts in
    record {
      cause = record {
        fault = λ read. let rose = one.cause.fault (ap Err read) in let same = before.cause.same in let kept = closes.read_faults in omega arith;
        same = tt;
        same_else = λ ne. closes.read_faults ∙ (one.cause.same_else ne ∙ before.cause.same);
        rises = omega (arith, before.cause.rises, one.cause.rises, closes.read_faults);
      };
      keeps = ReadKeeps-trans before.keeps (ReadKeeps-trans one.keeps closes.keeps);
      shut_faults = omega (arith, before.shut_faults, one.shut_faults, closes.faults.rises);
      shut_same = tt;
      ports = tt;
      opens = tt;
      readable = tt;
      comes = λ told. tt;
      closed = same_ids_closed before.opens.0 one.closed closes.closes;
      refused = ⊎_elim
          (λ (read : fault ≡ faults.Read). inl read)
          (λ other. ⊎_elim
          (λ (memory : fault ≡ faults.Memory). inr (inl memory))
          (λ (bad : (field : HeaderField) × (fault ≡ header_fault field) × (IsTrue t.tells_held → HasBadHeader t name field)).
          inr (inr (
            bad.0,
            bad.1,
            λ told.
                let told_t : IsTrue t.tells_held = rw before.keeps.held.tells_held told in
                record {
                  name = name;
                  at = ap (λ k. slice_get (names ++ name ∷ more) k) is ∙ slice_get-append_next names more name;
                  bad = HasBadHeader-before name bad.0 before.keeps (bad.2 told_t);
                  first = λ earlier other lt at.
                      let within : earlier < length names = omega arith in
                      let all = before.comes told in
                      let there : slice_get names earlier ≡ Some other = sym (slice_get-append_within names (name ∷ more) earlier within) ∙ at in
                      (stream_at all.0 earlier, all.1.each earlier other there);
                },
          )))
          other)
          one.refused;
      port = omega (arith, is, length-append names (name ∷ more));
    }

-- what a merge keeps true
pub opened_inputs : {s t : Disk} {names : List (List ℕ)} {inputs : List Input} → length names ≤ 64 → Opening s t names inputs → AreInputs inputs
opened_inputs {s} {t} {names} {inputs} few opening = record {
  few = omega (arith, opening.starts.ports);
  apart = opening.apart;
  sound = All-weaker (λ i. i.waits ≡ false) IsSound (λ i idle waits. absurd cc) inputs opening.idle;
}

-- ---- the next of the names

-- there are no more ids than inputs
pub few_ids : (inputs : List Input) → length (ids_of inputs) ≤ length inputs
few_ids [] = omega arith
few_ids (x ∷ inputs) = one x.reader.id (ids_of inputs) (few_ids inputs)
  where
    one : (id : Option ℕ) (ids : List ℕ) → length ids ≤ length inputs → length (cons_option id ids) ≤ suc (length inputs)
    one None ids le = omega arith
    one (Some j) ids le = omega arith

-- the name at a place, among all
split_at : (names : List (List ℕ)) (k : ℕ) (name : List ℕ) → k < length names → name ≡ get_or names k name → names ≡ take k names ++ name ∷ drop (k + 1) names
split_at names k name lt is = sym (take-append-drop k names) ∙ ap (λ l. take k names ++ l)
    (drop_more names k name lt ∙ ap (λ n. n ∷ drop (k + 1) names) (sym is))

pub opening-next : {s t u : Disk} {old : List Input} (names : List (List ℕ)) (k : ℕ) (name : List ℕ) (new : List Input) → k < length names
    → name ≡ get_or names k name → Opening s t (take k names) old → OpensPort t u name old new (Ok tt) → Opening s u (take (k + 1) names) new
opening-next {s} {t} {u} {old} names k name new lt is opening opens =
    let one = opening-more name opening opens.2 in
    let all : take (k + 1) names ≡ take k names ++ name ∷ [] = take_more names k name lt ∙ ap (λ n. take k names ++ n ∷ []) (sym is) in
    subst (λ (l : List (List ℕ)). Opening s u l new) (sym all) (subst (λ (l : List Input). Opening s u (take k names ++ name ∷ []) l) (sym opens.1) one)

-- where one is refused, those before can be closed
pub opening-stands : {s t u : Disk} {names : List (List ℕ)} {old : List Input} (name : List ℕ) (new : List Input) (fault : CaptureFault)
    → Opening s t names old → OpensPort t u name old new (Err fault) → AreReadable u new × AreApart new
opening-stands {s} {t} {u} {names} {old} name new fault opening opens =
    let same = opens.1.closed in
    let readable : AreReadable u old = All-weaker (λ i. IsReadable t i.reader.id) (λ i. IsReadable u i.reader.id)
    (λ i r. IsReadable-stays i.reader.id r (same_id i.reader.id same)) old opening.starts.readable in
    (subst (λ (l : List Input). AreReadable u l) (sym opens.0) readable, subst AreApart (sym opens.0) opening.apart)
  where
    same_id : (id : Option ℕ) → SameIds t u → SameId t u id
    same_id id same = record { stands = λ j is. ap (λ f. f j) same.opened }

pub opening-stops : {s t u v : Disk} {names : List (List ℕ)} {k : ℕ} {old new : List Input} {result : Result (Unit {0}) Failed} (name : List ℕ)
    (fault : CaptureFault) → k < length names → name ≡ get_or names k name → Opening s t (take k names) old → OpensPort t u name old new (Err fault)
    → ClosesInputs u v new result →
    StartsMerge s v names (Err (record { port = k; fault = fault }))
opening-stops {s} {t} {u} {v} {names} {k} {old} {new} {result} name fault lt is opening opens closes =
    let closes_old : ClosesInputs u v old result = subst (λ (l : List Input). ClosesInputs u v l result) opens.0 closes in
    let port : k ≡ length (take k names) = sym (length-take-le k names (omega arith)) in
    subst (λ (l : List (List ℕ)). StartsMerge s v l (Err (record { port = k; fault = fault }))) (sym (split_at names k name lt is))
    (opening-refused name (drop (k + 1) names) k opening opens.1 closes_old port)

pub opening-all : {s t : Disk} {names : List (List ℕ)} {k : ℕ} {inputs : List Input} → length names ≤ k → Opening s t (take k names) inputs
    → Opening s t names inputs
opening-all {s} {t} {names} {k} {inputs} le opening = subst (λ (l : List (List ℕ)). Opening s t l inputs) (take_all k names le) opening
