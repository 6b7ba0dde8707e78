-- A run comes to one thing, where the files tell what they hold.
use Rattle.std.proofs.Common.{◌≡◌, ◌≢◌, ◌<◌, ◌⊎◌, inl, inr, ◌∙◌, ℕ, List, length, IsTrue, Some, refl, sym, ap, arith}
use Rattle.std.proofs.lemmas.Bool.{cases_lt}
use Rattle.std.proofs.Math.Nat.{eq-or-lt_of_le}
use Rattle.vg_base.specs.Files.{Disk}
use Rattle.vg_command.proofs.Decoding as commands
use Rattle.vg_command.specs.Commands.{Files, Run}
use Rattle.vg_small.specs.declared.small.Small.{Small}
use Rattle.vg_small.specs.declared.small.Lang.TheVariants.{C, Spec}
use Rattle.vg_small.specs.Meaning.{SendsBelow}
use Rattle.vg_small.specs.Spelling.{Spells, SpellsNone}
use Rattle.vg_small.proofs.SpellingLaws.{Spells-unique}
use Rattle.vg_pcap.specs.declared.faults.CaptureRefusal.TheVariants.{Header, Record}
use Rattle.vg_pcap.specs.declared.faults.Damage.{Damage}
use Rattle.vg_pcap.specs.declared.faults.HeaderField.{HeaderField}
use Rattle.vg_pcap.specs.Arrivals.{Arrival}
use Rattle.vg_pcap.specs.Incoming.{IsFirstBadHeader}
use Rattle.vg_replay.specs.Replays.{AreAll, AreUpTo, AreTooMany}
use Rattle.vg_top.specs.declared.stop.Stop.TheVariants.{Wrong, Usage, Capture, Read, Write, Memory, Limit, Frames, NotBuilt}
use Rattle.vg_top.specs.declared.stop.Unbuilt.TheVariants.{Words, Text}
use Rattle.vg_top.specs.Agreement.{Agree, IsFirstDifference}
use Rattle.vg_top.specs.Endings.{Ending, Stopped, Done, EndsIn, ComesTo, most_text, IsLonger, IsWithin}
use Rattle.vg_top.specs.Runs.{IsRun, IsUnbuilt}
use Rattle.vg_top.proofs.Captures.{same_header_port, same_header_field, header_all, header_up_to, header_many, same_all, all_up_to, all_many}
use Rattle.vg_top.proofs.Captures.{same_up_to, up_to_many}

-- ---- the decisions of a run, one after another

-- a header is refused, or frames are handled: up to a record, or the most, or all
data AtCaptures (s : Disk) (n : Files) (c spec : Small) (e : Ending) : Type 0 where
  header : (port : ℕ) (field : HeaderField) → e ≡ Stopped (Capture port (Header field)) → IsFirstBadHeader s n.ins port field → AtCaptures s n c spec e
  up_to : (port number : ℕ) (why : Damage) (frames : List Arrival) → e ≡ Stopped (Capture port (Record number why))
      → AreUpTo s n.ins frames port number why → AtCaptures s n c spec e
  many : (frames : List Arrival) → e ≡ Stopped Frames → AreTooMany s n.ins frames → AtCaptures s n c spec e
  all : (frames : List Arrival) → e ≡ Done c spec frames → AreAll s n.ins frames → AtCaptures s n c spec e

-- the functions differ, or they agree
abbrev AtPorts : Disk → Files → Small → Small → Ending → Type 0
AtPorts s n c spec e = ((port : ℕ) × IsFirstDifference c spec port × (e ≡ Stopped (Wrong c.at port))) ⊎ (Agree c spec × AtCaptures s n c spec e)

-- the words name captures of other ports, or of those
abbrev AtCount : Disk → Files → Small → Small → Ending → Type 0
AtCount s n c spec e = ((e ≡ Stopped Usage) × (length n.ins ≢ spec.ports)) ⊎ ((length n.ins ≡ spec.ports) × AtPorts s n c spec e)

-- the C function sends beyond the ports, or it doesn't
abbrev AtValues : Disk → Files → Small → Small → Ending → Type 0
AtValues s n c spec e = ((e ≡ Stopped (NotBuilt (Text C))) × (SendsBelow spec.ports c → ⊥)) ⊎ (SendsBelow spec.ports c × AtCount s n c spec e)

-- the specification spells no small function, or it spells one
abbrev AtSpec : Disk → Files → List ℕ → Small → Ending → Type 0
AtSpec s n spec_text c e =
    ((e ≡ Stopped (NotBuilt (Text Spec))) × SpellsNone Spec spec_text) ⊎ ((spec : Small) × Spells Spec spec_text spec × AtValues s n c spec e)

-- the C text spells no small function, or it spells one
abbrev AtC : Disk → Files → List ℕ → List ℕ → Ending → Type 0
AtC s n c_text spec_text e =
    ((e ≡ Stopped (NotBuilt (Text C))) × SpellsNone C c_text) ⊎ ((c : Small) × Spells C c_text c × AtSpec s n spec_text c e)

-- the specification is too long, or it isn't
abbrev AtLongSpec : Disk → Files → List ℕ → Ending → Type 0
AtLongSpec s n c_text e =
    ((e ≡ Stopped (Limit Spec)) × IsLonger s n.spec most_text) ⊎ ((spec_text : List ℕ) × IsWithin s n.spec most_text spec_text × AtC s n c_text spec_text e)

-- the C text is too long, or it isn't
abbrev AtLongC : Disk → Files → Ending → Type 0
AtLongC s n e =
    ((e ≡ Stopped (Limit C)) × IsLonger s n.c most_text) ⊎ ((c_text : List ℕ) × IsWithin s n.c most_text c_text × AtLongSpec s n c_text e)

decided : (s : Disk) (n : Files) (e : Ending) → IsTrue s.tells_held → EndsIn s n e → AtLongC s n e
decided s n (Stopped (Limit C)) told x = inl (refl, x)
decided s n (Stopped (Limit Spec)) told x = inr (x.c_text, x.c, inl (refl, x.spec))
decided s n (Stopped (NotBuilt (Text C))) told (inl x) = inr (x.c_text, x.texts.c, inr (x.spec_text, x.texts.spec, inl (refl, x.c_spells)))
decided s n (Stopped (NotBuilt (Text C))) told (inr x) =
    let f = x.functions in
    inr (f.c_text, f.texts.c, inr (f.spec_text, f.texts.spec, inr (x.c, f.c_spells, inr (x.spec, f.spec_spells, inl (refl, x.beyond)))))
decided s n (Stopped (NotBuilt (Text Spec))) told x =
    inr (x.c_text, x.texts.c, inr (x.spec_text, x.texts.spec, inr (x.c, x.c_spells, inl (refl, x.spec_spells))))
decided s n (Stopped Usage) told x =
    let f = x.functions in
    inr (f.c_text, f.texts.c, inr (f.spec_text, f.texts.spec, inr (x.c, f.c_spells, inr (x.spec, f.spec_spells, inr (x.below, inl (refl, x.ports))))))
decided s n (Stopped (Wrong at port)) told x =
    let p = x.functions in
    let f = p.functions in
    inr (
      f.c_text,
      f.texts.c,
      inr (
        f.spec_text,
        f.texts.spec,
        inr (
          x.c,
          f.c_spells,
          inr (
            x.spec,
            f.spec_spells,
            inr (
              p.below,
              inr (
                p.ports,
                inl (port, x.difference, ap (λ (k : ℕ). Stopped (Wrong k port)) x.place),
              ),
            ),
          ),
        ),
      ),
    )
decided s n (Stopped (Capture port (Header field))) told x =
    let p = x.verified.functions in
    let f = p.functions in
    inr (
      f.c_text,
      f.texts.c,
      inr (
        f.spec_text,
        f.texts.spec,
        inr (
          x.c,
          f.c_spells,
          inr (
            x.spec,
            f.spec_spells,
            inr (
              p.below,
              inr (
                p.ports,
                inr (x.verified.agree, header port field refl (x.captures told)),
              ),
            ),
          ),
        ),
      ),
    )
decided s n (Stopped (Capture port (Record number why))) told x =
    let p = x.verified.functions in
    let f = p.functions in
    let handled = x.captures told in
    inr (
      f.c_text,
      f.texts.c,
      inr (
        f.spec_text,
        f.texts.spec,
        inr (
          x.c,
          f.c_spells,
          inr (
            x.spec,
            f.spec_spells,
            inr (
              p.below,
              inr (
                p.ports,
                inr (x.verified.agree, up_to port number why handled.0 refl handled.1),
              ),
            ),
          ),
        ),
      ),
    )
decided s n (Stopped Frames) told x =
    let p = x.verified.functions in
    let f = p.functions in
    let handled = x.captures told in
    inr (
      f.c_text,
      f.texts.c,
      inr (
        f.spec_text,
        f.texts.spec,
        inr (
          x.c,
          f.c_spells,
          inr (
            x.spec,
            f.spec_spells,
            inr (
              p.below,
              inr (
                p.ports,
                inr (x.verified.agree, many handled.0 refl handled.1),
              ),
            ),
          ),
        ),
      ),
    )
decided s n (Done c spec frames) told x =
    let p = x.0.functions in
    let f = p.functions in
    inr (
      f.c_text,
      f.texts.c,
      inr (
        f.spec_text,
        f.texts.spec,
        inr (
          c,
          f.c_spells,
          inr (
            spec,
            f.spec_spells,
            inr (
              p.below,
              inr (
                p.ports,
                inr (x.0.agree, all frames refl (x.1 told)),
              ),
            ),
          ),
        ),
      ),
    )
decided s n (Stopped (NotBuilt Words)) told x = absurd x
decided s n (Stopped Read) told x = absurd x
decided s n (Stopped Write) told x = absurd x
decided s n (Stopped Memory) told x = absurd x

-- ---- each decision is made in one way

some_is : {A : Type 0} {x y : A} → Some x ≡ Some y → x ≡ y
some_is e = cc

same_bytes : {s : Disk} {name : List ℕ} {limit : ℕ} {a b : List ℕ} → IsTrue s.tells_held → IsWithin s name limit a → IsWithin s name limit b → a ≡ b
same_bytes told x y = some_is (sym (x.read told) ∙ y.read told)

not_longer : {s : Disk} {name : List ℕ} {limit : ℕ} {a : List ℕ} → IsTrue s.tells_held → IsLonger s name limit → IsWithin s name limit a → ⊥
not_longer {limit = limit} {a = a} told x y =
    let long = x told in
    let same : long.0 ≡ a = some_is (sym long.1 ∙ y.read told) in
    let too_long : limit < length a = rw same at long.2 in
    omega (arith, y.short)

no_first : {c spec : Small} {port : ℕ} → IsFirstDifference c spec port → Agree c spec → ⊥
no_first {port = port} x agree = x.differs (agree port x.is_port)

same_port : {c spec : Small} (p q : ℕ) → IsFirstDifference c spec p → IsFirstDifference c spec q → p ≡ q
same_port p q x y =
    elim (cases_lt p q) [
      | inl less ↦ absurd (x.differs (y.first p less))
      | inr least ↦ elim (eq-or-lt_of_le least) [
        | inl same ↦ sym same
        | inr less ↦ absurd (y.differs (x.first q less))
      ]
    ]

at_captures : (s : Disk) {n : Files} {c spec : Small} (e f : Ending) → AtCaptures s n c spec e → AtCaptures s n c spec f → e ≡ f
at_captures s e f (header p g is x) (header q h js y) = is ∙ rw (same_header_port s p q x y, same_header_field s g h x y) refl ∙ sym js
at_captures s e f (header p g is x) (up_to q m d b js y) = absurd (header_up_to s x y)
at_captures s e f (header p g is x) (many b js y) = absurd (header_many s x y)
at_captures s e f (header p g is x) (all b js y) = absurd (header_all s x y)
at_captures s e f (up_to p m d a is x) (header q h js y) = absurd (header_up_to s y x)
at_captures s e f (up_to p m d a is x) (up_to q k g b js y) = let same = same_up_to s a b m k d g x y in is ∙ rw (same.0, same.1, same.2) refl ∙ sym js
at_captures s e f (up_to p m d a is x) (many b js y) = absurd (up_to_many s a b x y)
at_captures s e f (up_to p m d a is x) (all b js y) = absurd (all_up_to s y x)
at_captures s e f (many a is x) (header q h js y) = absurd (header_many s y x)
at_captures s e f (many a is x) (up_to q k g b js y) = absurd (up_to_many s b a y x)
at_captures s e f (many a is x) (many b js y) = is ∙ sym js
at_captures s e f (many a is x) (all b js y) = absurd (all_many s b a y x)
at_captures s e f (all a is x) (header q h js y) = absurd (header_all s y x)
at_captures s e f (all a is x) (up_to q k g b js y) = absurd (all_up_to s x y)
at_captures s e f (all a is x) (many b js y) = absurd (all_many s a b x y)
at_captures s {c = c} {spec = spec} e f (all a is x) (all b js y) = is ∙ ap (Done c spec) (same_all s a b x y) ∙ sym js

at_ports : {s : Disk} {n : Files} {c spec : Small} (e f : Ending) → AtPorts s n c spec e → AtPorts s n c spec f → e ≡ f
at_ports {c = c} e f (inl x) (inl y) = x.2 ∙ ap (λ (port : ℕ). Stopped (Wrong c.at port)) (same_port x.0 y.0 x.1 y.1) ∙ sym y.2
at_ports e f (inl x) (inr y) = absurd (no_first x.1 y.0)
at_ports e f (inr x) (inl y) = absurd (no_first y.1 x.0)
at_ports {s = s} e f (inr x) (inr y) = at_captures s e f x.1 y.1

at_count : {s : Disk} {n : Files} {c spec : Small} (e f : Ending) → AtCount s n c spec e → AtCount s n c spec f → e ≡ f
at_count e f (inl x) (inl y) = x.0 ∙ sym y.0
at_count e f (inl x) (inr y) = absurd (x.1 y.0)
at_count e f (inr x) (inl y) = absurd (y.1 x.0)
at_count e f (inr x) (inr y) = at_ports e f x.1 y.1

at_values : {s : Disk} {n : Files} {c spec : Small} (e f : Ending) → AtValues s n c spec e → AtValues s n c spec f → e ≡ f
at_values e f (inl x) (inl y) = x.0 ∙ sym y.0
at_values e f (inl x) (inr y) = absurd (x.1 y.0)
at_values e f (inr x) (inl y) = absurd (y.1 x.0)
at_values e f (inr x) (inr y) = at_count e f x.1 y.1

at_spec : {s : Disk} {n : Files} {spec_text : List ℕ} {c : Small} (e f : Ending) → AtSpec s n spec_text c e → AtSpec s n spec_text c f → e ≡ f
at_spec e f (inl x) (inl y) = x.0 ∙ sym y.0
at_spec e f (inl x) (inr y) = absurd (x.1 y.0 y.1)
at_spec e f (inr x) (inl y) = absurd (y.1 x.0 x.1)
at_spec {spec_text = spec_text} e f (inr x) (inr y) = at_values e f (rw (Spells-unique Spec spec_text x.0 y.0 x.1 y.1) at x.2) y.2

at_c : {s : Disk} {n : Files} {c_text spec_text : List ℕ} (e f : Ending) → AtC s n c_text spec_text e → AtC s n c_text spec_text f → e ≡ f
at_c e f (inl x) (inl y) = x.0 ∙ sym y.0
at_c e f (inl x) (inr y) = absurd (x.1 y.0 y.1)
at_c e f (inr x) (inl y) = absurd (y.1 x.0 x.1)
at_c {c_text = c_text} e f (inr x) (inr y) = at_spec e f (rw (Spells-unique C c_text x.0 y.0 x.1 y.1) at x.2) y.2

at_long_spec : {s : Disk} {n : Files} {c_text : List ℕ} (e f : Ending) → IsTrue s.tells_held → AtLongSpec s n c_text e → AtLongSpec s n c_text f → e ≡ f
at_long_spec e f told (inl x) (inl y) = x.0 ∙ sym y.0
at_long_spec e f told (inl x) (inr y) = absurd (not_longer told x.1 y.1)
at_long_spec e f told (inr x) (inl y) = absurd (not_longer told y.1 x.1)
at_long_spec e f told (inr x) (inr y) = at_c e f (rw (same_bytes told x.1 y.1) at x.2) y.2

at_long_c : {s : Disk} {n : Files} (e f : Ending) → IsTrue s.tells_held → AtLongC s n e → AtLongC s n f → e ≡ f
at_long_c e f told (inl x) (inl y) = x.0 ∙ sym y.0
at_long_c e f told (inl x) (inr y) = absurd (not_longer told x.1 y.1)
at_long_c e f told (inr x) (inl y) = absurd (not_longer told y.1 x.1)
at_long_c e f told (inr x) (inr y) = at_long_spec e f told (rw (same_bytes told x.1 y.1) at x.2) y.2

-- ---- the words

same_files : (n m : Files) → Run n ≡ Run m → n ≡ m
same_files n m e = cc

-- words of a run are not those of a command that isn't built
not_unbuilt : {words : List (List ℕ)} {n : Files} → IsUnbuilt words → IsRun words n → ⊥
not_unbuilt {words} {n} x run = x.other (rw (← commands.Spells-unique words (Run n) x.command run.spells x.spells) run.no_conf)

-- words that are those of a run on files, and files that tell what they hold, come to one thing
pub ComesTo-same : (s : Disk) (words : List (List ℕ)) (e f : Ending) → IsTrue s.tells_held → ComesTo s words e → ComesTo s words f → e ≡ f
ComesTo-same s words e f told (inl x) (inl y) = x.0 ∙ sym y.0
ComesTo-same s words e f told (inl x) (inr (inl y)) = absurd (x.1 y.1.command y.1.spells)
ComesTo-same s words e f told (inl x) (inr (inr y)) = absurd (x.1 (Run y.0) y.1.spells)
ComesTo-same s words e f told (inr (inl x)) (inl y) = absurd (y.1 x.1.command x.1.spells)
ComesTo-same s words e f told (inr (inr x)) (inl y) = absurd (y.1 (Run x.0) x.1.spells)
ComesTo-same s words e f told (inr (inl x)) (inr (inl y)) = x.0 ∙ sym y.0
ComesTo-same s words e f told (inr (inl x)) (inr (inr y)) = absurd (not_unbuilt x.1 y.1)
ComesTo-same s words e f told (inr (inr x)) (inr (inl y)) = absurd (not_unbuilt y.1 x.1)
ComesTo-same s words e f told (inr (inr x)) (inr (inr y)) =
    let names : x.0 ≡ y.0 = same_files x.0 y.0 (commands.Spells-unique words (Run x.0) (Run y.0) x.1.spells y.1.spells) in
    at_long_c e f told (decided s y.0 e told (rw names at x.2)) (decided s y.0 f told y.2)
