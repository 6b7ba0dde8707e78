-- What was taken from the front of the bytes of a capture.
use Rattle.std.proofs.Common.{◌≡◌, ◌≢◌, ◌≤◌, ◌<◌, inl, inr, ℕ, List, ◌++◌, length, take, drop, take_all, sym, ap, ◌∙◌, append_assoc, Ok, Err, IsErrOf, arith}
use Rattle.std.proofs.lemmas.List.{take_at, take-append-drop, length-take-le}
use Rattle.vg_base.specs.Files.{Disk}
use Rattle.vg_pcap.specs.declared.faults.Damage.{Damage}
use Rattle.vg_pcap.specs.declared.faults.Damage.TheVariants.{Cut, Long, Fraction}
use Rattle.vg_pcap.specs.Captures.{Encoding, RecordHead, HasHead, head_bytes, IsDamaged, units_per_second, longest}
use Rattle.vg_pcap.specs.declared.faults.CaptureFault.{CaptureFault}
use Rattle.vg_pcap.specs.declared.faults.CaptureFault.TheVariants as faults
use Rattle.vg_pcap.specs.Incoming.{fault_of}
use Rattle.vg_pcap.specs.Reader.{HasReadCause}
use Rattle.vg_pcap.specs.Buffered.{Source, Gives}
use Rattle.vg_pcap.specs.Reading.{HasGoodHead, HasRecord, record_of_head}
use Rattle.vg_pcap.proofs.RecordBytes.{HasHead-more}

-- where all that was asked for was given, the bytes begin with it
pub Gives-whole : {t : Disk} {new : Source} {n : ℕ} {into bytes : List ℕ} → length into ≡ n → Gives t new n into bytes → bytes ≡ into ++ drop n bytes
Gives-whole {n = n} {into} {bytes} size is =
    sym (take-append-drop n bytes) ∙ ap (λ (front : List ℕ). front ++ drop n bytes) (sym is.next ∙ take_all n into (omega arith))

pub Gives-part : {t : Disk} {new : Source} {n : ℕ} {into bytes : List ℕ} → length into ≡ n → Gives t new n into bytes → into ≡ take n bytes
Gives-part {n = n} {into} size is = sym (take_all n into (omega arith)) ∙ is.next

-- a head that was read stands before what follows it
pub HasHead-behind : {encoding : Encoding} {h : RecordHead} (front bytes rest : List ℕ) → bytes ≡ front ++ rest → HasGoodHead encoding front h
    → HasHead encoding bytes h rest
HasHead-behind front bytes rest whole is = rw whole (HasHead-more rest is.head)

-- the bytes end in a record's head
pub cut_head : (encoding : Encoding) (bytes : List ℕ) (n : ℕ) → n ≢ 0 → n < 16 → n ≡ length bytes → IsDamaged encoding bytes Cut
cut_head encoding bytes n some few all = inl (λ e. some (all ∙ ap (λ (xs : List ℕ). length xs) e), omega arith)

-- the bytes end in a record's captured bytes
pub cut_body : (encoding : Encoding) (h : RecordHead) (front bytes rest : List ℕ) (n : ℕ) → bytes ≡ front ++ rest → HasGoodHead encoding front h
    → n < h.size → n ≡ length rest →
    IsDamaged encoding bytes Cut
cut_body encoding h front bytes rest n whole is few all = inr (h, rest, HasHead-behind front bytes rest whole is, is.fraction, is.size, omega arith)

abbrev head_with : ℕ → ℕ → ℕ → ℕ → RecordHead
head_with a b c d = record { seconds = a; fraction = b; size = c; original = d }

-- the numbers that the bytes begin with, and as many bytes behind them as they say, are a record
pub HasRecord-of_head : {encoding : Encoding} {h : RecordHead} (bytes rest captured : List ℕ) → HasHead encoding bytes h rest
    → h.fraction < units_per_second encoding.resolution → h.size ≤ longest →
    h.size ≤ length rest → captured ≡ take h.size rest →
    HasRecord encoding bytes (record { seconds = h.seconds; fraction = h.fraction; original = h.original; captured = captured }) (drop h.size rest)
HasRecord-of_head {encoding} {h} bytes rest captured head less short enough same =
    let count : length captured ≡ h.size = ap (λ (xs : List ℕ). length xs) same ∙ length-take-le h.size rest enough in
    let head_is : h ≡ head_with h.seconds h.fraction (length captured) h.original = ap (λ (n : ℕ). head_with h.seconds h.fraction n h.original) (sym count) in
    let split : rest ≡ captured ++ drop h.size rest = sym (take-append-drop h.size rest) ∙ ap (λ (xs : List ℕ). xs ++ drop h.size rest) (sym same) in
    record {
      good = record { seconds = head.seconds; fraction = less; original = head.original; captured = omega (arith, count, short) };
      whole = head.whole ∙ pieces (ap (head_bytes encoding) head_is) split
          ∙ sym (append_assoc (head_bytes encoding (head_with h.seconds h.fraction (length captured) h.original)) captured (drop h.size rest));
    }
  where
    pieces : {a b c d : List ℕ} → a ≡ b → c ≡ d → a ++ c ≡ b ++ d
    pieces p q = cc

-- a whole record was taken
pub HasRecord-taken : {encoding : Encoding} {h : RecordHead} (front bytes rest part more : List ℕ) → bytes ≡ front ++ rest
    → HasGoodHead encoding front h → length part ≡ h.size → part ≡ take h.size rest →
    h.size ≤ length rest → HasRecord encoding bytes (record_of_head h (part ++ more)) (drop h.size rest)
HasRecord-taken {encoding} {h} front bytes rest part more whole is size same enough =
    HasRecord-of_head bytes rest (take h.size (part ++ more)) (HasHead-behind front bytes rest whole is) is.fraction is.size enough
    (take_at part more h.size size ∙ same)

-- ---- causes

pub cause_ok : {A : Type 0} {s t : Disk} (x : A) → t.read_faults ≡ s.read_faults → HasReadCause s t (Ok x)
cause_ok x same = record { fault = λ is. cc; same = same; same_else = tt; rises = omega arith }

pub cause_else : {A : Type 0} (s t : Disk) (fault : CaptureFault) → fault ≢ faults.Read → t.read_faults ≡ s.read_faults → HasReadCause {A = A} s t (Err fault)
cause_else s t fault other same = record { fault = λ is. absurd (other (cc)); same = tt; same_else = λ ne. same; rises = omega arith }

pub damage_unread : (damage : Damage) (number : ℕ) → fault_of damage number ≢ faults.Read
damage_unread damage number e = cc (e)

-- the cause of a fault is the same, whatever else might have been answered
pub cause_same : {A B : Type 0} {s t : Disk} (fault : CaptureFault) → HasReadCause {A = A} s t (Err fault) → HasReadCause {A = B} s t (Err fault)
cause_same fault cause = record { fault = λ is. cause.fault (ap Err (told fault faults.Read is)); same = tt; same_else = cause.same_else; rises = cause.rises }
  where
    told : {B : Type 0} (a b : CaptureFault) → IsErrOf {T = B} (Err a) b → a ≡ b
    told a b e = cc
