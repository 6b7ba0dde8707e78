-- Reading the next record of an input, from what its reader does.
use Rattle.std.proofs.Common.{◌≡◌, ℕ, ◌+◌, refl, sym, ap, Bool, true, false, Ok, Err, arith, true≢false}
use Rattle.vg_base.specs.Files.{Disk}
use Rattle.vg_pcap.specs.declared.faults.CaptureFault.{CaptureFault}
use Rattle.vg_pcap.specs.Reader.{Reader, HasReadCause, ReadsRecord, number_after}
use Rattle.vg_pcap.specs.Merge.{HasMergeCause}
use Rattle.vg_pcap.specs.Inputs.{Refills}

-- the number of the record behind one more
pub number_after-next : (count next : ℕ) → next ≡ number_after count → number_after next ≡ number_after (count + 1)
number_after-next count next is = omega arith

-- a record was read, or there is none
pub refilled : {s t : Disk} {old now : Reader} (was waits : Bool) → ReadsRecord s t old now (Ok waits) →
    Refills s t (record { reader = old; waits = was }) (record { reader = now; waits = waits }) (Ok tt)
refilled {s} {t} {old} {now} was true r = record {
  cause = record { fault = λ h. absurd cc; same = r.cause.same; same_else = tt; rises = r.cause.rises };
  keeps = r.keeps;
  shut_faults = r.shut_faults;
  id = r.id;
  readable = r.readable;
  others = r.others;
  open_count = r.open_count;
  sound = λ w. let f = r.frame refl in record { fits = f.0; time = f.2 };
  comes = λ stream still. record { waiting = λ w. r.next stream still; ended = λ w. absurd (true≢false w) };
  counts = number_after-next old.count now.count (r.frame refl).3;
  later = λ w. let f = r.frame refl in omega (arith, f.1, f.2);
  refused = λ stream still. tt;
  fault = tt;
}
refilled {s} {t} {old} {now} was false r = record {
  cause = record { fault = λ h. absurd cc; same = r.cause.same; same_else = tt; rises = r.cause.rises };
  keeps = r.keeps;
  shut_faults = r.shut_faults;
  id = r.id;
  readable = r.readable;
  others = r.others;
  open_count = r.open_count;
  sound = λ w. absurd (true≢false (sym w));
  comes = λ stream still. record { waiting = λ w. absurd (true≢false (sym w)); ended = λ w. let n = r.next stream still in (n.0, n.1) };
  counts = let is = r.count refl in omega arith;
  later = λ w. absurd (true≢false (sym w));
  refused = λ stream still. tt;
  fault = tt;
}

-- the record is refused
pub refill_refused : {s t : Disk} {old now : Reader} {fault : CaptureFault} (was : Bool) → ReadsRecord s t old now (Err fault) →
    Refills s t (record { reader = old; waits = was }) (record { reader = now; waits = false }) (Err fault)
refill_refused {s} {t} {old} {now} {fault} was r = record {
  cause = record { fault = λ h. r.cause.fault (ap Err cc); same = tt; same_else = r.cause.same_else; rises = r.cause.rises };
  keeps = r.keeps;
  shut_faults = r.shut_faults;
  id = r.id;
  readable = r.readable;
  others = r.others;
  open_count = r.open_count;
  sound = λ w. absurd (true≢false (sym w));
  comes = λ stream still. tt;
  counts = tt;
  later = tt;
  refused = λ stream still. r.next stream still;
  fault = r.fault;
}

-- the cause of a fault at one port is that of the whole call's
pub cause_at : {s t : Disk} {fault : CaptureFault} (port : ℕ) → HasReadCause {A = Unit {0}} s t (Err fault) →
    HasMergeCause {A = Unit {0}} s t (Err (record { port = port; fault = fault }))
cause_at port c = record { fault = λ e. c.fault (ap Err e); same = tt; same_else = c.same_else; rises = c.rises }

pub no_cause : {s t : Disk} → HasReadCause {A = Unit {0}} s t (Ok tt) → HasMergeCause {A = Unit {0}} s t (Ok tt)
no_cause c = record { fault = tt; same = c.same; same_else = tt; rises = c.rises }
