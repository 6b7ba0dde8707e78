use Rattle.std.proofs.Common.{ℕ, refl, ap, Option, arith}
use Rattle.std.proofs.lemmas.Bool.{false≢true}
use Rattle.vg_base.specs.Files.{Opened}
use Rattle.vg_base.proofs.host.HostFilesFiles.read.Goals as goal

pub returns-in-Some : goal.returns-in-Some
returns-in-Some g c = record {
  faults = record { failed = tt; same = refl; rises = omega arith };
  write_faults = refl;
  shut_faults = refl;
  held = record { tells_held = refl; held = refl; tells_made = refl };
  made = refl;
  within = omega (arith, c.in-Some.ensures.within);
  bytes = λ told. absurd (false≢true told);
  place = λ told. absurd (false≢true told);
  reads = rw c.read_handle.ensures.opened c.requires;
  others = λ j ne. ap (λ (f : ℕ → Option Opened). f j) c.read_handle.ensures.opened;
  open_count = c.read_handle.ensures.count;
  err = tt;
}

pub returns-in-None : goal.returns-in-None
returns-in-None g c = record {
  faults = record { failed = omega (arith, c.saturating_add-self.ensures); same = tt; rises = omega (arith, c.saturating_add-self.ensures) };
  write_faults = refl;
  shut_faults = refl;
  held = record { tells_held = refl; held = refl; tells_made = refl };
  made = refl;
  within = tt;
  bytes = tt;
  place = tt;
  reads = rw c.read_handle.ensures.opened c.requires;
  others = λ j ne. ap (λ (f : ℕ → Option Opened). f j) c.read_handle.ensures.opened;
  open_count = c.read_handle.ensures.count;
  err = c.read_handle.ensures.opened;
}
