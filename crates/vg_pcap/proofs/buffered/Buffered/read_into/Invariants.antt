use Rattle.std.proofs.Common.{◌≡◌, ◌≤◌, ◌-◌, ℕ, List, length, IsTrue}
use Rattle.vg_pcap.specs.Reader.{IsBefore}
use Rattle.vg_pcap.specs.Buffered.{Stays, Gives}
use Rattle.vg_pcap.proofs.buffered.Buffered.read_into.Given as goal

abbrev pub invariant-loop-done : goal.invariant-loop-done
invariant-loop-done g l = record {
  within : l.done ≤ length l.into;
  read_faults : (g.F.Files.disk l.files).read_faults ≡ (g.F.Files.disk l.initial.files).read_faults;
  stays : Stays (g.F.Files.disk l.initial.files) (g.F.Files.disk l.files) l.initial.self l.self;
  gives : IsTrue (g.F.Files.disk l.initial.files).tells_held → (bytes : List ℕ) → IsBefore (g.F.Files.disk l.initial.files) l.initial.self.id
      l.initial.self.ahead bytes →
      Gives (g.F.Files.disk l.files) l.self l.done l.into bytes;
}

abbrev pub decreases-loop-done : goal.decreases-loop-done
decreases-loop-done g l = length l.into - l.done
