-- What is seen of bytes that are read ahead of what is given, and what reading them does. No public clause rests on this file.
use Rattle.std.specs.Prelude.{ℕ, ◌<◌, ◌≤◌, ◌≡◌, ◌≢◌, List, [], length, take, drop, IsTrue, Option, Some, Result, IfOk}
use Rattle.vg_base.specs.declared.faults.Failed.{Failed}
use Rattle.vg_base.specs.Files.{Disk, Counts, ReadKeeps}
use Rattle.vg_pcap.specs.Reader.{IsBefore, IsReadable}

-- the open id of a file, where there is one, and the bytes that were read ahead of what was given
pub record Source : Type 0 where
  pub id : Option ℕ
  pub ahead : List ℕ

-- what stays where a source is read
pub record Stays (s t : Disk) (old new : Source) : Type 0 where
  pub keeps : ReadKeeps s t
  pub shut_faults : t.shut_faults ≡ s.shut_faults
  pub id : new.id ≡ old.id
  pub readable : IsReadable t new.id
  pub others : (j : ℕ) → Some j ≢ old.id → t.opened j ≡ s.opened j
  pub open_count : t.open_count ≡ s.open_count

-- a source has given its next n bytes, which begin these
pub record Gives (t : Disk) (new : Source) (n : ℕ) (into bytes : List ℕ) : Type 0 where
  pub within : n ≤ length bytes
  pub next : take n into ≡ take n bytes
  pub after : IsBefore t new.id new.ahead (drop n bytes)

-- more was read ahead, or a fault was counted; nothing is ahead then only at the file's end
pub record Refills (s t : Disk) (old new : Source) (result : Result (Unit {0}) Failed) : Type 0 where
  pub faults : Counts s.read_faults t.read_faults result
  pub stays : Stays s t old new
  pub same : IfOk result (λ done. IsTrue s.tells_held → (bytes : List ℕ) → IsBefore s old.id [] bytes → IsBefore t new.id new.ahead bytes)
  pub end : IfOk result (λ done. IsTrue s.tells_held → (bytes : List ℕ) → IsBefore s old.id [] bytes → new.ahead ≡ [] → bytes ≡ [])

-- next bytes were given, or a fault was counted; none are given, where there is room for one, only at the end
pub record ReadsSome (s t : Disk) (old new : Source) (into : List ℕ) (result : Result ℕ Failed) : Type 0 where
  pub faults : Counts s.read_faults t.read_faults result
  pub stays : Stays s t old new
  pub within : IfOk result (λ n. n ≤ length into)
  pub gives : IfOk result (λ n. IsTrue s.tells_held → (bytes : List ℕ) → IsBefore s old.id old.ahead bytes → Gives t new n into bytes)
  pub end : IfOk result (λ n. IsTrue s.tells_held → (bytes : List ℕ) → IsBefore s old.id old.ahead bytes → n ≡ 0 → 0 < length into → bytes ≡ [])

-- next bytes were given, or a fault was counted; fewer than there is room for only at the end
pub record ReadsInto (s t : Disk) (old new : Source) (into : List ℕ) (result : Result ℕ Failed) : Type 0 where
  pub faults : Counts s.read_faults t.read_faults result
  pub stays : Stays s t old new
  pub within : IfOk result (λ n. n ≤ length into)
  pub gives : IfOk result (λ n. IsTrue s.tells_held → (bytes : List ℕ) → IsBefore s old.id old.ahead bytes → Gives t new n into bytes)
  pub end : IfOk result (λ n. IsTrue s.tells_held → (bytes : List ℕ) → IsBefore s old.id old.ahead bytes → n < length into → n ≡ length bytes)
