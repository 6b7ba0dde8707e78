-- What loading a file gives.
use Rattle.std.specs.Prelude.{ℕ, ◌<◌, ◌≤◌, ◌≡◌, ◌≢◌, List, length, IsTrue, Option, Some, Result, Ok, Err, IfOk, OnOk, IfErr, IsErrOf, Vec}
use Rattle.std.specs.declared.alloc.Global.{Global}
use Rattle.vg_base.specs.declared.faults.LoadFault.{LoadFault}
use Rattle.vg_base.specs.declared.faults.LoadFault.TheVariants.{Read, TooLong}
use Rattle.vg_base.specs.Files.{Disk, Reads, reading, IsOpen, Rose, ReadKeeps, SameIds}

-- the loaded bytes are those of the file, which are not more than the limit, or they are too long, being more
abbrev pub Gives : Option (List ℕ) → ℕ → Result (Vec ℕ Global) LoadFault → Type 0
Gives held limit (Ok v) = (held ≡ Some v.items) × (length v.items ≤ limit)
Gives held limit (Err TooLong) = (bytes : List ℕ) × (held ≡ Some bytes) × (limit < length bytes)
Gives held limit (Err _) = Unit {0}

-- `Read` is answered only where the count of faults at reading rose, and the count changes only then
pub record HasReadCause {A : Type 0} (s t : Disk) (result : Result A LoadFault) : Type 0 where
  pub fault : IsErrOf result Read → Rose s.read_faults t.read_faults
  pub same : OnOk result (t.read_faults ≡ s.read_faults)
  pub same_else : IfErr result (λ e. e ≢ Read → t.read_faults ≡ s.read_faults)
  pub rises : s.read_faults ≤ t.read_faults

-- the rest of an open file was read
pub record ReadsAll (s t : Disk) (id limit : ℕ) (result : Result (Vec ℕ Global) LoadFault) : Type 0 where
  pub cause : HasReadCause s t result
  pub keeps : ReadKeeps s t
  pub shut_faults : t.shut_faults ≡ s.shut_faults
  pub reads : IsOpen Reads (t.opened id)
  pub others : (j : ℕ) → j ≢ id → t.opened j ≡ s.opened j
  pub open_count : t.open_count ≡ s.open_count
  pub within : IfOk result (λ v. length v.items ≤ limit)
  pub bytes : IsTrue s.tells_held → (name bytes : List ℕ) → s.opened id ≡ reading name 0 → s.held name ≡ Some bytes →
      Gives (Some bytes) limit result

-- a file was loaded, and closed again; a fault in closing it is counted and changes nothing else
pub record Loads (s t : Disk) (name : List ℕ) (limit : ℕ) (result : Result (Vec ℕ Global) LoadFault) : Type 0 where
  pub cause : HasReadCause s t result
  pub keeps : ReadKeeps s t
  pub ids : SameIds s t
  pub shut_faults : s.shut_faults ≤ t.shut_faults
  pub within : IfOk result (λ v. length v.items ≤ limit)
  pub bytes : IsTrue s.tells_held → Gives (s.held name) limit result
