-- What is seen of an object with files, and what each of its calls does to it.
use Rattle.std.specs.Prelude.{ℕ, ◌+◌, ◌-◌, ◌<◌, ◌≤◌, ◌^◌, min, ◌≡◌, ◌≢◌, List, [], ◌++◌, length, take, drop, Bool, IsTrue, Option, Some, None, IsSome}
use Rattle.std.specs.Prelude.{Result, IfOk, OnOk, OnErr, unwrap_or, option_and_then, slice_index}
use Rattle.vg_base.specs.declared.faults.Failed.{Failed}

-- what an open id is for
pub data Mode : Type 0 where
  Reads : Mode
  Writes : Mode

-- what is seen of an open id; the name and the place mean something for reading where `held` is told, and the name for
-- writing where `made` is told
pub record Opened : Type 0 where
  pub mode : Mode
  pub name : List ℕ
  pub place : ℕ

-- an id that reads this file from this place on
abbrev pub reading : List ℕ → ℕ → Option Opened
reading name place = Some (record { mode = Reads; name = name; place = place })

-- an id that writes to the end of this file
abbrev pub writing : List ℕ → Option Opened
writing name = Some (record { mode = Writes; name = name; place = 0 })

-- the id is open, for this
abbrev pub IsOpen : Mode → Option Opened → Type 0
IsOpen mode None = ⊥
IsOpen mode (Some id) = id.mode ≡ mode

-- numbers that are bytes
abbrev pub AreBytes : List ℕ → Type 0
AreBytes bytes = (k : ℕ) → slice_index bytes k < 2 ^ 8

-- what stands under each name
abbrev pub Contents : Type 0
Contents = List ℕ → Option (List ℕ)

-- what is seen of an object with files: how often opening for reading and reading failed, how often creating, writing and
-- closing what was created did, and how often closing what was read did; whether it tells the bytes that can be read, and
-- these; whether it tells the bytes that were written, and these; which ids are open, and how many
pub record Disk : Type 0 where
  pub read_faults : ℕ
  pub write_faults : ℕ
  pub shut_faults : ℕ
  pub tells_held : Bool
  pub held : Contents
  pub tells_made : Bool
  pub made : Contents
  pub opened : ℕ → Option Opened
  pub open_count : ℕ

-- a count has risen; one that stands at the end of its type passes for risen
abbrev pub Rose : ℕ → ℕ → Type 0
Rose before after = min (before + 1) (2 ^ 64 - 1) ≤ after

-- a call answers a fault only where its count rose, changes it only then, and never lowers it
pub record Counts {A : Type 0} (before after : ℕ) (result : Result A Failed) : Type 0 where
  pub failed : OnErr result (Rose before after)
  pub same : OnOk result (after ≡ before)
  pub rises : before ≤ after

-- what can be read stays, and what is told
pub record SameHeld (s t : Disk) : Type 0 where
  pub tells_held : t.tells_held ≡ s.tells_held
  pub held : t.held ≡ s.held
  pub tells_made : t.tells_made ≡ s.tells_made

-- the same ids are open
pub record SameIds (s t : Disk) : Type 0 where
  pub opened : t.opened ≡ s.opened
  pub open_count : t.open_count ≡ s.open_count

-- this id is opened, and no other is touched
pub record OpensOne (s t : Disk) (mode : Mode) (id : ℕ) : Type 0 where
  pub was : s.opened id ≡ None
  pub now : IsOpen mode (t.opened id)
  pub others : (j : ℕ) → j ≢ id → t.opened j ≡ s.opened j
  pub one_more : t.open_count ≡ s.open_count + 1

-- this id is closed, and no other is touched
pub record ClosesOne (s t : Disk) (id : ℕ) : Type 0 where
  pub now : t.opened id ≡ None
  pub others : (j : ℕ) → j ≢ id → t.opened j ≡ s.opened j
  pub one_less : t.open_count + 1 ≡ s.open_count

-- a read gives the next bytes of a file; none of them, where there is room for one, only at its end
pub record GivesNext (bytes : List ℕ) (place n : ℕ) (into : List ℕ) : Type 0 where
  pub within : place + n ≤ length bytes
  pub next : take n into ≡ take n (drop place bytes)
  pub end : n ≡ 0 → 0 < length into → place ≡ length bytes

-- the file of this name has grown by this piece, and no other file has changed
pub record Appends (old new : Contents) (name piece : List ℕ) : Type 0 where
  pub grown : (bytes : List ℕ) → old name ≡ Some bytes → new name ≡ Some (bytes ++ piece)
  pub others : (other : List ℕ) → other ≢ name → new other ≡ old other

-- the file of this name is there and empty, and no other file has changed
pub record Empties (old new : Contents) (name : List ℕ) : Type 0 where
  pub empty : new name ≡ Some []
  pub others : (other : List ℕ) → other ≢ name → new other ≡ old other

-- a file was opened for reading, or a fault was counted
pub record OpensRead (s t : Disk) (name : List ℕ) (result : Result ℕ Failed) : Type 0 where
  pub faults : Counts s.read_faults t.read_faults result
  pub write_faults : t.write_faults ≡ s.write_faults
  pub shut_faults : t.shut_faults ≡ s.shut_faults
  pub held : SameHeld s t
  pub made : t.made ≡ s.made
  pub opens : IfOk result (OpensOne s t Reads)
  pub start : IfOk result (λ id. IsTrue s.tells_held → t.opened id ≡ reading name 0)
  pub exists : OnOk result (IsTrue s.tells_held → IsSome (s.held name))
  pub bytes : OnOk result (IsTrue s.tells_held → (file : List ℕ) → s.held name ≡ Some file → AreBytes file)
  pub err : OnErr result (SameIds s t)

-- the next bytes of an open file were read, or a fault was counted
pub record ReadsNext (s t : Disk) (id : ℕ) (into : List ℕ) (result : Result ℕ Failed) : Type 0 where
  pub faults : Counts s.read_faults t.read_faults result
  pub write_faults : t.write_faults ≡ s.write_faults
  pub shut_faults : t.shut_faults ≡ s.shut_faults
  pub held : SameHeld s t
  pub made : t.made ≡ s.made
  pub within : IfOk result (λ n. n ≤ length into)
  pub bytes : IfOk result (λ n. IsTrue s.tells_held → (name : List ℕ) (place : ℕ) (bytes : List ℕ) →
      s.opened id ≡ reading name place → s.held name ≡ Some bytes → GivesNext bytes place n into)
  pub place : IfOk result (λ n. IsTrue s.tells_held → (name : List ℕ) (place : ℕ) →
      s.opened id ≡ reading name place → t.opened id ≡ reading name (place + n))
  pub reads : IsOpen Reads (t.opened id)
  pub others : (j : ℕ) → j ≢ id → t.opened j ≡ s.opened j
  pub open_count : t.open_count ≡ s.open_count
  pub err : OnErr result (t.opened ≡ s.opened)

-- an empty file was made, or a fault was counted
pub record Creates (s t : Disk) (name : List ℕ) (result : Result ℕ Failed) : Type 0 where
  pub faults : Counts s.write_faults t.write_faults result
  pub read_faults : t.read_faults ≡ s.read_faults
  pub shut_faults : t.shut_faults ≡ s.shut_faults
  pub held : SameHeld s t
  pub empty : OnOk result (IsTrue s.tells_made → Empties s.made t.made name)
  pub opens : IfOk result (OpensOne s t Writes)
  pub named : IfOk result (λ id. IsTrue s.tells_made → t.opened id ≡ writing name)
  pub err : OnErr result (SameIds s t × (t.made ≡ s.made))

-- what stays at a write
pub record WriteKeeps (s t : Disk) : Type 0 where
  pub read_faults : t.read_faults ≡ s.read_faults
  pub shut_faults : t.shut_faults ≡ s.shut_faults
  pub held : SameHeld s t
  pub ids : SameIds s t

-- first bytes of a piece were written to an open file, or a fault was counted
pub record WritesSome (s t : Disk) (id : ℕ) (piece : List ℕ) (result : Result ℕ Failed) : Type 0 where
  pub faults : Counts s.write_faults t.write_faults result
  pub keeps : WriteKeeps s t
  pub within : IfOk result (λ n. n ≤ length piece)
  pub some : IfOk result (λ n. 0 < length piece → 0 < n)
  pub grows : IfOk result (λ n. IsTrue s.tells_made → (name : List ℕ) → s.opened id ≡ writing name →
      Appends s.made t.made name (take n piece))
  pub err : OnErr result (t.made ≡ s.made)

-- the whole of a piece was written to an open file, or a fault was counted and a prefix was written
pub record WritesAll (s t : Disk) (id : ℕ) (piece : List ℕ) (result : Result (Unit {0}) Failed) : Type 0 where
  pub faults : Counts s.write_faults t.write_faults result
  pub keeps : WriteKeeps s t
  pub whole : OnOk result (IsTrue s.tells_made → (name : List ℕ) → s.opened id ≡ writing name →
      Appends s.made t.made name piece)
  pub prefix : OnErr result (IsTrue s.tells_made → (name : List ℕ) → s.opened id ≡ writing name →
      (n : ℕ) × (n ≤ length piece) × Appends s.made t.made name (take n piece))

-- an id was closed, also where a fault was counted: of its own kind for what was read and for what was written
pub record Closes (s t : Disk) (id : ℕ) (result : Result (Unit {0}) Failed) : Type 0 where
  pub of_read : IsOpen Reads (s.opened id) → Counts s.shut_faults t.shut_faults result × (t.write_faults ≡ s.write_faults)
  pub of_write : IsOpen Writes (s.opened id) → Counts s.write_faults t.write_faults result × (t.shut_faults ≡ s.shut_faults)
  pub read_faults : t.read_faults ≡ s.read_faults
  pub held : SameHeld s t
  pub made : t.made ≡ s.made
  pub closes : ClosesOne s t id

-- what stays where a file is only read
pub record ReadKeeps (s t : Disk) : Type 0 where
  pub write_faults : t.write_faults ≡ s.write_faults
  pub held : SameHeld s t
  pub made : t.made ≡ s.made

-- what was written so far to the file behind an id
abbrev pub made_behind : Disk → ℕ → List ℕ
made_behind s id = unwrap_or (option_and_then (λ file. s.made file.name) (s.opened id)) []

-- nothing is open, nothing is seen that was written, and nothing has failed
pub record IsFresh (s : Disk) : Type 0 where
  pub read_faults : s.read_faults ≡ 0
  pub write_faults : s.write_faults ≡ 0
  pub shut_faults : s.shut_faults ≡ 0
  pub made : (name : List ℕ) → s.made name ≡ None
  pub opened : (id : ℕ) → s.opened id ≡ None
  pub open_count : s.open_count ≡ 0
