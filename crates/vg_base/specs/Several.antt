-- Several ids that are opened or closed together.
use Rattle.std.specs.Prelude.{ℕ, ◌+◌, ◌≡◌, ◌≢◌, List, length, None, All}
use Rattle.vg_base.specs.Files.{Disk, Mode, IsOpen}

-- these ids aren't open in s, and they alone make the difference to what is open in t
pub record DiffersBy (s t : Disk) (ids : List ℕ) : Type 0 where
  pub closed : All (λ id. s.opened id ≡ None) ids
  pub others : (id : ℕ) → All (λ other. id ≢ other) ids → t.opened id ≡ s.opened id
  pub count : t.open_count ≡ s.open_count + length ids

-- these ids are open for this
abbrev pub AreOpen : Disk → Mode → List ℕ → Type 0
AreOpen s mode ids = All (λ id. IsOpen mode (s.opened id)) ids

-- these ids were opened for this, and no other is touched
abbrev pub OpensThese : Disk → Disk → Mode → List ℕ → Type 0
OpensThese s t mode ids = DiffersBy s t ids × AreOpen t mode ids
