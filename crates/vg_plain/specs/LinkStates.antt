-- What is seen of a link of the list library: its table, and which of its cells are lent.
use Rattle.std.specs.Prelude.{ℕ, ◌≡◌, List, Bool, Some, slice_set, refl}
use Rattle.std.specs.FinMap.{get}
use Rattle.std.specs.Coded.{Coded, code_by, coded×, coded_list, coded_bool}
use Rattle.vg_abs.specs.Tables.{Link, CellTable}
use Rattle.vg_abs.specs.Agreement.{BothTell}
use Rattle.vg_abs.specs.TableCodes.{link_code}

pub record LinkState : Type 0 where
  pub link : Link
  pub lent : List Bool

abbrev pub link_state_code : Coded LinkState
link_state_code = code_by (Link × List Bool) (coded× link_code (coded_list coded_bool)) (λ s. (s.link, s.lent))
    (λ p. record { link = p.0; lent = p.1 }) (λ _. refl)

-- the link is this now, and as many cells are lent
abbrev pub with_link : LinkState → Link → LinkState
with_link s link = record s { link = link }

-- whether a cell is lent is this now
abbrev pub with_lent : LinkState → ℕ → Bool → LinkState
with_lent s index is_lent = record s { lent = slice_set s.lent index is_lent }

-- the cell of each allocated index is a key that is mapped to it
abbrev pub IsKeyed : Link → Type 0
IsKeyed link = (index time : ℕ) → get link.times index ≡ Some (Some time) → (key : List ℕ) × (get link.cells index ≡ Some key)
    × (get link.keys key ≡ Some (Some index))

-- two tables of cells agree in what both tell
abbrev pub CellsAgree : CellTable → CellTable → Type 0
CellsAgree one other = (index : ℕ) → BothTell (get one index) (get other index)
