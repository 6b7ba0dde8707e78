-- What the calls of the reader do, by what reading is. No public clause rests on this file.
use Rattle.std.specs.Prelude.{ℕ, List, slice_get, Option, Result, Ok, Err}
use Rattle.std.specs.Global.{Vec}
use Rattle.vg_forms.specs.Places.{State}
use Rattle.vg_forms.specs.Reading.{Reads, read, read_inner}
use Rattle.vg_forms.specs.declared.stops.Stop.{Stop}
use Rattle.vg_sgrammar.specs.Written.{Written}
use Rattle.vg_sgrammar.specs.Kinds.{SToken}
use Rattle.vg_sgrammar.specs.Rules.{Nested, SForm, sgrammar}
use Rattle.vg_sgrammar.specs.declared.reader.Source.{Source}

-- where a reader of specifications stands
abbrev pub SState : Type 0
SState = State Written

-- reading with what a call is given
abbrev pub reads : {A : Type 0} → Source → SForm A → Reads Written A
reads src f s = read sgrammar src.toks.now src.room f s

abbrev pub reads_inner : Source → Nested → Reads Written ℕ
reads_inner src n s = read_inner sgrammar src.toks.now src.room n s

abbrev pub next : Source → SState → Option SToken
next src s = slice_get src.toks.now s.at

-- the items of the list that a call answers
abbrev pub items_of : {A : Type 0} → Result (Vec A) Stop → Result (List A) Stop
items_of (Ok v) = Ok v.items
items_of (Err e) = Err e
