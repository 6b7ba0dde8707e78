-- Fields of structs, one after the other.
use Rattle.std.proofs.Common.{◌≡◌, ◌<◌, ◌+◌, ◌&&◌, ℕ, List, [], ◌∷◌, length, get_or, slice_get, drop, false, ap, ◌∙◌, arith}
use Rattle.std.proofs.lemmas.List.{drop_more}
use Rattle.vg_core.specs.declared.unit.Note.{Note}
use Rattle.vg_stree.specs.declared.shape.Field.{Field}
use Rattle.vg_cfit.specs.Fit.{field_fits, fields_fit}

pub fits_on : (notes : List Note) (nodes : List ℕ) (rest others : List Field) (field : Field) (k : ℕ) → k < length nodes → rest ≡ field ∷ others →
    fields_fit notes (drop k nodes) rest ≡ (field_fits (slice_get notes (get_or nodes k 0)) field.of && fields_fit notes (drop (k + 1) nodes) others)
fits_on notes nodes rest others field k h e =
    ap (λ xs. fields_fit notes xs rest) (drop_more nodes k 0 h) ∙ ap (λ xs. fields_fit notes (get_or nodes k 0 ∷ drop (k + 1) nodes) xs) e

pub fits_short : (notes : List Note) (nodes : List ℕ) (rest : List Field) (k : ℕ) → k < length nodes → length rest ≡ 0 →
    fields_fit notes (drop k nodes) rest ≡ false
fits_short notes nodes [] k h e = ap (λ xs. fields_fit notes xs []) (drop_more nodes k 0 h)
fits_short notes nodes (field ∷ others) k h e = absurd (omega arith)
