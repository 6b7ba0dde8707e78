use Rattle.std.proofs.Common.{◌≡◌, ◌∙◌, sym}
use Rattle.std.specs.Prelude.{string_bytes}
use Rattle.std.proofs.lemmas.Slice.Eq.{bytes_eq-Decides}
use Rattle.vg_doubles.proofs.NamedLists.{found, name_at-get, bytes_at-get}
use Rattle.vg_doubles.proofs.named.first_of.Goals as goal

pub returns-then-eq-clause-first : goal.returns-then-eq-clause-first
returns-then-eq-clause-first c =
    let same : string_bytes c.file-item.result.0 ≡ c.args.name.now = sym c.as_str.ensures.value
    ∙ (bytes_eq-Decides c.as_str.result.now c.args.name.now).0 (sym c.if-eq.ensures) in
    rw c.loop-file.invariant.index (found c.args.files.now c.loop-file.file-index c.file-item.result c.args.name.now c.loop-file-test.true
    c.file-item.is same c.loop-file.invariant.none)

pub returns-then-eq-clause-name : goal.returns-then-eq-clause-name
returns-then-eq-clause-name c =
    let same : string_bytes c.file-item.result.0 ≡ c.args.name.now = sym c.as_str.ensures.value
    ∙ (bytes_eq-Decides c.as_str.result.now c.args.name.now).0 (sym c.if-eq.ensures) in
    rw c.loop-file.invariant.index (name_at-get c.args.files.now c.loop-file.file-index c.file-item.result c.loop-file-test.true c.file-item.is ∙ same)

pub returns-then-eq-clause-bytes : goal.returns-then-eq-clause-bytes
returns-then-eq-clause-bytes c =
    let stored = bytes_at-get c.args.files.now c.loop-file.file-index c.file-item.result c.loop-file-test.true c.file-item.is in
    rw (c.loop-file.invariant.index, stored, ← c.as_slice.ensures.value) (λ k. c.know_bytes.ensures k)
