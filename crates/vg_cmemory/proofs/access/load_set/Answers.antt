use Rattle.std.proofs.Common.{◌≡◌, ◌∙◌, ap, sym, length, map, None, Ok, List, ℕ}
use Rattle.vg_cmemory.specs.Access.{place_tests, set, word_of}
use Rattle.vg_cint.specs.Tests.{first_against}
use Rattle.vg_cmemory.proofs.Parts.{chunk_read}
use Rattle.vg_cmemory.proofs.access.load_set.Goals as goal

pub returns-in-None : goal.returns-in-None
returns-in-None c =
    let none : first_against (place_tests (length c.args.bytes.now) c.args.room c.args.offset c.args.size c.args.align) ≡ None = cc (c.in-None.ensures.value) in
    ap Ok (c.word_in_frame.ensures.value ∙ ap (λ (bytes : List ℕ). word_of (map set bytes)) c.part_of.ensures)
    ∙ sym (chunk_read c.args.chunk.from c.args.chunk.size c.args.bytes.now c.args.room c.args.offset c.args.size c.args.align none)
