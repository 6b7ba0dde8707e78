use Rattle.std.proofs.Common.{◌≡◌, ◌∙◌, max, length, vec_len, ap}
use Rattle.std.proofs.lemmas.List.{with_items_is}
use Rattle.std.proofs.lemmas.Result.{err_from_is_err_and}
use Rattle.vg_pcap.proofs.Streams.{reads_record, reads_none, reads_refused}
use Rattle.vg_pcap.proofs.reader.CaptureReader.next.Goals as goal

pub returns-in_err-found : goal.returns-in_err-found
returns-in_err-found g c =
    let p = err_from_is_err_and c.from_residual.result c.from_residual.ensures.1 in
    rw (p.1, p.2, ← c.self.view_is) (reads_refused _ _ _ _ _ c.in_err-found.field-0.0 c.in_err-found.ensures c.saturating_add-number.ensures)

pub returns-in_default : goal.returns-in_default
returns-in_default g c = rw (← c.self.view_is) (reads_none _ _ _ _ _ (rw c.in_default.is at c.in_ok-found.ensures))

pub returns : goal.returns
returns g c =
    let frame = c.self.inside.frame in
    let room : length c.take_record.new.frame ≡ vec_len frame = c.take_record.auto.frame ∙ c.as_mut_slice-frame.ensures.len in
    let time = c.max-time.ensures ∙ ap (max c.self.inside.latest) c.time.ensures in
    let takes = rw c.in-Some.is at c.in_ok-found.ensures in
    rw (← c.self.view_is) (reads_record _ _ _ _ _ _ c.in-Some.head takes c.saturating_add-number.ensures time
    (with_items_is frame c.take_record.new.frame room) c.self.invariant.0 (room ∙ c.self.invariant.1))
