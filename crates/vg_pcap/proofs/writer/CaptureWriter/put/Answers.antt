use Rattle.std.proofs.lemmas.Result.{err_from_is_err_and}
use Rattle.vg_pcap.proofs.Written.{first_piece, put_both, put_first, in_two}
use Rattle.vg_pcap.proofs.writer.CaptureWriter.put.Goals as goal

pub returns-in_err-put_all-clause-writes : goal.returns-in_err-put_all-clause-writes
returns-in_err-put_all-clause-writes g c =
    let here = c.split_at.result.0.now in
    let rest = c.split_at.result.1.now in
    let p = err_from_is_err_and c.from_residual.result c.from_residual.ensures.1 in
    rw (← c.self.view_is, p.1)
    (put_first c.args.time c.args.original c.args.frame.now here rest _ (in_two _ c.args.frame.now here rest c.split_at.ensures.front c.split_at.ensures.back)
    (first_piece _ _ here c.fill_head.new.bytes c.copy_from_slice.new.self _ c.fill_head.ensures c.copy_from_slice.ensures.after) c.in_err-put_all.ensures)

pub returns-clause-writes : goal.returns-clause-writes
returns-clause-writes g c =
    let here = c.split_at.result.0.now in
    let rest = c.split_at.result.1.now in
    rw (← c.self.view_is)
    (put_both c.args.time c.args.original c.args.frame.now here rest _ c.put_all-2.result (in_two _ c.args.frame.now here rest
    c.split_at.ensures.front c.split_at.ensures.back)
    (first_piece _ _ here c.fill_head.new.bytes c.copy_from_slice.new.self _ c.fill_head.ensures c.copy_from_slice.ensures.after)
    c.in_ok-put_all.ensures c.put_all-2.ensures)
