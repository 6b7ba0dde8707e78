use Rattle.std.proofs.Common.{◌≡◌, drop, refl, inr, arith}
use Rattle.vg_pcap.proofs.FileHeaders.{HasHeader-more, IsBadHeader-more}
use Rattle.vg_pcap.proofs.Taken.{Gives-whole, cause_ok, cause_else}
use Rattle.vg_pcap.proofs.reading.take_header.Goals as goal

pub returns-in-Ok-read_header : goal.returns-in-Ok-read_header
returns-in-Ok-read_header g c =
    let read = c.in-Ok.ensures in
    let all : c.in-Ok.got ≡ 24 = omega (arith, read.within, c.read_into.auto.into) in
    record {
      cause = cause_ok _ read.faults.same;
      stays = read.stays;
      good = λ told file is.
          let gives = rw all at (read.gives told file is) in
          let whole = Gives-whole (omega (arith, c.read_into.auto.into)) gives in
          (drop 24 file, rw (← whole) at (HasHeader-more (drop 24 file) c.in-Ok-read_header.ensures.good), gives.after);
      refused = tt;
    }

pub returns-in-Err : goal.returns-in-Err
returns-in-Err g c =
    let read = c.in-Ok.ensures in
    let all : c.in-Ok.got ≡ 24 = omega (arith, read.within, c.read_into.auto.into) in
    record {
      cause = cause_else _ _ _ (λ e. cc) read.faults.same;
      stays = read.stays;
      good = tt;
      refused = inr (
        c.in-Err.field,
        refl,
        λ told file is.
            let gives = rw all at (read.gives told file is) in
            let whole = Gives-whole (omega (arith, c.read_into.auto.into)) gives in
            rw (← whole) at (IsBadHeader-more c.read_into.new.into (drop 24 file) c.in-Err.field (omega (arith, c.read_into.auto.into)) c.in-Err.ensures.bad),
      );
    }
