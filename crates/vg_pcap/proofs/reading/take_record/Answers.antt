use Rattle.std.proofs.Common.{◌≡◌, ◌∙◌, length, drop, refl, inr, arith}
use Rattle.std.proofs.lemmas.List.{length-take-le}
use Rattle.vg_base.proofs.Disks.{told_before}
use Rattle.vg_pcap.specs.declared.faults.Damage.TheVariants.{Cut}
use Rattle.vg_pcap.specs.Reading.{encoding_view, head_view}
use Rattle.vg_pcap.proofs.ReadAhead.{Stays-trans}
use Rattle.vg_pcap.proofs.Taken.{Gives-whole, Gives-part, cut_body, HasRecord-taken, cause_ok, cause_else, damage_unread}
use Rattle.vg_pcap.proofs.reading.take_record.Goals as goal

pub returns-in-Err : goal.returns-in-Err
returns-in-Err g c =
    let read = c.in-Ok.ensures in
    let all : c.in-Ok.got ≡ 16 = omega (arith, read.within, c.read_into.auto.into) in
    record {
      cause = cause_else _ _ _ (damage_unread c.in-Err.why c.args.number) read.faults.same;
      stays = read.stays;
      good = tt;
      begins = tt;
      refused = inr (
        c.in-Err.why,
        refl,
        λ told bytes is.
            let gives = rw all at (read.gives told bytes is) in
            rw (← Gives-whole (omega (arith, c.read_into.auto.into)) gives) at (c.in-Err.ensures.refused (drop 16 bytes)),
      );
    }

pub returns-then-got-size : goal.returns-then-got-size
returns-then-got-size g c =
    let first = c.in-Ok.ensures in
    let read = c.in-Ok-read_into.ensures in
    let all : c.in-Ok.got ≡ 16 = omega (arith, first.within, c.read_into.auto.into) in
    let size = c.in-Ok-read_head.head.size in
    let room : length c.read_into-2.new.into ≡ size = c.read_into-2.auto.into ∙ length-take-le size c.args.frame.now
    (omega (arith, c.in-Ok-read_head.ensures.good.size, c.requires.room)) in
    record {
      cause = cause_else _ _ _ (λ e. cc) (read.faults.same ∙ first.faults.same);
      stays = Stays-trans first.stays read.stays;
      good = tt;
      begins = tt;
      refused = inr (
        Cut,
        refl,
        λ told bytes is.
            let gives = rw all at (first.gives told bytes is) in
            let whole = Gives-whole (omega (arith, c.read_into.auto.into)) gives in
            let few = read.end (told_before first.stays.keeps told) (drop 16 bytes) gives.after (omega (arith, c.if-got-size.true, room)) in
            cut_body (encoding_view c.args.encoding) (head_view c.in-Ok-read_head.head) c.read_into.new.into bytes (drop 16 bytes)
            c.in-Ok-read_into.got whole c.in-Ok-read_head.ensures.good c.if-got-size.true few,
      );
    }

pub returns : goal.returns
returns g c =
    let first = c.in-Ok.ensures in
    let read = c.in-Ok-read_into.ensures in
    let good = c.in-Ok-read_head.ensures.good in
    let all : c.in-Ok.got ≡ 16 = omega (arith, first.within, c.read_into.auto.into) in
    let size = c.in-Ok-read_head.head.size in
    let room : length c.read_into-2.new.into ≡ size = c.read_into-2.auto.into ∙ length-take-le size c.args.frame.now
    (omega (arith, good.size, c.requires.room)) in
    let both : c.in-Ok-read_into.got ≡ size = omega (arith, read.within, room, c.if-got-size.false) in
    record {
      cause = cause_ok _ (read.faults.same ∙ first.faults.same);
      stays = Stays-trans first.stays read.stays;
      good = record { seconds = good.head.seconds; fraction = good.fraction; size = good.size; original = good.head.original };
      begins = λ told bytes is.
          let gives = rw all at (first.gives told bytes is) in
          let whole = Gives-whole (omega (arith, c.read_into.auto.into)) gives in
          let body = rw both at (read.gives (told_before first.stays.keeps told) (drop 16 bytes) gives.after) in (
            drop size (drop 16 bytes),
            HasRecord-taken c.read_into.new.into bytes (drop 16 bytes) c.read_into-2.new.into _ whole good room (Gives-part room body) body.within,
            body.after,
          );
      refused = tt;
    }
