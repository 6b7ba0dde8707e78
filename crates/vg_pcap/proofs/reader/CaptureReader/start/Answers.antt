use Rattle.std.proofs.Common.{◌≢◌, ◌∙◌, codes, sym}
use Rattle.std.proofs.lemmas.Bool.{false≢true}
use Rattle.std.proofs.lemmas.Slice.Eq.{bytes_eq-Decides}
use Rattle.vg_pcap.proofs.Starting.{starts_empty, starts_file, starts_refused}
use Rattle.vg_pcap.proofs.reader.CaptureReader.start.Goals as goal

pub returns-then-eq : goal.returns-then-eq
returns-then-eq g c =
    let at = c.at_start.ensures in
    starts_empty _ c.args.name.now c.at_start.result _ ((bytes_eq-Decides c.args.name.now (codes "-")).0 (sym c.if-eq.ensures)) (record {
      id = at.source.0 ∙ c.new.ensures.id;
      ahead = at.source.1 ∙ c.new.ensures.ahead;
      encoding_is = at.encoding;
      latest = at.first.0;
      count = at.first.1;
    })

pub returns-in-Ok-take_header : goal.returns-in-Ok-take_header
returns-in-Ok-take_header g c =
    let at = c.at_start-in-Ok-take_header.ensures in
    let other : c.args.name.now ≢ codes "-" = λ is. false≢true (c.if-eq.ensures ∙ (bytes_eq-Decides c.args.name.now (codes "-")).1 is) in
    starts_file c.at_start-in-Ok-take_header.result other c.in-Ok-open_read.ensures c.new-source.ensures.id c.new-source.ensures.ahead
    c.in-Ok-take_header.ensures (record {
      id = at.source.0;
      ahead = at.source.1;
      encoding_is = at.encoding;
      latest = at.first.0;
      count = at.first.1;
    })

pub returns-in-Err : goal.returns-in-Err
returns-in-Err g c =
    let other : c.args.name.now ≢ codes "-" = λ is. false≢true (c.if-eq.ensures ∙ (bytes_eq-Decides c.args.name.now (codes "-")).1 is) in
    starts_refused c.close.result other c.in-Ok-open_read.ensures c.new-source.ensures.id c.new-source.ensures.ahead c.in-Err.ensures c.close.ensures
