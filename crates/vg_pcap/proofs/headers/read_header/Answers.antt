use Rattle.std.proofs.Common.{refl, arith}
use Rattle.std.proofs.lemmas.Bool.{false≢true}
use Rattle.vg_pcap.specs.Reading.{encoding_view}
use Rattle.vg_pcap.proofs.FileHeaders.{HasHeader-whole, magic_of}
use Rattle.vg_pcap.proofs.headers.read_header.Goals as goal

pub returns-then-not-has_version-clause-bad : goal.returns-then-not-has_version-clause-bad
returns-then-not-has_version-clause-bad c = (
  encoding_view c.in-Some.encoding,
  magic_of (omega arith) c.in-Some.ensures.some,
  λ is. false≢true (c.if-not-has_version.ensures.1 is),
)

pub returns-then-not-has_link-clause-bad : goal.returns-then-not-has_link-clause-bad
returns-then-not-has_link-clause-bad c = (
  encoding_view c.in-Some.encoding,
  magic_of (omega arith) c.in-Some.ensures.some,
  c.if-not-has_version.ensures.0 refl,
  λ is. false≢true (c.if-not-has_link.ensures.1 is),
)

pub returns-clause-good : goal.returns-clause-good
returns-clause-good c =
    HasHeader-whole (encoding_view c.in-Some.encoding) c.args.header.now c.requires c.in-Some.ensures.some (c.if-not-has_version.ensures.0 refl)
    (c.if-not-has_link.ensures.0 refl)
