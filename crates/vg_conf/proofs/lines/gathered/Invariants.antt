use Rattle.std.proofs.Common.{◌≡◌, ◌+◌, drop, map}
use Rattle.vg_conf.specs.Lines as lines
use Rattle.vg_conf.proofs.lines.gathered.Given as goal

abbrev pub invariant-loop-bytes : goal.invariant-loop-bytes
invariant-loop-bytes l = record {
  counted : l.line ≡ l.bytes-index;
  rest : lines.after_lines l.spec (l.line + 1) l.given (map (λ piece. piece.now) (drop l.bytes-index l.bytes-items)) ≡ lines.gathered l.spec l.text;
}
