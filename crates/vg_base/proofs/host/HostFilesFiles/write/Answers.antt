use Rattle.std.proofs.Common.{◌≡◌, ◌∙◌, sym, eqb, true, length, refl, arith}
use Rattle.std.proofs.lemmas.Bool.{false≢true, eqb-true}
use Rattle.vg_base.proofs.host.HostFilesFiles.write.Goals as goal
use Rattle.vg_base.proofs.host.HostFilesFiles.write.Goals.{then-n-gt0, else-n-gt0}

pub returns-in-Some : goal.returns-in-Some
returns-in-Some g c = record {
  faults = record { failed = tt; same = refl; rises = omega arith };
  keeps = record {
    read_faults = refl;
    shut_faults = refl;
    held = record { tells_held = refl; held = refl; tells_made = refl };
    ids = record { opened = c.write_handle.ensures.opened; open_count = c.write_handle.ensures.count };
  };
  within = omega (arith, c.in-Some.ensures.within);
  some = λ some.
      elim c.if-n-gt0.branch [
        | then-n-gt0 w ↦ omega arith
        | else-n-gt0 w ↦
            let e : eqb (length c.args.piece.now) 0 ≡ true = sym w.is_empty.ensures ∙ sym w.value-is ∙ c.if-is_empty.true in
            omega (arith, eqb-true (length c.args.piece.now) 0 e)
      ];
  grows = λ told. absurd (false≢true told);
  err = tt;
}
