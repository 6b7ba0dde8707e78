use Rattle.std.proofs.Common.{◌≡◌, ◌∙◌, ◌+◌, ◌<◌, ◌++◌, ℕ, length, take, Some, vec_len, take_all, sym, refl, ap, arith}
use Rattle.std.proofs.lemmas.Grind.{common_steps}
use Rattle.vg_base.proofs.Disks.{ReadKeeps-trans, ReadsNext-keeps, take-next, told_before, held_before}
use Rattle.vg_base.proofs.loading.read_all.Goals as goal

pub returns-then-n-eq0 : goal.returns-then-n-eq0
returns-then-n-eq0 g c =
    let before = c.loop-chunk.invariant in
    let read = c.in-Ok.ensures in
    let got = c.loop-chunk.got in
    record {
      cause = record {
        fault = λ is. cc;
        same = read.faults.same ∙ before.read_faults;
        same_else = tt;
        rises =
            omega (arith, read.faults.same, before.read_faults);
      };
      keeps = ReadKeeps-trans before.keeps (ReadsNext-keeps read);
      shut_faults = read.shut_faults ∙ before.shut_faults;
      reads = read.reads;
      others = λ j ne. read.others j ne ∙ before.others j ne;
      open_count = read.open_count ∙ before.open_count;
      within = omega (arith, c.len.ensures);
      bytes = λ told name bytes is held.
          let so_far = before.bytes told name bytes is held in
          let next = read.bytes (told_before before.keeps told) name (vec_len got) bytes (before.place told name is) (held_before before.keeps held) in
          let room : 0 < length c.read.new.into = omega (arith, c.read.auto.into) in
          let all : vec_len got ≡ length bytes = next.end c.if-n-eq0.true room in
          (ap Some (sym (so_far.0 ∙ take_all (vec_len got) bytes (omega arith))), omega (arith, got.ok.0, c.len.ensures));
    }

pub loop-chunk-preserved : goal.loop-chunk-preserved
loop-chunk-preserved g c =
    let before = c.loop-chunk.invariant in
    let read = c.in-Ok.ensures in
    let got = c.loop-chunk.got in
    let more = c.extend_from_slice.new.self in
    let grown : vec_len more ≡ vec_len got + c.in-Ok.n = grind (arith, common_steps, read.within, c.in-Ok-extend_from_slice.ensures.len) in
    record {
      read_faults = read.faults.same ∙ before.read_faults;
      shut_faults = read.shut_faults ∙ before.shut_faults;
      keeps = ReadKeeps-trans before.keeps (ReadsNext-keeps read);
      reads = read.reads;
      others = λ j ne. read.others j ne ∙ before.others j ne;
      open_count = read.open_count ∙ before.open_count;
      place = λ told name is. rw grown (read.place (told_before before.keeps told) name (vec_len got) (before.place told name is));
      bytes = λ told name bytes is held.
          let so_far = before.bytes told name bytes is held in
          let next = read.bytes (told_before before.keeps told) name (vec_len got) bytes (before.place told name is) (held_before before.keeps held) in
          let items : more.items ≡ got.items ++ take c.in-Ok.n c.read.new.into = grind (arith, common_steps, c.in-Ok-extend_from_slice.ensures.items) in
          (items ∙ take-next got.items next so_far.0 ∙ ap (λ (n : ℕ). take n bytes) (sym grown), omega (arith, grown, next.within));
    }

pub returns : goal.returns
returns g c =
    let before = c.loop-chunk.invariant in
    record {
      cause = record { fault = λ is. cc; same = tt; same_else = λ ne. before.read_faults; rises = omega (arith, before.read_faults) };
      keeps = before.keeps;
      shut_faults = before.shut_faults;
      reads = before.reads;
      others = before.others;
      open_count = before.open_count;
      within = tt;
      bytes = λ told name bytes is held. let so_far = before.bytes told name bytes is held in (bytes, refl, omega (arith, so_far.1, c.len.ensures));
    }
