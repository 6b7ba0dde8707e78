use Rattle.std.proofs.Common.{◌≡◌, ◌∙◌, ap, arith}
use Rattle.vg_lpm.specs.Building.{passes}
use Rattle.vg_lpm.proofs.Choice.{passes-more, passes-IsLongestMatch}
use Rattle.vg_lpm.proofs.building.built.Goals as goal

pub loop-len-preserved : goal.loop-len-preserved
loop-len-preserved c =
    let now = c.in_ok-insert_all.ensures in
    record {
      table = now.table;
      second_room = omega (arith, now.second_room);
      third_room = omega (arith, now.third_room);
      answers = λ a fits. passes-more c.loop-len.len c.args.routes.now a _ _ (c.loop-len.invariant.answers a fits) (now.passed a fits);
    }

pub returns : goal.returns
returns c =
    let known = c.loop-len.invariant in
    let second = c.loop-len.levels.second in
    let third = c.loop-len.levels.third in
    let all : c.loop-len.len ≡ 33 = omega arith in
    record {
      table = known.table;
      fits_second = omega (arith, second.ok.0, known.second_room);
      fits_third = omega (arith, third.ok.0, known.third_room);
      answers = λ a fits.
          let best = passes-IsLongestMatch c.args.routes.now a c.requires.lengths in
          (best.0, known.answers a fits ∙ ap (λ n. passes n c.args.routes.now a) all ∙ best.1, best.2);
    }
