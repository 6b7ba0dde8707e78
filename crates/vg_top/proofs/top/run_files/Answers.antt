use Rattle.vg_top.specs.declared.report.Report.{Report}
use Rattle.vg_top.specs.declared.handler.SmallHandler.{SmallHandler}
use Rattle.vg_top.proofs.Handled.{replays_small}
use Rattle.vg_top.proofs.NamesApart.{are_replay_files}
use Rattle.vg_top.proofs.Replayed.{replay_stops, replay_done, held_after, ids_after}
use Rattle.vg_top.proofs.top.run_files.Goals as goal

pub replay-requires-clause-names : goal.replay-requires-clause-names
replay-requires-clause-names g c = are_replay_files c.requires.allowed

pub returns-in-Ok : goal.returns-in-Ok
returns-in-Ok g c =
    let report : Report = record { paths = c.path_count-paths.result; steps = c.most_steps-steps.result; totals = c.in-Ok.totals } in
    let replays = replays_small (λ (handler : SmallHandler). handler.function) _ _ _ _ _ c.in-Ok.ensures in
    record {
      held = held_after _ c.in_ok-functions.functions c.in_ok-functions.ensures replays;
      ids = ids_after _ c.in_ok-functions.functions c.in_ok-functions.ensures replays;
      done = replay_done _ c.in_ok-functions.functions c.in_ok-functions.ensures report c.path_count-paths.ensures c.most_steps-steps.ensures
          replays.others replays.done;
      stops = tt;
    }

pub returns : goal.returns
returns g c =
    let replays = replays_small (λ (handler : SmallHandler). handler.function) _ _ _ _ _ c.in-Err.ensures in
    let stops = replay_stops _ c.in_ok-functions.functions c.in_ok-functions.ensures c.in-Err.stop replays.others replays.stops in
    record {
      held = held_after _ c.in_ok-functions.functions c.in_ok-functions.ensures replays;
      ids = ids_after _ c.in_ok-functions.functions c.in_ok-functions.ensures replays;
      done = tt;
      stops = rw c.stop_of.ensures stops;
    }
