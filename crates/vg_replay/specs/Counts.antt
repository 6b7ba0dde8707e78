-- Counting one frame more. No public clause rests on this file.
use Rattle.std.specs.Prelude.{ℕ, ◌+◌, ◌≤◌, ◌<◌, ◌^◌}
use Rattle.vg_core.specs.declared.verdict.Verdict.{Verdict}
use Rattle.vg_core.specs.declared.verdict.Verdict.TheVariants.{Drop, Send, Flood}
use Rattle.vg_replay.specs.declared.totals.Totals.{Totals}

-- another frame can be counted, with so many steps more
pub record AreFew (t : Totals) (more : ℕ) : Type 0 where
  pub frames : t.frames + 1 < 2 ^ 32
  pub sent : t.sent ≤ t.frames
  pub dropped : t.dropped ≤ t.frames
  pub flooded : t.flooded ≤ t.frames
  pub steps : t.steps + more < 2 ^ 64

-- a frame with this verdict and so many steps is counted
abbrev pub counted : Totals → Verdict → ℕ → Totals
counted t Drop steps = record t { frames = t.frames + 1; steps = t.steps + steps; dropped = t.dropped + 1 }
counted t (Send port) steps = record t { frames = t.frames + 1; steps = t.steps + steps; sent = t.sent + 1 }
counted t Flood steps = record t { frames = t.frames + 1; steps = t.steps + steps; flooded = t.flooded + 1 }
