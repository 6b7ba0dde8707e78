-- The files of a run are those of a replay.
use Rattle.std.proofs.Common.{◌≢◌, ◌∷◌, ℕ, List}
use Rattle.std.proofs.lemmas.List.Elements.{All-tail}
use Rattle.vg_command.specs.Commands.{Files, AreFiles, IsNoneOf}
use Rattle.vg_replay.specs.Replays.{AreReplayFiles}
use Rattle.vg_top.specs.Runs.{replay_files}

-- a name that is none of these is none of those behind the first three
behind_three : (a b c : List ℕ) (names : List (List ℕ)) (name : List ℕ) → IsNoneOf (a ∷ b ∷ c ∷ names) name → IsNoneOf names name
behind_three a b c names name none =
    All-tail (λ other. name ≢ other) c names (All-tail (λ other. name ≢ other) b (c ∷ names) (All-tail (λ other. name ≢ other) a (b ∷ c ∷ names) none))

pub are_replay_files : {n : Files} → AreFiles n → AreReplayFiles (replay_files n)
are_replay_files {n} are = record {
  ports = are.ports;
  log = behind_three _ _ _ _ _ are.own_log;
  outs = λ k d within. behind_three _ _ _ _ _ (are.own_outs k d within);
  apart = are.apart;
}
