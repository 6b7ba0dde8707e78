-- What the functions answer that read parts of a command's words. No public clause rests on this file.
use Rattle.std.specs.Prelude.{ℕ, ◌≡◌, ◌<◌, ◌⊎◌, List, All, length, slice_index}
use Rattle.vg_command.specs.Commands.{Files, words_after_texts, inputs, IsName, IsNoneOf, AreFiles}

-- a word begins with a plus sign, or with a zero and goes on
abbrev pub BeginsAmiss : List ℕ → Type 0
BeginsAmiss word = (slice_index word 0 ≡ 43) ⊎ ((slice_index word 0 ≡ 48) × (1 < length word))

-- the captures that go out have names, which no input has
abbrev pub AreOutputs : Files → Type 0
AreOutputs n = All IsName n.outs × All (IsNoneOf (inputs n)) n.outs

-- these are files that a command may have, and the words name them
pub record Splits (c spec : List ℕ) (words : List (List ℕ)) (n : Files) : Type 0 where
  pub c_is : n.c ≡ c
  pub spec_is : n.spec ≡ spec
  pub words_are : words ≡ words_after_texts n
  pub files : AreFiles n

-- the words name no files that a command may have
abbrev pub SplitsNone : List ℕ → List ℕ → List (List ℕ) → Type 0
SplitsNone c spec words = (n : Files) → Splits c spec words n → ⊥
