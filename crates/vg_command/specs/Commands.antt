-- The commands of the program, and the words that spell them.
use Rattle.std.specs.Prelude.{ℕ, ◌≡◌, ◌≢◌, ◌<◌, ◌≤◌, ◌^◌, List, [], ◌∷◌, ◌++◌, length, codes, decimal, map, string_bytes, String, All, AllPairs, Contains}
use Rattle.std.specs.declared.alloc.Global.{Global}

-- the words of a command line, each as its bytes
abbrev pub words_in : List (String Global) → List (List ℕ)
words_in words = map string_bytes words

-- ---- the files of a command that handles captures

-- a C text, its specification and configuration, a log, and the captures that come in and go out, by port; `-` stands
-- for a configuration without text, and for a port at which nothing comes in
pub record Files : Type 0 where
  pub c : List ℕ
  pub spec : List ℕ
  pub conf : List ℕ
  pub log : List ℕ
  pub ins : List (List ℕ)
  pub outs : List (List ℕ)

-- the words behind the texts and the certificate: the configuration, the log and the captures
abbrev pub words_after_texts : Files → List (List ℕ)
words_after_texts n = n.conf ∷ n.log ∷ n.ins ++ n.outs

-- those that are read
abbrev pub inputs : Files → List (List ℕ)
inputs n = n.c ∷ n.spec ∷ n.conf ∷ n.ins

-- a word names a file
abbrev pub IsName : List ℕ → Type 0
IsName word = word ≢ codes "-"

-- a name is none of these
abbrev pub IsNoneOf : List (List ℕ) → List ℕ → Type 0
IsNoneOf others name = All (λ other. name ≢ other) others

-- there are 1 to 16 ports; each word but a configuration's and a capture's that comes in is a name, and a file that is
-- written has a name of its own, byte for byte
pub record AreFiles (n : Files) : Type 0 where
  pub ports : length n.ins ≡ length n.outs
  pub some : 1 ≤ length n.ins
  pub most : length n.ins ≤ 16
  pub c : IsName n.c
  pub spec : IsName n.spec
  pub log : IsName n.log
  pub outs : All IsName n.outs
  pub own_log : IsNoneOf (inputs n ++ n.outs) n.log
  pub own_outs : All (IsNoneOf (inputs n)) n.outs
  pub apart : AllPairs ◌≢◌ n.outs

-- ---- the commands

pub data Command : Type 0 where
  -- verifies, and replays captures
  Run : Files → Command
  -- verifies with a limit, and writes a certificate
  Verify : (c spec certificate : List ℕ) → (limit : ℕ) → Command
  -- checks a certificate
  Check : (c spec certificate : List ℕ) → Command
  -- checks a certificate, and replays captures
  Replay : (certificate : List ℕ) → Files → Command
  -- runs a function that isn't verified, and compares each frame
  Try : Files → Command
  -- runs a stored wrong run
  Rerun : (c spec file : List ℕ) → Command
  -- writes a text of a shipped function
  Show : (name part : List ℕ) → Command
  -- makes frames, and replays them through a shipped function
  Bench : (name : List ℕ) → (seed count : ℕ) → Command

-- the words of a command; a number is decimal, without leading zeros
abbrev pub words_of : Command → List (List ℕ)
words_of (Run n) = codes "run" ∷ n.c ∷ n.spec ∷ words_after_texts n
words_of (Verify c spec certificate limit) = codes "verify" ∷ c ∷ spec ∷ certificate ∷ decimal limit ∷ []
words_of (Check c spec certificate) = codes "check" ∷ c ∷ spec ∷ certificate ∷ []
words_of (Replay certificate n) = codes "replay" ∷ n.c ∷ n.spec ∷ certificate ∷ words_after_texts n
words_of (Try n) = codes "try" ∷ n.c ∷ n.spec ∷ words_after_texts n
words_of (Rerun c spec file) = codes "rerun" ∷ c ∷ spec ∷ file ∷ []
words_of (Show name part) = codes "show" ∷ name ∷ part ∷ []
words_of (Bench name seed count) = codes "bench" ∷ name ∷ decimal seed ∷ decimal count ∷ []

-- the shipped functions
abbrev pub shipped : List (List ℕ)
shipped = codes "nat" ∷ codes "bridge" ∷ codes "firewall" ∷ codes "policer" ∷ codes "balancer" ∷ codes "router" ∷ []

-- the texts of each
abbrev pub parts : List (List ℕ)
parts = codes "c" ∷ codes "spec" ∷ codes "conf" ∷ []

-- what else is asked of a command
abbrev pub IsAllowed : Command → Type 0
IsAllowed (Run n) = AreFiles n
IsAllowed (Verify c spec certificate limit) =
    IsName c × IsName spec × IsName certificate × IsNoneOf (c ∷ spec ∷ []) certificate × (1 ≤ limit) × (limit ≤ 10000000)
IsAllowed (Check c spec certificate) = IsName c × IsName spec × IsName certificate
IsAllowed (Replay certificate n) = IsName certificate × AreFiles n × IsNoneOf (n.log ∷ n.outs) certificate
IsAllowed (Try n) = AreFiles n
IsAllowed (Rerun c spec file) = IsName c × IsName spec × IsName file
IsAllowed (Show name part) = Contains shipped name × Contains parts part
IsAllowed (Bench name seed count) = Contains shipped name × (seed < 2 ^ 64) × (1 ≤ count) × (count ≤ 1000000)

-- the words spell this command
pub record Spells (words : List (List ℕ)) (command : Command) : Type 0 where
  pub words_are : words ≡ words_of command
  pub allowed : IsAllowed command

-- the words spell no command
abbrev pub SpellsNone : List (List ℕ) → Type 0
SpellsNone words = (command : Command) → Spells words command → ⊥
