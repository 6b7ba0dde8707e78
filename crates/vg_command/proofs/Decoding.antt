-- Words spell one command at most: the one that is decoded from them.
use Rattle.std.proofs.Common.{◌≡◌, ◌∙◌, ◌<◌, ◌/◌, ◌^◌, ℕ, List, [], ◌∷◌, ◌++◌, length, take, drop, codes, decimal, cond, Option, Some, None, IfNone}
use Rattle.std.proofs.Common.{refl, sym, ap, arith}
use Rattle.std.specs.Str.{bytes_eq}
use Rattle.std.specs.Str.Parse.{digits_value}
use Rattle.std.proofs.lemmas.Fmt.{decimal_is_IsNumeral}
use Rattle.std.proofs.lemmas.List.{length-append}
use Rattle.std.proofs.Math.Seq.{take-append_seam, drop-append_seam}
use Rattle.vg_command.specs.Commands.{Files, words_after_texts, Command, Run, Verify, Check, Replay, Try, Rerun, Show, Bench, words_of, IsAllowed}
use Rattle.vg_command.specs.Commands.{Spells, SpellsNone}
use Rattle.vg_command.specs.Reading.{Splits}

-- files by their words, where those of captures that come in are one half of the rest
abbrev files_at : (c spec conf log : List ℕ) → List (List ℕ) → Files
files_at c spec conf log rest =
    record { c = c; spec = spec; conf = conf; log = log; ins = take (length rest / 2) rest; outs = drop (length rest / 2) rest }

abbrev files_from : (Files → Command) → List (List ℕ) → Option Command
files_from make (c ∷ spec ∷ conf ∷ log ∷ rest) = Some (make (files_at c spec conf log rest))
files_from make _ = None

abbrev replay_from : List (List ℕ) → Option Command
replay_from (c ∷ spec ∷ certificate ∷ conf ∷ log ∷ rest) = Some (Replay certificate (files_at c spec conf log rest))
replay_from _ = None

abbrev verify_from : List (List ℕ) → Option Command
verify_from (c ∷ spec ∷ certificate ∷ limit ∷ []) = Some (Verify c spec certificate (digits_value 10 limit))
verify_from _ = None

abbrev three_from : (List ℕ → List ℕ → List ℕ → Command) → List (List ℕ) → Option Command
three_from make (a ∷ b ∷ c ∷ []) = Some (make a b c)
three_from make _ = None

abbrev show_from : List (List ℕ) → Option Command
show_from (name ∷ part ∷ []) = Some (Show name part)
show_from _ = None

abbrev bench : List ℕ → List ℕ → List ℕ → Command
bench name seed count = Bench name (digits_value 10 seed) (digits_value 10 count)

-- the command that words can spell at most
abbrev pub decoded : List (List ℕ) → Option Command
decoded [] = None
decoded (name ∷ words) =
    cond (bytes_eq name (codes "run")) (files_from Run words)
    (cond (bytes_eq name (codes "verify")) (verify_from words)
    (cond (bytes_eq name (codes "check")) (three_from Check words)
    (cond (bytes_eq name (codes "replay")) (replay_from words)
    (cond (bytes_eq name (codes "try")) (files_from Try words)
    (cond (bytes_eq name (codes "rerun")) (three_from Rerun words)
    (cond (bytes_eq name (codes "show")) (show_from words)
    (cond (bytes_eq name (codes "bench")) (three_from bench words) None)))))))

-- files are found from their words
files_found : (n : Files) → length n.ins ≡ length n.outs → files_at n.c n.spec n.conf n.log (n.ins ++ n.outs) ≡ n
files_found n even =
    let half : length (n.ins ++ n.outs) / 2 ≡ length n.ins = omega (arith, length-append n.ins n.outs) in
    let ins : take (length (n.ins ++ n.outs) / 2) (n.ins ++ n.outs) ≡ n.ins = rw half (take-append_seam n.ins n.outs) in
    let outs : drop (length (n.ins ++ n.outs) / 2) (n.ins ++ n.outs) ≡ n.outs = rw half (drop-append_seam n.ins n.outs) in
    (λ i. record { c = n.c; spec = n.spec; conf = n.conf; log = n.log; ins = ins i; outs = outs i })

value : (n : ℕ) → n < 2 ^ 64 → digits_value 10 (decimal n) ≡ n
value n small = (decimal_is_IsNumeral n small).1

-- a command that is allowed is found from its words
pub found : (command : Command) → IsAllowed command → decoded (words_of command) ≡ Some command
found (Run n) files = ap (λ (m : Files). Some (Run m)) (files_found n files.ports)
found (Verify c spec certificate limit) allowed = ap (λ (n : ℕ). Some (Verify c spec certificate n)) (value limit (omega (arith, allowed.5)))
found (Check c spec certificate) allowed = refl
found (Replay certificate n) allowed = ap (λ (m : Files). Some (Replay certificate m)) (files_found n allowed.1.ports)
found (Try n) files = ap (λ (m : Files). Some (Try m)) (files_found n files.ports)
found (Rerun c spec file) allowed = refl
found (Show name part) allowed = refl
found (Bench name seed count) allowed =
    (λ i. Some (Bench name (value seed allowed.1 i) (value count (omega (arith, allowed.3)) i)))

-- a replay is found from its words, allowed or not
pub found-replay : (words : List (List ℕ)) (c spec certificate : List ℕ) (rest : List (List ℕ)) (n : Files) → words ≡ c ∷ spec ∷ certificate ∷ rest
    → Splits c spec rest n →
    decoded (codes "replay" ∷ words) ≡ Some (Replay certificate n)
found-replay words c spec certificate rest n words_are splits =
    let named : c ∷ spec ∷ certificate ∷ rest ≡ n.c ∷ n.spec ∷ certificate ∷ words_after_texts n =
    (λ i. sym splits.c_is i ∷ sym splits.spec_is i ∷ certificate ∷ splits.words_are i) in
    ap (λ (l : List (List ℕ)). decoded (codes "replay" ∷ l)) (words_are ∙ named) ∙ ap (λ (m : Files). Some (Replay certificate m))
    (files_found n splits.files.ports)

some_is : {A : Type 0} {x y : A} → Some x ≡ Some y → x ≡ y
some_is e = cc

spelled : (words : List (List ℕ)) (command : Command) → Spells words command → decoded words ≡ Some command
spelled words command spells = ap decoded spells.words_are ∙ found command spells.allowed

-- words spell one command at most
pub Spells-unique : (words : List (List ℕ)) (one other : Command) → Spells words one → Spells words other → one ≡ other
Spells-unique words one other first second = some_is (sym (spelled words one first) ∙ spelled words other second)

-- words that don't spell the command that is decoded from them spell none
pub none_by : (words : List (List ℕ)) (command : Command) → decoded words ≡ Some command → (Spells words command → ⊥) → SpellsNone words
none_by words command is not other spells =
    let same : other ≡ command = some_is (sym (spelled words other spells) ∙ is) in
    not (rw (← same) spells)

-- a call that gave nothing, where there is nothing to give
pub if_none : {A : Type 0} {P : Type 0} (r : Option A) → P → IfNone r P
if_none None p = p
if_none (Some x) p = tt
