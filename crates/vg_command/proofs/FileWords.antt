-- The words of files, taken apart in one way only.
use Rattle.std.proofs.Common.{◌≡◌, ◌∙◌, ◌≤◌, ◌-◌, ℕ, List, [], ◌∷◌, ◌++◌, length, take, drop, get_or, refl, sym, ap, arith, subst}
use Rattle.std.specs.Prelude.{String, string_bytes}
use Rattle.std.specs.declared.alloc.Global.{Global}
use Rattle.std.proofs.lemmas.List.{length-append, length-drop, take-append-drop, take_all, map-append}
use Rattle.vg_command.specs.Commands.{words_in, Files, words_after_texts, AreFiles}

-- two lists joined are parted at one place only
pub parted : {A : Type 0} (xs ys xs' ys' : List A) → length xs ≡ length xs' → xs ++ ys ≡ xs' ++ ys' → (xs ≡ xs') × (ys ≡ ys')
parted [] ys [] ys' len same = (refl, same)
parted [] ys (x' ∷ xs') ys' len same = absurd (omega arith)
parted (x ∷ xs) ys [] ys' len same = absurd (omega arith)
parted (x ∷ xs) ys (x' ∷ xs') ys' len same =
    let tails = parted xs ys xs' ys' (omega arith) (ap (drop 1) same) in
    let heads : x ≡ x' = cc in
    (cc, tails.1)

-- lists of one length each, joined to one list
pub halves : {A : Type 0} (xs ys xs' ys' : List A) → length xs ≡ length ys → length xs' ≡ length ys' → xs ++ ys ≡ xs' ++ ys' → (xs ≡ xs') × (ys ≡ ys')
halves xs ys xs' ys' len len' same =
    parted xs ys xs' ys' (omega (arith, length-append xs ys, length-append xs' ys', ap length same)) same

-- files with the same names
pub same_allowed : (n m : Files) → n.c ≡ m.c → n.spec ≡ m.spec → n.conf ≡ m.conf → n.log ≡ m.log → n.ins ≡ m.ins → n.outs ≡ m.outs → AreFiles n → AreFiles m
same_allowed n m c spec conf log ins outs files =
    let same : n ≡ m = λ i. record { c = c i; spec = spec i; conf = conf i; log = log i; ins = ins i; outs = outs i } in
    subst AreFiles same files

-- what words split into
pub split_once : (n m : Files) → length n.ins ≡ length n.outs → n.c ≡ m.c → n.spec ≡ m.spec → words_after_texts n ≡ words_after_texts m → AreFiles m
    → AreFiles n
split_once n m even c spec same files =
    let two = halves n.ins n.outs m.ins m.outs even files.ports (ap (drop 2) same) in
    let conf : n.conf ≡ m.conf = cc in
    let log : n.log ≡ m.log = cc in
    same_allowed m n (sym c) (sym spec) (sym conf) (sym log) (sym two.0) (sym two.1) files

-- all that stands after a place
pub to_end : {A : Type 0} (xs : List A) (n : ℕ) → take (length xs - n) (drop n xs) ≡ drop n xs
to_end xs n = take_all (length xs - n) (drop n xs) (omega (arith, length-drop n xs))

-- a list by its first two members and the two parts of the rest
pub pieces : (words : List (String Global)) (conf log : String Global) (ins outs : List (String Global)) (h : ℕ) → 2 ≤ length words
    → conf ≡ get_or words 0 conf → log ≡ get_or words 1 log →
    ins ≡ take h (take (length words - 2) (drop 2 words)) → outs ≡ drop h (take (length words - 2) (drop 2 words))
    → words_in words ≡ string_bytes conf ∷ string_bytes log ∷ words_in ins ++ words_in outs
pieces [] conf log ins outs h two is_conf is_log is_ins is_outs = absurd (omega arith)
pieces (a ∷ []) conf log ins outs h two is_conf is_log is_ins is_outs = absurd (omega arith)
pieces (a ∷ b ∷ rest) conf log ins outs h two is_conf is_log is_ins is_outs =
    rw (is_conf, is_log, is_ins, is_outs, to_end (a ∷ b ∷ rest) 2) (ap (λ (l : List (List ℕ)). string_bytes a ∷ string_bytes b ∷ l)
    (ap words_in (sym (take-append-drop h rest)) ∙ map-append string_bytes (take h rest) (drop h rest)))
