-- Comments byte by byte: the steps of looking for their end, and of a line in which they become spaces.
use Rattle.std.proofs.Common.{◌≡◌, ◌∙◌, ◌<◌, ◌≤◌, ◌+◌, ◌-◌, ◌++◌, ℕ, true, false, List, [], ◌∷◌, length, drop, get_or, codes, refl, sym, ap, subst}
use Rattle.std.proofs.Common.{arith, add-one, drop-cons, append_assoc}
use Rattle.std.specs.Prelude.{nat_lt}
use Rattle.std.proofs.lemmas.List.{drop_all}
use Rattle.std.proofs.lemmas.Bool.{lt-ltb}
use Rattle.vg_ctok.specs.Bytes.{begins}
use Rattle.vg_ctok.specs.Comments.{close_from, opens_comment, covered, blanked}

drop-first : (text : List ℕ) (i : ℕ) → i < length text → drop i text ≡ get_or text i 0 ∷ drop (i + 1) text
drop-first text i h = rw (add-one, drop-cons text i 0) refl

close-skip : (at b : ℕ) (bytes : List ℕ) → begins (b ∷ bytes) (codes "*/") ≡ false → close_from at (b ∷ bytes) ≡ close_from (at + 1) bytes
close-skip at b bytes unless = rw unless refl

-- no comment ends at this byte
pub close-later : (text : List ℕ) (at : ℕ) → at < length text → begins (drop at text) (codes "*/") ≡ false
    → close_from (at + 1) (drop (at + 1) text) ≡ close_from at (drop at text)
close-later text at h unless =
    let first = drop-first text at h in
    let other : begins (get_or text at 0 ∷ drop (at + 1) text) (codes "*/") ≡ false = subst (λ (l : List ℕ). begins l (codes "*/") ≡ false) first unless in
    sym (ap (close_from at) first ∙ close-skip at (get_or text at 0) (drop (at + 1) text) other)

blanked-covered : (left b : ℕ) (bytes : List ℕ) → nat_lt 0 (covered left (b ∷ bytes)) ≡ true → blanked left (b ∷ bytes) ≡ 32
    ∷ blanked (covered left (b ∷ bytes) - 1) bytes
unfolding blanked
blanked-covered left b bytes so = rw so refl

blanked-opened : (left b : ℕ) (bytes : List ℕ) → nat_lt 0 (covered left (b ∷ bytes)) ≡ false → opens_comment (b ∷ bytes) ≡ true
    → blanked left (b ∷ bytes) ≡ b ∷ bytes
unfolding blanked
blanked-opened left b bytes none opens = rw (none, opens) refl

blanked-plain : (left b : ℕ) (bytes : List ℕ) → nat_lt 0 (covered left (b ∷ bytes)) ≡ false → opens_comment (b ∷ bytes) ≡ false
    → blanked left (b ∷ bytes) ≡ b ∷ blanked 0 bytes
unfolding blanked
blanked-plain left b bytes none closed = rw (none, closed) refl

pub blanked-end : (left : ℕ) (line : List ℕ) (at : ℕ) → length line ≤ at → blanked left (drop at line) ≡ []
unfolding blanked
blanked-end left line at h = rw (drop_all at line h) refl

-- a byte of a comment
pub step-covered : (line shown now all : List ℕ) (at left size : ℕ) → at < length line → size ≡ covered left (drop at line) → 0 < size → now ≡ shown ++ 32 ∷ []
    → shown ++ blanked left (drop at line) ≡ all → now ++ blanked (size - 1) (drop (at + 1) line) ≡ all
step-covered line shown now all at left size h is some added before =
    let first = drop-first line at h in
    let same : size ≡ covered left (get_or line at 0 ∷ drop (at + 1) line) = subst (λ (l : List ℕ). size ≡ covered left l) first is in
    let so = lt-ltb 0 (covered left (get_or line at 0 ∷ drop (at + 1) line)) (subst (λ (k : ℕ). 0 < k) same some) in
    let next : blanked left (drop at line) ≡ 32 ∷ blanked (size - 1) (drop (at + 1) line) =
    ap (blanked left) first ∙ blanked-covered left (get_or line at 0) (drop (at + 1) line) so
    ∙ ap (λ (k : ℕ). 32 ∷ blanked (k - 1) (drop (at + 1) line)) (sym same) in
    ap (λ (l : List ℕ). l ++ blanked (size - 1) (drop (at + 1) line)) added ∙ append_assoc shown (32 ∷ []) (blanked (size - 1) (drop (at + 1) line))
    ∙ ap (λ (l : List ℕ). shown ++ l) (sym next) ∙ before

not_covered : (n : ℕ) → n ≤ 0 → nat_lt 0 n ≡ false
not_covered n h = let none : n ≡ 0 = omega arith in rw none refl

-- a byte of no comment
pub step-plain : (line shown now all : List ℕ) (at left size : ℕ) → at < length line → size ≡ covered left (drop at line) → size ≤ 0
    → opens_comment (drop at line) ≡ false
    → now ≡ shown ++ get_or line at 0 ∷ [] → shown ++ blanked left (drop at line) ≡ all → now ++ blanked 0 (drop (at + 1) line) ≡ all
step-plain line shown now all at left size h is none closed added before =
    let first = drop-first line at h in
    let b = get_or line at 0 in
    let rest = drop (at + 1) line in
    let same : size ≡ covered left (b ∷ rest) = subst (λ (l : List ℕ). size ≡ covered left l) first is in
    let so = not_covered (covered left (b ∷ rest)) (subst (λ (k : ℕ). k ≤ 0) same none) in
    let shut : opens_comment (b ∷ rest) ≡ false = subst (λ (l : List ℕ). opens_comment l ≡ false) first closed in
    let next : blanked left (drop at line) ≡ b ∷ blanked 0 rest = ap (blanked left) first ∙ blanked-plain left b rest so shut in
    ap (λ (l : List ℕ). l ++ blanked 0 rest) added ∙ append_assoc shown (b ∷ []) (blanked 0 rest) ∙ ap (λ (l : List ℕ). shown ++ l) (sym next) ∙ before

-- the opening of a comment that does not end
pub step-opened : (line shown all : List ℕ) (at left size : ℕ) → at < length line → size ≡ covered left (drop at line) → size ≤ 0
    → opens_comment (drop at line) ≡ true
    → shown ++ blanked left (drop at line) ≡ all → shown ++ drop at line ≡ all
step-opened line shown all at left size h is none opens before =
    let first = drop-first line at h in
    let b = get_or line at 0 in
    let rest = drop (at + 1) line in
    let same : size ≡ covered left (b ∷ rest) = subst (λ (l : List ℕ). size ≡ covered left l) first is in
    let so = not_covered (covered left (b ∷ rest)) (subst (λ (k : ℕ). k ≤ 0) same none) in
    let open_there : opens_comment (b ∷ rest) ≡ true = subst (λ (l : List ℕ). opens_comment l ≡ true) first opens in
    let next : blanked left (drop at line) ≡ drop at line = ap (blanked left) first ∙ blanked-opened left b rest so open_there ∙ sym first in
    ap (λ (l : List ℕ). shown ++ l) (sym next) ∙ before
