-- Tokens piece by piece, and where a comment's end is looked for.
use Rattle.std.proofs.Common.{◌≡◌, ◌∙◌, ◌<◌, ◌≤◌, ◌+◌, ◌-◌, ℕ, zero, suc, false, List, [], ◌∷◌, ◌++◌, length, drop, get_or, codes, refl, sym, ap}
use Rattle.std.proofs.Common.{subst, arith, add-one, drop-cons, drop-drop, append_assoc, append-nil, length-drop}
use Rattle.std.proofs.lemmas.List.{drop_all}
use Rattle.vg_forms.specs.declared.token.Token.{Token}
use Rattle.vg_stok.specs.Bytes.{begins}
use Rattle.vg_stok.specs.Comments.{close_from}
use Rattle.vg_stok.specs.Pieces.{first_piece}
use Rattle.vg_stok.specs.Texts.{token_of, tokens_from}
use Rattle.vg_stok.specs.declared.kinds.TokenKind.{TokenKind}
use Rattle.vg_stok.specs.declared.pieces.Piece.{Piece}
use Rattle.vg_stok.proofs.Sizes.{Fits, first-fits}

drop-first : (text : List ℕ) (i : ℕ) → i < length text → drop i text ≡ get_or text i 0 ∷ drop (i + 1) text
drop-first text i h = rw (add-one, drop-cons text i 0) refl

close-skip : (at b : ℕ) (bytes : List ℕ) → begins (b ∷ bytes) (codes "*/") ≡ false → close_from at (b ∷ bytes) ≡ close_from (at + 1) bytes
close-skip at b bytes unless = rw unless refl

-- no comment ends at this byte
pub close-later : (text : List ℕ) (at : ℕ) → at < length text → begins (drop at text) (codes "*/") ≡ false
    → close_from (at + 1) (drop (at + 1) text) ≡ close_from at (drop at text)
close-later text at h unless =
    let first = drop-first text at h in
    let other : begins (get_or text at 0 ∷ drop (at + 1) text) (codes "*/") ≡ false = subst (λ (l : List ℕ). begins l (codes "*/") ≡ false) first unless in
    sym (ap (close_from at) first ∙ close-skip at (get_or text at 0) (drop (at + 1) text) other)

-- bytes of a piece that is told already
skip : (text : List ℕ) (at left : ℕ) → left ≤ length text → tokens_from at left text ≡ tokens_from (at + left) 0 (drop left text)
unfolding tokens_from
skip text at zero h = let same : at + 0 ≡ at = omega arith in rw same refl
skip [] at (suc left) h = absurd (omega (arith, h))
skip (b ∷ bytes) at (suc left) h =
    let sum : at + 1 + left ≡ at + suc left = omega arith in
    skip bytes (at + 1) left (omega (arith, h)) ∙ ap (λ (n : ℕ). tokens_from n 0 (drop left bytes)) sum

-- the first byte of a piece, and the others
stepped : (at b : ℕ) (bytes : List ℕ) (n : ℕ) (tokens : List (Token TokenKind)) → 0 < n → n ≤ length (b ∷ bytes)
    → tokens ++ tokens_from (at + 1) (n - 1) bytes ≡ tokens ++ tokens_from (at + n) 0 (drop n (b ∷ bytes))
stepped at b bytes zero tokens some within = absurd (omega (arith, some))
stepped at b bytes (suc m) tokens some within =
    let less : suc m - 1 ≡ m = omega arith in
    let sum : at + 1 + m ≡ at + suc m = omega arith in
    rw less (ap (λ (l : List (Token TokenKind)). tokens ++ l) (skip bytes (at + 1) m (omega (arith, within))
    ∙ ap (λ (n : ℕ). tokens_from n 0 (drop m bytes)) sum))

one : (text : List ℕ) (at : ℕ) → Fits (first_piece text) text
    → tokens_from at 0 text ≡ token_of at (first_piece text).size (first_piece text).what ++ tokens_from (at + (first_piece text).size) 0
    (drop (first_piece text).size text)
unfolding tokens_from
one [] at fits = absurd (omega (arith, fits.some, fits.within))
one (b ∷ bytes) at fits =
    let p = first_piece (b ∷ bytes) in stepped at b bytes p.size (token_of at p.size p.what) fits.some fits.within

-- one piece more
pub one_more : (text rest : List ℕ) (at : ℕ) (p : Piece) (tokens more all : List (Token TokenKind)) → at < length text → rest ≡ drop at text
    → p ≡ first_piece rest → more ≡ tokens ++ token_of at p.size p.what
    → tokens ++ tokens_from at 0 (drop at text) ≡ all → more ++ tokens_from (at + p.size) 0 (drop (at + p.size) text) ≡ all
one_more text rest at p tokens more all inside back first added before =
    let is : p ≡ first_piece (drop at text) = first ∙ ap first_piece back in
    let fits = first-fits (drop at text) (omega (arith, length-drop at text, inside)) in
    let family : Piece → Type 0 = λ q. tokens_from at 0 (drop at text) ≡ token_of at q.size q.what ++ tokens_from (at + q.size) 0
    (drop q.size (drop at text)) in
    let step = subst family (sym is) (one (drop at text) at fits) in
    let rest_of = tokens_from (at + p.size) 0 (drop (at + p.size) text) in
    let next : tokens_from at 0 (drop at text) ≡ token_of at p.size p.what ++ rest_of =
    step ∙ ap (λ (l : List ℕ). token_of at p.size p.what ++ tokens_from (at + p.size) 0 l) (drop-drop p.size at text) in
    ap (λ (l : List (Token TokenKind)). l ++ rest_of) added ∙ append_assoc tokens (token_of at p.size p.what) rest_of
    ∙ ap (λ (l : List (Token TokenKind)). tokens ++ l) (sym next) ∙ before

-- a piece that begins at a place ends in the text
pub inside : (text rest : List ℕ) (at : ℕ) (p : Piece) → at < length text → rest ≡ drop at text → p ≡ first_piece rest
    → (0 < p.size) × (at + p.size ≤ length text)
inside text rest at p more back first =
    let is : p ≡ first_piece (drop at text) = first ∙ ap first_piece back in
    let fits = subst (λ (q : Piece). Fits q (drop at text)) (sym is) (first-fits (drop at text) (omega (arith, length-drop at text, more))) in
    (fits.some, omega (arith, fits.within, length-drop at text, more))

pub ended : (text : List ℕ) (at : ℕ) (tokens all : List (Token TokenKind)) → length text ≤ at → tokens ++ tokens_from at 0 (drop at text) ≡ all
    → tokens ≡ all
unfolding tokens_from
ended text at tokens all over before = sym (append-nil tokens) ∙ ap (λ (l : List ℕ). tokens ++ tokens_from at 0 l) (sym (drop_all at text over)) ∙ before
