-- Cuts of a text: one piece more at their end, and that there is one cut at most.
use Rattle.std.proofs.Common.{◌≡◌, ◌∙◌, ◌<◌, ◌≤◌, ℕ, ◌+◌, ◌⊎◌, inl, inr, Bool, true, List, [], ◌∷◌, ◌++◌, length, drop, get_or, Result, Ok, Err, refl}
use Rattle.std.proofs.Common.{sym, ap, subst, append_assoc, append-nil, add-one, drop-cons, drop-drop}
use Rattle.std.proofs.lemmas.List.{drop_all}
use Rattle.vg_ctok.specs.Pieces.{Defines, Place, first_piece}
use Rattle.vg_ctok.specs.Reader.{Gives}
use Rattle.vg_ctok.specs.Texts.{start, fresh_after, defines_after, tokens_of, place_after, IsCut, AreTokens, Refuses}
use Rattle.vg_ctok.specs.declared.kinds.Token.{Token}
use Rattle.vg_ctok.specs.declared.kinds.TokFault.{TokFault}
use Rattle.vg_ctok.specs.declared.kinds.TokFault.TheVariants.{BadByte, BadNumber, Directive, Memory}
use Rattle.vg_ctok.specs.declared.pieces.Piece.{Piece}

-- one piece more
pub cut-more : (here : Place) (text : List ℕ) (pieces : List Piece) (tokens : List Token) (there : Place) (rest : List ℕ) (p : Piece) →
    IsCut here text pieces tokens there rest → first_piece there rest ≡ Ok p →
    IsCut here text (pieces ++ p ∷ []) (tokens ++ tokens_of there.at p) (place_after there rest p) (drop p.size rest)
cut-more here text [] tokens there rest p cut e =
    let family : Place → Type 0 = λ h. (first_piece h text ≡ Ok p) × (others : List Token)
    × (tokens ++ tokens_of there.at p ≡ tokens_of h.at p ++ others) × ((place_after h text p ≡ place_after there rest p)
    × (drop p.size text ≡ drop p.size rest) × (others ≡ [])) in
    subst family (sym cut.0) (
      ap (first_piece there) cut.1 ∙ e,
      [],
      ap (λ (l : List Token). l ++ tokens_of there.at p) cut.2 ∙ sym (append-nil (tokens_of there.at p)),
      (ap (λ (l : List ℕ). place_after there l p) cut.1, ap (λ (l : List ℕ). drop p.size l) cut.1, refl),
    )
cut-more here text (q ∷ pieces) tokens there rest p cut e = (
  cut.0,
  cut.1 ++ tokens_of there.at p,
  ap (λ (l : List Token). l ++ tokens_of there.at p) cut.2 ∙ append_assoc (tokens_of here.at q) cut.1 (tokens_of there.at p),
  cut-more (place_after here text q) (drop q.size text) pieces cut.1 there rest p cut.3 e,
)

-- two cuts up to places where no piece stands are the same
pub record Same (ts us : List Token) (there end : Place) (text left : List ℕ) : Type 0 where
  pub tokens : ts ≡ us
  pub place : there ≡ end
  pub rest : text ≡ left

ok_is : (r : Result Piece TokFault) (x y : Piece) → r ≡ Ok x → r ≡ Ok y → x ≡ y
ok_is r x y one two = cc

moved : (h i : Place) (t s : List ℕ) {r : Result Piece TokFault} → h ≡ i → t ≡ s → first_piece i s ≡ r → first_piece h t ≡ r
moved h i t s place text is = ap (λ (p : Place). first_piece p t) place ∙ ap (first_piece i) text ∙ is

no_piece : {p : Piece} {f : TokFault} (here : Place) (text : List ℕ) → first_piece here text ≡ Ok p → first_piece here text ≡ Err f → ⊥
no_piece here text one two = cc

pub cut-unique : (here : Place) (text : List ℕ) (pieces qieces : List Piece) {tokens others : List Token} {there end : Place} {rest left : List ℕ}
    {f e : TokFault} →
    IsCut here text pieces tokens there rest → first_piece there rest ≡ Err f →
    IsCut here text qieces others end left → first_piece end left ≡ Err e → Same tokens others there end rest left
cut-unique here text [] [] one stops two ends = record {
  tokens = one.2 ∙ sym two.2;
  place = sym one.0 ∙ two.0;
  rest = sym one.1 ∙ two.1;
}
cut-unique here text [] (q ∷ qieces) {there = there} {rest = rest} one stops two ends =
    absurd (no_piece here text two.0 (moved here there text rest one.0 one.1 stops))
cut-unique here text (p ∷ pieces) [] {end = end} {left = left} one stops two ends =
    absurd (no_piece here text one.0 (moved here end text left two.0 two.1 ends))
cut-unique here text (p ∷ pieces) (q ∷ qieces) {end = end} {left = left} one stops two ends =
    let same : p ≡ q = ok_is (first_piece here text) p q one.0 two.0 in
    let after : IsCut (place_after here text p) (drop p.size text) qieces two.1 end left =
    subst (λ (r : Piece). IsCut (place_after here text r) (drop r.size text) qieces two.1 end left) (sym same) two.3 in
    let rest_same = cut-unique (place_after here text p) (drop p.size text) pieces qieces one.3 stops after ends in record {
      tokens = one.2 ∙ ap (λ (l : List Token). tokens_of here.at p ++ l) rest_same.tokens
          ∙ ap (λ (r : Piece). tokens_of here.at r ++ two.1) same ∙ sym two.2;
      place = rest_same.place;
      rest = rest_same.rest;
    }

-- no piece stands at a text's end
none_left : (here : Place) → first_piece here [] ≡ Err (BadByte here.at)
unfolding first_piece
none_left here = refl

no_rest : {b : ℕ} {rest : List ℕ} → [] ≡ b ∷ rest → ⊥
no_rest e = cc

err_is : (r : Result Piece TokFault) (f e : TokFault) → r ≡ Err f → r ≡ Err e → f ≡ e
err_is r f e one two = cc

-- a text has its tokens or its fault, and one of them alone
pub tokens-one : (text : List ℕ) (ts us : List Token) → AreTokens text ts → AreTokens text us → ts ≡ us
tokens-one text ts us one two = (cut-unique start text one.0 two.0 one.2 (none_left one.1) two.2 (none_left two.1)).tokens

pub never-both : (text : List ℕ) (ts : List Token) (f : TokFault) → AreTokens text ts → Refuses text f → ⊥
never-both text ts f one two = no_rest (cut-unique start text one.0 two.0 one.2 (none_left one.1) two.5 two.6).rest

pub fault-one : (text : List ℕ) (f e : TokFault) → Refuses text f → Refuses text e → f ≡ e
fault-one text f e one two =
    let same = cut-unique start text one.0 two.0 one.5 one.6 two.5 two.6 in
    err_is (first_piece one.2 (one.3 ∷ one.4)) f e one.6 (moved one.2 two.2 (one.3 ∷ one.4) (two.3 ∷ two.4) same.place same.rest two.6)

-- what an answer says against any other
pub tokens-alone : (text : List ℕ) (e : TokFault) → (e ≡ Memory) ⊎ Refuses text e → (ts : List Token) → AreTokens text ts → e ≡ Memory
tokens-alone text e (inl memory) ts are = memory
tokens-alone text e (inr refused) ts are = absurd (never-both text ts e are refused)

pub fault-alone : (text : List ℕ) (e : TokFault) → (e ≡ Memory) ⊎ Refuses text e → (f : TokFault) → Refuses text f → (e ≡ Memory) ⊎ (e ≡ f)
fault-alone text e (inl memory) f due = inl memory
fault-alone text e (inr refused) f due = inr (fault-one text e f refused due)

-- the tokens up to a place
abbrev pub UpTo : List ℕ → ℕ → Bool → Defines → List Token → Type 0
UpTo text at fresh defines tokens = (pieces : List Piece) × IsCut start text pieces tokens (record { at = at; fresh = fresh; defines = defines }) (drop at text)

pub at_start : (text : List ℕ) → UpTo text 0 true [] []
at_start text = ([], (refl, refl, refl))

-- one piece more
pub one_more : (text : List ℕ) (at : ℕ) (fresh now : Bool) (defines others : Defines) (tokens more : List Token) (p : Piece) →
    UpTo text at fresh defines tokens → first_piece (record { at = at; fresh = fresh; defines = defines }) (drop at text) ≡ Ok p →
    more ≡ tokens ++ tokens_of at p → others ≡ defines_after defines (drop at text) p.what → now ≡ fresh_after fresh p.what →
    UpTo text (at + p.size) now others more
one_more text at fresh now defines others tokens more p cut stands added defined freshened =
    let here : Place = record { at = at; fresh = fresh; defines = defines } in
    let longer = cut-more start text cut.0 tokens here (drop at text) p cut.1 stands in
    let behind : Place = record { at = at + p.size; fresh = now; defines = others } in
    let place : place_after here (drop at text) p ≡ behind = cc in
    let with_tokens : IsCut start text (cut.0 ++ p ∷ []) more (place_after here (drop at text) p) (drop p.size (drop at text)) =
    subst (λ (l : List Token). IsCut start text (cut.0 ++ p ∷ []) l (place_after here (drop at text) p) (drop p.size (drop at text))) (sym added) longer in
    let with_place : IsCut start text (cut.0 ++ p ∷ []) more behind (drop p.size (drop at text)) =
    subst (λ (h : Place). IsCut start text (cut.0 ++ p ∷ []) more h (drop p.size (drop at text))) place with_tokens in
    (cut.0 ++ p ∷ [], subst (λ (l : List ℕ). IsCut start text (cut.0 ++ p ∷ []) more behind l) (drop-drop p.size at text) with_place)

-- at the end
pub whole : (text : List ℕ) (at : ℕ) (fresh : Bool) (defines : Defines) (tokens : List Token) → length text ≤ at → UpTo text at fresh defines tokens
    → AreTokens text tokens
whole text at fresh defines tokens over cut = (
  cut.0,
  record { at = at; fresh = fresh; defines = defines },
  subst (λ (l : List ℕ). IsCut start text cut.0 tokens (record { at = at; fresh = fresh; defines = defines }) l) (drop_all at text over) cut.1,
)

drop-first : (text : List ℕ) (i : ℕ) → i < length text → drop i text ≡ get_or text i 0 ∷ drop (i + 1) text
drop-first text i h = rw (add-one, drop-cons text i 0) refl

-- at a fault
pub stopped : (text : List ℕ) (at : ℕ) (fresh : Bool) (defines : Defines) (tokens : List Token) (e : TokFault) → at < length text
    → UpTo text at fresh defines tokens →
    first_piece (record { at = at; fresh = fresh; defines = defines }) (drop at text) ≡ Err e → Refuses text e
stopped text at fresh defines tokens e more cut stands =
    let here : Place = record { at = at; fresh = fresh; defines = defines } in
    let first = drop-first text at more in (
      cut.0,
      tokens,
      here,
      get_or text at 0,
      drop (at + 1) text,
      subst (λ (l : List ℕ). IsCut start text cut.0 tokens here l) first cut.1,
      subst (λ (l : List ℕ). first_piece here l ≡ Err e) first stands,
    )

pub refusal : (text : List ℕ) (at : ℕ) (fresh : Bool) (defines : Defines) (tokens : List Token) (e : TokFault) → at < length text
    → UpTo text at fresh defines tokens →
    Gives (Err e) (first_piece (record { at = at; fresh = fresh; defines = defines }) (drop at text)) → (e ≡ Memory) ⊎ Refuses text e
refusal text at fresh defines tokens Memory more cut gives = inl refl
refusal text at fresh defines tokens (BadByte k) more cut gives = inr (stopped text at fresh defines tokens (BadByte k) more cut gives)
refusal text at fresh defines tokens (BadNumber k) more cut gives = inr (stopped text at fresh defines tokens (BadNumber k) more cut gives)
refusal text at fresh defines tokens (Directive k) more cut gives = inr (stopped text at fresh defines tokens (Directive k) more cut gives)

-- the same where the code's values are only equal to these
pub gives_at : (text : List ℕ) (at : ℕ) (fresh : Bool) (defines held : Defines) (rest : List ℕ) {r : Result Piece TokFault} → rest ≡ drop at text
    → held ≡ defines →
    first_piece (record { at = at; fresh = fresh; defines = held }) rest ≡ r → first_piece (record { at = at; fresh = fresh; defines = defines })
    (drop at text) ≡ r
gives_at text at fresh defines held rest back same is =
    ap (λ (d : Defines). first_piece (record { at = at; fresh = fresh; defines = d }) (drop at text)) (sym same)
    ∙ ap (first_piece (record { at = at; fresh = fresh; defines = held })) (sym back) ∙ is

pub refusal_at : (text : List ℕ) (at : ℕ) (fresh : Bool) (defines held : Defines) (rest : List ℕ) (tokens : List Token) (e : TokFault)
    → rest ≡ drop at text → held ≡ defines →
    at < length text → UpTo text at fresh defines tokens → Gives (Err e) (first_piece (record { at = at; fresh = fresh; defines = held }) rest)
    → (e ≡ Memory) ⊎ Refuses text e
refusal_at text at fresh defines held rest tokens e back same more cut gives =
    refusal text at fresh defines tokens e more cut
    (subst (λ (l : List ℕ). Gives (Err e) (first_piece (record { at = at; fresh = fresh; defines = defines }) l)) back
    (subst (λ (d : Defines). Gives (Err e) (first_piece (record { at = at; fresh = fresh; defines = d }) rest)) same gives))
