-- What is computed of a form, to be seen true of each form of a grammar; and a grammar of which all that is true.
use Rattle.std.proofs.Common.{◌≡◌, ◌≤◌, ℕ, Bool, true, false, cond, List, [], ◌∷◌, ◌++◌, length, Option}
use Rattle.std.specs.Prelude.{◌&&◌, ◌||◌, not, is_some}
use Rattle.vg_forms.specs.declared.token.Token.{Token}
use Rattle.vg_forms.specs.Forms.{Form, Plain, Place, One, Unless, Both, Either, Chain, Inner, Made}
use Rattle.vg_forms.specs.Places.{State}
use Rattle.vg_forms.specs.Grammar.{Grammar}
use Rattle.vg_forms.specs.Spelling.{start}
use Rattle.vg_forms.specs.Guided.{guided}

abbrev pub implies : Bool → Bool → Bool
implies true b = b
implies false b = true

module _ {K N G : Type 0} where
  -- whether a form has a token in any case
  abbrev pub eats : {A : Type 0} → Form K N G A → Bool
  eats (Plain a) = false
  eats Place = false
  eats (One test) = true
  eats (Unless test) = false
  eats (Both f x) = eats f || eats x
  eats (Either test x y) = eats x && eats y
  eats (Chain test x more) = eats x
  eats (Inner n) = true
  eats (Made f) = eats f

  -- in each chain the second form has a token
  abbrev pub tidy : {A : Type 0} → Form K N G A → Bool
  tidy (Plain a) = true
  tidy Place = true
  tidy (One test) = true
  tidy (Unless test) = true
  tidy (Both f x) = tidy f && tidy x
  tidy (Either test x y) = tidy x && tidy y
  tidy (Chain test x more) = tidy x && eats more && tidy more
  tidy (Inner n) = true
  tidy (Made f) = tidy f

  -- whether a form that has no token may not stand before this one
  abbrev pub bars : {A : Type 0} → Form K N G A → Token K → Bool
  bars (Plain a) t = false
  bars Place t = false
  bars (One test) t = false
  bars (Unless test) t = test t
  bars (Both f x) t = bars x t
  bars (Either test x y) t = false
  bars (Chain test x more) t = false
  bars (Inner n) t = false
  bars (Made f) t = bars f t

  -- whether the shortest spelling of a form has only such constructs that are counted
  abbrev pub calls : {A : Type 0} → (N → Bool) → Form K N G A → Bool
  calls ready (Plain a) = true
  calls ready Place = true
  calls ready (One test) = true
  calls ready (Unless test) = true
  calls ready (Both f x) = calls ready f && calls ready x
  calls ready (Either test x y) = calls ready y
  calls ready (Chain test x more) = calls ready x
  calls ready (Inner n) = ready n
  calls ready (Made f) = calls ready f

module _ {K : Type 0} where
  abbrev pub first_passing : (Token K → Bool) → List (Token K) → List (Token K)
  first_passing test [] = []
  first_passing test (t ∷ ts) = cond (test t) (t ∷ []) (first_passing test ts)

  abbrev pub leads : (Token K → Bool) → List (Token K) → Bool
  leads p [] = false
  leads p (t ∷ ts) = p t

  abbrev pub is_empty : List (Token K) → Bool
  is_empty [] = true
  is_empty (t ∷ ts) = false

-- what helps to see it: what may stand behind each counted construct; some token; a token of each kind that the grammar needs somewhere;
-- the shortest spelling of each counted construct; the tokens that end each of them; and those of which the shortest spelling has no other
pub record Hints (K N : Type 0) : Type 0 where
  pub follows : N → Token K → Bool
  pub any : Token K
  pub samples : List (Token K)
  pub whole_inner : N → List (Token K)
  pub closes : Token K → Bool
  pub flat : N → Bool

module _ {K N G : Type 0} (grammar : Grammar K N G) where
  -- whether a token may be the first of a form
  abbrev pub first : {A : Type 0} → Form K N G A → Token K → Bool
  first (Plain a) t = false
  first Place t = false
  first (One test) t = is_some (test t)
  first (Unless test) t = false
  first (Both f x) t = first f t || (not (eats f) && first x t)
  first (Either test x y) t = first x t || first y t
  first (Chain test x more) t = first x t || (not (eats x) && first more t)
  first (Inner n) t = grammar.begins n t
  first (Made f) t = first f t

  -- whether a token may be the next where a form stands: its first one, or one behind it
  abbrev pub led : {A : Type 0} → Form K N G A → Bool → Token K → Bool
  led y behind t = first y t || (not (eats y) && (behind && not (bars y t)))

  module _ (hints : Hints K N) where
    -- whether the tests of a form tell of a token the side that spells it, where the token may stand behind the form, or not
    abbrev pub tells : {A : Type 0} → Form K N G A → Bool → Token K → Bool
    tells (Plain a) behind t = true
    tells Place behind t = true
    tells (One test) behind t = true
    tells (Unless test) behind t = true
    tells (Both f x) behind t = tells f (led x behind t) t && tells x behind t
    tells (Either test x y) behind t =
        (tells x behind t && tells y behind t) && (eats x && (implies (first x t) (test t) && implies (led y behind t) (not (test t))))
    tells (Chain test x more) behind t =
        (tells x (first more t || behind) t && tells more (first more t || behind) t) && (eats more &&
        (implies (first more t) (test t) && implies behind (not (test t))))
    tells (Inner n) behind t = implies behind (hints.follows n t)
    tells (Made f) behind t = tells f behind t

module _ {K N : Type 0} (hints : Hints K N) where
  abbrev pub sample : {A : Type 0} → (Token K → Option A) → List (Token K)
  sample test = first_passing (λ t. is_some (test t)) hints.samples

  module _ {G : Type 0} where
    -- the shortest spelling of a form: no chain turns, and of two forms the second stands there
    abbrev pub whole : {A : Type 0} → Form K N G A → List (Token K)
    whole (Plain a) = []
    whole Place = []
    whole (One test) = sample test
    whole (Unless test) = []
    whole (Both f x) = whole f ++ whole x
    whole (Either test x y) = whole y
    whole (Chain test x more) = whole x
    whole (Inner n) = hints.whole_inner n
    whole (Made f) = whole f

    -- whether a form ends before a token, wherever the form may end
    abbrev pub stops : {A : Type 0} → Form K N G A → Token K → Bool
    stops (Plain a) t = true
    stops Place t = true
    stops (One test) t = true
    stops (Unless test) t = not (test t)
    stops (Both f x) t = stops x t && (eats x || stops f t)
    stops (Either test x y) t = stops x t && stops y t && (eats y || not (test t))
    stops (Chain test x more) t = stops x t && stops more t && not (test t)
    stops (Inner n) t = hints.closes t
    stops (Made f) t = stops f t

    -- whether shortest spellings fit together in a form: each ends before the next one's first token
    abbrev pub fits : {A : Type 0} → Form K N G A → Bool
    fits (Plain a) = true
    fits Place = true
    fits (One test) = leads (λ t. is_some (test t)) (sample test)
    fits (Unless test) = true
    fits (Both f x) = fits f && fits x && cond (eats x) (leads (stops f) (whole x)) (is_empty (whole x))
    fits (Either test x y) = fits x && fits y && eats x && cond (eats y) (leads (λ t. not (test t)) (whole y)) (is_empty (whole y))
    fits (Chain test x more) = fits x && fits more && eats more
    fits (Inner n) = true
    fits (Made f) = fits f

-- a grammar of which all that is true
pub record Law (K N G : Type 0) : Type 1 where
  pub grammar : Grammar K N G
  pub hints : Hints K N
  pub form_eats : (n : N) → eats (grammar.form n) ≡ true
  pub form_tidy : (n : N) → tidy (grammar.form n) ≡ true
  pub unit_tidy : tidy grammar.unit ≡ true
  pub unit_ends : (toks : List (Token K)) (room root : ℕ) (t : State G) → guided grammar toks room grammar.unit (start grammar) root t
      → t.at ≤ length toks → t.at ≡ length toks
  pub form_tells : (n : N) (t : Token K) → tells grammar hints (grammar.form n) (hints.follows n t) t ≡ true
  pub form_begins : (n : N) (t : Token K) → implies (first grammar (grammar.form n) t) (grammar.begins n t) ≡ true
  pub unit_tells : (t : Token K) → tells grammar hints grammar.unit false t ≡ true
  pub form_stops : (n : N) (t : Token K) → hints.closes t ≡ true → stops hints (grammar.form n) t ≡ true
  pub form_fits : (n : N) → fits hints (grammar.form n) ≡ true
  pub unit_fits : fits hints grammar.unit ≡ true
  pub form_whole : (n : N) → whole hints (grammar.form n) ≡ hints.whole_inner n
  pub flat_calls : (n : N) → hints.flat n ≡ true → calls (λ m. false) (grammar.form n) ≡ true
  pub form_calls : (n : N) → calls hints.flat (grammar.form n) ≡ true
  pub begun : (n : N) → leads (grammar.begins n) (hints.whole_inner n) ≡ true
