-- Lists in pieces.
use Rattle.std.proofs.Common.{◌≡◌, ℕ, List, [], ◌∷◌, ◌++◌, length, take, drop, refl, sym, ap, ◌∙◌, arith}
use Rattle.std.proofs.lemmas.List.{drop_at, take_at}

-- lists that begin with pieces of one length
pub same_front : (p q a b : List ℕ) → length p ≡ length q → p ++ a ≡ q ++ b → (p ≡ q) × (a ≡ b)
same_front p q a b size e = (
  sym (take_at p a (length p) refl) ∙ ap (take (length p)) e ∙ take_at q b (length p) (sym size),
  sym (drop_at p a (length p) refl) ∙ ap (drop (length p)) e ∙ drop_at q b (length p) (sym size),
)

pub two_pieces : {whole a b c d : List ℕ} → whole ≡ a ++ b → a ≡ c → b ≡ d → whole ≡ c ++ d
two_pieces p q r = cc

pub four_pieces : {a b c d a' b' c' d' : List ℕ} → a ≡ a' → b ≡ b' → c ≡ c' → d ≡ d' → a ++ b ++ c ++ d ≡ a' ++ b' ++ c' ++ d'
four_pieces p q r s = cc

pub no_items : (xs : List ℕ) → length xs ≡ 0 → xs ≡ []
no_items [] e = refl
no_items (x ∷ xs) e = absurd (omega arith)
