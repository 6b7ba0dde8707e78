-- Links in slots: what a change of some slots leaves of a list.
use Rattle.std.specs.Prelude.{◌≢◌, ⊤}
use Rattle.std.proofs.Common.{ℕ, zero, suc, ◌<◌, List, [], ◌∷◌, ◌++◌, length, get_or, set, sym, refl, ap, ◌∙◌, ◌≡◌}
use Rattle.std.proofs.lemmas.List.{get_or-set_same, get_or-set_other}
use Rattle.vg_dchain.specs.Indices.{IsAbsent, IsDistinct, AllBelow}
use Rattle.vg_dchain.specs.Links.{indices_after, Leads, LeadsBack}

-- both have the same links at these places
abbrev pub Same : List ℕ → List ℕ → List ℕ → Type 0
Same l m [] = ⊤
Same l m (x ∷ xs) = (get_or m x 0 ≡ get_or l x 0) × Same l m xs

pub Same-set : (l : List ℕ) (k v : ℕ) (xs : List ℕ) → IsAbsent k xs → Same l (set l k v) xs
Same-set l k v [] h = tt
Same-set l k v (x ∷ xs) h = (get_or-set_other l k x v 0 (λ (e : x ≡ k). h.0 (sym e)), Same-set l k v xs h.1)

pub Same-trans : (l m n : List ℕ) (xs : List ℕ) → Same l m xs → Same m n xs → Same l n xs
Same-trans l m n [] p q = tt
Same-trans l m n (x ∷ xs) p q = (q.0 ∙ p.0, Same-trans l m n xs p.1 q.1)

-- the last of the list, or a
abbrev pub last_of : ℕ → List ℕ → ℕ
last_of a [] = a
last_of a (x ∷ xs) = last_of x xs

pub last_of-absent : (k a : ℕ) (xs : List ℕ) → IsAbsent k (a ∷ xs) → k ≢ last_of a xs
last_of-absent k a [] h = h.0
last_of-absent k a (x ∷ xs) h = last_of-absent k x xs h.1

pub IsAbsent-last_of : (a : ℕ) (xs ys : List ℕ) → IsDistinct (a ∷ (xs ++ ys)) → IsAbsent (last_of a xs) ys
IsAbsent-last_of a [] ys d = d.0
IsAbsent-last_of a (x ∷ xs) ys d = IsAbsent-last_of x xs ys d.1

pub last_of-below : (n a : ℕ) (xs : List ℕ) → AllBelow n (a ∷ xs) → last_of a xs < n
last_of-below n a [] b = b.0
last_of-below n a (x ∷ xs) b = last_of-below n x xs b.1

pub Leads-same : (l m : List ℕ) (a : ℕ) (xs : List ℕ) (b : ℕ) → Same l m (a ∷ xs) → Leads l a xs b → Leads m a xs b
Leads-same l m a [] b s h = s.0 ∙ h
Leads-same l m a (x ∷ xs) b s h = (s.0 ∙ h.0, Leads-same l m x xs b s.1 h.1)

-- the last link leads elsewhere
pub Leads-relink : (l : List ℕ) (a : ℕ) (xs : List ℕ) (b c : ℕ) → AllBelow (length l) (a ∷ xs) → IsDistinct (a ∷ xs) → Leads l a xs b
    → Leads (set l (last_of a xs) c) a xs c
Leads-relink l a [] b c below d h = get_or-set_same l a c 0 below.0
Leads-relink l a (x ∷ xs) b c below d h = (get_or-set_other l (last_of x xs) a c 0 (last_of-absent a x xs d.0) ∙ h.0, Leads-relink l x xs b c below.1 d.1 h.1)

pub Leads-append : (l : List ℕ) (a : ℕ) (xs : List ℕ) (y : ℕ) (ys : List ℕ) (b : ℕ) → Leads l a xs y → Leads l y ys b → Leads l a (xs ++ y ∷ ys) b
Leads-append l a [] y ys b h k = (h, k)
Leads-append l a (x ∷ xs) y ys b h k = (h.0, Leads-append l x xs y ys b h.1 k)

pub Leads-front : (l : List ℕ) (a : ℕ) (xs : List ℕ) (y : ℕ) (ys : List ℕ) (b : ℕ) → Leads l a (xs ++ y ∷ ys) b → Leads l a xs y
Leads-front l a [] y ys b h = h.0
Leads-front l a (x ∷ xs) y ys b h = (h.0, Leads-front l x xs y ys b h.1)

pub Leads-rest : (l : List ℕ) (a : ℕ) (xs : List ℕ) (y : ℕ) (ys : List ℕ) (b : ℕ) → Leads l a (xs ++ y ∷ ys) b → Leads l y ys b
Leads-rest l a [] y ys b h = h.1
Leads-rest l a (x ∷ xs) y ys b h = Leads-rest l x xs y ys b h.1

pub LeadsBack-append : (l : List ℕ) (a : ℕ) (xs : List ℕ) (y : ℕ) (ys : List ℕ) (b : ℕ) → LeadsBack l a xs y → LeadsBack l y ys b
    → LeadsBack l a (xs ++ y ∷ ys) b
LeadsBack-append l a [] y ys b h k = (h, k)
LeadsBack-append l a (x ∷ xs) y ys b h k = (h.0, LeadsBack-append l x xs y ys b h.1 k)

pub LeadsBack-front : (l : List ℕ) (a : ℕ) (xs : List ℕ) (y : ℕ) (ys : List ℕ) (b : ℕ) → LeadsBack l a (xs ++ y ∷ ys) b → LeadsBack l a xs y
LeadsBack-front l a [] y ys b h = h.0
LeadsBack-front l a (x ∷ xs) y ys b h = (h.0, LeadsBack-front l x xs y ys b h.1)

pub LeadsBack-rest : (l : List ℕ) (a : ℕ) (xs : List ℕ) (y : ℕ) (ys : List ℕ) (b : ℕ) → LeadsBack l a (xs ++ y ∷ ys) b → LeadsBack l y ys b
LeadsBack-rest l a [] y ys b h = h.1
LeadsBack-rest l a (x ∷ xs) y ys b h = LeadsBack-rest l x xs y ys b h.1

-- the link back from the end is the last of the list
pub LeadsBack-last : (l : List ℕ) (a : ℕ) (xs : List ℕ) (b : ℕ) → LeadsBack l a xs b → get_or l b 0 ≡ last_of a xs
LeadsBack-last l a [] b h = h
LeadsBack-last l a (x ∷ xs) b h = LeadsBack-last l x xs b h.1

-- another end, whose link is that of the old one
pub LeadsBack-end : (l m : List ℕ) (a : ℕ) (xs : List ℕ) (b c : ℕ) → Same l m xs → get_or m c 0 ≡ get_or l b 0 → LeadsBack l a xs b → LeadsBack m a xs c
LeadsBack-end l m a [] b c s e h = e ∙ h
LeadsBack-end l m a (x ∷ xs) b c s e h = (s.0 ∙ h.0, LeadsBack-end l m x xs b c s.1 e h.1)

-- following the links gives the list
pub indices_after-Leads : (l : List ℕ) (a : ℕ) (xs : List ℕ) (b : ℕ) → Leads l a xs b → indices_after (length xs) l a ≡ xs
indices_after-Leads l a [] b h = refl
indices_after-Leads l a (x ∷ xs) b h = rw h.0 (ap (λ (ys : List ℕ). x ∷ ys) (indices_after-Leads l x xs b h.1))

pub length-indices_after : (n : ℕ) (l : List ℕ) (a : ℕ) → length (indices_after n l a) ≡ n
length-indices_after zero l a = refl
length-indices_after (suc n) l a = ap suc (length-indices_after n l (get_or l a 0))

-- the same list from a place with the same link
pub indices_after-moved : (n : ℕ) (l m : List ℕ) (a c : ℕ) → get_or m c 0 ≡ get_or l a 0 → Same l m (indices_after n l a)
    → indices_after n m c ≡ indices_after n l a
indices_after-moved zero l m a c e s = refl
indices_after-moved (suc n) l m a c e s = rw e (ap (λ (ys : List ℕ). get_or l a 0 ∷ ys) (indices_after-moved n l m (get_or l a 0) (get_or l a 0) s.0 s.1))
