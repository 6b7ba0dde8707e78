-- The reader reads exactly what small functions spell.
use Rattle.std.proofs.Common.{◌≡◌, ◌∙◌, ◌<◌, ◌≤◌, ◌+◌, ◌*◌, ℕ, zero, suc, List, [], ◌∷◌, ◌++◌, codes, length, true, false, ◌&&◌, eqb, nat_lt, nat_le}
use Rattle.std.proofs.Common.{Some, None, inl, inr, refl, sym, ap, append_assoc, length-append, arith, All, cond}
use Rattle.std.specs.List.{flat_map}
use Rattle.std.specs.Fmt.{decimal}
use Rattle.std.specs.Str.{bytes_eq}
use Rattle.std.proofs.lemmas.Bool.{cases_Bool, eqb-true, ltb-true, lt-ltb, leb-true, le-leb, and_parts}
use Rattle.std.proofs.lemmas.List.{nil_from_length, length-map}
use Rattle.std.proofs.lemmas.List.Elements.{All-nil, All-cons, All-head, All-tail}
use Rattle.std.proofs.lemmas.Slice.Eq.{bytes_eq-Decides}
use Rattle.vg_small.specs.declared.small.Test.{Test}
use Rattle.vg_small.specs.declared.small.Small.{Small}
use Rattle.vg_small.specs.declared.small.Lang.{Lang}
use Rattle.vg_small.specs.declared.small.Lang.TheVariants.{C, Spec}
use Rattle.vg_small.specs.Words.{Placed, spelled, IsCut}
use Rattle.vg_small.specs.Spelling.{head_words, test_words, last_words, DeclaresPorts, value_bound, IsTest, Spells}
use Rattle.vg_small.specs.Meaning.{steps_at, value_at}
use Rattle.vg_small.specs.Reader.{after, number_of, number_after, ports_after, ports_words, step_words, head_of, value_after, if_words, then_words}
use Rattle.vg_small.specs.Reader.{end_words, answer_words, test_of, last_of, begins_if, body_of, small_of}
use Rattle.vg_small.proofs.Options.{some_is, bind_some, chosen}
use Rattle.vg_small.proofs.NumberLaws.{number_of-sound, number_of-decimal}
use Rattle.vg_small.proofs.MeaningLaws.{steps_at-le, value_at-below}
use Rattle.vg_small.proofs.CutLaws.{IsCut-unique, length-cut}

-- what was read is spelled

after-sound : (es ws : List (List ℕ)) {rest : List (List ℕ)} → after es ws ≡ Some rest → ws ≡ es ++ rest
after-sound [] ws e = some_is e
after-sound (x ∷ es) [] e = absurd (cc)
after-sound (x ∷ es) (w ∷ ws) e =
    let equal = chosen (bytes_eq w x) e in
    let first : w ≡ x = (bytes_eq-Decides w x).0 equal.0 in
    let others = after-sound es ws equal.1 in
    cc

number_after-sound : (ws : List (List ℕ)) {x : ℕ × List (List ℕ)} → number_after ws ≡ Some x → (ws ≡ decimal x.0 ∷ x.1) × (x.0 < 65536)
number_after-sound [] e = absurd (cc)
number_after-sound (w ∷ ws) {x} e =
    let read = bind_some (number_of w) (λ n. Some (n, ws)) e in
    let n : read.0 ≡ x.0 = ap (λ (p : ℕ × List (List ℕ)). p.0) (some_is read.2) in
    let rest : ws ≡ x.1 = ap (λ (p : ℕ × List (List ℕ)). p.1) (some_is read.2) in
    let word = number_of-sound w read.1 in
    let same = ap decimal n in
    let is = word.0 in
    (cc, omega (arith, word.1))

ports_after-sound : (ws : List (List ℕ)) {x : ℕ × List (List ℕ)} → ports_after ws ≡ Some x → (ws ≡ decimal x.0 ∷ x.1) × ((1 ≤ x.0) × (x.0 ≤ 16))
ports_after-sound ws {x} e =
    let read = bind_some (number_after ws) (λ n. cond (nat_le 1 n.0 && nat_le n.0 16) (Some n) None) e in
    let small = chosen (nat_le 1 read.0.0 && nat_le read.0.0 16) read.2 in
    let same : read.0 ≡ x = some_is small.1 in
    let within = and_parts (nat_le 1 read.0.0) (nat_le read.0.0 16) small.0 in
    (rw (← same) ((number_after-sound ws read.1).0), rw (← same) (leb-true 1 read.0.0 within.0, leb-true read.0.0 16 within.1))

value_after-sound : (bound : ℕ) (ws : List (List ℕ)) {x : ℕ × List (List ℕ)} → value_after bound ws ≡ Some x → (ws ≡ decimal x.0 ∷ x.1) × (x.0 < bound)
value_after-sound bound ws {x} e =
    let read = bind_some (number_after ws) (λ n. cond (nat_lt n.0 bound) (Some n) None) e in
    let small = chosen (nat_lt read.0.0 bound) read.2 in
    let same : read.0 ≡ x = some_is small.1 in
    (rw (← same) ((number_after-sound ws read.1).0), rw (← same) (ltb-true read.0.0 bound small.0))

-- a head by its parts
head_parts : (ports : ℕ) (ws a b rest : List (List ℕ)) → ws ≡ ports_words ++ a → a ≡ decimal ports ∷ b → b ≡ step_words ++ rest
    → ws ≡ head_words Spec ports ++ rest
head_parts ports ws a b rest is_a is_b is_rest = rw (is_a, is_b, is_rest) refl

head_of-sound : (lang : Lang) (ws : List (List ℕ)) {x : ℕ × List (List ℕ)} → head_of lang ws ≡ Some x → (ws ≡ head_words lang x.0 ++ x.1)
    × DeclaresPorts lang x.0
head_of-sound C ws {x} e =
    let a = bind_some (after (head_words C 0) ws) _ e in
    rw (← some_is a.2) (after-sound (head_words C 0) ws a.1, refl)
head_of-sound Spec ws {x} e =
    let a = bind_some (after ports_words ws) _ e in
    let b = bind_some (ports_after a.0) _ a.2 in
    let c = bind_some (after step_words b.0.1) _ b.2 in
    let ports = ports_after-sound a.0 b.1 in
    let words = head_parts b.0.0 ws a.0 b.0.1 c.0 (after-sound ports_words ws a.1) ports.0 (after-sound step_words b.0.1 c.1) in
    rw (← some_is c.2) (words, ports.1)

-- a test by its parts
test_parts : (lang : Lang) (port value : ℕ) (ws a b c d rest : List (List ℕ)) → ws ≡ if_words lang ++ a → a ≡ decimal port ∷ b → b ≡ then_words lang
    ++ c → c ≡ decimal value ∷ d
    → d ≡ end_words lang ++ rest → ws ≡ test_words lang (record { port = port; value = value }) ++ rest
test_parts C port value ws a b c d rest is_a is_b is_c is_d is_rest = rw (is_a, is_b, is_c, is_d, is_rest) refl
test_parts Spec port value ws a b c d rest is_a is_b is_c is_d is_rest = rw (is_a, is_b, is_c, is_d, is_rest) refl

test_of-sound : (lang : Lang) (bound : ℕ) (ws : List (List ℕ)) {x : Test × List (List ℕ)} → test_of lang bound ws ≡ Some x
    → (ws ≡ test_words lang x.0 ++ x.1) × IsTest bound x.0
unfolding test_of
test_of-sound lang bound ws {x} e =
    let a = bind_some (after (if_words lang) ws) _ e in
    let b = bind_some (number_after a.0) _ a.2 in
    let c = bind_some (after (then_words lang) b.0.1) _ b.2 in
    let d = bind_some (value_after bound c.0) _ c.2 in
    let f = bind_some (after (end_words lang) d.0.1) _ d.2 in
    let port = number_after-sound a.0 b.1 in
    let value = value_after-sound bound c.0 d.1 in
    let same = some_is f.2 in
    let words = test_parts lang b.0.0 d.0.0 ws a.0 b.0.1 c.0 d.0.1 f.0 (after-sound (if_words lang) ws a.1) port.0
    (after-sound (then_words lang) b.0.1 c.1) value.0 (after-sound (end_words lang) d.0.1 f.1) in
    rw (← same) (words, record { port = port.1; value = value.1 })

last_parts : (lang : Lang) (value : ℕ) (ws a b rest : List (List ℕ)) → ws ≡ answer_words lang ++ a → a ≡ decimal value ∷ b → b ≡ codes ";" ∷ codes "}"
    ∷ rest → rest ≡ [] → ws ≡ last_words lang value
last_parts C value ws a b rest is_a is_b is_rest none = rw (is_a, is_b, is_rest, none) refl
last_parts Spec value ws a b rest is_a is_b is_rest none = rw (is_a, is_b, is_rest, none) refl

last_of-sound : (lang : Lang) (bound : ℕ) (ws : List (List ℕ)) {last : ℕ} → last_of lang bound ws ≡ Some last → (ws ≡ last_words lang last) × (last < bound)
unfolding last_of
last_of-sound lang bound ws {last} e =
    let a = bind_some (after (answer_words lang) ws) _ e in
    let b = bind_some (value_after bound a.0) _ a.2 in
    let c = bind_some (after (codes ";" ∷ codes "}" ∷ []) b.0.1) _ b.2 in
    let value = value_after-sound bound a.0 b.1 in
    let none = chosen (eqb (length c.0) 0) c.2 in
    let same : b.0.0 ≡ last = some_is none.1 in
    let over : c.0 ≡ [] = nil_from_length c.0 (eqb-true (length c.0) 0 none.0) in
    let words = last_parts lang b.0.0 ws a.0 b.0.1 c.0 (after-sound (answer_words lang) ws a.1) value.0 (after-sound (codes ";" ∷ codes "}" ∷ [])
    b.0.1 c.1) over in
    rw (← same) (words, value.1)

-- the words of tests and of the last value
abbrev pub body_words : Lang → List Test → ℕ → List (List ℕ)
body_words lang ts last = flat_map (test_words lang) ts ++ last_words lang last

-- a body's tests and last value are spelled
record IsBody (lang : Lang) (bound : ℕ) (ws : List (List ℕ)) (b : List Test × ℕ) : Type 0 where
  words : ws ≡ body_words lang b.0 b.1
  tests : All (IsTest bound) b.0
  last : b.1 < bound

IsBody-cons : (lang : Lang) (bound : ℕ) (ws rest : List (List ℕ)) (t : Test) (b : List Test × ℕ) → ws ≡ test_words lang t ++ rest → IsTest bound t
    → IsBody lang bound rest b
    → IsBody lang bound ws (t ∷ b.0, b.1)
IsBody-cons lang bound ws rest t b words test body = record {
  words = words ∙ ap (λ (l : List (List ℕ)). test_words lang t ++ l) body.words
      ∙ sym (append_assoc (test_words lang t) (flat_map (test_words lang) b.0) (last_words lang b.1));
  tests = All-cons (IsTest bound) t b.0 test body.tests;
  last = body.last;
}

body_of-sound : (lang : Lang) (bound n : ℕ) (ws : List (List ℕ)) {b : List Test × ℕ} → body_of lang bound n ws ≡ Some b → IsBody lang bound ws b
unfolding body_of
body_of-sound lang bound zero ws e = absurd (cc)
body_of-sound lang bound (suc n) ws {b} e = elim (cases_Bool (begins_if ws)) [
  | inl test ↦
      let here = rw test at e in
      let t = bind_some (test_of lang bound ws) _ here in
      let rest = bind_some (body_of lang bound n t.0.1) _ t.2 in
      let read = test_of-sound lang bound ws t.1 in
      rw (← some_is {x = (t.0.0 ∷ rest.0.0, rest.0.1)} rest.2) (IsBody-cons lang bound ws t.0.1 t.0.0 rest.0 read.0 read.1
      (body_of-sound lang bound n t.0.1 rest.1))
  | inr last ↦
      let here = rw last at e in
      let value = bind_some (last_of lang bound ws) _ here in
      let read = last_of-sound lang bound ws value.1 in
      rw (← some_is value.2) (record { words = read.0; tests = All-nil (IsTest bound); last = read.1 })
]

-- what is read from the words of a text is spelled by it
pub small_of-sound : (lang : Lang) (text : List ℕ) (words : List Placed) {s : Small} → IsCut text words → small_of lang words ≡ Some s → Spells lang text s
unfolding small_of
small_of-sound lang text words {s} cut e =
    let head = bind_some (head_of lang (spelled words)) _ e in
    let bound = value_bound lang head.0.0 in
    let body = bind_some (body_of lang bound (length head.0.1) head.0.1) _ head.2 in
    let read = body_of-sound lang bound (length head.0.1) head.0.1 body.1 in
    let form = head_of-sound lang (spelled words) head.1 in
    rw (← some_is body.2) (record {
      words = words;
      cut = cut;
      form = form.0 ∙ ap (λ (l : List (List ℕ)). head_words lang head.0.0 ++ l) read.words;
      ports = form.1;
      at = refl;
      tests = read.tests;
      last = read.last;
    })

-- what is spelled is read

bytes_eq-same : (w : List ℕ) → bytes_eq w w ≡ true
bytes_eq-same w = (bytes_eq-Decides w w).1 refl

after-complete : (es rest : List (List ℕ)) → after es (es ++ rest) ≡ Some rest
after-complete [] rest = refl
after-complete (x ∷ es) rest = rw (bytes_eq-same x) (after-complete es rest)

-- a number of ports of a specification is read
ports_after-complete : (n : ℕ) (rest : List (List ℕ)) → 1 ≤ n → n ≤ 16 → ports_after (decimal n ∷ rest) ≡ Some (n, rest)
ports_after-complete n rest some most = rw (number_of-decimal n (omega arith), le-leb 1 n some, le-leb n 16 most) refl

head_of-complete : (lang : Lang) (ports : ℕ) (rest : List (List ℕ)) → DeclaresPorts lang ports
    → head_of lang (head_words lang ports ++ rest) ≡ Some (ports, rest)
head_of-complete C ports rest none = rw none refl
head_of-complete Spec ports rest declared = rw (ports_after-complete ports (step_words ++ rest) declared.0 declared.1) refl

-- a test of the form is read
test_of-complete : (lang : Lang) (bound : ℕ) (t : Test) (rest : List (List ℕ)) → bound ≤ 16 → IsTest bound t
    → test_of lang bound (test_words lang t ++ rest) ≡ Some (t, rest)
unfolding test_of
test_of-complete C bound t rest most test =
    rw (number_of-decimal t.port test.port, number_of-decimal t.value (omega (arith, test.value)), lt-ltb t.value bound test.value) refl
test_of-complete Spec bound t rest most test =
    rw (number_of-decimal t.port test.port, number_of-decimal t.value (omega (arith, test.value)), lt-ltb t.value bound test.value) refl

last_of-complete : (lang : Lang) (bound last : ℕ) → bound ≤ 16 → last < bound → last_of lang bound (last_words lang last) ≡ Some last
unfolding last_of
last_of-complete C bound last most below = rw (number_of-decimal last (omega arith), lt-ltb last bound below) refl
last_of-complete Spec bound last most below = rw (number_of-decimal last (omega arith), lt-ltb last bound below) refl

test-begins_if : (lang : Lang) (t : Test) (rest : List (List ℕ)) → begins_if (test_words lang t ++ rest) ≡ true
test-begins_if C t rest = refl
test-begins_if Spec t rest = refl

last-begins_if : (lang : Lang) (last : ℕ) → begins_if (last_words lang last) ≡ false
last-begins_if C last = refl
last-begins_if Spec last = refl

body_of-complete : (lang : Lang) (bound n : ℕ) (ts : List Test) (last : ℕ) → bound ≤ 16 → All (IsTest bound) ts → last < bound → length ts < n
    → body_of lang bound n (body_words lang ts last) ≡ Some (ts, last)
unfolding body_of
body_of-complete lang bound zero ts last most tests below few = absurd (omega arith)
body_of-complete lang bound (suc n) [] last most tests below few = rw (last-begins_if lang last, last_of-complete lang bound last most below) refl
body_of-complete lang bound (suc n) (t ∷ ts) last most tests below few =
    rw (
      append_assoc (test_words lang t) (flat_map (test_words lang) ts) (last_words lang last),
      test-begins_if lang t (body_words lang ts last),
      test_of-complete lang bound t (body_words lang ts last) most (All-head (IsTest bound) t ts tests),
      body_of-complete lang bound n ts last most (All-tail (IsTest bound) t ts tests) below (omega arith),
    ) refl

-- a test has nine words
length-tests : (lang : Lang) (ts : List Test) → length (flat_map (test_words lang) ts) ≡ 9 * length ts
length-tests lang [] = refl
length-tests C (t ∷ ts) = omega (arith, length-tests C ts)
length-tests Spec (t ∷ ts) = omega (arith, length-tests Spec ts)

length-last : (lang : Lang) (last : ℕ) → length (last_words lang last) ≡ 4
length-last C last = refl
length-last Spec last = refl

length-body : (lang : Lang) (ts : List Test) (last : ℕ) → length (body_words lang ts last) ≡ 9 * length ts + 4
length-body lang ts last = omega (arith, length-append (flat_map (test_words lang) ts) (last_words lang last), length-tests lang ts, length-last lang last)

-- values are below 16, whatever the text declares
bound_most : (lang : Lang) (ports : ℕ) → DeclaresPorts lang ports → value_bound lang ports ≤ 16
bound_most C ports none = omega arith
bound_most Spec ports declared = declared.1

-- what a text spells is read from its words
pub small_of-complete : (lang : Lang) (text : List ℕ) (words : List Placed) (s : Small) → IsCut text words → Spells lang text s → small_of lang words ≡ Some s
unfolding small_of
small_of-complete lang text words s cut spells =
    let body = body_words lang s.tests s.last in
    let few : length s.tests < length body = omega (arith, length-body lang s.tests s.last) in
    rw (
      IsCut-unique text words spells.words cut spells.cut,
      spells.form,
      head_of-complete lang s.ports body spells.ports,
      body_of-complete lang (value_bound lang s.ports) (length body) s.tests s.last (bound_most lang s.ports spells.ports) spells.tests spells.last few,
      ← spells.at,
    ) refl

-- a text spells one small function at most
pub Spells-unique : (lang : Lang) (text : List ℕ) (s t : Small) → Spells lang text s → Spells lang text t → s ≡ t
Spells-unique lang text s t one two = some_is (sym (small_of-complete lang text one.words s one.cut one) ∙ small_of-complete lang text one.words t one.cut two)

-- a run of a function that a text spells takes no more steps than the text has bytes
pub Spells-steps : (lang : Lang) (text : List ℕ) (s : Small) (port : ℕ) → Spells lang text s → steps_at s.tests port ≤ length text
Spells-steps lang text s port spells =
    let form = ap (λ (l : List (List ℕ)). length l) spells.form in
    omega (
      arith,
      form,
      length-map spells.words (λ w. w.bytes),
      length-cut text spells.words spells.cut,
      length-append (head_words lang s.ports) (body_words lang s.tests s.last),
      length-body lang s.tests s.last,
      steps_at-le s.tests port,
    )

-- the values of a function that a text spells are below the bound of its values
pub Spells-value : (lang : Lang) (text : List ℕ) (s : Small) (port : ℕ) → Spells lang text s → value_at s.tests s.last port < value_bound lang s.ports
Spells-value lang text s port spells = value_at-below (value_bound lang s.ports) s.tests s.last port spells.tests spells.last
