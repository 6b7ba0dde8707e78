-- No step asks more than a lawful full state tells.
use Rattle.std.proofs.Common.{◌≡◌, ◌≢◌, ◌+◌, ◌-◌, ◌%◌, ◌^◌, ◌<◌, ◌⊎◌, ℕ, zero, suc, List, [], ◌∷◌, slice_set, Option, Some, None, Bool, true, false, cond}
use Rattle.std.proofs.Common.{refl, sym, ◌∙◌, ap, subst, inl, inr, arith}
use Rattle.std.specs.Prelude.{slice_get, nat_lt, ◌==◌}
use Rattle.std.specs.Ordering.{nat_cmp, eq_by_cmp}
use Rattle.std.specs.Cmp.{nat_cmp_total}
use Rattle.std.specs.FinMap.{get, insert, get-insert}
use Rattle.std.proofs.lemmas.Bool.{cases_lt, lt-ltb, le-ltb, cond-false}
use Rattle.vg_core.specs.declared.verdict.Verdict.TheVariants.{Drop}
use Rattle.vg_stree.specs.declared.code.SStmt.{SStmt}
use Rattle.vg_stree.specs.declared.code.SStmt.TheVariants as statements
use Rattle.vg_stree.specs.declared.code.Parts.{Parts}
use Rattle.vg_stree.specs.Specification.{Specification}
use Rattle.vg_stree.specs.Syntax.{listed}
use Rattle.vg_abs.specs.declared.object.Object.{Object}
use Rattle.vg_abs.specs.declared.object.Object.TheVariants.{Map, Chain, Keys, Cells, Prefixes}
use Rattle.vg_abs.specs.Tables.{Link, Vector, CellTable}
use Rattle.vg_abs.specs.State.{State, link_in, link_of_map, vector_of, prefixes_of}
use Rattle.vg_abs.specs.Answers.{time_of, match_in, count_before}
use Rattle.vg_abs.specs.Effects.{with_link, with_cell, with_bytes_in}
use Rattle.vg_abs.specs.Rows.{may_hand_out}
use Rattle.vg_abs.specs.Expressions.{is_true}
use Rattle.vg_smean.specs.Step.{Place, Outcome, Goes, Ends, Refused, Untold, told, followed_by, back_to, named, with_entry, with_field_in_cell, scene_at}
use Rattle.vg_smean.specs.Step.{valued}
use Rattle.vg_smean.specs.Step.{keyed, Statements, all_by, block_by, either_by, store_field, expire, hand_out_if, hand_out, add_by, touch, remove, statement_by}
use Rattle.vg_smean.specs.Step.{statement_found, statements_before, statement_of, AsksMore, done, end_of, step}
use Rattle.vg_smean.specs.Places.{outcome_of}
use Rattle.vg_smean.proofs.NeverAsks.{Told, TellsAll, told_map, told_time_of, told_index_of, told_cell, told_either, value_told, all_values_told}

-- ---- states
set_cases : (xs : List Object) (i j : ℕ) (x : Object) → ((i ≡ j) × (slice_get (slice_set xs i x) j ≡ Some x)) ⊎
    (slice_get (slice_set xs i x) j ≡ slice_get xs j)
set_cases [] i j x = inr refl
set_cases (y ∷ ys) zero zero x = inl (refl, refl)
set_cases (y ∷ ys) zero (suc j) x = inr refl
set_cases (y ∷ ys) (suc i) zero x = inr refl
set_cases (y ∷ ys) (suc i) (suc j) x = elim (set_cases ys i j x) [ inl e ↦ inl (ap suc e.0, e.1) | inr e ↦ inr e ]

-- a state whose link has all its cells
kept_link : (s : State) (map : ℕ) (link : Link) → TellsAll s → ((index : ℕ) → index < link.capacity → Told (get link.cells index)) → TellsAll
    (with_link s map link)
kept_link s map link all there = record {
  full = all.full;
  links = λ m index less. elim (set_cases s.objects map m (Map link)) [
    | inl e ↦ subst (λ o. index < (link_in o).capacity → Told (get (link_in o).cells index)) (sym e.1) (there index) less
    | inr e ↦ subst (λ o. index < (link_in o).capacity → Told (get (link_in o).cells index)) (sym e) (all.links m index) less
  ];
  vectors = λ vector index cells is less. elim (set_cases s.objects map vector (Map link)) [
    | inl e ↦ absurd (no_vector link cells (sym e.1 ∙ is))
    | inr e ↦ all.vectors vector index cells (sym e ∙ is) less
  ];
} where
  no_vector : (link : Link) (cells : Vector) → ◌≡◌ {A = Option Object} (Some (Map link)) (Some (Cells cells)) → ⊥
  no_vector link cells same = cc

told_insert : (cells : CellTable) (k : ℕ) (bytes : List ℕ) (index : ℕ) → Told (get cells index) → Told (get (insert cells k bytes) index)
told_insert cells k bytes index told =
    subst Told (sym (get-insert nat_cmp_total cells k bytes index)) (told_either (eq_by_cmp nat_cmp index k) (Some bytes) (get cells index) tt told)

kept_cell : (s : State) (map k : ℕ) (bytes : List ℕ) (link : Link) → TellsAll s → link.capacity ≡ (link_of_map s map).capacity
    → link.cells ≡ insert (link_of_map s map).cells k bytes → TellsAll (with_link s map link)
kept_cell s map k bytes link all same is = kept_link s map link all
    (λ index less. subst (λ cells. Told (get cells index)) (sym is)
    (told_insert (link_of_map s map).cells k bytes index (all.links map index (subst (λ n. index < n) same less))))

kept_same : (s : State) (map : ℕ) (link : Link) → TellsAll s → link.capacity ≡ (link_of_map s map).capacity → link.cells ≡ (link_of_map s map).cells
    → TellsAll (with_link s map link)
kept_same s map link all same is = kept_link s map link all
    (λ index less. subst (λ cells. Told (get cells index)) (sym is) (all.links map index (subst (λ n. index < n) same less)))

kept_vector : (s : State) (vector k : ℕ) (bytes : List ℕ) (cells : Vector) → TellsAll s → slice_get s.objects vector ≡ Some (Cells cells) →
    TellsAll (record s { objects = slice_set s.objects vector (Cells (record cells { cells = insert cells.cells k bytes })) })
kept_vector s vector k bytes cells all here = record {
  full = all.full;
  links = λ m index less. elim (set_cases s.objects vector m (Cells (record cells { cells = insert cells.cells k bytes }))) [
    | inl e ↦ absurd (no_less index (subst (λ o. index < (link_in o).capacity) e.1 less))
    | inr e ↦ subst (λ o. index < (link_in o).capacity → Told (get (link_in o).cells index)) (sym e) (all.links m index) less
  ];
  vectors = λ v index other is less. elim (set_cases s.objects vector v (Cells (record cells { cells = insert cells.cells k bytes }))) [
    | inl e ↦ subst (λ (o : Option Object). one_told o index) (sym e.1 ∙ is)
        (λ small. told_insert cells.cells k bytes index (all.vectors vector index cells here small)) less
    | inr e ↦ all.vectors v index other (sym e ∙ is) less
  ];
} where
  no_less : (n : ℕ) → n < 0 → ⊥
  no_less n less = omega arith

  one_told : Option Object → ℕ → Type 0
  one_told (Some (Cells cells)) index = index < cells.cell_count → Told (get cells.cells index)
  one_told _ index = Unit {0}

kept_bytes : (s : State) (vector k : ℕ) (bytes : List ℕ) (found : Option Object) → TellsAll s → slice_get s.objects vector ≡ found
    → TellsAll (with_bytes_in s vector k bytes found)
kept_bytes s vector k bytes None all is = all
kept_bytes s vector k bytes (Some (Map link)) all is = all
kept_bytes s vector k bytes (Some Chain) all is = all
kept_bytes s vector k bytes (Some Keys) all is = kept_cell s (vector - 2) k bytes (with_cell (link_of_map s (vector - 2)) k bytes) all refl refl
kept_bytes s vector k bytes (Some (Cells cells)) all is = kept_vector s vector k bytes cells all is
kept_bytes s vector k bytes (Some (Prefixes prefixes)) all is = all

-- ---- outcomes
abbrev pub Sound : Outcome → Type 0
Sound (Goes place) = TellsAll place.state
Sound (Ends verdict place) = Unit {0}
Sound Refused = Unit {0}
Sound Untold = ⊥

sound_told : {A : Type 0} (o : Option A) (next : A → Outcome) → Told o → ((a : A) → o ≡ Some a → Sound (next a)) → Sound (told o next)
sound_told None next is all = is
sound_told (Some a) next is all = all a refl

sound_followed : (o : Outcome) (next : Place → Outcome) → Sound o → ((place : Place) → TellsAll place.state → Sound (next place)) → Sound (followed_by o next)
sound_followed (Goes place) next sound all = all place sound
sound_followed (Ends verdict place) next sound all = tt
sound_followed Refused next sound all = tt
sound_followed Untold next sound all = sound

sound_back : (names : List ℕ) (o : Outcome) → Sound o → Sound (back_to names o)
sound_back names (Goes place) sound = record { full = sound.full; links = sound.links; vectors = sound.vectors }
sound_back names (Ends verdict place) sound = tt
sound_back names Refused sound = tt
sound_back names Untold sound = sound

sound_either : (b : Bool) (one other : Outcome) → Sound one → Sound other → Sound (cond b one other)
sound_either true one other x y = x
sound_either false one other x y = y

sound_where : (i n : ℕ) (inside outside : Outcome) → (i < n → Sound inside) → Sound outside → Sound (cond (nat_lt i n) inside outside)
sound_where i n inside outside there other = elim (cases_lt i n) [
  | inl less ↦ subst (λ b. Sound (cond b inside outside)) (sym (lt-ltb i n less)) (there less)
  | inr more ↦ subst (λ b. Sound (cond b inside outside)) (sym (le-ltb i n more)) other
]

-- ---- statements
module _ (spec : Specification) (numbers : List ℕ) (port now : ℕ) where
  abbrev pub AllSound : Statements spec numbers port now → Type 0
  AllSound known = (number : ℕ) (place : Place) → TellsAll place.state → Sound (known number place)

  sound_list : (known : Statements spec numbers port now) → AllSound known → (items : List ℕ) (place : Place) → TellsAll place.state →
      Sound (all_by spec numbers port now known items place)
  sound_list known each [] place all = all
  sound_list known each (one ∷ more) place all =
      sound_followed (known one place) (all_by spec numbers port now known more) (each one place all) (λ next. sound_list known each more next)

  sound_block : (known : Statements spec numbers port now) → AllSound known → (block : Parts) (place : Place) → TellsAll place.state →
      Sound (block_by spec numbers port now known block place)
  sound_block known each block place all =
      sound_back place.names (all_by spec numbers port now known (listed spec.code.items block) place)
      (sound_list known each (listed spec.code.items block) place all)

  sound_choice : (known : Statements spec numbers port now) → AllSound known → (chosen otherwise : Parts) (place : Place) (value : Option ℕ)
      → TellsAll place.state → Sound (either_by spec numbers port now known chosen otherwise place value)
  sound_choice known each chosen otherwise place None all = sound_block known each otherwise place all
  sound_choice known each chosen otherwise place (Some value) all =
      sound_back place.names (all_by spec numbers port now known (listed spec.code.items chosen) (named value place))
      (sound_list known each (listed spec.code.items chosen) (named value place)
      (record { full = all.full; links = all.links; vectors = all.vectors }))

  sound_valued : (place : Place) (expression : ℕ) (next : ℕ → Outcome) → TellsAll place.state → ((v : ℕ) → Sound (next v)) →
      Sound (valued spec numbers port now place expression next)
  sound_valued place expression next all each =
      sound_told _ next (value_told spec (scene_at spec numbers port now place) expression all) (λ v is. each v)

  sound_keyed : (place : Place) (map : ℕ) (key : Parts) (next : List ℕ → Outcome) → TellsAll place.state → ((bytes : List ℕ) → Sound (next bytes)) →
      Sound (keyed spec numbers port now place map key next)
  sound_keyed place map key next all each =
      sound_told _ next (told_map _ _ (all_values_told spec (scene_at spec numbers port now place) (listed spec.code.items key) all)) (λ bytes is. each bytes)

  sound_store : (place : Place) (vector index field value : ℕ) → TellsAll place.state →
      Sound (store_field spec numbers port now place vector index field value)
  sound_store place vector index field value all =
      sound_where index (vector_of place.state vector).cell_count _ _
      (λ less. sound_told (get (vector_of place.state vector).cells index) _ (told_cell place.state vector index all less)
      (λ bytes is. kept_bytes place.state vector index (with_field_in_cell spec.shape vector field value bytes) (slice_get place.state.objects vector) all
      refl))
      all

  told_count : (s : State) (link : Link) (bound : ℕ) → TellsAll s → Told (count_before s.full link bound)
  told_count s link bound all = subst (λ b. Told (count_before b link bound)) (sym all.full) tt

  sound_expire : (place : Place) (map bound : ℕ) (found : Option Object) → TellsAll place.state → slice_get place.state.objects map ≡ found →
      Sound (expire spec numbers port now place map bound found)
  sound_expire place map bound None all is = all
  sound_expire place map bound (Some Chain) all is = all
  sound_expire place map bound (Some Keys) all is = all
  sound_expire place map bound (Some (Cells cells)) all is = all
  sound_expire place map bound (Some (Prefixes prefixes)) all is = all
  sound_expire place map bound (Some (Map link)) all is =
      sound_told (count_before place.state.full link bound) _ (told_count place.state link bound all)
      (λ freed counted. kept_same place.state map _ all (ap (λ o. (link_in o).capacity) (sym is)) (ap (λ o. (link_in o).cells) (sym is)))

  sound_touch : (place : Place) (map index : ℕ) (time : Option ℕ) → TellsAll place.state → Sound (touch spec numbers port now place map index time)
  sound_touch place map index None all = all
  sound_touch place map index (Some time) all = kept_same place.state map _ all refl refl

  inside : (full : Bool) (link : Link) (index time : ℕ) → time_of full link index ≡ Some (Some time) → index < link.capacity
  inside full link index time is = elim (cases_lt index link.capacity) [
    | inl less ↦ less
    | inr more ↦ absurd (no_time (sym (cond-false _ _ _ (le-ltb index link.capacity more)) ∙ is))
  ] where
    no_time : ◌≡◌ {A = Option (Option ℕ)} (Some None) (Some (Some time)) → ⊥
    no_time same = cc

  sound_remove : (place : Place) (map index : ℕ) (time : Option ℕ) → TellsAll place.state
      → time_of place.state.full (link_of_map place.state map) index ≡ Some time → Sound (remove spec numbers port now place map index time)
  sound_remove place map index None all is = all
  sound_remove place map index (Some time) all is =
      sound_told (get (link_of_map place.state map).cells index) _
      (all.links map index (inside place.state.full (link_of_map place.state map) index time is)) (λ key got. kept_same place.state map _ all refl refl)

  sound_free : (known : Statements spec numbers port now) → AllSound known → (chosen : Parts) (place : Place) (map : ℕ) (key : List ℕ) (choice : ℕ)
      (rest : List ℕ) (free : Bool) → TellsAll place.state → Sound (hand_out_if spec numbers port now known chosen place map key choice rest free)
  sound_free known each chosen place map key choice rest false all = tt
  sound_free known each chosen place map key choice rest true all =
      sound_choice known each chosen chosen _ (Some choice)
      (kept_cell place.state map choice key (with_entry (link_of_map place.state map) key choice now) all refl refl)

  told_hand : (s : State) (map choice : ℕ) → TellsAll s → Told (may_hand_out s (map + 1) choice)
  told_hand s map choice all =
      told_either (nat_lt choice (link_of_map s (map + 1 - 1)).capacity) _ _
      (told_map _ (time_of s.full (link_of_map s (map + 1 - 1)) choice) (told_time_of s (map + 1 - 1) choice all)) tt

  sound_hand_out : (known : Statements spec numbers port now) → AllSound known → (chosen : Parts) (place : Place) (map : ℕ) (key choices : List ℕ)
      → TellsAll place.state → Sound (hand_out spec numbers port now known chosen place map key choices)
  sound_hand_out known each chosen place map key [] all = tt
  sound_hand_out known each chosen place map key (choice ∷ rest) all =
      sound_told (may_hand_out place.state (map + 1) choice) _ (told_hand place.state map choice all)
      (λ free is. sound_free known each chosen place map key choice rest free all)

  sound_add : (known : Statements spec numbers port now) → AllSound known → (chosen otherwise : Parts) (place : Place) (map : ℕ) (key : List ℕ)
      (found : Option ℕ) → TellsAll place.state → Sound (add_by spec numbers port now known chosen otherwise place map key found)
  sound_add known each chosen otherwise place map key (Some index) all = sound_block known each otherwise place all
  sound_add known each chosen otherwise place map key None all =
      sound_either ((link_of_map place.state map).count == (link_of_map place.state map).capacity) _ _ (sound_block known each otherwise place all)
      (sound_hand_out known each chosen place map key place.choices all)

  told_match : (s : State) (table address : ℕ) → TellsAll s → Told (match_in s.full (prefixes_of s table) address)
  told_match s table address all = subst (λ b. Told (match_in b (prefixes_of s table) address)) (sym all.full) tt

  sound_by : (known : Statements spec numbers port now) → AllSound known → (statement : SStmt) (place : Place) → TellsAll place.state →
      Sound (statement_by spec numbers port now known statement place)
  sound_by known each (statements.Let value) place all =
      sound_valued place value _ all (λ v. record { full = all.full; links = all.links; vectors = all.vectors })
  sound_by known each statements.Drop place all = tt
  sound_by known each statements.Flood place all = tt
  sound_by known each (statements.Send to) place all = sound_valued place to _ all (λ v. tt)
  sound_by known each (statements.If condition chosen otherwise) place all =
      sound_valued place condition _ all
      (λ test. sound_either (is_true test) _ _ (sound_block known each chosen place all) (sound_block known each otherwise place all))
  sound_by known each (statements.SetFrame word at value) place all =
      sound_valued place at _ all (λ a. sound_valued place value _ all (λ v. record { full = all.full; links = all.links; vectors = all.vectors }))
  sound_by known each (statements.SetCell vector index field value) place all =
      sound_valued place index _ all (λ i. sound_valued place value _ all (λ v. sound_store place vector i field v all))
  sound_by known each (statements.Expire link before) place all =
      sound_valued place before _ all (λ bound. sound_expire place link bound (slice_get place.state.objects link) all refl)
  sound_by known each (statements.Find link key chosen otherwise) place all =
      sound_keyed place link key _ all
      (λ bytes. sound_told _ _ (told_index_of place.state link bytes all) (λ found is. sound_choice known each chosen otherwise place found all))
  sound_by known each (statements.Add link key chosen otherwise) place all =
      sound_keyed place link key _ all
      (λ bytes. sound_told _ _ (told_index_of place.state link bytes all) (λ found is. sound_add known each chosen otherwise place link bytes found all))
  sound_by known each (statements.Touch link index) place all =
      sound_valued place index _ all
      (λ i. sound_told _ _ (told_time_of place.state link i all) (λ time is. sound_touch place link i time all))
  sound_by known each (statements.Remove link index) place all =
      sound_valued place index _ all
      (λ i. sound_told _ _ (told_time_of place.state link i all) (λ time is. sound_remove place link i time all is))
  sound_by known each (statements.Lookup table address chosen otherwise) place all =
      sound_valued place address _ all
      (λ a. sound_told _ _ (told_match place.state table (a % 2 ^ 32) all) (λ found is. sound_choice known each chosen otherwise place found all))

  sound_found : (known : Statements spec numbers port now) → AllSound known → (found : Option SStmt) (place : Place) → TellsAll place.state →
      Sound (statement_found spec numbers port now known found place)
  sound_found known each None place all = all
  sound_found known each (Some statement) place all = sound_by known each statement place all

  sound_before : (count : ℕ) → AllSound (statements_before spec numbers port now count)
  unfolding statements_before
  sound_before zero number place all = all
  sound_before (suc count) number place all =
      sound_either (number == count)
      (statement_found spec numbers port now (statements_before spec numbers port now count) (slice_get spec.code.statements count) place)
      (statements_before spec numbers port now count number place)
      (sound_found (statements_before spec numbers port now count) (sound_before count) (slice_get spec.code.statements count) place all)
      (sound_before count number place all)

  -- the end
  asks_no_more : (o : Outcome) → Sound o → end_of o ≢ AsksMore
  asks_no_more (Goes place) sound = chosen place.choices where
    chosen : (choices : List ℕ) → done Drop place choices ≢ AsksMore
    chosen [] same = cc
    chosen (choice ∷ choices) same = cc
  asks_no_more (Ends verdict place) sound = chosen place.choices where
    chosen : (choices : List ℕ) → done verdict place choices ≢ AsksMore
    chosen [] same = cc
    chosen (choice ∷ choices) same = cc
  asks_no_more Refused sound = λ same. cc
  asks_no_more Untold sound = absurd sound

  pub sound_step : (place : Place) → TellsAll place.state → Sound (outcome_of spec numbers port now place)
  sound_step place all =
      sound_list (statement_of spec numbers port now) (λ number at. sound_before (suc number) number at) (listed spec.code.items spec.step) place all

  pub step_told : (s : State) (frame choices : List ℕ) → TellsAll s → step spec numbers s port frame now choices ≢ AsksMore
  step_told s frame choices all =
      asks_no_more _ (sound_step (record { state = s; frame = frame; choices = choices; names = [] })
      (record { full = all.full; links = all.links; vectors = all.vectors }))
