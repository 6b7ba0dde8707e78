-- One frame more: its pieces, its line, and its counts.
use Rattle.std.proofs.lemmas.Grind.{flat_map-append}
use Rattle.std.proofs.lemmas.List.{map-append, length-map}
use Rattle.std.proofs.lemmas.List.Sums.{count_by-le-length, sum_by-append, sum_by-le}
use Rattle.std.specs.List.{sum_by}
use Rattle.std.proofs.Common.{◌≡◌, ◌<◌, ◌≤◌, ◌+◌, ◌^◌, ◌∙◌, ℕ, suc, List, [], ◌∷◌, ◌++◌, length, get_or, count_by, if◌then◌else◌, Bool, All, refl}
use Rattle.std.proofs.Common.{sym, ap, append-nil, append_assoc, length-append, add-zero, zero-add, arith}
use Rattle.vg_core.specs.declared.verdict.Verdict.{Verdict}
use Rattle.vg_core.specs.declared.verdict.Verdict.TheVariants.{Drop, Send, Flood}
use Rattle.vg_pcap.specs.Frames.{header}
use Rattle.vg_replay.specs.declared.totals.Totals.{Totals}
use Rattle.vg_replay.specs.Counts.{counted, AreFew}
use Rattle.vg_replay.specs.Outputs.{Handled, arrivals_of, piece_to, capture_to, line_of, lines_from, log_of, is_send, is_drop, is_flood, totals_of}
use Rattle.vg_replay.specs.UnderWay.{TakesFewSteps}

-- ---- bytes

pub arrivals_of-more : (past : List Handled) (h : Handled) → arrivals_of (past ++ h ∷ []) ≡ arrivals_of past ++ h.arrival ∷ []
arrivals_of-more past h = map-append (λ (x : Handled). x.arrival) past (h ∷ [])

pub arrivals_of-length : (past : List Handled) → length (arrivals_of past) ≡ length past
arrivals_of-length past = length-map past (λ (x : Handled). x.arrival)

pub capture_to-none : (port : ℕ) → capture_to port [] ≡ header
unfolding capture_to
capture_to-none port = append-nil header

pub capture_to-more : (port : ℕ) (past : List Handled) (h : Handled) → capture_to port (past ++ h ∷ []) ≡ capture_to port past ++ piece_to port h
unfolding capture_to
capture_to-more port past h =
    rw (flat_map-append (piece_to port) past (h ∷ []), append-nil (piece_to port h))
    (sym (append_assoc header _ (piece_to port h)))

lines_from-more : (n : ℕ) (hs : List Handled) (h : Handled) → lines_from n (hs ++ h ∷ []) ≡ lines_from n hs ++ line_of (n + length hs) h
lines_from-more n [] h = rw (add-zero, append-nil (line_of n h)) refl
lines_from-more n (x ∷ hs) h =
    let count : n + 1 + length hs ≡ n + suc (length hs) = omega arith in
    rw (lines_from-more (n + 1) hs h, count) (sym (append_assoc (line_of n x) (lines_from (n + 1) hs) (line_of (n + suc (length hs)) h)))

pub log_of-none : log_of [] ≡ []
unfolding log_of
log_of-none = refl

pub log_of-more : (past : List Handled) (h : Handled) → log_of (past ++ h ∷ []) ≡ log_of past ++ line_of (length past + 1) h
unfolding log_of
log_of-more past h =
    let number : 1 + length past ≡ length past + 1 = omega arith in
    lines_from-more 1 past h ∙ ap (λ n. lines_from 1 past ++ line_of n h) number

-- ---- counts

count_by-more : {X : Type 0} (p : X → Bool) (xs : List X) (x : X) → count_by p (xs ++ x ∷ []) ≡ count_by p xs + (if p x then 1 else 0)
count_by-more p xs x = sum_by-append (λ y. if p y then 1 else 0) xs (x ∷ []) ∙ ap (λ n. count_by p xs + n) (zero-add (if p x then 1 else 0))

sum_by-more : {X : Type 0} (f : X → ℕ) (xs : List X) (x : X) → sum_by f (xs ++ x ∷ []) ≡ sum_by f xs + f x
sum_by-more f xs x = sum_by-append f xs (x ∷ []) ∙ ap (λ n. sum_by f xs + n) (zero-add (f x))

one_more : (t : Totals) (verdict : Verdict) (steps : ℕ) →
    record {
      frames = t.frames + 1;
      sent = t.sent + (if is_send verdict then 1 else 0);
      dropped =
          t.dropped + (if is_drop verdict then 1 else 0);
      flooded = t.flooded + (if is_flood verdict then 1 else 0);
      steps = t.steps + steps;
    } ≡ counted
    t verdict steps
one_more t Drop steps = rw (add-zero t.sent, add-zero t.flooded) refl
one_more t (Send port) steps = rw (add-zero t.dropped, add-zero t.flooded) refl
one_more t Flood steps = rw (add-zero t.sent, add-zero t.dropped) refl

pub totals_of-more : (hs : List Handled) (h : Handled) → totals_of (hs ++ h ∷ []) ≡ counted (totals_of hs) h.verdict h.steps
unfolding totals_of
totals_of-more hs h =
    rw (
      length-append hs (h ∷ []),
      count_by-more (λ k. is_send k.verdict) hs h,
      count_by-more (λ k. is_drop k.verdict) hs h,
      count_by-more (λ k. is_flood k.verdict) hs h,
      sum_by-more (λ k. k.steps) hs h,
    ) (one_more (totals_of hs) h.verdict h.steps)

pub totals_of-none : (t : Totals) → t.frames ≡ 0 → t.sent ≡ 0 → t.dropped ≡ 0 → t.flooded ≡ 0 → t.steps ≡ 0 → t ≡ totals_of []
unfolding totals_of
totals_of-none t frames sent dropped flooded steps =
    let is : record { frames = t.frames; sent = t.sent; dropped = t.dropped; flooded = t.flooded; steps = t.steps } ≡ totals_of [] =
    rw (frames, sent, dropped, flooded, steps) refl in
    is

pub totals_of-frames : (past : List Handled) → (totals_of past).frames ≡ length past
unfolding totals_of
totals_of-frames past = refl

few_steps : (steps : ℕ) → steps ≤ 2 ^ 31 → steps ≤ 2147483648
few_steps steps few = omega (arith, few)

-- another frame can be counted
pub totals_of-few : (past : List Handled) (steps : ℕ) → All TakesFewSteps past → steps ≤ 2 ^ 31 → length past + 1 < 2 ^ 32 → AreFew (totals_of past) steps
unfolding totals_of
totals_of-few past steps all these few = record {
  frames = omega (arith, few);
  sent = count_by-le-length (λ h. is_send h.verdict) past;
  dropped = count_by-le-length (λ h. is_drop h.verdict) past;
  flooded = count_by-le-length (λ h. is_flood h.verdict) past;
  steps =
      let each : All (λ (h : Handled). h.steps ≤ 2147483648) past = λ k d within. few_steps (get_or past k d).steps (all k d within) in
      omega (arith, few, sum_by-le (λ (h : Handled). h.steps) 2147483648 past each, few_steps steps these);
}
