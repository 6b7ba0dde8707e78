use Rattle.std.proofs.Common.{ℕ, ◌≡◌, ◌∙◌, ap, arith, refl, length, replicate, rules, None, Option, List, false}
use Rattle.std.proofs.lemmas.List.{length-replicate}
use Rattle.vg_plain.proofs.KeySlots.{no_keys}
use Rattle.vg_plain.proofs.Places.{zeros, all_free, time_table_of}
use Rattle.vg_plain.proofs.LinkLaws.{used, none_used}
use Rattle.vg_plain.proofs.link.PlainLink.new.Goals as goal

pub invariant_of-result : goal.invariant_of-result
invariant_of-result c =
    let slots : c.in_ok-vec.field-0.items ≡ replicate c.args.capacity None = search rules in
    let places : c.in_ok-vec-2.field-0.items ≡ replicate c.args.capacity None = search rules in
    record {
      few = omega arith;
      slots = ap length slots ∙ length-replicate c.args.capacity None;
      keys = ap length c.in_ok-new.ensures.zeros ∙ length-replicate c.args.capacity (replicate c.args.key_length 0);
      key_size = c.in_ok-new.ensures.size;
      places = ap length places ∙ length-replicate c.args.capacity None;
      cells = ap length c.in_ok-new-2.ensures.zeros ∙ length-replicate c.args.capacity (replicate c.args.key_length 0);
      cell_size = c.in_ok-new-2.ensures.size;
      loans = ap length c.in_ok-new-2.ensures.free ∙ length-replicate c.args.capacity false;
      few_keys = (let count : used c.in_ok-vec.field-0.items ≡ 0 = ap (λ (xs : List (Option ℕ)). used xs) slots ∙ none_used ℕ c.args.capacity in omega arith);
      size = omega arith;
      allocated = ap (λ (xs : List (Option ℕ)). used xs) places ∙ none_used ℕ c.args.capacity;
    }

pub returns : goal.returns
returns c =
    let slots : c.in_ok-vec.field-0.items ≡ replicate c.args.capacity None = search rules in
    let places : c.in_ok-vec-2.field-0.items ≡ replicate c.args.capacity None = search rules in
    rw (
      no_keys c.in_ok-vec.field-0.items c.args.capacity c.in_ok-new.field-0.cells slots,
      ap (λ (xs : List (Option ℕ)). time_table_of xs) places,
      c.in_ok-new-2.ensures.zeros,
      c.in_ok-new-2.ensures.free,
      all_free c.args.capacity,
      zeros c.args.capacity c.args.key_length,
    ) refl
