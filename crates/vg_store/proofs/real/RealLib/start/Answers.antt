use Rattle.std.proofs.Common.{◌≡◌, ◌+◌, ◌++◌, ◌∙◌, ap, sym, subst, arith, length, drop, map, List, [], ◌∷◌}
use Rattle.std.proofs.lemmas.List.{length-append, map-append}
use Rattle.std.specs.Prelude.{All}
use Rattle.vg_plain.specs.declared.object.PlainObject.{PlainObject}
use Rattle.vg_plain.specs.PlainStates.{object_of}
use Rattle.vg_plain.specs.Beginning.{NoneIsLent}
use Rattle.vg_plain.proofs.Beginnings.{begins_at, made_more, free_more, none_lent}
use Rattle.vg_store.specs.declared.object.RealObject.{RealObject}
use Rattle.vg_store.specs.RealStates.{as_plain, plainly}
use Rattle.vg_store.proofs.FewRoutes.{few_at}
use Rattle.vg_store.proofs.real.RealLib.start.Goals as goal

pub begin-requires : goal.begin-requires
begin-requires c =
    let declared = c.objects.ensures ∙ ap (λ s. s.objects) c.shape.ensures in
    let place : c.len.result ≡ c.loop-object.object-index = omega (arith, c.len.ensures, c.loop-object.invariant.counted, c.loop-object.objects.ok.0) in
    rw (c.shape-in-loop-object.ensures, declared, place) (
      begins_at c.args.spec.now c.args.config.now c.deref-object-items.result.now c.loop-object.object-index _ c.object-item.result
          c.an_opening_state_is_lawful.ensures c.requires c.loop-object.invariant.items c.loop-object-test.true c.object-item.is,
      few_at c.args.spec.now c.args.config.now c.deref-object-items.result.now c.loop-object.object-index c.object-item.result c.requires
          c.loop-object.invariant.items c.loop-object-test.true c.object-item.is,
    )

pub loop-object-preserved : goal.loop-object-preserved
loop-object-preserved c =
    let items = c.in_ok-push.ensures.items in
    let one_more =
    ap (λ (xs : List RealObject). plainly xs) items ∙ map-append as_plain c.loop-object.objects.items (c.in_ok-begin.field-0 ∷ []) in
    record {
      items = c.loop-object.invariant.items;
      counted = ap length items ∙ length-append c.loop-object.objects.items (c.in_ok-begin.field-0 ∷ []) ∙ ap (λ n. n + 1) c.loop-object.invariant.counted;
      made = subst (λ (xs : List PlainObject). map object_of xs ++ drop (c.loop-object.object-index + 1) c.deref-object-items.result.now ≡
          c.deref-object-items.result.now) (sym one_more)
          (made_more (plainly c.loop-object.objects.items) c.deref-object-items.result.now c.loop-object.object-index (as_plain c.in_ok-begin.field-0)
          c.object-item.result c.loop-object-test.true c.object-item.is c.in_ok-begin.ensures.object c.loop-object.invariant.made);
      free = subst (λ (xs : List PlainObject). All NoneIsLent xs) (sym one_more) (free_more (plainly c.loop-object.objects.items)
          (as_plain c.in_ok-begin.field-0) c.loop-object.invariant.free c.in_ok-begin.ensures.free);
    }

pub returns-clause-free : goal.returns-clause-free
returns-clause-free c = none_lent (plainly c.loop-object.objects.items) c.loop-object.invariant.free
