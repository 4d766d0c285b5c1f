use Rattle.std.proofs.Common.{is_some, ap, refl, sym, ◌∙◌, Some}
use Rattle.async_executor.specs.FutureTable.{future_in}
use Rattle.async_executor.proofs.Places.{kept_by, set_kept, no_future, is_future}
use Rattle.async_executor.proofs.futures.FutureTable.take_future.Goals as goal

pub returns-then-not-has_future-clause-answer : goal.returns-then-not-has_future-clause-answer
returns-then-not-has_future-clause-answer g c = no_future _ c.if-not-has_future.ensures.future

pub unreachable-requires : goal.unreachable-requires
unreachable-requires g c =
    let kept = kept_by (λ o. is_some (future_in o)) refl _ _ _ _ c.index_mut.result.now c.slot.ensures c.index_mut.ensures.value c.if-not-has_future.ensures.future in
    is_future _ (c.if-not-has_future.ensures.future ∙ ap (λ o. is_some (future_in o)) (kept.1 ∙ ap Some (sym c.replace.ensures.value))) c.in_default.not-Future

pub returns-clause-answer : goal.returns-clause-answer
returns-clause-answer g c =
    let kept = kept_by (λ o. is_some (future_in o)) refl _ _ _ _ c.index_mut.result.now c.slot.ensures c.index_mut.ensures.value c.if-not-has_future.ensures.future in
    sym (ap future_in (kept.1 ∙ ap Some (sym c.replace.ensures.value ∙ c.in-Future.is)))

pub returns-clause-places : goal.returns-clause-places
returns-clause-places g c =
    let kept = kept_by (λ o. is_some (future_in o)) refl _ _ _ _ c.index_mut.result.now c.slot.ensures c.index_mut.ensures.value c.if-not-has_future.ensures.future in
    set_kept _ _ _ _ _ c.replace.new.dest _ c.slot.ensures kept.0 c.replace.ensures.after
