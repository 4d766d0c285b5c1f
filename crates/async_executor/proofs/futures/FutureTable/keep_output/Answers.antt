use Rattle.std.proofs.Common.{cond, None, Some, ap, refl, sym, ◌∙◌}
use Rattle.std.proofs.lemmas.Bool.{cond-true}
use Rattle.async_executor.specs.FutureTable.{is_vacant}
use Rattle.async_executor.proofs.Places.{kept_by, set_kept}
use Rattle.async_executor.proofs.futures.FutureTable.keep_output.Goals as goal

pub returns-then-not-is_vacant-clause-answer : goal.returns-then-not-is_vacant-clause-answer
returns-then-not-is_vacant-clause-answer g c = ap (λ b. cond b None (Some c.args.output)) c.if-not-is_vacant.ensures.vacant

pub returns-clause-answer : goal.returns-clause-answer
returns-clause-answer g c = ap (λ b. cond b None (Some c.args.output)) c.if-not-is_vacant.ensures.vacant

pub returns-clause-places : goal.returns-clause-places
returns-clause-places g c =
    let kept = kept_by is_vacant refl _ _ _ _ c.index_mut.result.now c.slot.ensures c.index_mut.ensures.value c.if-not-is_vacant.ensures.vacant in
    set_kept _ _ _ _ _ _ _ c.slot.ensures kept.0 refl ∙ sym (cond-true _ _ _ (sym c.if-not-is_vacant.ensures.vacant))
