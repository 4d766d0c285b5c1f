use Rattle.std.proofs.Common.{is_some, ap, refl, sym, ◌∙◌, Some}
use Rattle.async_executor.specs.FutureTable.{output_in}
use Rattle.async_executor.proofs.Places.{kept_by, set_kept, no_output, is_output}
use Rattle.async_executor.proofs.futures.FutureTable.take_output.Goals as goal

pub returns-then-not-has_output-clause-answer : goal.returns-then-not-has_output-clause-answer
returns-then-not-has_output-clause-answer g c = no_output _ c.if-not-has_output.ensures.output

pub unreachable-requires : goal.unreachable-requires
unreachable-requires g c =
    let kept = kept_by (λ o. is_some (output_in o)) refl _ _ _ _ c.index_mut.result.now c.slot.ensures c.index_mut.ensures.value c.if-not-has_output.ensures.output in
    is_output _ (c.if-not-has_output.ensures.output ∙ ap (λ o. is_some (output_in o)) (kept.1 ∙ ap Some (sym c.replace.ensures.value))) c.in_default.not-Output

pub returns-clause-answer : goal.returns-clause-answer
returns-clause-answer g c =
    let kept = kept_by (λ o. is_some (output_in o)) refl _ _ _ _ c.index_mut.result.now c.slot.ensures c.index_mut.ensures.value c.if-not-has_output.ensures.output in
    sym (ap output_in (kept.1 ∙ ap Some (sym c.replace.ensures.value ∙ c.in-Output.is)))

pub returns-clause-places : goal.returns-clause-places
returns-clause-places g c =
    let kept = kept_by (λ o. is_some (output_in o)) refl _ _ _ _ c.index_mut.result.now c.slot.ensures c.index_mut.ensures.value c.if-not-has_output.ensures.output in
    set_kept _ _ _ _ _ c.replace.new.dest _ c.slot.ensures kept.0 c.replace.ensures.after
