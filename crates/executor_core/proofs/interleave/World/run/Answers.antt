use Rattle.std.proofs.Common.{◌+◌, refl, sym, ap, ◌∙◌, length, ◌++◌, arith}
use Rattle.executor_core.specs.World.Steps.{StepTo}
use Rattle.executor_core.proofs.World.Order.{lone_order}
use Rattle.executor_core.proofs.World.Runs.{fold_on, snoc_rest}
use Rattle.executor_core.proofs.ListLemmas.{length-push}
use Rattle.executor_core.proofs.interleave.World.run.Goals as goal

pub loop-step-preserved : goal.loop-step-preserved
loop-step-preserved g c =
    let h = c.loop-step.invariant in (
      rw c.push_reserved.ensures.items (fold_on StepTo c.args.self.now c.loop-step.yielded c.loop-step.replies.items c.loop-step.self c.in-Some.step c.step.result c.step.new.self h.0 c.step.ensures.step),
      snoc_rest c.loop-step.yielded c.in-Some.step c.next.new.self.rest.items ∙ ap (λ l. c.loop-step.yielded ++ l) (sym c.in-Some.ensures.steps.0) ∙ h.1,
      rw c.push_reserved.ensures.items (length-push _ _ ∙ ap (λ k. k + 1) h.2 ∙ sym (length-push _ _)),
      rw c.push_reserved.ensures.capacity h.3,
    )

pub returns-clause-order : goal.returns-clause-order
returns-clause-order g c = lone_order _ _ _ _

pub loop-step-init : goal.loop-step-init
loop-step-init g c = (rw c.in_ok-replies.ensures.items refl, c.into_iter-step-iterator.ensures.into_iter_gives.0, ap length c.in_ok-replies.ensures.items, omega (arith, c.in_ok-replies.ensures.capacity, c.len.ensures))
