use Rattle.std.proofs.Common.{ap, sym, ◌∙◌, Some}
use Rattle.async_executor.specs.Runs.{new_rest}
use Rattle.async_executor.proofs.scheduler.ExecutorIn.run.Goals as goal

pub returns-in-Ok-reserved-clause-limits : goal.returns-in-Ok-reserved-clause-limits
returns-in-Ok-reserved-clause-limits g c =
    let made = c.new-in-Ok-reserved.ensures.rest in (
      made ∙ ap (λ key. new_rest key c.args.self.now.limits) (sym (ap (λ rest. rest.runner.key) made)),
      c.new-in-Ok-reserved.ensures.ring ∙ ap Some c.in-Ok.ensures,
    )
