use Rattle.std.proofs.Common.{◌∙◌}
use Rattle.async_executor.proofs.scheduler.many.add_handle.Goals as goal

pub returns-clause-added : goal.returns-clause-added
returns-clause-added g c =
    (c.of.result, c.push_reserved.ensures.items, c.of.ensures ∙ c.requires.unanswered)

pub returns-clause-len : goal.returns-clause-len
returns-clause-len g c = c.push_reserved.ensures.len
