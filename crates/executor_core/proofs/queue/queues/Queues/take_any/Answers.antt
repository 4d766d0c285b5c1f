use Rattle.std.proofs.Common.{sym, ◌∙◌}
use Rattle.executor_core.proofs.QueueSearchLemmas.{any_left, any_found}
use Rattle.executor_core.proofs.queue.queues.Queues.take_any.Goals as goal

pub returns-clause-found : goal.returns-clause-found
returns-clause-found g c =
    c.take_local.ensures.front
    ∙ any_found c.args.self.now.state c.take_front.new.self.state c.in_ok-own.own (sym c.in_default.is ∙ c.take_front.ensures.front) c.take_front.ensures.rest c.in_ok-own.ensures

pub returns-clause-lists : goal.returns-clause-lists
returns-clause-lists g c =
    any_left c.args.self.now.state c.take_front.new.self.state c.take_local.new.self.state c.in_ok-own.own (sym c.in_default.is ∙ c.take_front.ensures.front) c.take_front.ensures.rest c.in_ok-own.ensures c.take_local.ensures.rest
