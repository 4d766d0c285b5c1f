use Rattle.std.proofs.Common.{sym, ap, ◌∙◌, None, Some}
use Rattle.executor_core.proofs.QueueSearchLemmas.{searched, found_global, none_found, none_left, victim_within, victim_apart, stolen_found, stolen_left}
use Rattle.executor_core.proofs.queue.queues.Queues.search.Goals as goal

pub returns-in-Some-take_front-clause-lists : goal.returns-in-Some-take_front-clause-lists
returns-in-Some-take_front-clause-lists g c =
    found_global c.args.self.now.state c.take_front-2.new.self.state c.steal_global.new.self.state c.args.key.number c.args.word c.in-Some.own c.in-Some-take_front.id
    (searched c.args.self.now.state c.find.new.self.state c.take_local.new.self.state c.take_front-2.new.self.state c.args.key.number c.in-Some.own c.take_local.result (Some c.in-Some-take_front.id) (ap (λ s. s.state) c.find.ensures.same) c.in-Some.ensures.found c.in_default-take_local.is c.take_local.ensures.front c.take_local.ensures.rest c.in-Some-take_front.ensures.front c.in-Some-take_front.ensures.rest)
    c.steal_global.ensures.lists

pub returns-in_err-from-clause-found : goal.returns-in_err-from-clause-found
returns-in_err-from-clause-found g c = c.from_residual.ensures ∙ none_found c.args.self.now.state c.take_front-2.new.self.state c.args.key.number c.args.word c.in-Some.own (searched c.args.self.now.state c.find.new.self.state c.take_local.new.self.state c.take_front-2.new.self.state c.args.key.number c.in-Some.own c.take_local.result None (ap (λ s. s.state) c.find.ensures.same) c.in-Some.ensures.found c.in_default-take_local.is c.take_local.ensures.front c.take_local.ensures.rest (sym c.in_default-take_front.is ∙ c.take_front-2.ensures.front) c.take_front-2.ensures.rest) c.in_err-from.ensures

pub returns-in_err-from-clause-lists : goal.returns-in_err-from-clause-lists
returns-in_err-from-clause-lists g c = none_left c.args.self.now.state c.take_front-2.new.self.state c.args.key.number c.args.word c.in-Some.own (searched c.args.self.now.state c.find.new.self.state c.take_local.new.self.state c.take_front-2.new.self.state c.args.key.number c.in-Some.own c.take_local.result None (ap (λ s. s.state) c.find.ensures.same) c.in-Some.ensures.found c.in_default-take_local.is c.take_local.ensures.front c.take_local.ensures.rest (sym c.in_default-take_front.is ∙ c.take_front-2.ensures.front) c.take_front-2.ensures.rest) c.in_err-from.ensures

pub steal_between-requires-clause-from : goal.steal_between-requires-clause-from
steal_between-requires-clause-from g c = victim_within c.in-Some.own c.args.word c.in_ok-from.from c.take_front-2.new.self.state c.in_ok-from.ensures

pub steal_between-requires-clause-apart : goal.steal_between-requires-clause-apart
steal_between-requires-clause-apart g c =
    victim_apart c.args.self.now.state c.take_front-2.new.self.state c.args.key.number c.args.word c.in-Some.own c.in_ok-from.from
    (searched c.args.self.now.state c.find.new.self.state c.take_local.new.self.state c.take_front-2.new.self.state c.args.key.number c.in-Some.own c.take_local.result None (ap (λ s. s.state) c.find.ensures.same) c.in-Some.ensures.found c.in_default-take_local.is c.take_local.ensures.front c.take_local.ensures.rest (sym c.in_default-take_front.is ∙ c.take_front-2.ensures.front) c.take_front-2.ensures.rest)
    c.in_ok-from.ensures

pub returns-clause-found : goal.returns-clause-found
returns-clause-found g c =
    stolen_found c.args.self.now.state c.take_front-2.new.self.state c.steal_between.new.self.state c.args.key.number c.args.word c.in-Some.own c.in_ok-from.from c.take_local-2.result (searched c.args.self.now.state c.find.new.self.state c.take_local.new.self.state c.take_front-2.new.self.state c.args.key.number c.in-Some.own c.take_local.result None (ap (λ s. s.state) c.find.ensures.same) c.in-Some.ensures.found c.in_default-take_local.is c.take_local.ensures.front c.take_local.ensures.rest (sym c.in_default-take_front.is ∙ c.take_front-2.ensures.front) c.take_front-2.ensures.rest) c.in_ok-from.ensures c.steal_between.ensures.lists c.take_local-2.ensures.front

pub returns-clause-lists : goal.returns-clause-lists
returns-clause-lists g c =
    stolen_left c.args.self.now.state c.take_front-2.new.self.state c.steal_between.new.self.state c.take_local-2.new.self.state c.args.key.number c.args.word c.in-Some.own c.in_ok-from.from (searched c.args.self.now.state c.find.new.self.state c.take_local.new.self.state c.take_front-2.new.self.state c.args.key.number c.in-Some.own c.take_local.result None (ap (λ s. s.state) c.find.ensures.same) c.in-Some.ensures.found c.in_default-take_local.is c.take_local.ensures.front c.take_local.ensures.rest (sym c.in_default-take_front.is ∙ c.take_front-2.ensures.front) c.take_front-2.ensures.rest) c.in_ok-from.ensures c.steal_between.ensures.lists c.take_local-2.ensures.rest
