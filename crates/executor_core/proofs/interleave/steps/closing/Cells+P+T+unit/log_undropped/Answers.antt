use Rattle.std.proofs.Common.{◌++◌, length, map, ap, ◌∙◌, arith}
use Rattle.executor_core.specs.Cell.{is_undropped}
use Rattle.executor_core.specs.Cells.Calls.{rising}
use Rattle.executor_core.specs.World.Steps.{mark_event}
use Rattle.executor_core.proofs.RisingLemmas.{undropped_numbers, undropped_rising, few_undropped}
use Rattle.executor_core.proofs.WalkLemmas.{length-logged}
use Rattle.executor_core.proofs.interleave.steps.closing.Cells+P+T+unit.log_undropped.Goals as goal

pub log_each-requires : goal.log_each-requires
log_each-requires g c =
    let room = c.requires.room in
    let few = few_undropped c.self.invariant in
    let same = ap (λ t. t.next) c.self.view_is in
    omega arith

pub returns-clause-log : goal.returns-clause-log
returns-clause-log g c =
    c.log_each.ensures.log
    ∙ ap (λ l. c.args.log.now.items ++ map (mark_event c.args.cancels) l) (undropped_rising c.self.inside.queues.slots c.self.invariant.distinct ∙ ap (λ t. rising (λ x. is_undropped x.state) t.cells) c.self.view_is)

pub returns-clause-few : goal.returns-clause-few
returns-clause-few g c =
    let few = few_undropped c.self.invariant in
    let same = ap (λ t. t.next) c.self.view_is in
    let long = ap length c.log_each.ensures.log ∙ length-logged (mark_event c.args.cancels) c.args.log.now.items (undropped_numbers c.self.inside.queues.slots) in
    omega arith
