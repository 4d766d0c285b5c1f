use Rattle.std.proofs.Common.{◌≡◌, length, sym, ap, ◌∙◌, arith}
use Rattle.std.proofs.lemmas.List.{nil_from_length}
use Rattle.std.specs.Prelude.{is_some}
use Rattle.executor_core.proofs.LookLemmas.{any_by_locals}
use Rattle.executor_core.proofs.queue.queues.Queues.has_queued.Goals as goal

pub returns-else-global_len-gt0 : goal.returns-else-global_len-gt0
returns-else-global_len-gt0 g c =
    let q = c.args.self.now.state.lists in
    let none : length q.global ≡ 0 = omega (arith, c.if-global_len-gt0.false, c.global_len.ensures) in
    c.is_some.ensures ∙ ap is_some c.first_occupied.ensures ∙ sym (any_by_locals q (nil_from_length q.global none))
