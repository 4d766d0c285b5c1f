use Rattle.std.proofs.Common.{◌++◌, ◌∷◌, [], refl, sym, ap, ◌∙◌, append-nil, arith}
use Rattle.std.specs.Vec.{vec_capacity}
use Rattle.executor_core.specs.World.Steps.{mark_event}
use Rattle.executor_core.proofs.WalkLemmas.{logged_kept, logged_pushed, room_logged, logged_all}
use Rattle.executor_core.proofs.interleave.steps.closing.log_each.Goals.{in-Some, in_default}
use Rattle.executor_core.proofs.interleave.steps.closing.log_each.Goals as goal

pub loop-slot-init : goal.loop-slot-init
loop-slot-init g c = (sym (append-nil c.args.log.now.items), refl, c.capacity-slot-end.ensures)

pub push_reserved-requires : goal.push_reserved-requires
push_reserved-requires g c =
    let at = c.loop-slot.invariant in
    let room = room_logged (mark_event c.args.cancels) c.args.queues.now.slots c.args.log.now.items c.loop-slot.slot c.undropped_in.ensures c.in-Some.is at.0 c.loop-slot.log.ok.0 c.requires in
    let same = at.1 in
    omega arith

pub loop-slot-preserved : goal.loop-slot-preserved
loop-slot-preserved g c =
    let at = c.loop-slot.invariant in
    let slots = c.args.queues.now.slots in
    let old = c.args.log.now.items in
    let found = c.undropped_in.ensures in
    elim c.match-undropped_in.branch [
      | in-Some w ↦ (
        ap (λ l. l.items) w.log-is ∙ w.push_reserved.ensures.items ∙ ap (λ e. c.loop-slot.log.items ++ e ∷ []) w.mark_event.ensures ∙ ap (λ l. l ++ mark_event c.args.cancels w.in-Some.number ∷ []) at.0 ∙ sym (logged_pushed (mark_event c.args.cancels) slots old c.loop-slot.slot found w.in-Some.is),
        ap vec_capacity w.log-is ∙ w.push_reserved.ensures.capacity ∙ at.1,
        at.2,
      )
      | in_default w ↦ (
        ap (λ l. l.items) w.log-is ∙ at.0 ∙ sym (logged_kept (mark_event c.args.cancels) slots old c.loop-slot.slot found w.in_default.is),
        ap vec_capacity w.log-is ∙ at.1,
        at.2,
      )
    ]

pub returns-clause-log : goal.returns-clause-log
returns-clause-log g c =
    let at = c.loop-slot.invariant in
    at.0 ∙ logged_all (mark_event c.args.cancels) c.args.queues.now.slots c.args.log.now.items c.loop-slot.slot (let long = at.2 in let end = c.loop-slot-test.false in omega arith)
