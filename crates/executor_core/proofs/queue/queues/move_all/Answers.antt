use Rattle.std.proofs.Common.{◌+◌, ◌<◌, ◌++◌, length, map, get_or, append-nil, append_assoc, sym, ap, subst, ◌∙◌, arith}
use Rattle.std.proofs.lemmas.Option.{slice_get-get_or}
use Rattle.std.proofs.lemmas.List.{length-map, length-append}
use Rattle.executor_core.specs.Queues.View.{local_of}
use Rattle.executor_core.specs.Slots.{IsQueue, with_queue}
use Rattle.executor_core.proofs.LinkLemmas.{prefix_queue}
use Rattle.executor_core.proofs.GatherLemmas.{entries_below, emptied_below-start, emptied_below-all, entries_below-start, entries_below-all, entries_parts, next_locals, next_queued}
use Rattle.executor_core.proofs.queue.queues.move_all.Goals as goal

pub loop-position-init : goal.loop-position-init
loop-position-init g c =
    let first = map local_of c.args.locals.now in (
      sym (emptied_below-start first),
      sym (ap (λ ids. with_queue (c.args.slots.now.queue ++ ids) c.args.slots.now) (entries_below-start first) ∙ ap (λ ids. with_queue ids c.args.slots.now) (append-nil c.args.slots.now.queue)),
    )

pub append-requires-clause-queue : goal.append-requires-clause-queue
append-requires-clause-queue g c =
    let at = c.loop-position in
    let first = map local_of c.args.locals.now in
    let queue = c.args.slots.now.queue in
    let within : at.position < length at.locals = omega arith in
    let there = slice_get-get_or at.locals at.position c.index-locals-position.result within in
    let parts = entries_parts (at.position + 1) first in
    let whole = ap (λ l. queue ++ l) parts.1 ∙ sym (append_assoc queue (entries_below (at.position + 1) first) parts.0) in
    rw (at.invariant.1, next_queued at.position first at.locals _ at.invariant.0 there queue)
    (prefix_queue c.args.slots.now.slots (queue ++ entries_below (at.position + 1) first) parts.0 (subst (IsQueue c.args.slots.now.slots) whole c.requires.queue))

pub append-requires-clause-counted : goal.append-requires-clause-counted
append-requires-clause-counted g c =
    let at = c.loop-position in
    let first = map local_of c.args.locals.now in
    let queue = c.args.slots.now.queue in
    let l = get_or at.locals at.position c.index-locals-position.result in
    let within : at.position < length at.locals = omega arith in
    let there = slice_get-get_or at.locals at.position c.index-locals-position.result within in
    let parts = entries_parts (at.position + 1) first in
    let next = ap length (next_queued at.position first at.locals l at.invariant.0 there queue) ∙ length-append queue (entries_below (at.position + 1) first) in
    let now = ap (λ s. length s.queue) at.invariant.1 in
    let both = length-append (queue ++ entries_below at.position first) l.ring.ids in
    let all = ap length parts.1 ∙ length-append (entries_below (at.position + 1) first) parts.0 in
    let room = c.requires.counted in
    omega arith

pub loop-position-preserved : goal.loop-position-preserved
loop-position-preserved g c =
    let at = c.loop-position in
    let first = map local_of c.args.locals.now in
    let queue = c.args.slots.now.queue in
    let l = get_or at.locals at.position c.index-locals-position.result in
    let within : at.position < length at.locals = omega arith in
    let there = slice_get-get_or at.locals at.position c.index-locals-position.result within in (
      next_locals at.position first at.locals l at.invariant.0 there c.append.ensures.ring,
      c.append.ensures.queue ∙ ap (λ s. with_queue (s.queue ++ l.ring.ids) s) at.invariant.1 ∙ ap (λ ids. with_queue ids c.args.slots.now) (next_queued at.position first at.locals l at.invariant.0 there queue),
    )

pub returns-clause-locals : goal.returns-clause-locals
returns-clause-locals g c =
    let at = c.loop-position in
    let first = map local_of c.args.locals.now in
    let same = length-map c.args.locals.now local_of in
    at.invariant.0 ∙ emptied_below-all at.position first (omega arith)

pub returns-clause-queue : goal.returns-clause-queue
returns-clause-queue g c =
    let at = c.loop-position in
    let first = map local_of c.args.locals.now in
    let same = length-map c.args.locals.now local_of in
    at.invariant.1 ∙ ap (λ ids. with_queue (c.args.slots.now.queue ++ ids) c.args.slots.now) (entries_below-all at.position first (omega arith))
