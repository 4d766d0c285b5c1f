use Rattle.std.proofs.Common.{◌<◌, ◌≤◌, ◌++◌, ◌∷◌, [], length, map, take, sym, ap, ◌∙◌, arith}
use Rattle.std.proofs.lemmas.List.{append_assoc}
use Rattle.std.proofs.Math.Nat.{min-le_left, min-le_right}
use Rattle.async_executor.proofs.Counts.{map_one_more, is_some_within, length_between}
use Rattle.async_executor.proofs.debug.queue_lens.QueueLens.of.Goals as goal
use Rattle.async_executor.proofs.debug.queue_lens.QueueLens.of.Goals.{in-Some, in_default}

pub push-requires : goal.push-requires
push-requires g c =
    let locals = c.args.cells.now.locals in
    let r = c.loop-r.r in
    let runners = min-le_left c.runners.result c.saturating_add.result in
    let room = min-le_right c.runners.result c.saturating_add.result in
    let within : r ≤ length locals = omega (arith, c.loop-r-test.true, c.min-r-end.ensures, c.runners.ensures, runners) in
    let count = length_between (λ q. length q.entries) locals c.loop-r.lens c.args.first r c.loop-r.invariant c.loop-r.auto.r within in
    omega (arith, count, c.loop-r-test.true, c.min-r-end.ensures, c.saturating_add.ensures, room)

pub loop-r-preserved : goal.loop-r-preserved
loop-r-preserved g c =
    let locals = c.args.cells.now.locals in
    let r = c.loop-r.r in
    let before = map (λ q. length q.entries) (take c.args.first locals) in
    elim c.match-local_len.branch [
      | in-Some w ↦
          let more = map_one_more (λ q. length q.entries) locals r w.in-Some.len (sym w.in-Some.is ∙ c.local_len.ensures) in
          ap (λ lens. before ++ lens) (w.lens-is ∙ w.push.ensures)
          ∙ sym (append_assoc before c.loop-r.lens (w.in-Some.len ∷ []))
          ∙ ap (λ xs. xs ++ w.in-Some.len ∷ []) c.loop-r.invariant
          ∙ sym more
      | in_default w ↦
          let runners = min-le_left c.runners.result c.saturating_add.result in
          let within : r < length locals = omega (arith, c.loop-r-test.true, c.min-r-end.ensures, c.runners.ensures, runners) in
          absurd (is_some_within (λ q. length q.entries) locals r (sym w.in_default.is ∙ c.local_len.ensures) within)
    ]
