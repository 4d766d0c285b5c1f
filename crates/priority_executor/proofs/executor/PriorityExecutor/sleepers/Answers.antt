use Rattle.std.proofs.Common.{◌≡◌, ◌∙◌, ◌<◌, ◌++◌, ◌∷◌, [], None, ap, arith, get_or, length, sym}
use Rattle.std.specs.Prelude.{map, take}
use Rattle.std.proofs.lemmas.List.{map_push, take_more}
use Rattle.std.proofs.lemmas.List.Elements.{All-push}
use Rattle.priority_executor.proofs.executor.PriorityExecutor.sleepers.Goals as goal

pub loop-level-preserved : goal.loop-level-preserved
loop-level-preserved g c =
    let inv = c.loop-level.invariant in
    let levels = c.args.self.now.levels.items in
    let at = c.loop-level.level-index in
    let level = c.level-item.result in
    let sleeper = c.in_ok-sleeper.sleeper in
    let found : level ≡ get_or levels at level = c.level-item.is ∙ ap (λ l. get_or l at level) c.deref-level-items.ensures.value in
    let inside : at < length levels = grind (arith, c.loop-level-test.true, c.deref-level-items.ensures.len, c.deref-level-items.ensures.value) in (
      omega (arith, inv.0, c.push_reserved.ensures.len),
      c.push_reserved.ensures.capacity ∙ inv.1,
      rw c.push_reserved.ensures.items (All-push (λ s. s.inner.number ≡ None) c.loop-level.levels.items sleeper inv.2 c.in_ok-sleeper.ensures.awake),
      rw c.push_reserved.ensures.items (
          map_push (λ s. s.inner.executor.now) c.loop-level.levels.items sleeper
          ∙ ap (λ xs. xs ++ sleeper.inner.executor.now ∷ []) inv.3
          ∙ ap (λ x. map (λ l. l.inner) (take at levels) ++ x ∷ []) (c.in_ok-sleeper.ensures.own ∙ ap (λ l. l.inner) found)
          ∙ sym (ap (map (λ l. l.inner)) (take_more levels at level inside) ∙ map_push (λ l. l.inner) (take at levels) (get_or levels at level))),
    )
