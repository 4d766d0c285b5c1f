use Rattle.std.proofs.Common.{◌≡◌, ◌∙◌, arith, rules}
use Rattle.std.proofs.lemmas.List.Elements.{All-push}
use Rattle.sharded_executor.proofs.executor.shards.Goals as goal

pub loop-made-preserved : goal.loop-made-preserved
loop-made-preserved g c =
    let inv = c.loop-made.invariant in (
      omega (arith, inv.0, c.push_reserved.ensures.len),
      c.push_reserved.ensures.capacity ∙ inv.1,
      rw c.push_reserved.ensures.items (All-push (λ shard. shard.inner.limits ≡ c.args.limits) c.loop-made.shards.items c.in-Ok.shard inv.2 c.in-Ok.ensures.ok),
    )

pub loop-made-init : goal.loop-made-init
loop-made-init g c = (c.in_ok-shards.ensures.len, search rules, search rules)
