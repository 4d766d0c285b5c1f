use Rattle.std.proofs.Common.{◌≡◌, ℕ, ◌+◌, false, subst}
use Rattle.std.proofs.lemmas.Bool.{lt-ltb}
use Rattle.std.specs.Prelude.{suc, ◌%◌, ◌==◌}
use Rattle.async_executor.specs.Runs.Counts.{IsCountOf}
use Rattle.async_executor.proofs.Fairs.{counts_more}
use Rattle.async_executor.proofs.machine.run_steps.Count.one_more.Goals as goal

pub returns-then-counted-self-clause-each : goal.returns-then-counted-self-clause-each
returns-then-counted-self-clause-each c =
    subst (λ s. (n : ℕ) → IsCountOf s.limit n s → ((c.self.inside.limit ≡ s.limit) × (c.self.inside.counted + 1 ≡ suc n % s.limit)) × (false ≡ (suc n % s.limit == 0))) c.self.view_is
    (counts_more (record { counted = c.self.inside.counted; limit = c.self.inside.limit }) (lt-ltb _ _ c.if-counted-self.true))
