use Rattle.std.proofs.Common.{◌≡◌, ◌≢◌, subst, sym, ◌∙◌}
use Rattle.executor_core.proofs.World.Steps.{step_full, step_not_now, step_done}
use Rattle.executor_core.proofs.interleave.World.take_step.Goals as goal

pub returns-then-self : goal.returns-then-self
returns-then-self g c = step_full _ _ (subst (λ w. w.accepted ≡ w.limit) c.self.view_is c.if-self.true)

pub returns-then-not-is_enabled : goal.returns-then-not-is_enabled
returns-then-not-is_enabled g c = step_not_now _ _ (subst (λ w. w.accepted ≢ w.limit) c.self.view_is c.if-self.false) (sym c.is_enabled.ensures ∙ c.if-not-is_enabled.true)

pub make_step-requires : goal.make_step-requires
make_step-requires g c = record { room = subst (λ w. w.accepted ≢ w.limit) c.self.view_is c.if-self.false; enabled = sym c.is_enabled.ensures ∙ c.if-not-is_enabled.false }

pub returns : goal.returns
returns g c =
    step_done _ _ c.make_step.result c.make_step.new.self (subst (λ w. w.accepted ≢ w.limit) c.self.view_is c.if-self.false) (sym c.is_enabled.ensures ∙ c.if-not-is_enabled.false) c.make_step.ensures
