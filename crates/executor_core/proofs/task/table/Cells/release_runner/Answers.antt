use Rattle.std.proofs.Common.{◌≡◌, Bool, true, false, cond, refl}
use Rattle.std.specs.Prelude.{◌-◌}
use Rattle.executor_core.specs.Cells.View.{table_of}
use Rattle.executor_core.specs.Queues.{is_registered}
use Rattle.executor_core.specs.Queues.Slots.{QueuedSlots, with_state}
use Rattle.executor_core.proofs.QueueLemmas.{is_registered-map}
use Rattle.executor_core.proofs.task.table.Cells.release_runner.Goals as goal

ap_cond : {A B : Type 0} (f : A → B) (b : Bool) (x y : A) → f (cond b x y) ≡ cond b (f x) (f y)
ap_cond f true x y = refl
ap_cond f false x y = refl

pub returns : goal.returns
returns g c =
    let q = c.self.inside.queues.state in
    let released = with_state (record q { free_places = q.free_places - 1 }) c.self.inside.queues in
    let seen = λ (s : QueuedSlots g.row.P.Denot g.row.T.Denot g.row.W.Denot). table_of c.self.inside.next s.slots s.state c.self.inside.closed in
    rw (c.release_runner.ensures.places, ← c.self.view_is, is_registered-map (λ id. id.number) c.args.key.number q.lists.locals) (ap_cond seen (is_registered c.args.key.number q.lists.locals) c.self.inside.queues released)

pub invariant_of-self : goal.invariant_of-self
invariant_of-self g c = rw (c.release_runner.ensures.slots, c.release_runner.ensures.lists) c.self.invariant
