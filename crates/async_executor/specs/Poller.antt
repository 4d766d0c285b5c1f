-- What a poller of one task answers.
use Rattle.std.specs.Prelude.{◌≡◌, None}
use Rattle.executor_core.specs.declared.task.polling.Polled.{Polled}
use Rattle.executor_core.specs.declared.task.polling.Polled.TheVariants.{Pending, Ready}
use Rattle.executor_core.specs.declared.task.cell.TaskId.{TaskId}
use Rattle.async_executor.specs.declared.poller.TaskPoller.{TaskPoller}

module _ {T : Type 0} where
  -- no future is polled, so none gives an output
  abbrev pub Unanswered : Polled (Unit {0}) T → Type 0
  Unanswered (Pending unit) = Unit {0}
  Unanswered (Ready output) = ⊥

module _ {F W R T : Type 0} where
  -- it gives the output of its own task alone
  abbrev pub AnswersOwn : TaskPoller F W R T → TaskId → Polled (Unit {0}) T → Type 0
  AnswersOwn poller id (Pending unit) = Unit {0}
  AnswersOwn poller id (Ready output) = id ≡ poller.id

  -- a disposal leaves no future of its own task
  abbrev pub DisposesOwn : TaskPoller F W R T → TaskId → TaskPoller F W R T → Type 0
  DisposesOwn poller id after = id ≡ poller.id → after.out.now ≡ None
