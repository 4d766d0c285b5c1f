-- What becomes of a taken task.
use Rattle.std.specs.Prelude.{◌≡◌, true, false, Option, Some, None}
use Rattle.executor_core.specs.declared.task.polling.Polled.{Polled}
use Rattle.executor_core.specs.declared.task.polling.Polled.TheVariants as polled
use Rattle.executor_core.specs.declared.task.polling.Ran.{Ran}
use Rattle.executor_core.specs.declared.task.polling.Ran.TheVariants.{Pending, Ready, Dropped}
use Rattle.executor_core.specs.declared.task.polling.Taken.{Taken}

module _ {P T : Type 0} where
  -- the task's own Held comes back, to drop if and only if the task was cancelled
  abbrev pub RanFrom : Taken P → Ran P T → Type 0
  RanFrom task (Pending held p) = (task.cancelled ≡ false) × (held ≡ record { id = task.id; to_drop = false })
  RanFrom task (Ready held t) = (task.cancelled ≡ false) × (held ≡ record { id = task.id; to_drop = false })
  RanFrom task (Dropped held) = (task.cancelled ≡ true) × (held ≡ record { id = task.id; to_drop = true })

  -- what came back is what the poller answered
  abbrev pub AnsweredBy : (Polled P T → Type 0) → Ran P T → Type 0
  AnsweredBy answers (Pending held p) = answers (polled.Pending p)
  AnsweredBy answers (Ready held t) = answers (polled.Ready t)
  AnsweredBy answers (Dropped held) = Unit {0}

  -- the output that a poll answered
  abbrev pub polled_output : Polled P T → Option T
  polled_output (polled.Pending p) = None
  polled_output (polled.Ready t) = Some t
