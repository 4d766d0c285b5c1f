-- How `QueuedSlots` are coded.
use Rattle.std.specs.Prelude.{List, Option, refl}
use Rattle.std.specs.Coded.{Coded, code_by, coded×, coded_list, coded_option}
use Rattle.executor_core.specs.Queues.Slots.{QueuedSlots}
use Rattle.executor_core.specs.Queues.State.{QueueState, queue_state_code}
use Rattle.executor_core.specs.Slots.{numbered_code}
use Rattle.executor_core.specs.declared.task.cell.Cell.{Cell}
use Rattle.executor_core.specs.declared.task.cell.Numbered.{Numbered}

abbrev pub queued_slots_code : {P T W : Type 0} → Coded P → Coded T → Coded W → Coded (QueuedSlots P T W)
queued_slots_code {P} {T} {W} p t w =
    code_by
    (List (Option (Numbered (Cell P T W))) × QueueState)
    (coded× (coded_list (coded_option (numbered_code p t w))) queue_state_code)
    (λ s. (s.slots, s.state))
    (λ q. record { slots = q.0; state = q.1 })
    (λ _. refl)
