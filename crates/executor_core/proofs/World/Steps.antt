-- What a step leaves, and what it is: refused, or done.
use Rattle.std.proofs.Common.{◌≡◌, ◌≢◌, ℕ, ◌+◌, ◌<◌, ◌≤◌, ◌⊎◌, inl, inr, Bool, true, false, cond, List, length, Option, refl, sym, ap, subst, ◌∙◌, arith}
use Rattle.std.proofs.lemmas.Bool.{false≢true}
use Rattle.executor_core.specs.Cells.{Table}
use Rattle.executor_core.specs.Queues.{local_entries}
use Rattle.executor_core.specs.Ring.{IdRing}
use Rattle.executor_core.specs.World.{Execution}
use Rattle.executor_core.specs.World.Agreement.{Agree}
use Rattle.executor_core.specs.World.AllPromises.{KeepsPromises}
use Rattle.executor_core.specs.World.Closing.{AllMarked}
use Rattle.executor_core.specs.World.Promises.{OnePlace, all_queues}
use Rattle.executor_core.specs.World.Steps.{row, enabled, Does, StepTo}
use Rattle.std.specs.Vec.{vec_capacity}
use Rattle.executor_core.specs.World.View.{execution_of, IsWorld}
use Rattle.executor_core.proofs.World.Agreement.{few_polls}
use Rattle.executor_core.proofs.World.Closing.{closing_kept}
use Rattle.executor_core.proofs.World.Entries.{length-infos}
use Rattle.executor_core.proofs.World.Notices.{StayEmpty, same_queues, notices_again}
use Rattle.executor_core.proofs.World.Room.{room_again}
use Rattle.executor_core.proofs.World.Runners.{fixed_part, same_locals, same_closed, runners_same}
use Rattle.executor_core.specs.World.Entries.{infos}
use Rattle.executor_core.specs.declared.plain_core.Core.{Core}
use Rattle.executor_core.specs.declared.interleave.World.TheInside.{Inside}
use Rattle.executor_core.specs.declared.interleave.entry.TaskEntry.{TaskEntry}
use Rattle.executor_core.specs.declared.interleave.event.Event.{Event}
use Rattle.executor_core.specs.declared.interleave.request.Step.{Step}
use Rattle.executor_core.specs.declared.interleave.reply.Reply.{Reply}
use Rattle.executor_core.specs.declared.interleave.reply.Reply.TheVariants as reply

module _ {P T : Type 0} where
  -- the world after a step, by its parts
  abbrev pub stepped : Inside P T → ℕ → Core P T (Unit {0}) → List (Event T) → List (TaskEntry P) → ℕ → ℕ → Execution T
  stepped a accepted core log entries notices picks = record { log = log; accepted = accepted; limit = a.limit; local = a.local; global = core.cells.global; locals = core.cells.locals; notices = notices; picks = picks; flag = core.flag; sleepers = core.sleepers; tasks = infos entries; tickers = a.tickers.items; holder = a.holder; closed = core.cells.closed; leaked = a.leaked }

  -- what a step left fits together, and is what its row says
  pub record Done (later : Execution T) (table : Table P T (Unit {0})) (entries : List (TaskEntry P)) (rings : List (Option IdRing)) (room : ℕ) (r : Reply T × Execution T) (answer : Reply T) : Type 0 where
    pub sound : IsWorld later table entries rings room
    pub does : row r answer later

-- a step that leaves the flag, the sleepers and the picks as they are, with a notice if it queues a task
module _ {P T : Type 0} (a : Inside P T) (sound : IsWorld (execution_of a) a.core.cells a.entries.items a.rings.items (vec_capacity a.log)) {w : Execution T} (view : execution_of a ≡ w) (far : w.accepted ≢ w.limit) where
  pub stepped_sound : (queues : Bool) (table : Table P T (Unit {0})) (log : List (Event T)) (entries : List (TaskEntry P)) → (queues ≡ false → table.global ≡ a.core.cells.global) → fixed_part table ≡ fixed_part a.core.cells → length entries ≤ length a.entries.items + 1 → length log ≤ length a.log.items + 2 → Agree table log entries → (a.core.cells.closed ≡ true → AllMarked a.log.items → AllMarked log)
      → IsWorld (stepped a (a.accepted + 1) (record a.core { cells = table }) log entries (cond queues (a.notices + 1) a.notices) a.picks) table entries a.rings.items (vec_capacity a.log)
  stepped_sound queues table log entries same runners tasks events agree marks =
      record {
        agree = agree;
        notices = notices_again sound.notices refl refl refl refl refl (noticed queues same);
        tickers = sound.tickers;
        runners = runners_same sound.runners runners;
        closing = λ on.
            let was = sym (same_closed runners) ∙ on in
            let closed = sound.closing was in
            record { over = closed.over; emptied = ap local_entries (same_locals runners) ∙ closed.emptied; marked = marks was closed.marked };
        room = room_again sound.room view far _ refl refl (let more = one_more queues in omega arith) (let before = length-infos a.entries.items in let after = length-infos entries in omega arith) events (omega arith) (same_closed runners) refl;
      }
    where
      noticed : (q : Bool) → (q ≡ false → table.global ≡ a.core.cells.global) → (0 < cond q (a.notices + 1) a.notices) ⊎ (StayEmpty (execution_of a) (stepped a (a.accepted + 1) (record a.core { cells = table }) log entries (cond q (a.notices + 1) a.notices) a.picks) × (cond q (a.notices + 1) a.notices ≡ a.notices))
      noticed true same = inl (omega arith)
      noticed false same = inr (same_queues (same refl) (same_locals runners), refl)

      one_more : (q : Bool) → cond q (a.notices + 1) a.notices ≤ a.notices + 1
      one_more true = omega arith
      one_more false = omega arith

-- what holds of every world
pub promises : {P T : Type 0} {w : Execution T} {table : Table P T (Unit {0})} {entries : List (TaskEntry P)} {rings : List (Option IdRing)} {room : ℕ} → IsWorld w table entries rings room → OnePlace w.log (all_queues w) → KeepsPromises w
promises {w = w} sound one = record { one_place = one; in_order = sound.agree.order; few_polls = few_polls sound.agree; no_notice_lost = sound.notices; tickers = sound.tickers; closing = λ on. closing_kept sound.agree one (sound.closing on) }

module _ {P T : Type 0} (step : Step P T) (old : Execution T) where
  pub step_full : old.accepted ≡ old.limit → StepTo old step reply.LogFull old
  step_full full = record { full = λ _. (refl, refl); not_now = λ far _. absurd (far full); done = λ far _. absurd (far full) }

  pub step_not_now : old.accepted ≢ old.limit → enabled step old ≡ false → StepTo old step reply.NotNow old
  step_not_now far off = record { full = λ full. absurd (far full); not_now = λ _ _. (refl, refl); done = λ _ on. absurd (false≢true (sym off ∙ on)) }

  pub step_done : (answer : Reply T) (new : Execution T) → old.accepted ≢ old.limit → enabled step old ≡ true → Does step old answer new → StepTo old step answer new
  step_done answer new far on does = grind arith

  pub step_enabled : {arm : Step P T} → step ≡ arm → enabled step old ≡ true → enabled arm old ≡ true
  step_enabled is on = subst (λ s. enabled s old ≡ true) is on

  pub step_does : (arm : Step P T) → step ≡ arm → (answer : Reply T) (new : Execution T) → Does arm old answer new → Does step old answer new
  step_does arm is answer new does = subst (λ s. Does s old answer new) (sym is) does
