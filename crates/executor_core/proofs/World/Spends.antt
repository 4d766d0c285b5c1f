-- A notice or a pick is spent.
use Rattle.std.proofs.Common.{◌≡◌, ◌≢◌, ℕ, zero, suc, ◌+◌, ◌-◌, ◌<◌, ◌≤◌, Bool, true, false, not, ◌&&◌, cond, List, [], ◌∷◌, length, Option, None, is_some, refl, sym, ap, ◌∙◌, arith}
use Rattle.std.proofs.lemmas.Bool.{and_parts, ltb-true, not-true}
use Rattle.std.specs.Prelude.{nat_lt, slice_get, option_map}
use Rattle.std.specs.Map.{keys_of}
use Rattle.std.specs.Vec.{vec_capacity}
use Rattle.executor_core.specs.Sleepers.{SleeperLaw}
use Rattle.executor_core.specs.Sleepers.Calls.{last_of, all_unnotified, after_notify, notify_answer}
use Rattle.executor_core.specs.World.{Execution}
use Rattle.executor_core.specs.World.Promises.{floating_notices}
use Rattle.executor_core.specs.World.Steps.{pick_reply, exchange_row, notify_reply, sleeper_reply, notify_row}
use Rattle.executor_core.specs.World.View.{execution_of, IsWorld}
use Rattle.executor_core.proofs.SleeperPairLemmas.{length-keys}
use Rattle.executor_core.proofs.World.Notices.{notices_exchanged, notices_notified}
use Rattle.executor_core.proofs.World.Room.{room_again}
use Rattle.executor_core.proofs.World.Steps.{stepped, Done}
use Rattle.executor_core.proofs.World.Tickers.{tied_notified}
use Rattle.executor_core.specs.declared.plain_core.Core.{Core}
use Rattle.executor_core.specs.declared.task.values.Wakeup.{Wakeup}
use Rattle.executor_core.specs.declared.interleave.World.TheInside.{Inside}
use Rattle.executor_core.specs.declared.interleave.reply.Reply.{Reply}
use Rattle.executor_core.specs.declared.interleave.reply.Reply.TheVariants as reply

-- a list of pairs and that of their numbers are as long
is_some-keys : {W : Type 0} (pairs : List (ℕ × W)) (at : ℕ) → is_some (slice_get pairs at) ≡ is_some (slice_get (keys_of pairs) at)
is_some-keys [] at = refl
is_some-keys (p ∷ ps) zero = refl
is_some-keys (p ∷ ps) (suc at) = is_some-keys ps at

is_some-last : {W : Type 0} (pairs : List (ℕ × W)) → is_some (last_of pairs) ≡ is_some (last_of (keys_of pairs))
is_some-last pairs = is_some-keys pairs (length pairs - 1) ∙ ap (λ k. is_some (slice_get (keys_of pairs) (k - 1))) (sym (length-keys pairs))

is_some-map : {A B : Type 0} (f : A → B) (o : Option A) → is_some (option_map f o) ≡ is_some o
is_some-map f o = grind arith

abbrev woken_up : ℕ × Unit {0} → Wakeup (Unit {0})
woken_up p = record { waker = p.1 }

reply_of_last : {T : Type 0} (last : Option ℕ) → sleeper_reply {T = T} (is_some last) last ≡ notify_reply last
reply_of_last last = grind arith

module _ {P T : Type 0} (a : Inside P T) (sound : IsWorld (execution_of a) a.core.cells a.entries.items a.rings.items (vec_capacity a.log)) {w : Execution T} (view : execution_of a ≡ w) (far : w.accepted ≢ w.limit) where
  pub exchange_done : 0 < floating_notices w → {core : Core P T (Unit {0})} → core ≡ record a.core { flag = true } → {picked kept : Bool} → picked ≡ not a.core.flag → {picks : ℕ} → picks ≡ cond picked (a.picks + 1) a.picks → kept ≡ picked → {answer : Reply T} → answer ≡ pick_reply kept
      → Done (stepped a (a.accepted + 1) core a.log.items a.entries.items (a.notices - 1) picks) core.cells a.entries.items a.rings.items (vec_capacity a.log) (exchange_row w) answer
  exchange_done floats core_is picked_is picks_is keeps answers =
      let far = rw (← view) at far in
      let floats = rw (← view) at floats in
      rw (← view, core_is, answers, keeps, picks_is, picked_is) (record {
        sound = record {
          agree = sound.agree;
          notices = notices_exchanged sound.notices refl refl refl refl;
          tickers = sound.tickers;
          runners = sound.runners;
          room = room_again sound.room refl far _ refl refl (let less = fewer (not a.core.flag) a.picks a.notices floats in omega arith) (omega arith) (omega arith) (omega arith) refl refl;
          closing = λ on. let closed = sound.closing on in record { over = closed.over; emptied = closed.emptied; marked = closed.marked };
        };
        does = (refl, refl);
      })
    where
      fewer : (b : Bool) (picks notices : ℕ) → 0 < notices → cond b (picks + 1) picks + (notices - 1) ≤ picks + notices + 1
      fewer true picks notices h = omega arith
      fewer false picks notices h = omega arith

  -- nobody holds the sleepers' lock, so the list is closed
  pub list_closed : (b : Bool) → b && not (is_some w.holder) ≡ true → a.core.sleepers.is_open ≡ false
  list_closed b enabled = grind (arith, and_parts, not-true)

  pub notify_done : (nat_lt 0 w.picks && not (is_some w.holder)) ≡ true → SleeperLaw a.core.sleepers → {core : Core P T (Unit {0})} → core ≡ record a.core { sleepers = after_notify a.core.sleepers } → {last : Option ℕ} → last ≡ last_of (keys_of a.core.sleepers.unnotified)
      → {wakeup : Option (Wakeup (Unit {0}))} → wakeup ≡ notify_answer a.core.sleepers → {notified : Bool} → notified ≡ is_some wakeup → {answer : Reply T} → answer ≡ sleeper_reply notified last
      → Done (stepped a (a.accepted + 1) core a.log.items a.entries.items a.notices (a.picks - 1)) core.cells a.entries.items a.rings.items (vec_capacity a.log) (notify_row w) answer
  notify_done out lawful core_is last_is wakeup_is notified_is answers =
      let far = rw (← view) at far in
      let out = rw (← view) at out in
      let free = and_parts (nat_lt 0 a.picks) (not (is_some a.holder)) out in
      let some = ltb-true 0 a.picks free.0 in
      rw (← view, core_is, answers, notified_is, wakeup_is, last_is) (record {
        sound = record {
          agree = sound.agree;
          notices = notices_notified sound.notices lawful refl;
          tickers = record { tied = tied_notified sound.tickers.tied; stores = sound.tickers.stores; opened = sound.tickers.opened };
          runners = sound.runners;
          room = room_again sound.room refl far _ refl refl (omega arith) (omega arith) (omega arith) (omega arith) refl refl;
          closing = λ on. let closed = sound.closing on in record { over = closed.over; emptied = closed.emptied; marked = closed.marked };
        };
        does = (by_list (all_unnotified a.core.sleepers), refl);
      })
    where
      by_list : (all : Bool) → sleeper_reply {T = T} (is_some (cond all (option_map woken_up (last_of a.core.sleepers.unnotified)) None)) (last_of (keys_of a.core.sleepers.unnotified)) ≡ cond all (notify_reply (last_of (keys_of a.core.sleepers.unnotified))) reply.Nobody
      by_list true =
          ap (λ b. sleeper_reply {T = T} b (last_of (keys_of a.core.sleepers.unnotified))) (is_some-map woken_up (last_of a.core.sleepers.unnotified) ∙ is_some-last a.core.sleepers.unnotified)
          ∙ reply_of_last (last_of (keys_of a.core.sleepers.unnotified))
      by_list false = refl
