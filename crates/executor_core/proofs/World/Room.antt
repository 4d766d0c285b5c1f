-- There is room for what the steps to come add.
use Rattle.std.proofs.Common.{◌≡◌, ◌≢◌, ℕ, ◌+◌, ◌<◌, ◌≤◌, Fits, w32, Bool, true, false, cond, List, [], ◌∷◌, ◌++◌, length, ap, arith}
use Rattle.std.specs.Prelude.{Result, OnOk, OnErr, is_err}
use Rattle.executor_core.specs.World.{Execution}
use Rattle.executor_core.specs.declared.interleave.event.Event.{Event}
use Rattle.executor_core.specs.World.Promises.{notices_out}
use Rattle.executor_core.specs.World.View.{HasRoom}
use Rattle.executor_core.proofs.ListLemmas.{length-push}

-- an event at most was logged
pub length-push_if : {E : Type 0} (b : Bool) (log : List E) (e : E) → length (cond b (log ++ e ∷ []) log) ≤ length log + 1
length-push_if b log e = grind (arith, length-push)

module _ {T : Type 0} {w : Execution T} {room : ℕ} (has : HasRoom w room) where
  -- one notice or pick more can be counted
  pub notice_fits : w.notices < 4294967295
  notice_fits = let h1 = has.within in let h2 = has.bounded in let h3 = has.few_unspent in omega arith

  pub pick_fits : w.picks < 4294967295
  pick_fits = let h1 = has.within in let h2 = has.bounded in let h3 = has.few_unspent in omega arith

  -- the notices that are out can be counted
  pub notices_fit : {v : Execution T} → w ≡ v → (n : ℕ) → n ≤ notices_out v → Fits w32 n
  notices_fit view n most = let h1 = has.within in let h2 = has.bounded in let h3 = has.few_unspent in let h4 = ap notices_out view in omega arith

  module _ {v : Execution T} (view : w ≡ v) (far : v.accepted ≢ v.limit) where
    is_below : w.accepted + 1 ≤ w.limit
    is_below = let h = has.within in let other : w.accepted ≢ w.limit = rw (← view) at far in omega arith

    -- one step more can be counted
    pub step_fits : w.accepted < 4294967295
    step_fits = let h1 = is_below in let h2 = has.bounded in omega arith

    pub count_fits : Fits w32 (w.accepted + 1)
    count_fits = let h1 = is_below in let h2 = has.bounded in omega arith

    -- one event can be logged, and another one after it
    pub event_fits : {count : ℕ} → count ≡ length w.log → count < room
    event_fits is = let h1 = is_below in let h2 = has.few_events in let h3 = has.enough in omega arith

    pub second_fits : (e : Event T) (b : Bool) {log : List (Event T)} → log ≡ cond b (w.log ++ e ∷ []) w.log → {capacity : ℕ} → capacity ≡ room → {count : ℕ} → count ≡ length log → count < capacity
    second_fits e b log_is same is = grind (arith, is_below, length-push_if)

    -- a step leaves one thing more to be spent, one task and one ticker more and two events more, at most
    pub room_again : (u : Execution T) → u.accepted ≡ w.accepted + 1 → u.limit ≡ w.limit → u.picks + notices_out u ≤ w.picks + notices_out w + 1 → length u.tasks ≤ length w.tasks + 1 → length u.log ≤ length w.log + 2 → length u.tickers ≤ length w.tickers + 1 → u.closed ≡ w.closed → u.leaked ≡ w.leaked → HasRoom u room
    room_again u counted same unspent tasks events tickers closed leaked = grind (arith, is_below)

-- one item more fits if a place for it was reserved
pub reserved_fits : {A E : Type 0} (r : Result A E) {count capacity : ℕ} → OnOk r (count + 1 ≤ capacity) → is_err r ≡ false → count < capacity
reserved_fits r fits is = grind arith

-- what holds if a call was not refused, and what holds if it was
pub on_ok : {A E P : Type 0} (r : Result A E) → OnOk r P → is_err r ≡ false → P
on_ok r holds is = grind arith

pub on_err : {A E P : Type 0} (r : Result A E) → OnErr r P → is_err r ≡ true → P
on_err r holds is = grind arith
