use Rattle.std.specs.Prelude.{◌≡◌, true, false}
use Rattle.executor_core.specs.declared.task.polling.Ran.{Ran}
use Rattle.executor_core.specs.declared.task.polling.Ran.TheVariants.{Pending, Ready, Dropped}
use Rattle.async_executor.specs.declared.futures.transactions.EndThenSearch.{EndThenSearch}
use Rattle.async_executor.specs.declared.futures.transactions.EndThenSearch.TheVariants.{Searched, InVain, Unfinished}
use Rattle.executor_core.specs.declared.task.polling.Held.{Held}
use Rattle.async_executor.specs.declared.futures.transactions.BeforeEnd.{BeforeEnd}
use Rattle.async_executor.specs.declared.futures.transactions.BeforeEnd.TheVariants.{Refused, Woken, ToDrop}
use Rattle.async_executor.specs.declared.futures.transactions.Deferred.{Deferred}
use Rattle.async_executor.specs.declared.futures.transactions.Deferred.TheVariants.{Unended, Finished}

module _ {T : Type 0} where
  -- what is held of a task that was run is to be dropped exactly if its future was
  abbrev pub IsHeldRight : Ran (Unit {0}) T → Type 0
  IsHeldRight (Pending held future) = held.to_drop ≡ false
  IsHeldRight (Ready held output) = held.to_drop ≡ false
  IsHeldRight (Dropped held) = held.to_drop ≡ true

-- what is held of a task is to be dropped exactly if its future is dropped before the end
abbrev pub IsHeldFor : BeforeEnd → Held → Type 0
IsHeldFor Refused held = held.to_drop ≡ false
IsHeldFor (Woken notice) held = held.to_drop ≡ false
IsHeldFor ToDrop held = held.to_drop ≡ true

module _ {W T : Type 0} where
  abbrev pub IsDeferredRight : Deferred W T → Type 0
  IsDeferredRight (Unended held before) = IsHeldFor before held
  IsDeferredRight (Finished unwanted awaiter) = Unit {0}

module _ {W T N : Type 0} where
  abbrev pub IsEndRight : EndThenSearch W T N → Type 0
  IsEndRight (Searched notice found) = Unit {0}
  IsEndRight (InVain awaiter) = Unit {0}
  IsEndRight (Unfinished deferred) = IsDeferredRight deferred
