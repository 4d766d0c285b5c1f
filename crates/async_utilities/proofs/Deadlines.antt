-- What one change of the deadlines does to those with numbers that nobody has yet.
use Rattle.std.proofs.Common.{◌≡◌, ◌≤◌, ℕ, Bool, true, cond, Option, None, arith}
use Rattle.std.specs.Ordering.{is_eq, nat_cmp, ordering_then}
use Rattle.std.specs.declared.cmp.Ordering.{Ordering}
use Rattle.std.specs.declared.cmp.Ordering.TheVariants.{Equal}
use Rattle.std.specs.BTreeMap.{BTreeMap, is_at, Updates}
use Rattle.std.proofs.lemmas.Map.Lookups.{exact_unsigned}
use Rattle.async_utilities.specs.declared.timers.deadlines.Deadline.{Deadline}
use Rattle.async_utilities.specs.Deadlines.{by_time, IsFresh}

equal_then : (first second : Ordering) → is_eq (ordering_then first second) ≡ true → second ≡ Equal
equal_then first second equal = grind arith

pub same_number : (one other : Deadline) → is_at (by_time one) other ≡ true → one.number ≡ other.number
same_number one other equal = exact_unsigned one.number other.number (equal_then (nat_cmp one.nanos other.nanos) _ equal)

module _ {W : Type 0} where
  changed : (is_it : Bool) (w old : Option W) → old ≡ None → (is_it ≡ true → w ≡ None) → cond is_it w old ≡ None
  changed is_it w old none at_it = grind arith

  -- a change at a deadline leaves those numbers free that were, if that deadline is removed or has none of them
  pub fresh_after : (old new : BTreeMap Deadline W) (deadline : Deadline) (w : Option W) (number number' : ℕ)
      → IsFresh old number → number ≤ number' → Updates by_time old new deadline w → (number' ≤ deadline.number → w ≡ None) → IsFresh new number'
  fresh_after old new deadline w number number' fresh le updates at_it other above = grind (arith, changed, same_number)
