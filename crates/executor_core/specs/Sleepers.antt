-- What a contract sees of `Sleepers`, and the law of their numbers.
pub mod Calls
pub mod View
use Rattle.std.specs.Prelude.{◌≡◌, ℕ, ◌+◌, ◌≤◌, ◌==◌, nat_lt, nat_le, Bool, true, not, ◌&&◌, ◌||◌, List, length, filter, slice_index, cond, refl}
use Rattle.std.specs.List.{list_any}
use Rattle.std.specs.Coded.{Coded, code_by, coded×, coded_ℕ, coded_list, coded_bool}
use Rattle.std.specs.Ordering.{nat_cmp}
use Rattle.std.specs.FinSet as set
use Rattle.std.specs.Map.{keys_of}
use Rattle.executor_core.specs.Numbers.{times}

-- the list of the unnotified, in the order in which they went to sleep, each with its waker; the numbers in use; those
-- that were given back, the next one to be used standing last; how many places are reserved; and whether the list was
-- changed and the flag not yet stored
pub record SleeperList (W : Type 0) : Type 0 where
  pub unnotified : List (ℕ × W)
  pub used : set.FinSet nat_cmp
  pub free : List ℕ
  pub places : ℕ
  pub is_open : Bool

abbrev pub sleeper_list_code : {W : Type 0} → Coded W → Coded (SleeperList W)
sleeper_list_code {W} w =
    code_by
    (List (ℕ × W) × (set.FinSet nat_cmp × (List ℕ × (ℕ × Bool))))
    (coded× (coded_list (coded× coded_ℕ w)) (coded× (set.code coded_ℕ) (coded× (coded_list coded_ℕ) (coded× coded_ℕ coded_bool))))
    (λ s. (s.unnotified, (s.used, (s.free, (s.places, s.is_open)))))
    (λ q. record { unnotified = q.0; used = q.1.0; free = q.1.1.0; places = q.1.1.1.0; is_open = q.1.1.1.1 })
    (λ _. refl)

module _ {W : Type 0} where
  -- the number stands in the list
  abbrev pub is_unnotified : SleeperList W → ℕ → Bool
  is_unnotified s n = list_any (λ k. k == n) (keys_of s.unnotified)

  -- the number is in use, and not in the list
  abbrev pub is_notified_number : SleeperList W → ℕ → Bool
  is_notified_number s n = set.contains s.used n && not (is_unnotified s n)

  -- the notified number, or 0 if there is none
  abbrev pub notified_number : SleeperList W → ℕ
  notified_number s = slice_index (filter (is_notified_number s) (set.items s.used)) 0

  -- nobody sleeps, or more numbers are in use than stand in the list
  abbrev pub is_notified : SleeperList W → Bool
  is_notified s = (set.len s.used == 0) || nat_lt (length s.unnotified) (set.len s.used)

  -- a reserved place is free
  abbrev pub has_place : SleeperList W → Bool
  has_place s = nat_lt (set.len s.used) s.places

  -- the law of the numbers, which every call keeps
  pub record SleeperLaw (s : SleeperList W) : Type 0 where
    -- a number stands in the list once at most
    pub distinct : (n : ℕ) → times n (keys_of s.unnotified) ≤ 1
    -- what stands there is in use
    pub in_use : (n : ℕ) → is_unnotified s n ≡ true → set.contains s.used n ≡ true
    -- at most one number is notified
    pub one_notified : (m n : ℕ) → is_notified_number s m ≡ true → is_notified_number s n ≡ true → m ≡ n
    -- the numbers in use and the free ones are 1 to their total, each once
    pub numbered : (n : ℕ) → cond (set.contains s.used n) 1 0 + times n s.free ≡ cond (nat_le 1 n && nat_le n (set.len s.used + length s.free)) 1 0
    -- no more numbers stand in the list than are in use
    pub within : length s.unnotified ≤ set.len s.used
    -- each number in use has a place
    pub placed : set.len s.used ≤ s.places
