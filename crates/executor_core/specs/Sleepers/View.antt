-- How the fields of `Sleepers` are seen, and what holds of them.
use Rattle.std.specs.Prelude.{◌≡◌, ℕ, ◌≤◌, Bool, ◌&&◌, nat_le, List, ◌++◌, length, Option, option_to_list, cond}
use Rattle.std.specs.FinSet as set
use Rattle.std.specs.Map.{keys_of}
use Rattle.executor_core.specs.Numbers.{times}
use Rattle.executor_core.specs.Sleepers.{SleeperList}

-- these are 1 to their total, each once
abbrev pub IsNumbering : List ℕ → Type 0
IsNumbering numbers = (n : ℕ) → times n numbers ≡ cond (nat_le 1 n && nat_le n (length numbers)) 1 0

module _ {W : Type 0} where
  -- the numbers in use: the notified one, and those of the list
  abbrev pub in_use : Option ℕ → List (ℕ × W) → List ℕ
  in_use notified pairs = option_to_list notified ++ keys_of pairs

  abbrev pub list_of : Option ℕ → List (ℕ × W) → List ℕ → ℕ → Bool → SleeperList W
  list_of notified pairs free places is_open = record { unnotified = pairs; used = set.from_list (in_use notified pairs); free = free; places = places; is_open = is_open }

  -- the numbers are as the law says, and there is room for a pair and a free number of each place
  pub record IsSoundList (notified : Option ℕ) (pairs : List (ℕ × W)) (free : List ℕ) (places pair_room free_room : ℕ) : Type 0 where
    pub numbering : IsNumbering (in_use notified pairs ++ free)
    pub placed : length (in_use notified pairs) ≤ places
    pub pairs_fit : places ≤ pair_room
    pub places_fit : places ≤ free_room
    pub numbers_fit : length (in_use notified pairs ++ free) ≤ free_room
