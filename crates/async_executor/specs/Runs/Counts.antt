-- A count up to a limit, with the last one of which it begins anew.
use Rattle.std.specs.Prelude.{◌≡◌, ℕ, suc, ◌+◌, ◌%◌, ◌==◌, nat_lt, Bool, refl}
use Rattle.std.specs.Coded.{Coded, code_by, coded×, coded_ℕ}

-- how many were counted since it began or began anew, and its limit
pub record Counted : Type 0 where
  pub counted : ℕ
  pub limit : ℕ

abbrev pub counted_code : Coded Counted
counted_code = code_by (ℕ × ℕ) (coded× coded_ℕ coded_ℕ) (λ c. (c.counted, c.limit)) (λ q. record { counted = q.0; limit = q.1 }) (λ _. refl)

abbrev pub up_to : ℕ → Counted
up_to limit = record { counted = 0; limit = limit }

-- one more is not the last of so many
abbrev pub goes_on : Counted → Bool
goes_on c = nat_lt (c.counted + 1) c.limit

abbrev pub more : Counted → Counted
more c = record c { counted = c.counted + 1 }

abbrev pub anew : Counted → Counted
anew c = record c { counted = 0 }

-- the count of one that is counted up to this limit, after so many in all
abbrev pub IsCountOf : ℕ → ℕ → Counted → Type 0
IsCountOf limit n c = (c.limit ≡ limit) × (c.counted ≡ n % limit)

-- after one more it is that of one more, and it was the last of so many exactly if the limit divides how many there were in all
abbrev pub CountsEach : Counted → Counted → Bool → Type 0
CountsEach before after last = (n : ℕ) → IsCountOf before.limit n before → IsCountOf before.limit (suc n) after × (last ≡ (suc n % before.limit == 0))
