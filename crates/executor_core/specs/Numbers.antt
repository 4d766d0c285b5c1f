-- Words on lists of numbers.
use Rattle.std.specs.Prelude.{ℕ, ◌==◌, List, count_by}

-- how often the number stands in the list
abbrev pub times : ℕ → List ℕ → ℕ
times n numbers = count_by (λ k. k == n) numbers
