-- The digest that is to come of a reader, and of a file.
use Rattle.std.specs.Prelude.{◌≡◌, ℕ, ◌≤◌, ◌++◌, List, length, Option, Some, Err, IfOk, ⊤}
use Rattle.std.specs.declared.io.Error.{Error}
use Rattle.sha2.specs.Sha256.{sha256}
use Rattle.sha2.specs.Hashers.{Holds256}
use Rattle.sha2.specs.declared.Sha256.{Sha256}
use Rattle.digests.specs.declared.digesting.Step.{Step}
use Rattle.digests.specs.declared.digesting.Step.TheVariants.{More, Ended}
use Rattle.digests.specs.declared.file_digest.Undigested.{Undigested}

-- the hasher holds the first bytes of this message, and a reader has the rest of it left
pub record Owes (left : Option (List ℕ)) (hasher : Sha256) (message : List ℕ) : Type 0 where
  pub held : List ℕ
  pub rest : List ℕ
  pub known : left ≡ Some rest
  pub holds : Holds256 hasher held
  pub joined : held ++ rest ≡ message

-- how many bytes came
abbrev pub count_of : Step → ℕ
count_of (More count) = count
count_of (Ended answer) = 0

-- after a read a digest that is there is that of this message; or, if more may come, this holds
abbrev pub EndsOr : Step → List ℕ → Type 0 → Type 0
EndsOr (More count) message holds = holds
EndsOr (Ended answer) message holds = IfOk answer (λ digest. digest ≡ sha256 message)

-- if no more may come after a read, it is for this error
abbrev pub EndsByError : Step → Error → Type 0
EndsByError (More count) error = ⊤
EndsByError (Ended answer) error = answer ≡ Err error

-- the hasher of a file that was opened holds this message
abbrev pub FileHolds : Undigested → List ℕ → Type 0
FileHolds file message = IfOk file.opened (λ digesting. Holds256 digesting.hasher message)

-- the hasher of a file holds this message, and so many bytes more
pub record Adds (file : Undigested) (message : List ℕ) (count : ℕ) : Type 0 where
  pub bytes : List ℕ
  pub all : length bytes ≡ count
  pub holds : FileHolds file (message ++ bytes)

-- the hasher of a file holds this message, and at most so many bytes more
pub record AddsAtMost (file : Undigested) (message : List ℕ) (most : ℕ) : Type 0 where
  pub count : ℕ
  pub few : count ≤ most
  pub adds : Adds file message count
