-- How a line is written.
use Rattle.std.specs.Prelude.{◌≡◌, ◌≢◌, ℕ, ◌<◌, ◌≤◌, ◌^◌, Bool, true, false, List, [], ◌∷◌, ◌++◌, length, slice_index}
use Rattle.std.specs.List.{flat_map, AllByRecursion}
use Rattle.std.specs.Fmt.{decimal}
use lib.Chars.{codes}
use Rattle.executor_core.specs.declared.interleave.request.Step.{Step as StepOf}
use Rattle.executor_core.specs.declared.interleave.request.Step.TheVariants as step
use Rattle.simulation.specs.declared.command.Command.{Command}
use Rattle.simulation.specs.declared.command.Command.TheVariants.{Step, Show}
use Rattle.simulation.specs.declared.command.Arguments.{Arguments}
use Rattle.simulation.specs.declared.command.Arguments.TheVariants as arguments

-- the word of a command
abbrev pub word_of : Command → List ℕ
word_of Show = codes "show"
word_of (Step (step.Spawn _)) = codes "spawn"
word_of (Step (step.Wake _)) = codes "wake"
word_of (Step step.TryTick) = codes "trytick"
word_of (Step step.TryAny) = codes "tryany"
word_of (Step (step.Pend _)) = codes "pend"
word_of (Step (step.Ready _ _)) = codes "ready"
word_of (Step (step.PollHandle _)) = codes "pollhandle"
word_of (Step (step.Cancel _)) = codes "cancel"
word_of (Step (step.Detach _)) = codes "detach"
word_of (Step (step.DropHandle _)) = codes "drophandle"
word_of (Step (step.Dropped _)) = codes "dropped"
word_of (Step step.Exchange) = codes "exchange"
word_of (Step step.Notify) = codes "notify"
word_of (Step step.Tick) = codes "tick"
word_of (Step step.Run) = codes "run"
word_of (Step (step.Register _)) = codes "register"
word_of (Step (step.Poll _)) = codes "poll"
word_of (Step (step.Search _ _)) = codes "search"
word_of (Step (step.Sleep _)) = codes "sleep"
word_of (Step (step.Yield _)) = codes "yield"
word_of (Step (step.Remove _)) = codes "remove"
word_of (Step (step.Store _)) = codes "store"
word_of (Step (step.Fair _)) = codes "fair"
word_of (Step (step.Unregister _)) = codes "unregister"
word_of (Step (step.Drop _)) = codes "drop"
word_of (Step step.Close) = codes "close"
word_of (Step step.Drain) = codes "drain"
word_of (Step step.Leak) = codes "leak"

-- the numbers behind it
abbrev pub numbers_of : Command → List ℕ
numbers_of Show = []
numbers_of (Step (step.Spawn _)) = []
numbers_of (Step (step.Wake n)) = n ∷ []
numbers_of (Step step.TryTick) = []
numbers_of (Step step.TryAny) = []
numbers_of (Step (step.Pend n)) = n ∷ []
numbers_of (Step (step.Ready n output)) = n ∷ output ∷ []
numbers_of (Step (step.PollHandle n)) = n ∷ []
numbers_of (Step (step.Cancel n)) = n ∷ []
numbers_of (Step (step.Detach n)) = n ∷ []
numbers_of (Step (step.DropHandle n)) = n ∷ []
numbers_of (Step (step.Dropped n)) = n ∷ []
numbers_of (Step step.Exchange) = []
numbers_of (Step step.Notify) = []
numbers_of (Step step.Tick) = []
numbers_of (Step step.Run) = []
numbers_of (Step (step.Register k)) = k ∷ []
numbers_of (Step (step.Poll k)) = k ∷ []
numbers_of (Step (step.Search k word)) = k ∷ word ∷ []
numbers_of (Step (step.Sleep k)) = k ∷ []
numbers_of (Step (step.Yield k)) = k ∷ []
numbers_of (Step (step.Remove k)) = k ∷ []
numbers_of (Step (step.Store k)) = k ∷ []
numbers_of (Step (step.Fair k)) = k ∷ []
numbers_of (Step (step.Unregister k)) = k ∷ []
numbers_of (Step (step.Drop k)) = k ∷ []
numbers_of (Step step.Close) = []
numbers_of (Step step.Drain) = []
numbers_of (Step step.Leak) = []

-- it is the command of this word and these numbers
abbrev pub IsWritten : List ℕ → List ℕ → Command → Type 0
IsWritten word numbers command = (word ≡ word_of command) × (numbers ≡ numbers_of command)

-- a step of a ticker, with the ticker's number alone
abbrev pub is_of_ticker : StepOf Unit ℕ → Bool
is_of_ticker (step.Register _) = true
is_of_ticker (step.Poll _) = true
is_of_ticker (step.Sleep _) = true
is_of_ticker (step.Yield _) = true
is_of_ticker (step.Remove _) = true
is_of_ticker (step.Store _) = true
is_of_ticker (step.Fair _) = true
is_of_ticker (step.Unregister _) = true
is_of_ticker (step.Drop _) = true
is_of_ticker _ = false

-- each number in decimal, after one space
abbrev pub spaced : List ℕ → List ℕ
spaced numbers = flat_map (λ n. 32 ∷ decimal n) numbers

-- a command is written as its word, and its numbers behind it
abbrev pub line_of : Command → List ℕ
line_of command = word_of command ++ spaced (numbers_of command)

-- a line of limits: for how many tasks the queue of a run has room
abbrev pub local_word : List ℕ
local_word = codes "local"

abbrev pub local_line : ℕ → List ℕ
local_line places = local_word ++ spaced (places ∷ [])

-- the numbers have 64 bits
abbrev pub AreInRange : List ℕ → Type 0
AreInRange numbers = AllByRecursion (λ n. n < 2 ^ 64) numbers

abbrev pub listed : Arguments → List ℕ
listed arguments.None = []
listed (arguments.One n) = n ∷ []
listed (arguments.Two n m) = n ∷ m ∷ []

-- the bytes are ASCII, and none of them is a space
pub record IsWord (bytes : List ℕ) : Type 0 where
  pub ascii : (i : ℕ) → slice_index bytes i < 128
  pub whole : (i : ℕ) → i < length bytes → slice_index bytes i ≢ 32

-- no plus sign stands first, and a zero only if it is all
abbrev pub IsPlain : List ℕ → Type 0
IsPlain digits = (slice_index digits 0 ≢ 43) × (slice_index digits 0 ≡ 48 → length digits ≤ 1)
