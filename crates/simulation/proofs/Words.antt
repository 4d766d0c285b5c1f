-- Where the spaces of a line stand.
use Rattle.std.proofs.Common.{◌≡◌, ◌≢◌, ◌<◌, ◌^◌, ℕ, List, [], ◌∷◌, ◌++◌, length, get_or, arith, sym, ap, ◌∙◌, lit<, refl, Some, None, Result, Ok, Err, Bool, true, not, ◌&&◌, ◌==◌, nat_lt, length-append}
use Rattle.std.proofs.lemmas.List.{append-nil, get_or_at}
use Rattle.std.proofs.lemmas.Str.Pattern.{IsSplitOnceResult, split_after, split_parts}
use Rattle.std.specs.Fmt.{decimal}
use denote.Ref.{Bor}
use Rattle.std.specs.Result.{MatchResult, result_ok}
use Rattle.std.specs.Str.{IsAscii, IsUtf8}
use Rattle.std.proofs.lemmas.Str.{IsUtf8-from_ascii, IsAscii-append}
use Rattle.std.proofs.lemmas.Str.Ascii.{IsAscii-nil, IsAscii-cons}
use Rattle.std.proofs.lemmas.Fmt.{IsAscii-decimal}
use Rattle.std.specs.List.{list_all}
use Rattle.std.proofs.lemmas.List.Sums.{AllPass-from_list_all}
use Rattle.std.proofs.lemmas.Str.Ascii.{IsAscii-from_all}
use Rattle.std.proofs.lemmas.Bool.Decides.{nat_tests}
use Rattle.executor_core.specs.declared.interleave.request.Step.TheVariants as step
use Rattle.simulation.specs.declared.command.Command.{Command}
use Rattle.simulation.specs.declared.command.Command.TheVariants.{Step, Show}
use Rattle.simulation.specs.Grammar.{word_of, numbers_of, local_word, spaced, listed, AreInRange, IsWord}
use Rattle.simulation.specs.declared.command.Arguments.{Arguments}
use Rattle.simulation.specs.declared.command.Arguments.TheVariants as arguments
use Rattle.simulation.proofs.Numbers.{unspaced}

tail_of : List ℕ → List ℕ
tail_of [] = []
tail_of (x ∷ xs) = xs

tails : (x y : ℕ) (xs ys : List ℕ) → x ∷ xs ≡ y ∷ ys → xs ≡ ys
unfolding tail_of
tails x y xs ys e = ap tail_of e

-- what has a space can be cut at it
has_space : (text xs ys : List ℕ) → text ≡ xs ++ 32 ∷ ys → ((i : ℕ) → i < length text → get_or text i 0 ≢ 32) → ⊥
has_space text xs ys e none = none (length xs) (rw (e, length-append xs (32 ∷ ys)) (omega arith)) (rw e (get_or_at xs 32 ys 0 (length xs) refl))

-- the text of one number has no space
pub one_number : (text : List ℕ) (a : Arguments) → IsSplitOnceResult 32 text None → AreInRange (listed a) → 32 ∷ text ≡ spaced (listed a) → (n : ℕ) × (n < 2 ^ 64) × (text ≡ decimal n) × (a ≡ arguments.One n)
one_number text arguments.None h small e = absurd cc
one_number text (arguments.One n) h small e = (n, small.0, tails 32 32 text (decimal n ++ []) e ∙ append-nil (decimal n), refl)
one_number text (arguments.Two n m) h small e =
    absurd (split_after 32 text (decimal n) (decimal m) None h (lit< tt) (tails 32 32 text _ e ∙ ap (λ t. decimal n ++ t) (append-nil (32 ∷ decimal m))) (λ i low. unspaced n i small.0 low))

-- the text of two numbers is cut between them
pub two_numbers : (text : List ℕ) (a : Arguments) (x : Bor (List ℕ) × Bor (List ℕ)) → IsSplitOnceResult 32 text (Some x) → AreInRange (listed a) → 32 ∷ text ≡ spaced (listed a)
    → (n : ℕ) × (m : ℕ) × (n < 2 ^ 64) × (m < 2 ^ 64) × (x.0.now ≡ decimal n) × (x.1.now ≡ decimal m) × (a ≡ arguments.Two n m)
two_numbers text arguments.None x h small e = absurd cc
two_numbers text (arguments.One n) x h small e =
    let whole : text ≡ decimal n = tails 32 32 text (decimal n ++ []) e ∙ append-nil (decimal n) in
    absurd (has_space (decimal n) x.0.now x.1.now (sym whole ∙ (split_parts 32 text (Some x) h (lit< tt)).0) (λ i low. unspaced n i small.0 low))
two_numbers text (arguments.Two n m) x h small e =
    let parts = split_after 32 text (decimal n) (decimal m) (Some x) h (lit< tt) (tails 32 32 text _ e ∙ ap (λ t. decimal n ++ t) (append-nil (32 ∷ decimal m))) (λ i low. unspaced n i small.0 low) in
    (n, m, small.0, small.1.0, parts.0, parts.1, refl)

-- a line is ASCII
pub is_text : (word : List ℕ) (a : Arguments) → IsWord word → AreInRange (listed a) → IsUtf8 (word ++ spaced (listed a))
is_text word a whole small = IsUtf8-from_ascii _ (IsAscii-append word (spaced (listed a)) whole.ascii (ascii (listed a) small))
  where
    ascii : (numbers : List ℕ) → AreInRange numbers → IsAscii (spaced numbers)
    ascii [] small = IsAscii-nil
    ascii (n ∷ ns) small = IsAscii-append (32 ∷ decimal n) (spaced ns) (IsAscii-cons 32 (decimal n) (lit< tt) (IsAscii-decimal n small.0)) (ascii ns small.1)

-- what `from_utf8` answered
pub refused : {E : Type 0} (bytes : List ℕ) (r : Result (Bor (List ℕ)) E) (P : Bor (List ℕ) → Type 0) (Q : E → Type 0) → MatchResult r P (λ e. ¬ (IsUtf8 bytes) × Q e) → result_ok r ≡ None → ¬ (IsUtf8 bytes)
refused bytes (Ok x) P Q h e = absurd cc
refused bytes (Err x) P Q h e = h.0

pub accepted : {E : Type 0} (bytes : List ℕ) (x : Bor (List ℕ)) (r : Result (Bor (List ℕ)) E) (Q : E → Type 0) → MatchResult r (λ s. (s.now ≡ bytes) × IsUtf8 bytes) Q → result_ok r ≡ Some x → x.now ≡ bytes
accepted bytes x (Ok y) Q h e = let same : y ≡ x = cc in ap (λ (b : Bor (List ℕ)). b.now) (sym same) ∙ h.0
accepted bytes x (Err y) Q h e = absurd cc

-- a word with no space behind it is alone
pub alone : (line word : List ℕ) (a : Arguments) → IsWord word → IsSplitOnceResult 32 line None → line ≡ word ++ spaced (listed a) → (line ≡ word) × (arguments.None ≡ a)
alone line word arguments.None whole h e = (e ∙ append-nil word, refl)
alone line word (arguments.One n) whole h e = absurd (split_after 32 line word _ None h (lit< tt) e whole.whole)
alone line word (arguments.Two n m) whole h e = absurd (split_after 32 line word _ None h (lit< tt) e whole.whole)

-- behind the first space stand the numbers
pub not_alone : (line word : List ℕ) (a : Arguments) (x : Bor (List ℕ) × Bor (List ℕ)) → IsWord word → IsSplitOnceResult 32 line (Some x) → line ≡ word ++ spaced (listed a) → (x.0.now ≡ word) × (32 ∷ x.1.now ≡ spaced (listed a))
not_alone line word arguments.None x whole h e = absurd (has_space word x.0.now x.1.now (sym (e ∙ append-nil word) ∙ (split_parts 32 line (Some x) h (lit< tt)).0) whole.whole)
not_alone line word (arguments.One n) x whole h e = let parts = split_after 32 line word _ (Some x) h (lit< tt) e whole.whole in (parts.0, ap (λ t. 32 ∷ t) parts.1)
not_alone line word (arguments.Two n m) x whole h e = let parts = split_after 32 line word _ (Some x) h (lit< tt) e whole.whole in (parts.0, ap (λ t. 32 ∷ t) parts.1)

-- a byte of a word
is_letter : ℕ → Bool
is_letter b = nat_lt b 128 && not (b == 32)

letter : (b : ℕ) → is_letter b ≡ true → (b < 128) × (b ≢ 32)
unfolding is_letter
letter b h = grind (arith, nat_tests)

word_by_letters : (word : List ℕ) → list_all is_letter word ≡ true → IsWord word
word_by_letters word h =
    let each = AllPass-from_list_all is_letter word h in
    record { ascii = IsAscii-from_all word (λ k d low. (letter _ (each k d low)).0); whole = λ i low. (letter _ (each i 0 low)).1 }

-- the word of each command is one
pub is_word : (command : Command) → IsWord (word_of command)
unfolding is_letter
is_word Show = word_by_letters (word_of Show) refl
is_word (Step (step.Spawn p)) = word_by_letters _ refl
is_word (Step (step.Wake n)) = word_by_letters _ refl
is_word (Step step.TryTick) = word_by_letters _ refl
is_word (Step step.TryAny) = word_by_letters _ refl
is_word (Step (step.Pend n)) = word_by_letters _ refl
is_word (Step (step.Ready n output)) = word_by_letters _ refl
is_word (Step (step.PollHandle n)) = word_by_letters _ refl
is_word (Step (step.Cancel n)) = word_by_letters _ refl
is_word (Step (step.Detach n)) = word_by_letters _ refl
is_word (Step (step.DropHandle n)) = word_by_letters _ refl
is_word (Step (step.Dropped n)) = word_by_letters _ refl
is_word (Step step.Exchange) = word_by_letters _ refl
is_word (Step step.Notify) = word_by_letters _ refl
is_word (Step step.Tick) = word_by_letters _ refl
is_word (Step step.Run) = word_by_letters _ refl
is_word (Step (step.Register k)) = word_by_letters _ refl
is_word (Step (step.Poll k)) = word_by_letters _ refl
is_word (Step (step.Search k word)) = word_by_letters _ refl
is_word (Step (step.Sleep k)) = word_by_letters _ refl
is_word (Step (step.Yield k)) = word_by_letters _ refl
is_word (Step (step.Remove k)) = word_by_letters _ refl
is_word (Step (step.Store k)) = word_by_letters _ refl
is_word (Step (step.Fair k)) = word_by_letters _ refl
is_word (Step (step.Unregister k)) = word_by_letters _ refl
is_word (Step (step.Drop k)) = word_by_letters _ refl
is_word (Step step.Close) = word_by_letters _ refl
is_word (Step step.Drain) = word_by_letters _ refl
is_word (Step step.Leak) = word_by_letters _ refl

-- and that of a line of limits
pub is_local : IsWord local_word
unfolding is_letter
is_local = word_by_letters _ refl

-- the numbers of each command are arguments
pub arguments_for : (command : Command) → (a : Arguments) × (listed a ≡ numbers_of command)
arguments_for Show = (arguments.None, refl)
arguments_for (Step (step.Spawn p)) = (arguments.None, refl)
arguments_for (Step (step.Wake n)) = (arguments.One n, refl)
arguments_for (Step step.TryTick) = (arguments.None, refl)
arguments_for (Step step.TryAny) = (arguments.None, refl)
arguments_for (Step (step.Pend n)) = (arguments.One n, refl)
arguments_for (Step (step.Ready n output)) = (arguments.Two n output, refl)
arguments_for (Step (step.PollHandle n)) = (arguments.One n, refl)
arguments_for (Step (step.Cancel n)) = (arguments.One n, refl)
arguments_for (Step (step.Detach n)) = (arguments.One n, refl)
arguments_for (Step (step.DropHandle n)) = (arguments.One n, refl)
arguments_for (Step (step.Dropped n)) = (arguments.One n, refl)
arguments_for (Step step.Exchange) = (arguments.None, refl)
arguments_for (Step step.Notify) = (arguments.None, refl)
arguments_for (Step step.Tick) = (arguments.None, refl)
arguments_for (Step step.Run) = (arguments.None, refl)
arguments_for (Step (step.Register k)) = (arguments.One k, refl)
arguments_for (Step (step.Poll k)) = (arguments.One k, refl)
arguments_for (Step (step.Search k word)) = (arguments.Two k word, refl)
arguments_for (Step (step.Sleep k)) = (arguments.One k, refl)
arguments_for (Step (step.Yield k)) = (arguments.One k, refl)
arguments_for (Step (step.Remove k)) = (arguments.One k, refl)
arguments_for (Step (step.Store k)) = (arguments.One k, refl)
arguments_for (Step (step.Fair k)) = (arguments.One k, refl)
arguments_for (Step (step.Unregister k)) = (arguments.One k, refl)
arguments_for (Step (step.Drop k)) = (arguments.One k, refl)
arguments_for (Step step.Close) = (arguments.None, refl)
arguments_for (Step step.Drain) = (arguments.None, refl)
arguments_for (Step step.Leak) = (arguments.None, refl)
