-- What a text is that `parse` takes, and that begins as a number in decimal does.
use Rattle.std.proofs.Common.{◌≡◌, ◌≢◌, ◌<◌, ◌≤◌, ◌^◌, ℕ, List, length, get_or, arith, sym, ap, Result, Ok, lit<, Err, Some, zero, suc}
use Rattle.std.specs.Fmt.{decimal}
use Rattle.std.specs.Result.{result_ok}
use Rattle.std.specs.Prelude.{IfSome}
use Rattle.simulation.specs.Grammar.{IsPlain}
use Rattle.std.specs.Str.Parse.{AllDigits, digits_value, ParsesUnsigned}
use Rattle.std.proofs.lemmas.Str.Parse.{IsNumeralModel, numerals_by_value, tells_digits, not_in_digits, parse_plain}
use Rattle.std.proofs.lemmas.Fmt.{decimal-digits_value, digits_decimal, decimal_nonempty, decimal_digit, first_decimal, parse-decimal}

own : IsNumeralModel (AllDigits 10) (digits_value 10)
own = numerals_by_value _ tells_digits

-- no digit is a space
pub unspaced : (n i : ℕ) → n < 2 ^ 64 → i < length (decimal n) → get_or (decimal n) i 0 ≢ 32
unspaced n i small h = not_in_digits own (decimal n) 32 (digits_decimal own n small) (λ r. omega (arith, r)) i h

-- no number begins with this byte, which is no digit
pub no_sign : (n c : ℕ) (bs : List ℕ) → n < 2 ^ 64 → bs ≡ decimal n → c < 48 → get_or bs 0 0 ≢ c
no_sign n c bs small e low = rw e (not_in_digits own (decimal n) c (digits_decimal own n small) (λ r. omega (arith, r)) 0 (decimal_nonempty n small))

-- only zero begins with a zero
pub no_leading_zero : (n : ℕ) (bs : List ℕ) → n < 2 ^ 64 → bs ≡ decimal n → get_or bs 0 0 ≡ 48 → length bs ≤ 1
no_leading_zero zero bs small e z = rw (e, decimal_digit 0 (lit< tt)) (omega arith)
no_leading_zero (suc n) bs small e z = absurd (omega (arith, first_decimal (suc n) (omega arith) small, z, ap (λ t. get_or t 0 0) e))

-- a number is plain
pub plain_decimal : (n : ℕ) (bs : List ℕ) → n < 2 ^ 64 → bs ≡ decimal n → IsPlain bs
plain_decimal n bs small e = (no_sign n 43 bs small e (lit< tt), no_leading_zero n bs small e)

-- what is parsed of a plain text is the number that it is the decimal form of
pub parsed : {E : Type 0} (bs : List ℕ) (r : Result ℕ E) → ParsesUnsigned 64 10 bs r → IsPlain bs → IfSome (result_ok r) (λ n. bs ≡ decimal n)
parsed {E} bs (Err e) p plain = tt
parsed {E} bs (Ok n) p plain =
    let h = parse_plain own {E = E} 64 bs (Ok n) p plain.0 in
    rw h.1 (sym (decimal-digits_value own bs h.0.0 h.0.1 (λ z. omega (arith, plain.1 z, h.0.1)) h.0.2))

-- and each number is parsed
pub parses : {E : Type 0} (bs : List ℕ) (r : Result ℕ E) → ParsesUnsigned 64 10 bs r → (n : ℕ) → n < 2 ^ 64 → bs ≡ decimal n → result_ok r ≡ Some n
parses bs r p n small e = ap result_ok (parse-decimal 64 n bs r small small e p)
