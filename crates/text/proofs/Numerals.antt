-- Which texts are numbers, byte by byte.
use Rattle.std.proofs.Common.{◌≡◌, ℕ, ◌-◌, ◌<◌, ◌≤◌, List, length, get_or, decimal, sym, ap, ◌∙◌, ⊎_elim, arith}
use Rattle.std.specs.Str.Parse.{AllDigits, digits_value}
use Rattle.std.specs.Int.{IsInRange}
use Rattle.std.specs.Char.{digit_value as digitValue}
use Rattle.std.proofs.lemmas.Fmt.{decimal_digit, decimal_nonempty, decimal-digits_value, digits_decimal, first_decimal, length-decimal-le, decimal_injective}
use Rattle.std.proofs.ByRecursion.{All-from_get_or, All-weaker}
use Rattle.std.proofs.lemmas.Str.Parse.{IsNumeralModel, not_in_digits, numerals_by_value, tells_digits, digits_value_short}
use Rattle.std.proofs.lemmas.Bool.{cases_eq}
use Rattle.std.proofs.lemmas.Bool.Decides.{nat_tests}
use Rattle.text.specs.Fields.{IsName, IsNumber, Lacks, Printable, Small}

pub numerals : IsNumeralModel (AllDigits 10) (digits_value 10)
numerals = numerals_by_value (AllDigits 10) tells_digits

pub digit_value : (c : ℕ) → IsInRange 48 57 c → digitValue c ≡ c - 48
digit_value c h = grind (arith, nat_tests)

-- what a number's text looks like
pub record Figures (bs : List ℕ) : Type 0 where
  pub some : 0 < length bs
  pub few : length bs ≤ 7
  pub leading : get_or bs 0 0 ≡ 48 → length bs ≡ 1
  pub digits : AllDigits 10 bs

pub figures : (bs : List ℕ) (n : ℕ) → IsNumber bs n → Figures bs
figures bs n h = rw h.1 (record {
  some = decimal_nonempty n (omega arith);
  few = length-decimal-le 7 n (omega arith) (omega arith) (omega arith);
  leading = λ z. ⊎_elim (λ e. rw e (ap length (decimal_digit 0 (omega arith)))) (λ apart. omega (arith, first_decimal n (omega arith) (omega arith))) (cases_eq n 0);
  digits = digits_decimal numerals n (omega arith);
})

pub number_from_figures : (bs : List ℕ) → Figures bs → IsNumber bs (digits_value 10 bs)
number_from_figures bs f =
    let short = digits_value_short numerals bs 7 f.digits f.few in
    (short, sym (decimal-digits_value numerals bs f.digits f.some f.leading (omega arith)))

-- a byte that is no digit stands in no number
pub decimal_lacks : (c n : ℕ) → (IsInRange 48 57 c → ⊥) → Small n → Lacks c (decimal n)
decimal_lacks c n h small =
    All-from_get_or _ (decimal n) 0 (not_in_digits numerals (decimal n) c (digits_decimal numerals n (omega arith)) h)

pub same_number : (bs : List ℕ) (m n : ℕ) → IsNumber bs m → IsNumber bs n → m ≡ n
same_number bs m n g h = decimal_injective m n (omega arith) (omega arith) (sym g.1 ∙ h.1)

-- a byte that is not printable stands in no name
pub name_lacks : (c : ℕ) (bs : List ℕ) → (Printable c → ⊥) → IsName bs → Lacks c bs
name_lacks c bs out named = All-weaker Printable _ (λ b shows e. out (rw e at shows)) bs named.2
