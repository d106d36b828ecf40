use Rattle.std.proofs.Common.{◌^◌, ◌<◌, get_or, take, refl, arith}
use Rattle.std.proofs.lemmas.Int.Digits.{digits_more, digits_value_more}
use Rattle.std.proofs.lemmas.List.{length-take, take_all}
use Rattle.std.proofs.lemmas.Str.Parse.{digit_at, digits_value_short}
use Rattle.std.proofs.lemmas.Bool.Decides.{nat_tests}
use Rattle.text.proofs.Numerals.{digit_value, figures, number_from_figures, numerals}
use Rattle.text.proofs.fields.number.Goals as goal
use Rattle.text.proofs.fields.number.Goals.{Else-not-is_ascii_digit}

-- six digits at most were read
small : (c : Else-not-is_ascii_digit) → c.loop-b.value < 10 ^ 6
small c =
    let bs = c.args.bytes.now in
    let i = c.loop-b.b-index in
    omega (arith, digits_value_short numerals (take i bs) 6 c.loop-b.invariant.0 (omega (arith, length-take i bs)))

pub returns-then-bytes-gt-MOST_DIGITS : goal.returns-then-bytes-gt-MOST_DIGITS
returns-then-bytes-gt-MOST_DIGITS c = (refl, λ n h. let f = figures _ n h in grind (arith, nat_tests, f.some, f.few, f.leading, digit_at c.args.bytes.now 0 f.digits f.some))

pub returns-then-not-is_ascii_digit : goal.returns-then-not-is_ascii_digit
returns-then-not-is_ascii_digit c = (
  refl,
  λ n h. omega (arith, digit_at c.args.bytes.now c.loop-b.b-index (figures _ n h).digits (omega arith), c.if-not-is_ascii_digit.ensures.cases),
)

pub overflow_mul-value : goal.overflow_mul-value
overflow_mul-value c = omega (arith, small (goal.at.overflow_mul-value c).Else-not-is_ascii_digit)

pub overflow_add-value : goal.overflow_add-value
overflow_add-value c = omega (arith, small (goal.at.overflow_add-value c).Else-not-is_ascii_digit, c.if-not-is_ascii_digit.ensures.cases)

pub loop-b-preserved : goal.loop-b-preserved
loop-b-preserved c =
    let bs = c.args.bytes.now in
    let i = c.loop-b.b-index in
    let digit = c.if-not-is_ascii_digit.ensures in
    let worth = digit_value (get_or bs i 0) digit.cases in
    let more = digits_value_more 10 bs i (omega arith) in
    (digits_more 10 bs i (omega arith) c.loop-b.invariant.0 digit.bound, omega arith)

pub returns : goal.returns
returns c =
    let bs = c.args.bytes.now in
    let all = take_all c.loop-b.b-index bs (omega arith) in
    rw (c.loop-b.invariant.1, all) (number_from_figures bs (record {
      some = grind (arith, nat_tests);
      few = omega arith;
      leading = grind (arith, nat_tests);
      digits = rw all at c.loop-b.invariant.0;
    }))
