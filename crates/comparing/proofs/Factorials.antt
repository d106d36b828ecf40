-- The product of the first numbers, where each product is cut at a highest number.
use Rattle.std.proofs.Common.{◌≡◌, ℕ, zero, suc, ◌+◌, ◌*◌, min, add-one, ap, ◌∙◌, refl, ⊎_elim, arith}
use Rattle.std.proofs.Math.Nat.{le-mul_of_pos_right, mul_comm, mul-le-mul_right}
use Rattle.std.proofs.lemmas.Bool.{cases_lt}
use Rattle.comparing.specs.Orders.{factorial}

-- a factor can be cut first
cut_first : (top x y : ℕ) → min (min x top * y) top ≡ min (x * y) top
cut_first top x zero = omega arith
cut_first top x (suc y) = ⊎_elim
    (λ l. let e : min x top ≡ x = omega arith in rw e refl)
    (λ m. let e : min x top ≡ top = omega arith in rw e (omega (arith, mul-le-mul_right {m = top} {n = x} (suc y) (omega (arith, m)), le-mul_of_pos_right {m = suc y} top (omega arith))))
    (cases_lt x top)

pub factorial_more : (top n product : ℕ) → product ≡ min (factorial n) top → min (product * min (n + 1) top) top ≡ min (factorial (n + 1)) top
factorial_more top n product e =
    let here = cut_first top (factorial n) (min (n + 1) top) in
    let next = cut_first top (n + 1) (factorial n) in
    let turned : factorial n * min (n + 1) top ≡ min (n + 1) top * factorial n = mul_comm (factorial n) (min (n + 1) top) in
    rw (e, add-one) (rw add-one at (here ∙ ap (λ m. min m top) turned ∙ next))
