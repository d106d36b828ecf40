-- How many commas a list's text has.
use Rattle.std.proofs.Common.{◌≡◌, ℕ, ◌-◌, cond, eqb, List, [], ◌∷◌, ◌++◌, length, decimal, refl, ◌∙◌, arith}
use Rattle.std.specs.List.{AllByRecursion, count_by}
use Rattle.std.proofs.lemmas.Bool.Decides.{nat_tests}
use Rattle.std.proofs.lemmas.List.Sums.{sum_by-cons}
use Rattle.text.specs.Fields.{Lacks, Small, commas, more}
use Rattle.text.proofs.Numerals.{decimal_lacks}

abbrev pub commas_in : List ℕ → ℕ
commas_in bs = count_by (λ b. eqb b 44) bs

commas_behind : (bs rest : List ℕ) → Lacks 44 bs → commas_in (bs ++ rest) ≡ commas_in rest
commas_behind [] rest lacks = refl
commas_behind (b ∷ bs) rest lacks = let e = commas_behind bs rest lacks.1 in let no = lacks.0 in grind (arith, nat_tests)

commas_more : (ns : List ℕ) → AllByRecursion Small ns → commas_in (more ns) ≡ length ns
commas_more [] small = refl
commas_more (n ∷ ns) small =
    let e = commas_behind (decimal n) (more ns) (decimal_lacks 44 n (λ digit. omega arith) small.0) in
    let f = commas_more ns small.1 in
    sum_by-cons (λ b. cond (eqb b 44) 1 0) 44 (decimal n ++ more ns) ∙ omega arith

-- one stands between two entries
pub commas_between : (ns : List ℕ) → AllByRecursion Small ns → commas_in (commas ns) ≡ length ns - 1
commas_between [] small = refl
commas_between (n ∷ ns) small =
    omega (arith, commas_more (n ∷ ns) small, sum_by-cons (λ b. cond (eqb b 44) 1 0) 44 (commas (n ∷ ns)))
