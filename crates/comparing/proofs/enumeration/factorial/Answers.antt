use Rattle.std.proofs.Common.{◌≡◌, ◌+◌, ◌-◌, ◌*◌, ◌^◌, min, refl, rules, arith}
use Rattle.comparing.proofs.Factorials.{factorial_more}
use Rattle.comparing.proofs.enumeration.factorial.Goals as goal
use Rattle.comparing.specs.Orders.{factorial}
use Rattle.shaping.proofs.RangeLaws.{fold_from_Range}

pub returns : goal.returns
returns c = fold_from_Range (λ i product. product ≡ min (factorial i) (2 ^ 64 - 1)) _
    (λ i old new q e k. (search rules, let b : new ≡ min (old * min (i + 1) (2 ^ 64 - 1)) (2 ^ 64 - 1) = search rules in rw b (factorial_more (2 ^ 64 - 1) i old e)))
    _ _ _ c.fold.ensures.ran (omega arith) refl
