use Rattle.std.proofs.Common.{rules, arith}
use Rattle.sets.proofs.Kept.{word_usable, member_highest}
use Rattle.sets.proofs.bits.BitSet.highest.Goals as goal

pub overflow_mul-result : goal.overflow_mul-result
overflow_mul-result g c = omega (arith, word_usable c.args.self.now c.in_ok-i.i (search rules))

pub overflow_add-result : goal.overflow_add-result
overflow_add-result g c =
    omega (arith, c.args.self.now.usable _ (member_highest c.args.self.now c.in_ok-i.i c.ilog2.result (search rules) (search rules) (search rules) (λ k l m. search rules)).0)

pub returns : goal.returns
returns g c = member_highest c.args.self.now c.in_ok-i.i c.ilog2.result (search rules) (search rules) (search rules) (λ k l m. search rules)
