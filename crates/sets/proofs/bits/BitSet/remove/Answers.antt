use Rattle.std.proofs.Common.{◌%◌, not, ◌&&◌, arith}
use mathlib.Core.Bool.{and-true}
use Rattle.sets.proofs.Kept.{bit_cut, member_write}
use Rattle.sets.proofs.bits.BitSet.remove.Goals as goal

pub returns-then-i : goal.returns-then-i
returns-then-i g c = member_write c.args.self.now (λ x y. x && not y) and-true c.args.i _ c.if-i.true (bit_cut _ (c.args.i % 64) (omega arith))
