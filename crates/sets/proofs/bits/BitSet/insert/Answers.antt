use Rattle.std.proofs.Common.{◌≡◌, ◌*◌, ◌/◌, ◌%◌, ◌^◌, true, ◌||◌, eqb, ltb, arith, rules}
use lib.Bits.{or_lt}
use mathlib.Core.Bool.{or-false, and-true}
use Rattle.std.proofs.lemmas.Bool.Decides.{nat_tests}
use Rattle.sets.proofs.Kept.{bit_put, member_write}
use Rattle.sets.proofs.bits.BitSet.insert.Goals as goal

pub invariant_of-self : goal.invariant_of-self
invariant_of-self g c =
    let fits = or_lt 64 _ ((1 * 2 ^ (c.args.i % 64)) % 2 ^ 64) (c.args.self.now.fits (c.args.i / 64)) (omega arith) in
    search rules

pub returns-then-has_room-clause-members : goal.returns-then-has_room-clause-members
returns-then-has_room-clause-members g c j =
    let t : ltb c.args.i (64 * g.row.W) ≡ true = grind (arith, nat_tests) in
    rw (t, and-true (eqb j c.args.i))
    (member_write c.args.self.now ◌||◌ or-false c.args.i _ c.if-has_room.true (bit_put _ (c.args.i % 64) (omega arith)) j)
