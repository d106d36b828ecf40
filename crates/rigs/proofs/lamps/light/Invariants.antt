use Rattle.std.proofs.Common.{◌≡◌, ℕ, ◌<◌, ◌≤◌, length, slice_index}
use Rattle.rigs.proofs.lamps.light.Given as goal
use Rattle.rigs.specs.Lamps.{lamp_after}
use Rattle.sets.specs.Member.{member}

-- the lamps below f are as after the action, and the others as they were
abbrev pub invariant-loop-f : goal.invariant-loop-f
invariant-loop-f l =
    (length l.lamps ≡ length l.fn.lamps)
    × ((k : ℕ) → k < l.f → slice_index l.lamps k ≡ lamp_after (member l.adds.words) (member l.deletes.words) l.fn.lamps k)
    × ((k : ℕ) → l.f ≤ k → slice_index l.lamps k ≡ slice_index l.fn.lamps k)
