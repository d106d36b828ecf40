-- What is known of any list of fixed room.
use Rattle.std.proofs.Common.{◌≡◌, ℕ, ◌≤◌, length, arith}
use Rattle.std.proofs.lemmas.List.{length-take-le}
use Rattle.sets.specs.Contents.{contents}
use Rattle.sets.specs.declared.list.ArrayVec.{ArrayVec}

pub length-contents : {T : Type 0} {N : ℕ} (v : ArrayVec T N) → length (contents v) ≡ v.len
length-contents v = length-take-le v.len v.items (omega arith)

-- a list holds no more than its room
pub contents_fit : {T : Type 0} {N : ℕ} (v : ArrayVec T N) → length (contents v) ≤ N
contents_fit v = omega (arith, length-contents v)
