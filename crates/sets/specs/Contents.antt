-- What a list of fixed room holds.
use Rattle.std.specs.Prelude.{ℕ, List, take}
use Rattle.sets.specs.declared.list.ArrayVec.{ArrayVec}

-- the elements, first to last
abbrev pub contents : {T : Type 0} {N : ℕ} → ArrayVec T N → List T
contents v = take v.len v.items
