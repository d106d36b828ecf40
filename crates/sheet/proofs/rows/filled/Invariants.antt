use Rattle.std.proofs.Common.{◌≡◌, ℕ, ◌<◌, ◌≤◌, length, slice_index_or}
use Rattle.sheet.proofs.rows.filled.Given as goal

-- the entries so far are made, and the others are as they were
abbrev pub invariant-loop-i : goal.invariant-loop-i
invariant-loop-i g l =
    (length l.entries ≡ 128) × ((k : ℕ) → k < l.i → (x : g.row.T.Denot) × goal.F-post g l.entry k x × ((d : g.row.T.Denot) → slice_index_or l.entries k d ≡ x))
    × ((k : ℕ) → l.i ≤ k → k < 128 → (d : g.row.T.Denot) → slice_index_or l.entries k d ≡ l.fn.fill)
