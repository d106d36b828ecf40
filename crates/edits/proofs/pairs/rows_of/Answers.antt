use Rattle.std.proofs.Common.{◌≡◌, ℕ, ◌<◌, Bool, rules, ◌∙◌, ⊎_elim, sym}
use Rattle.std.proofs.lemmas.Bool.{cases_lt, false≢true}
use Rattle.edits.proofs.pairs.rows_of.Goals as goal
use Rattle.sets.specs.Member.{member}
use Rattle.sheet.proofs.RowLaws.{row_lt}

pub returns-clause-pairs : goal.returns-clause-pairs
returns-clause-pairs g c x y k l =
    let r = c.by_rows.ensures.rows x k in
    let e = r.1 in
    let t : (z : ℕ) → z < 128 → (b : Bool) × goal.F-post g c.args.passes x z b × (member r.0.words z ≡ b) = search rules in
    let u = t y l in (u.0, u.1, r.2 y ∙ u.2)

pub returns-clause-room : goal.returns-clause-room
returns-clause-room g c x y e = (⊎_elim (λ l. l) (λ l. absurd (false≢true (sym (c.by_rows.ensures.past x y l) ∙ e))) (cases_lt x 128), row_lt c.by_rows.result.rows x y e)
