use Rattle.std.proofs.Common.{◌≡◌, ℕ, ◌<◌, ◌&&◌, ◌||◌, cond, eqb, ltb, List, refl, arith}
use Rattle.std.proofs.lemmas.Bool.Decides.{nat_tests}
use Rattle.shaping.proofs.Outlines.{outlines_same, rules_kept}
use Rattle.shaping.proofs.run.Run.grouped_sheet.Goals as goal
use Rattle.orders.proofs.EditGroup.{group_keeps_rules}
use Rattle.orders.specs.Edits.{same_run}
use Rattle.sets.specs.Member.{member}
use Rattle.sets.specs.declared.bits.BitSet.{BitSet}
use Rattle.sheet.proofs.SheetRules.{sheet_rules}
use Rattle.sheet.specs.Rows.{in_row}
use Rattle.sheet.specs.Sheets.{outline}

-- the run is one more block
one_more : (a b : ℕ) → a < 128 → b < 128 → (old new : List (BitSet 2)) (ends put : List ℕ) → ((d : ℕ) → member ends d ≡ in_row old a d) → ((d : ℕ) → member put d ≡ (member ends d || (eqb d b && ltb b 128))) → ((k d : ℕ) → in_row new k d ≡ cond (eqb k a && ltb a 128) (member put d) (in_row old k d)) → (k d : ℕ) → in_row new k d ≡ (in_row old k d || same_run a b k d)
one_more a b l m old new ends put row with written k d =
    let e = row d in
    let f = with d in
    let g = written k d in
    grind (arith, nat_tests)

pub invariant_of-result : goal.invariant_of-result
invariant_of-result c =
    let rules = group_keeps_rules (outline c.args.self.now.sheet.now) (sheet_rules c.args.self.now.sheet.now) c.args.self.now.first c.args.self.now.last c.requires in
    let blocks = one_more c.args.self.now.first c.args.self.now.last (omega arith) (omega arith) _ _ _ _ c.row-ends.ensures c.insert.ensures.members c.with_row.ensures in
    record { numbers = c.args.self.now.sheet.now.numbers; rules = rules_kept _ _ (outlines_same _ _ refl c.joined_ties.ensures blocks) rules }

pub returns-clause-order : goal.returns-clause-order
returns-clause-order c = outlines_same _ _ refl c.joined_ties.ensures (one_more c.args.self.now.first c.args.self.now.last (omega arith) (omega arith) _ _ _ _ c.row-ends.ensures c.insert.ensures.members c.with_row.ensures)
