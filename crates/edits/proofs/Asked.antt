-- The sheet that replace asks for, by what its fields are.
use Rattle.std.proofs.Common.{◌≡◌, ℕ, ◌<◌, ◌≤◌, List, length, ap, ◌∙◌}
use Rattle.edits.proofs.KeptPairs.{Rows, kept_outline}
use Rattle.shaping.proofs.Outlines.{rules_kept}
use Rattle.edits.proofs.PutIn.{length-put_in}
use Rattle.edits.specs.Replacing.{HasRoom, put_in}
use Rattle.orders.proofs.EditReplace.{replace_keeps_rules}
use Rattle.orders.specs.Edits.{IsMember, replaced}
use Rattle.orders.specs.Sheets.{Outline, Rules}
use Rattle.sets.specs.Contents.{contents}
use Rattle.sets.specs.declared.bits.BitSet.{BitSet}
use Rattle.sets.specs.declared.list.ArrayVec.{ArrayVec}
use Rattle.sheet.proofs.SheetRules.{sheet_rules}
use Rattle.sheet.specs.Rows.{outlined}
use Rattle.sheet.specs.Sheets.{actions, outline}
use Rattle.sheet.specs.declared.sheet.Sheet.{Sheet}

abbrev new : Sheet → ℕ → ℕ → List ℕ → Outline
new sheet a b list = replaced (outline sheet) a b (length list)

module _ (sheet : Sheet) (a b : ℕ) (list : List ℕ) (whole : IsMember (outline sheet) a b) (l : a ≤ b) (some : 0 < length list) (room : HasRoom (outline sheet) a b (length list)) (steps : ArrayVec ℕ 128) (same : contents steps ≡ put_in (actions sheet) a b list) (behind blocks : List (BitSet 2)) (ties : Rows behind (new sheet a b list).tied) (ends : Rows blocks (new sheet a b list).block) where
  rules : Rules (new sheet a b list)
  rules = replace_keeps_rules (outline sheet) (sheet_rules sheet) a b (length list) whole some

  pub asked_outline : outlined steps behind blocks ≡ new sheet a b list
  asked_outline = kept_outline (new sheet a b list) rules room steps (ap length same ∙ length-put_in (actions sheet) a b list l whole.0) behind blocks ties ends

  pub asked_rules : ∥ Rules (outlined steps behind blocks) ∥₁
  asked_rules = rules_kept (outlined steps behind blocks) (new sheet a b list) asked_outline rules
