-- A line that is an action's is read field by field: where a field is refused, what is behind the fields before it is no such text.
use Rattle.std.proofs.Common.{◌≡◌, ℕ, List, decimal, sym, refl}
use Rattle.std.proofs.lemmas.Result.{MatchResult-from_err}
use Rattle.text.specs.Fields.{IsName, Small, commas}
use Rattle.records.specs.Lines.{Deed, IsSetText, ProperDeed, deed_text}
use Rattle.records.specs.Tabs.{◌·◌}
use Rattle.records.proofs.FirstField.{past_name, past_number, past_set}
use Rattle.records.proofs.line.act.Goals as goal

-- in a deed's own text, what is behind each field that was read is the rest of it
module _ (bs : List ℕ) (d : Deed) (p : ProperDeed d) (e : bs ≡ deed_text d) (n r : List ℕ) (name : IsName n × (bs ≡ n · r)) where
  behind_name : r ≡ decimal d.price · commas d.needs · commas d.adds · commas d.deletes
  behind_name = (past_name _ _ _ d.name _ name.0 p.name name.1 e).1

  module _ (k : ℕ) (r′ : List ℕ) (price : Small k × (r ≡ decimal k · r′)) where
    behind_price : r′ ≡ commas d.needs · commas d.adds · commas d.deletes
    behind_price = (past_number _ _ _ d.price _ price.0 p.price price.1 behind_name).1

    behind_needs : (s r″ : List ℕ) → IsSetText s × (r′ ≡ s · r″) → r″ ≡ commas d.adds · commas d.deletes
    behind_needs s r″ needs = (past_set _ _ _ (commas d.needs) _ needs.0 (d.needs, p.needs, refl) needs.1 behind_price).1

pub returns-in_err-name : goal.returns-in_err-name
returns-in_err-name c = MatchResult-from_err _ _ _ c.from_residual.ensures.0 (λ _ d p e. c.in_err-name.ensures.1 (d.name, _) (p.name, e))

pub returns-in_err-price : goal.returns-in_err-price
returns-in_err-price c =
    MatchResult-from_err _ _ _ c.from_residual-in_err-price.ensures.0 (λ _ d p e. c.in_err-price.ensures.1 (d.price, _) (p.price, behind_name _ d p e _ _ c.in_ok-name.ensures))

pub returns-in_err-needs : goal.returns-in_err-needs
returns-in_err-needs c =
    MatchResult-from_err _ _ _ c.from_residual-in_err-needs.ensures.0 (λ _ d p e.
    c.in_err-needs.ensures.1 (commas d.needs, _) ((d.needs, p.needs, refl), behind_price _ d p e _ _ c.in_ok-name.ensures _ _ c.in_ok-price.ensures))

pub returns-in_err-adds : goal.returns-in_err-adds
returns-in_err-adds c =
    MatchResult-from_err _ _ _ c.from_residual-in_err-adds.ensures.0 (λ _ d p e.
    c.in_err-adds.ensures.1 (commas d.adds, _) ((d.adds, p.adds, refl), behind_needs _ d p e _ _ c.in_ok-name.ensures _ _ c.in_ok-price.ensures _ _ c.in_ok-needs.ensures))

pub returns-in_err-deletes : goal.returns-in_err-deletes
returns-in_err-deletes c =
    MatchResult-from_err _ _ _ c.from_residual-in_err-deletes.ensures.0 (λ _ d p e.
    let t = c.in_ok-adds.ensures in
    let last = (past_set _ _ _ (commas d.adds) _ t.0 (d.adds, p.adds, refl) t.1 (behind_needs _ d p e _ _ c.in_ok-name.ensures _ _ c.in_ok-price.ensures _ _ c.in_ok-needs.ensures)).1 in
    c.in_err-deletes.ensures.1 (commas d.deletes) (sym last, (d.deletes, p.deletes, refl)))

whole_deed : (bs n r₁ : List ℕ) (k : ℕ) (r₂ s r₃ t r₄ u ss ts us : List ℕ) → bs ≡ n · r₁ → r₁ ≡ decimal k · r₂ → r₂ ≡ s · r₃ → s ≡ commas ss → r₃ ≡ t · r₄ → t ≡ commas ts
    → u ≡ r₄ → u ≡ commas us → bs ≡ n · decimal k · commas ss · commas ts · commas us
whole_deed bs n r₁ k r₂ s r₃ t r₄ u ss ts us a b c d e f g h = cc

pub returns : goal.returns
returns c =
    let n = c.in_ok-name.ensures in
    let q = c.in_ok-price.ensures in
    let s = c.in_ok-needs.ensures in
    let t = c.in_ok-adds.ensures in
    let u = c.in_ok-deletes.ensures in
    let v = u.1 in
    let d : Deed = record { name = c.in_ok-name.name.now; price = c.in_ok-price.price; needs = s.0.0; adds = t.0.0; deletes = v.0 } in (
      d,
      record { name = n.0; price = q.0; needs = s.0.1; adds = t.0.1; deletes = v.1 },
      whole_deed _ _ _ _ _ _ _ _ _ _ s.0.0 t.0.0 v.0 n.1 q.1 s.1 s.0.2 t.1 t.0.2 u.0 v.2,
      record { name = refl; price = refl; needs = s.0.2; adds = t.0.2; deletes = v.2 },
    )
