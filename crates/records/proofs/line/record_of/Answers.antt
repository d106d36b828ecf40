use Rattle.std.proofs.Common.{◌≡◌, ℕ, ◌⊎◌, List, sym, refl, ◌∙◌, inl, inr, arith}
use Rattle.std.proofs.lemmas.Result.{MatchResult-from_err}
use Rattle.text.specs.Fields.{commas}
use Rattle.records.specs.Lines.{IsFactSet, IsSetText, Line, Proper, word, fields}
use Rattle.records.specs.declared.word.Word.TheVariants.{Start, Goal}
use Rattle.orders.specs.Changes.Change.{swap, group, ungroup, loosen, replace}
use Rattle.records.specs.Lines.Line.{act, start, goal as goal', edit}
use Rattle.records.proofs.line.record_of.Goals as goal

-- the fields of a line with either word are a set
no_set : (bs : List ℕ) → ((s : List ℕ) → (s ≡ bs) × IsSetText s → ⊥) → (l : Line) → Proper l → (word l ≡ Start) ⊎ (word l ≡ Goal) → bs ≡ fields l → ⊥
no_set bs none l p w e =
    let no : (set : List ℕ) → IsFactSet set → bs ≡ commas set → ⊥ = λ set q t. none bs (refl, (set, q, t)) in
    grind arith

pub returns-in_err-set-in-Start : goal.returns-in_err-set-in-Start
returns-in_err-set-in-Start c =
    MatchResult-from_err _ _ _ c.from_residual-in_err-set-in-Start.ensures.0 (λ _ l p w. no_set _ c.in_err-set-in-Start.ensures.1 l p (inl (w ∙ c.in-Start.is)))

pub returns-in_err-set-in-Goal : goal.returns-in_err-set-in-Goal
returns-in_err-set-in-Goal c =
    MatchResult-from_err _ _ _ c.from_residual-in_err-set-in-Goal.ensures.0 (λ _ l p w. no_set _ c.in_err-set-in-Goal.ensures.1 l p (inr (w ∙ c.in-Goal.is)))

pub returns-in_ok-act-in-Act : goal.returns-in_ok-act-in-Act
returns-in_ok-act-in-Act c = let a = c.in_ok-act-in-Act.ensures in (act a.0, a.1, sym c.in-Act.is, a.2, (a.0, refl, a.3))

pub returns-in_ok-set-in-Start : goal.returns-in_ok-set-in-Start
returns-in_ok-set-in-Start c =
    let n = c.in_ok-set-in-Start.ensures in
    let s = n.1 in
    (start s.0, s.1, sym c.in-Start.is, sym n.0 ∙ s.2, (s.0, refl, s.2))

pub returns-in_ok-set-in-Goal : goal.returns-in_ok-set-in-Goal
returns-in_ok-set-in-Goal c =
    let n = c.in_ok-set-in-Goal.ensures in
    let s = n.1 in
    (goal' s.0, s.1, sym c.in-Goal.is, sym n.0 ∙ s.2, (s.0, refl, s.2))

pub returns-in_ok-number-in-Swap : goal.returns-in_ok-number-in-Swap
returns-in_ok-number-in-Swap c = let n = c.in_ok-number-in-Swap.ensures in (edit (swap _), n.0, sym c.in-Swap.is, n.1, (swap _, refl, refl))

pub returns-in_ok-first-in-Group : goal.returns-in_ok-first-in-Group
returns-in_ok-first-in-Group c = let n = c.in_ok-first-in-Group.ensures in (edit (group _ _), (n.0, n.1), sym c.in-Group.is, n.2, (group _ _, refl, refl))

pub returns-in_ok-first-in-Ungroup : goal.returns-in_ok-first-in-Ungroup
returns-in_ok-first-in-Ungroup c = let n = c.in_ok-first-in-Ungroup.ensures in (edit (ungroup _ _), (n.0, n.1), sym c.in-Ungroup.is, n.2, (ungroup _ _, refl, refl))

pub returns-in_ok-before-in-Loosen : goal.returns-in_ok-before-in-Loosen
returns-in_ok-before-in-Loosen c = let n = c.in_ok-before-in-Loosen.ensures in (edit (loosen _ _), (n.0, n.1), sym c.in-Loosen.is, n.2, (loosen _ _, refl, refl))

pub returns-in_ok-first-in-Replace : goal.returns-in_ok-first-in-Replace
returns-in_ok-first-in-Replace c =
    let n = c.in_ok-first-in-Replace.ensures in
    let l = n.2 in
    (edit (replace _ _ l.0), (n.0, n.1, l.1), sym c.in-Replace.is, l.3, (replace _ _ l.0, refl, (l.0, refl, l.2)))
