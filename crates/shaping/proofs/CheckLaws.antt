-- What a checked edit answers, where the sheet asked for is another sheet's steps in another outline.
use Rattle.std.proofs.Common.{◌≡◌, Result, ap, ◌∙◌, subst, MatchResult}
use Rattle.std.proofs.lemmas.Result.{MatchResult-weaker}
use Rattle.shaping.specs.Answers.{Adopts, CheckRefused, IsChecked}
use Rattle.shaping.specs.declared.fault.EditFault.{EditFault}
use Rattle.orders.specs.Sheets.{Outline}
use Rattle.sheet.specs.Sheets.{actions, outline}
use Rattle.sheet.specs.Verdicts.{Passes, Refused}
use Rattle.sheet.specs.declared.sheet.Sheet.{Sheet}
use Rattle.task.specs.declared.tasks.Task.{Task}

pub adopted : (task : Task) (before asked : Sheet) (order : Outline) → actions asked ≡ actions before → outline asked ≡ order → (answer : Result (Unit {0}) EditFault) (after : Sheet) (P : Type 0) (Q : EditFault → Type 0) → Adopts task before asked answer after → (IsChecked task before order after → P) → ((fault : EditFault) → CheckRefused task before order fault → Q fault) → MatchResult answer (λ _. P) (λ fault. Q fault × (after ≡ before))
adopted task before asked order same e answer after P Q adopts passed refused = MatchResult-weaker answer adopts
    (λ _ (p, q). passed (record {
      passes = subst (λ numbers. Passes task numbers order) same (subst (Passes task (actions asked)) e p);
      same_actions = ap actions q ∙ same;
      new_outline = ap outline q ∙ e;
    }))
    (λ fault ((why, is, r), q). (refused fault (why, is, subst (λ numbers. Refused task numbers order why) same (subst (λ s. Refused task (actions asked) s why) e r)), q))
