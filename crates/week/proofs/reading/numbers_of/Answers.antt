use Rattle.std.proofs.Common.{◌≡◌, ℕ, ◌<◌, ◌≤◌, List, [], ◌∷◌, ◌++◌, length, Ok, Err, Result, ap, ◌∙◌, arith, length-append, MatchResult}
use Rattle.text.proofs.Lists.{reads_more}
use Rattle.week.proofs.reading.numbers_of.Goals as goal

-- one number more, if there is room for it
pushed : (B : Type 0) (r : Result (Unit {0}) ℕ) (old new done : List ℕ) (n : ℕ) → MatchResult r (λ _. (length old < 128) × (new ≡ old ++ n ∷ [])) (λ e. (length old ≡ 128) × B × (e ≡ n)) → (length done ≤ 128 → old ≡ done) → length (done ++ n ∷ []) ≤ 128 → new ≡ done ++ n ∷ []
pushed B (Ok _) old new done n (_, e) same few = e ∙ ap (λ (l : List ℕ). l ++ n ∷ []) (same (omega (arith, length-append done (n ∷ []))))
pushed B (Err _) old new done n (full, _, _) same few = absurd (omega (arith, length-append done (n ∷ []), ap length (same (omega (arith, length-append done (n ∷ []))))))

pub loop-number-preserved : goal.loop-number-preserved
loop-number-preserved c =
    let i = c.loop-number.invariant in
    let next = rw c.in-Ok-Some.field-0-is at c.in-Ok-Some.ensures in
    (i.0 ++ c.in-Ok-Some.number ∷ [], reads_more i.1 next.2, pushed _ c.push.result _ _ i.0 c.in-Ok-Some.number c.push.ensures i.2)
