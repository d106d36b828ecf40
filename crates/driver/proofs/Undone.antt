-- How many positions are undone.
use Rattle.std.proofs.Common.{◌≡◌, ℕ, zero, suc, ◌+◌, ◌-◌, ◌<◌, Bool, true, false, Ok, ⊎_elim, arith, ap, ◌∙◌}
use Rattle.std.proofs.lemmas.Bool.{cases_eq}
use Rattle.std.proofs.lemmas.Bool.Decides.{nat_tests}
use Rattle.driving.specs.Calls.{Moment, TakesAndDoes, Work, done_too}
use Rattle.sets.proofs.Laws.{tally_le, tally_same}
use Rattle.sets.specs.Member.{tally}

-- one more that is done counts one more
counted : (old new : ℕ → Bool) (p n : ℕ) → p < n → old p ≡ false → ((q : ℕ) → new q ≡ done_too old p q) → tally new n ≡ tally old n + 1
counted old new p zero l u each = absurd (omega arith)
counted old new p (suc n) l u each =
    let here = each n in
    ⊎_elim
    (λ e. let same = tally_same new old n (λ k less. let h = each k in grind (arith, nat_tests)) in
    let t : new n ≡ true = grind (arith, nat_tests) in
    let f : old n ≡ false = ap old e ∙ u in
    rw (t, f) (omega arith))
    (λ ne. let ih = counted old new p n (omega arith) u each in
    let t : new n ≡ old n = grind (arith, nat_tests) in
    rw t (omega arith))
    (cases_eq n p)

-- a step that is taken and done leaves one fewer undone
pub fewer_undone : (w : Work) (m n : Moment) (p : ℕ) → TakesAndDoes w m p (Ok tt) n → w.order.size - tally n.done w.order.size < w.order.size - tally m.done w.order.size
fewer_undone w m n p (taken, takes, does) =
    let same : does.0 ≡ p = let e = does.1.0 in cc in
    let done : (q : ℕ) → n.done q ≡ done_too m.done p q = λ q. does.5 q ∙ ap (λ k. done_too (k.done) does.0 q) takes.2 ∙ ap (λ x. done_too m.done x q) same in
    let more = counted m.done n.done p w.order.size takes.0.position takes.0.undone done in
    omega (arith, tally_le n.done w.order.size)
