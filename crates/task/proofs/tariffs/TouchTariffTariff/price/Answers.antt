use Rattle.std.proofs.Common.{◌≡◌, ℕ, ◌-◌, ◌^◌, ◌<◌, ◌≤◌, min, Bool, unwrap_or, ap, ◌∙◌, arith, rules}
use Rattle.std.specs.Option.{option_map}
use Rattle.sets.proofs.Laws.{tally_le, tally_same}
use Rattle.sets.specs.Member.{member, tally}
use Rattle.task.proofs.tariffs.TouchTariffTariff.price.Goals as goal
use Rattle.task.specs.Prices.{touched, touches}

-- over any number of facts, since a count over 64 computes to a sum of 64 terms
counted : (p q : ℕ → Bool) (n r : ℕ) → n < 2 ^ 64 → ((f : ℕ) → p f ≡ q f) → r ≡ min (tally p n) (2 ^ 64 - 1) → (r ≡ tally q n) × (r ≤ n)
counted p q n r small same e =
    let most = tally_le p n in
    let eq = tally_same p q n (λ f _. same f) in
    (omega arith, omega arith)

exact : (c : goal.After-count) → (c.count.result ≡ touches c.args.self.now.marked c.in-Some.a) × (c.count.result ≤ 64)
exact c =
    counted (member c.intersection.result.words) (touched c.args.self.now.marked c.in-Some.a) 64 c.count.result (omega arith)
    (λ f. cc (c.intersection.ensures f, c.union.ensures f)) c.count.ensures

pub overflow_cast-result : goal.overflow_cast-result
overflow_cast-result c = let small = (exact c).1 in search rules

pub returns-in-Some : goal.returns-in-Some
returns-in-Some c =
    (exact c).0 ∙ ap (λ o. unwrap_or (option_map (touches c.args.self.now.marked) o) 0) c.in-Some.ensures
