use Rattle.std.proofs.Common.{ℕ, ltb, sym, ◌∙◌, rules, arith}
use Rattle.std.proofs.lemmas.Iterator.{YieldsList-from_slice}
use Rattle.std.proofs.lemmas.Iterator.Search.{all_from_yields_List}
use Rattle.std.proofs.lemmas.List.Sums.{AllPass-from_list_all}
use Rattle.std.proofs.lemmas.Bool.Decides.{nat_tests}
use Rattle.comparing.proofs.enumeration.Order.keeps_ties.Goals as goal
use Rattle.comparing.specs.Orders.{place}

pub returns : goal.returns
returns g c all k d l =
    let pairs = c.args.pairs.now in
    let before = λ (tie : ℕ × ℕ). ltb (place g.P.Position.numbers c.args.self.now tie.0) (place g.P.Position.numbers c.args.self.now tie.1) in
    let found = all_from_yields_List before _ _ _ c.all.ensures.ran (YieldsList-from_slice pairs (cc)) (λ tie b q k. search rules) in
    let each = AllPass-from_list_all before pairs (sym found ∙ all) k d l in
    grind (arith, nat_tests, each)
