use Rattle.std.proofs.Common.{◌==◌, not, rules, arith}
use Rattle.std.proofs.lemmas.Iterator.{YieldsList-from_slice}
use Rattle.std.proofs.lemmas.Iterator.Search.{position_from_yields_List}
use Rattle.std.proofs.lemmas.List.Sums.{prefix_len-le-length}
use Rattle.comparing.proofs.enumeration.Order.place.Goals as goal
use Rattle.comparing.specs.Orders.{positions}

pub returns : goal.returns
returns g c =
    let xs = positions c.args.self.now in
    let found = position_from_yields_List (λ y. g.P.Position.numbers y == c.args.x) _ _ _ c.position.ensures.ran (YieldsList-from_slice xs (cc)) (λ y b q k. search rules) in
    let le = prefix_len-le-length (λ y. not (g.P.Position.numbers y == c.args.x)) xs in
    grind (arith, found, le)
