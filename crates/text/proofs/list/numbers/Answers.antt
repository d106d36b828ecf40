use Rattle.std.proofs.Common.{[], refl, arith}
use Rattle.text.proofs.Rises.{some_list, some_more}
use Rattle.text.proofs.list.numbers.Goals as goal

pub loop-n-init : goal.loop-n-init
loop-n-init c = some_list c.args.rising _ c.args.text.now c.new-entries.ensures

pub loop-n-preserved : goal.loop-n-preserved
loop-n-preserved c =
    let next = rw c.in-Some.is at c.in_ok-n.ensures in
    let step = some_more c.args.rising _ _ c.loop-n.least c.in-Some.n next.2 (λ must. grind (arith, c.else-rising.either)) in
    let whole = c.loop-n.invariant in
    (λ s. whole.0 (step.1 s), λ s. step.0 (whole.1 s))

pub returns : goal.returns
returns c =
    let ended = rw c.in_default.is at c.in_ok-n.ensures in
    (refl, c.loop-n.invariant.0 ([], (ended.1 []).1 refl, λ must. tt))
