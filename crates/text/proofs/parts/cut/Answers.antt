use Rattle.std.proofs.Common.{◌+◌, rules}
use Rattle.std.proofs.lemmas.List.{take_rest}
use Rattle.text.proofs.Cuts.{cut_at}
use Rattle.text.proofs.parts.cut.Goals as goal

pub returns : goal.returns
returns c =
    let bs = c.args.bytes.now in
    rw (take_rest bs (c.in_ok-at.at + 1)) (cut_at c.args.mark bs c.in_ok-at.at (search rules) (search rules) (λ k before. search rules))
