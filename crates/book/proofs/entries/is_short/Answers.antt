use Rattle.std.proofs.Common.{◌≡◌, arith, rules}
use Rattle.std.proofs.lemmas.Bool.Decides.{nat_tests}
use Rattle.book.proofs.Commas.{commas_between, commas_in}
use Rattle.book.proofs.entries.is_short.Goals as goal

counted : (c : goal.After-count) → c.count.result ≡ commas_in c.args.text.now
counted c = search rules

pub returns : goal.returns
returns c list is =
    let e = commas_between list is.0 in
    let n = rw is.1 at (counted c) in
    grind (arith, nat_tests)
