use Rattle.std.proofs.Common.{refl, rules, ap}
use Rattle.std.proofs.lemmas.Result.{err_from_is_err_and}
use Rattle.text.specs.Fields.{IsNumber}
use Rattle.text.specs.Readers.{unread}
use Rattle.text.proofs.Lists.{Parted, parted_broken, parted_less, parted_reads}
use Rattle.text.proofs.list.Entries.next.Goals as goal
use Rattle.text.proofs.list.Entries.next.Goals.{After-parted}

parted : (c : After-parted) → Parted c.args.self.now c.in-Some.text.now c.parted.result.0.now c.parted.result.1
parted c = record {
  has = ap (λ o. unread (record { rest = o })) c.in-Some.is;
  whole = c.parted.ensures.0;
  lacks = c.parted.ensures.1;
}

pub returns-in_err-n : goal.returns-in_err-n
returns-in_err-n c =
    let p = err_from_is_err_and c.from_residual.result c.from_residual.ensures.1 in
    rw (p.1, p.2) (search rules, refl, parted_broken (parted (goal.at.returns-in_err-n c).After-parted) (λ n is. search rules))

pub returns : goal.returns
returns c =
    let p = parted (goal.at.returns c).After-parted in
    let is : IsNumber c.parted.result.0.now c.in_ok-n.n = search rules in
    (is.0, parted_less p, parted_reads p c.in_ok-n.n is)
