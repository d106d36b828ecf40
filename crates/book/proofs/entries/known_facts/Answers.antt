use Rattle.std.proofs.Common.{[], ◌∷◌, ◌++◌, arith}
use Rattle.std.proofs.ByRecursion.{All-push}
use Rattle.text.proofs.Lists.{reads_all, reads_broken, reads_more}
use Rattle.book.proofs.ReadSoFar.{gave, inserted, next_known}
use Rattle.book.proofs.entries.known_facts.Goals as goal

pub returns-in_err-n : goal.returns-in_err-n
returns-in_err-n c set is =
    let end = rw c.in_err-n.was at (gave _ _ c.next.result c.ok.result c.ok.ensures.value c.next.ensures) in
    absurd (reads_broken c.loop-n.invariant.1 end.1.2 set is)

pub loop-n-preserved : goal.loop-n-preserved
loop-n-preserved c =
    let next = rw (c.in_ok-n.was, c.in-Some.is) at (gave _ _ c.next.result c.ok.result c.ok.ensures.value c.next.ensures) in
    let i = c.loop-n.invariant in
    let n = c.in-Some.n in
    (i.0 ++ n ∷ [], reads_more i.1 next.2, All-push _ i.0 n i.2 c.if-fact-task.false, λ f. inserted _ _ i.0 n f (omega arith) (i.3 f) (c.insert.ensures.members f))

pub returns-then-fact-task : goal.returns-then-fact-task
returns-then-fact-task c set is known =
    let next = rw (c.in_ok-n.was, c.in-Some.is) at (gave _ _ c.next.result c.ok.result c.ok.ensures.value c.next.ensures) in
    omega (arith, next_known _ _ _ _ _ c.loop-n.invariant.1 next.2 _ set is known)

pub returns : goal.returns
returns c set is =
    let end = rw (c.in_ok-n.was, c.in_default.is) at (gave _ _ c.next.result c.ok.result c.ok.ensures.value c.next.ensures) in
    let i = c.loop-n.invariant in
    rw ((reads_all i.1 end.1 set).0 is) (i.2, i.3)
