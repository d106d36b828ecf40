use Rattle.std.proofs.Common.{◌<◌, ◌≤◌, MatchResult, arith}
use Rattle.std.proofs.lemmas.Result.{err_from_is_err_and}
use Rattle.records.specs.Lines.{Line, Proper}
use Rattle.records.specs.Reading.{Next}
use Rattle.records.specs.Records.{Says}
use Rattle.book.specs.Joining.{Joins}
use Rattle.book.specs.Stages.{rank_of}
use Rattle.book.proofs.Placed.{behind}
use Rattle.book.proofs.Progress.{begin, no_form, unfinished, finished, out_of_turn, in_turn}
use Rattle.book.proofs.load.gather.Goals as goal

pub loop-next-init : goal.loop-next-init
loop-next-init c = begin _ _ _ _ c.new-reader.ensures.text c.new-reader.ensures.line c.line-line.ensures c.new-loader.ensures.week c.new-loader.ensures.stage

pub returns-in_err-next : goal.returns-in_err-next
returns-in_err-next c =
    let p = err_from_is_err_and c.from_residual.result c.from_residual.ensures.1 in
    let n = behind (λ r. Next c.loop-next.reader r c.next.new.self) _ c.next.result _ c.in_err-next.ensures c.next.ensures in
    rw (p.1, p.2) (omega arith, rw n.2 (no_form c.loop-next.invariant c.next.new.self n.0 n.1))

pub loop-next-preserved : goal.loop-next-preserved
loop-next-preserved c =
    let n = rw c.in-Some.is at (behind (λ r. Next c.loop-next.reader r c.next.new.self) _ c.next.result _ c.in_ok-next.ensures c.next.ensures) in
    let j = behind (λ r. (l : Line) → Proper l → Says c.in-Some.next l → Joins c.loop-next.loader l r c.accept.new.self) _ c.accept.result _ c.in_ok-placed.ensures c.accept.ensures in
    in_turn c.loop-next.invariant c.next.new.self c.in-Some.next n c.accept.new.self c.line-line-in-Some.result c.line-line-in-Some.ensures j

pub returns-in_err-placed : goal.returns-in_err-placed
returns-in_err-placed c =
    let p = err_from_is_err_and c.from_residual-in_err-placed.result c.from_residual-in_err-placed.ensures.1 in
    let n = rw c.in-Some.is at (behind (λ r. Next c.loop-next.reader r c.next.new.self) _ c.next.result _ c.in_ok-next.ensures c.next.ensures) in
    let j = behind (λ r. (l : Line) → Proper l → Says c.in-Some.next l → Joins c.loop-next.loader l r c.accept.new.self) _ c.accept.result _ c.in_err-placed.ensures c.accept.ensures in
    rw (p.1, p.2) (omega arith, rw j.2 (out_of_turn c.loop-next.invariant c.next.new.self c.in-Some.next n c.accept.new.self j.0 j.1))

pub returns-in_err-placed-2 : goal.returns-in_err-placed-2
returns-in_err-placed-2 c =
    let p = err_from_is_err_and c.from_residual-in_err-placed-2.result c.from_residual-in_err-placed-2.ensures.1 in
    let n = rw c.in_default.is at (behind (λ r. Next c.loop-next.reader r c.next.new.self) _ c.next.result _ c.in_ok-next.ensures c.next.ensures) in
    let early = behind (λ r. MatchResult r (λ _. 3 ≤ rank_of c.loop-next.loader.stage) (λ _. rank_of c.loop-next.loader.stage < 3)) _ c.end.result _ c.in_err-placed-2.ensures c.end.ensures in
    rw (p.1, p.2) (omega arith, rw early.2 (unfinished c.loop-next.invariant c.next.new.self n early.1))

pub returns : goal.returns
returns c =
    let n = rw c.in_default.is at (behind (λ r. Next c.loop-next.reader r c.next.new.self) _ c.next.result _ c.in_ok-next.ensures c.next.ensures) in
    let late = behind (λ r. MatchResult r (λ _. 3 ≤ rank_of c.loop-next.loader.stage) (λ _. rank_of c.loop-next.loader.stage < 3)) _ c.end.result _ c.in_ok-placed-2.ensures c.end.ensures in
    finished c.loop-next.invariant c.next.new.self n late (omega arith)
