use Rattle.std.proofs.Common.{◌∙◌, arith, rules}
use Rattle.lines.proofs.Puts.{put_more, ahead_more, ahead_all}
use Rattle.lines.proofs.Texts.{steps_more, steps_end}
use Rattle.lines.proofs.listing.Goals as goal

pub loop-position-preserved : goal.loop-position-preserved
loop-position-preserved c = (
  c.line-in-loop-position.ensures.same_buffer ∙ c.loop-position.invariant.0,
  ahead_more (steps_more c.args.steps.now c.loop-position.position c.loop-position-test.true) c.loop-position.invariant.1 c.line-in-loop-position.ensures.writes,
)

pub returns : goal.returns
returns c =
    let rest = ahead_all (steps_end c.args.steps.now c.loop-position.position c.loop-position-test.false) c.loop-position.invariant.1 in
    let all = put_more (omega arith) c.line.ensures.writes rest in
    search rules
