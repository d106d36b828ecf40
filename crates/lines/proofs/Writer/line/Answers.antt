use Rattle.std.proofs.Common.{refl, ◌∙◌, arith}
use Rattle.lines.specs.Text.{line_text}
use Rattle.lines.proofs.Texts.{line_parts, line_more, line_end}
use Rattle.lines.proofs.Puts.{put_more, ahead_none, ahead_more, ahead_all, ahead_length, put_length}
use Rattle.lines.proofs.Writer.line.Goals as goal

pub loop-n-init : goal.loop-n-init
loop-n-init c =
    let fits = line_parts c.args.word.now c.args.numbers.now in
    (refl, ahead_none _ _ _ (omega (arith, fits, put_length (omega (arith, fits)) c.put.ensures.writes)))

pub loop-n-preserved : goal.loop-n-preserved
loop-n-preserved c =
    let digits = rw (c.as_bytes.ensures.value ∙ c.format.ensures.text) at c.put-in-loop-n-2.ensures.writes in (
      c.put-in-loop-n-2.ensures.same_buffer ∙ c.put-in-loop-n.ensures.same_buffer ∙ c.loop-n.invariant.0,
      ahead_more (line_more c.args.numbers.now c.loop-n.n-index c.loop-n-test.true) c.loop-n.invariant.1
          (put_more (omega (arith, ahead_length c.loop-n.invariant.1)) c.put-in-loop-n.ensures.writes digits),
    )

pub returns-clause-writes : goal.returns-clause-writes
unfolding line_text
returns-clause-writes c =
    put_more (omega arith) c.put.ensures.writes
    (ahead_all refl (ahead_more (line_end c.args.numbers.now c.loop-n.n-index c.loop-n-test.false) c.loop-n.invariant.1 c.put-2.ensures.writes))
