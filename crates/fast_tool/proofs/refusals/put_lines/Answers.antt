use Rattle.std.proofs.Common.{◌∙◌, arith}
use Rattle.fast_tool.proofs.Puts.{put_more, put_partly}
use Rattle.fast_tool.proofs.refusals.put_lines.Goals as goal

pub lines-preserved : goal.lines-preserved
lines-preserved g c = (
  c.line_end-end.ensures.high,
  put_more (g.K.Sink.written c.args.sink.now) (g.K.Sink.written c.lines.sink) (g.K.Sink.written c.put_line.new.sink) c.lines.from c.line_end-end.result c.args.text.now c.lines.invariant.1 (omega (arith, c.line_end-end.ensures.low)) c.in-Ok.ensures.ok,
  c.in-Ok.ensures.faults.same (λ e. cc) ∙ c.lines.invariant.2,
)

pub returns-in-Err-clause-err : goal.returns-in-Err-clause-err
returns-in-Err-clause-err g c = put_partly (g.K.Sink.written c.args.sink.now) (g.K.Sink.written c.lines.sink) (g.K.Sink.written c.put_line.new.sink) c.lines.from c.line_end-end.result c.args.text.now c.lines.invariant.1 c.in-Err.ensures.err
