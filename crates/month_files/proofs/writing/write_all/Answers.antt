use Rattle.std.proofs.Common.{◌∙◌}
use Rattle.month_files.proofs.WriteLaws.{written_more}
use Rattle.month_files.proofs.writing.write_all.Goals as goal

pub loop-before-preserved : goal.loop-before-preserved
loop-before-preserved g c = record {
  held = written_more _ c.args.drafts.now c.loop-before.before c.index-drafts-before.result c.loop-before-test.true c.index-drafts-before.is _ c.loop-before.invariant.held _ c.in_default.ensures.whole;
  counts = c.in_default.ensures.cause ∙ c.loop-before.invariant.counts;
  unlogged = c.write_draft.ensures.unlogged ∙ c.loop-before.invariant.unlogged;
}
