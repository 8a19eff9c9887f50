use Rattle.std.proofs.lemmas.Result.{on_ok_weaker}
use Rattle.chain_search.proofs.Marked.{keeps_at}
use Rattle.chain_search.proofs.marks.Marks.keep.Goals as goal

pub returns : goal.returns
returns g c = record {
  kept = on_ok_weaker c.keep.result (λ holds. keeps_at c.self.inside.rows.items c.args.self.now c.args.place c.index_mut-row.result.now c.keep.new.self c.args.mark c.self.view_is c.requires.within c.index_mut-row.ensures.value holds) c.keep.ensures.kept;
}
