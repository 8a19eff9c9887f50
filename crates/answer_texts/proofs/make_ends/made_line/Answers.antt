use Rattle.answer_texts.proofs.Texts.{made_whole}
use Rattle.answer_texts.proofs.make_ends.made_line.Goals as goal

pub returns : goal.returns
returns c = record {
  value = made_whole c.args.sizes c.from.result c.from-2.result _ _ _ _ _ _ c.from.ensures c.from-2.ensures c.new-out.ensures
      c.in_ok-put_bytes.ensures.whole c.in_ok-put_count.ensures.whole c.in_ok-put_bytes-2.ensures.whole c.in_ok-put_count-2.ensures.whole
      c.in_ok-put_bytes-3.ensures.whole;
}
