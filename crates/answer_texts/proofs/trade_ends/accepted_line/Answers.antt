use Rattle.answer_texts.proofs.Texts.{accepted_whole}
use Rattle.answer_texts.proofs.trade_ends.accepted_line.Goals as goal

pub returns : goal.returns
returns c = record {
  value = accepted_whole c.args.number _ _ _ _ c.new-out.ensures c.in_ok-put_bytes.ensures.whole c.in_ok-put_count.ensures.whole c.in_ok-put_bytes-2.ensures.whole;
}
