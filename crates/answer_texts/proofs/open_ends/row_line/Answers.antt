use Rattle.answer_texts.proofs.Texts.{row_whole}
use Rattle.answer_texts.proofs.open_ends.row_line.Goals as goal

pub returns : goal.returns
returns c = record {
  value = row_whole c.args.row.now c.from.result c.bytes.result.now c.as_slice.result.now _ _ _ _ _ _ c.bytes.ensures.value c.from.ensures c.as_slice.ensures
      c.new-out.ensures c.in_ok-put_bytes.ensures.whole c.in_ok-put_bytes-2.ensures.whole c.in_ok-put_numbers.ensures.whole c.in_ok-put_names.ensures.whole
      c.in_ok-put_bytes-3.ensures.whole;
}
