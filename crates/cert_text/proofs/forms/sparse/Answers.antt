use Rattle.std.proofs.Common.{[], sym, ap, ◌∙◌}
use Rattle.cert_text.specs.Words.{words_behind}
use Rattle.cert_text.specs.Forms.{filled}
use Rattle.cert_text.proofs.CappedEntries.{sparse_bad, sparse_good}
use Rattle.cert_text.proofs.forms.sparse.Goals as goal

pub returns-then-not-is_number : goal.returns-then-not-is_number
returns-then-not-is_number c = record {
  said =
      sparse_bad (words_behind c.args.words.now) c.in-Ok.found.0.now (words_behind c.in-Ok.found.1.now) c.in-Ok.ensures.said (sym c.is_number.ensures.value ∙ c.if-not-is_number.true);
}

pub returns-in_ok-filled-in-Ok-pair : goal.returns-in_ok-filled-in-Ok-pair
returns-in_ok-filled-in-Ok-pair c = record {
  said =
      sparse_good (words_behind c.args.words.now) c.in-Ok.found.0.now (words_behind c.in-Ok.found.1.now) c.in_ok-given.given c.number.result c.in-Ok-pair.most c.in-Ok-pair.given
      c.in_ok-filled-in-Ok-pair.field-0 c.in-Ok.ensures.said c.in-Ok-pair.ensures.value c.number.ensures.said c.in_ok-given.ensures.said
      (c.in_ok-filled-in-Ok-pair.ensures.value ∙ ap (filled c.in-Ok-pair.most []) c.as_slice.ensures);
}
