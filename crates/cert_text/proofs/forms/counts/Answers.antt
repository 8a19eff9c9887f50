use Rattle.std.proofs.Common.{ap, ◌∙◌}
use Rattle.std.specs.Prelude.{ℕ, Bool, Result}
use Rattle.cert_text.specs.declared.flaw.Flaw.{Flaw}
use Rattle.cert_text.specs.Words.{words_behind}
use Rattle.cert_text.specs.Fields.{alone, kept, pair}
use Rattle.cert_text.specs.Forms.{some_where}
use Rattle.cert_text.proofs.CappedEntries.{counts_is}
use Rattle.cert_text.proofs.forms.counts.Goals as goal

pub returns : goal.returns
returns c = record {
  said =
      counts_is c.args.must (words_behind c.args.words.now) (words_behind c.in_ok-items.rest.now) (words_behind c.in_ok-lenses.rest.now) c.in_ok-items.items.now c.in_ok-lenses.lenses.now c.alone.result
      c.in_ok-items.ensures.said c.in_ok-lenses.ensures.said
      (c.alone.ensures.value ∙ ap (alone (words_behind c.in_ok-lenses.rest.now)) (
      c.kept.ensures.value ∙ ap (λ (b : Bool). kept b c.pair-numbers.result) c.can_use.ensures.value
      ∙ ap (kept _) (c.pair-numbers.ensures.value ∙ ap (λ (r : Result ℕ Flaw). pair r c.some_where-lens_lines.result) c.number-2.ensures.said
      ∙ ap (pair _) (c.some_where-lens_lines.ensures.value ∙ ap (some_where c.args.must) c.number.ensures.said))
      ));
}
