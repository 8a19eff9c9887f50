use Rattle.std.proofs.Common.{false, get_or, ◌∙◌}
use Rattle.std.proofs.lemmas.Bool.{false≢true}
use Rattle.term_lines.proofs.ChainLines.{line_is, line_ascends}
use Rattle.term_lines.proofs.lines.chain_line.Goals as goal

pub unreachable-requires : goal.unreachable-requires
unreachable-requires c =
    false≢true
    (c.in-None.ensures.succeeds.1
    (line_ascends c.in_ok-numbers.numbers (λ p. get_or c.deref.result.now p false) _ c.in_ok-numbers.ensures.numbers))

pub returns : goal.returns
returns c = record {
  line =
      c.in-Some.ensures.value
      ∙ line_is
      c.in_ok-flags.flags.items
      c.deref.result.now
      c.args.adds.now
      c.args.arcs.now
      c.in_ok-numbers.numbers
      c.args.count
      c.deref.ensures.value
      c.in_ok-flags.ensures.count
      c.in_ok-flags.ensures.added
      c.in_ok-numbers.ensures.numbers;
}
