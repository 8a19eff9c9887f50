use Rattle.std.proofs.Common.{arith, sym, ◌∙◌}
use Rattle.std.proofs.lemmas.Bool.{ltb-true}
use Rattle.open_time.specs.Moves.{IsKept, vacant_credit}
use Rattle.open_time.proofs.Sweeping.{for_some}
use Rattle.open_time.proofs.exchanging.try_lines.Goals as goal

pub has_less-less-requires-clause-other_complete : goal.has_less-less-requires-clause-other_complete
has_less-less-requires-clause-other_complete c = (c.in_ok-good.ensures.value.0 c.if-not-good.false).complete

pub returns : goal.returns
returns c = record {
  kept = for_some (IsKept c.args.problem.now c.args.crew c.args.roster.now) c.in_ok-made.made (record {
    good = c.in_ok-good.ensures.value.0 c.if-not-good.false;
    credit =
        let less = ltb-true (vacant_credit c.args.problem.now c.args.crew c.in_ok-made.made) (vacant_credit c.args.problem.now c.args.crew c.args.roster.now)
        (sym c.has_less-less.ensures.value ∙ c.if-not-less.false) in
        omega (arith, less);
  });
}
