use Rattle.std.proofs.Common.{◌≡◌, Option, List, sym, subst, arith}
use Rattle.std.specs.Prelude.{All}
use Rattle.std.specs.Option.{ForSome}
use Rattle.std.proofs.lemmas.Result.{err_from_is_err_and}
use Rattle.cert_checker.specs.Given.{HasSmallWeights, IsCountableProof}
use Rattle.open_time.specs.Judged.{IsFirstOpenNo, NamesOpenFault}
use Rattle.open_time.specs.Refuted.{IsOpenAward}
use Rattle.open_time.proofs.OneMonth.{length-members}
use Rattle.roster_model.specs.declared.proof.Item.{Item}
use Rattle.open_commands.proofs.Limits.{countable_parts, small_parts}
use Rattle.open_commands.proofs.OpenCheckingLaws.{bids_named, countable_below, ends_at_judge, lines_in_range, shown, small_below}
use Rattle.open_commands.proofs.open_checking.judge_said.Goals as goal

pub judge_open-requires-clause-small_none : goal.judge_open-requires-clause-small_none
judge_open-requires-clause-small_none c =
    subst (λ (o : Option (List Item)). ForSome o (All HasSmallWeights)) (sym c.as_ref.ensures.value) (small_below c.args.none.now c.requires.small)

pub judge_open-requires-clause-countable_none : goal.judge_open-requires-clause-countable_none
judge_open-requires-clause-countable_none c =
    subst (λ (o : Option (List Item)). ForSome o IsCountableProof) (sym c.as_ref.ensures.value) (countable_below c.args.none.now c.requires.small)

pub judge_open-requires-clause-lines : goal.judge_open-requires-clause-lines
judge_open-requires-clause-lines c =
    omega (arith, c.requires.roster.lines, length-members c.args.problem.now c.args.count c.args.made.now c.requires.made)

pub judge_open-requires-clause-pairings : goal.judge_open-requires-clause-pairings
judge_open-requires-clause-pairings c =
    lines_in_range c.args.problem.now c.args.count c.args.made.now c.args.roster.now c.requires.made c.requires.roster.each

pub judge_open-requires-clause-bids : goal.judge_open-requires-clause-bids
judge_open-requires-clause-bids c =
    bids_named c.args.problem.now c.args.count c.args.made.now c.args.reasons.now c.requires.made c.requires.bids

pub judge_open-requires-clause-small_shown : goal.judge_open-requires-clause-small_shown
judge_open-requires-clause-small_shown c = small_parts c.args.awarded.now c.requires.limits

pub judge_open-requires-clause-countable_shown : goal.judge_open-requires-clause-countable_shown
judge_open-requires-clause-countable_shown c = countable_parts c.args.awarded.now c.requires.limits

pub returns-in_err-judge_open : goal.returns-in_err-judge_open
returns-in_err-judge_open c =
    let p = err_from_is_err_and c.from_residual.result c.from_residual.ensures.1 in
    let problem = c.args.problem.now in
    let count = c.args.count in
    let roster = c.args.roster.now in
    let reasons = c.args.reasons.now in
    let awarded = c.args.awarded.now in
    let why = c.in_err-judge_open.field-0.0 in
    record {
      end = λ lodged says. rw (p.1, p.2) (ends_at_judge problem count lodged c.args.made.now c.args.none.now awarded says.proofs
          reasons says.reasons_read roster says.roster_read why
          (subst (λ (o : Option (List Item)). IsFirstOpenNo problem count o roster reasons awarded why) c.as_ref.ensures.value c.in_err-judge_open.ensures.first)
          (subst (λ (o : Option (List Item)). NamesOpenFault why → IsOpenAward problem count o roster reasons awarded → ⊥) c.as_ref.ensures.value c.in_err-judge_open.ensures.refused));
    }

pub returns : goal.returns
returns c =
    let problem = c.args.problem.now in
    let count = c.args.count in
    let roster = c.args.roster.now in
    let reasons = c.args.reasons.now in
    let awarded = c.args.awarded.now in
    record {
      end = λ lodged says. shown problem count lodged c.args.made.now c.args.none.now awarded says.proofs
          reasons says.reasons_read roster says.roster_read c.in_ok-scores_of.field-0
          (subst (λ (o : Option (List Item)). IsOpenAward problem count o roster reasons awarded) c.as_ref.ensures.value c.in_ok-judge_open.ensures.accepted)
          c.in_ok-judge_open.ensures.needs c.in_ok-judge_open.ensures.fewest c.in_ok-scores_of.ensures.value;
    }
