use Rattle.std.proofs.Common.{arith}
use Rattle.std.specs.Option.{option_copied}
use Rattle.std.proofs.lemmas.Result.{on_ok_weaker, IfErr-weaker}
use Rattle.open_time.proofs.OneMonth.{length-members, bid-made, in_range-made}
use Rattle.open_time.proofs.Unfilled.{unfilled_under}
use Rattle.open_time.proofs.Needs.{below_unfilled, needs_vacant}
use Rattle.open_time.proofs.Judgings.{opening_first, opening_refuses, below_first, below_refuses, award_first, award_refuses}
use Rattle.open_time.proofs.judging.judge_open.Goals as goal

pub judge_award-requires-clause-lines : goal.judge_award-requires-clause-lines
judge_award-requires-clause-lines c =
    omega (arith, c.requires.lines, length-members c.args.problem.now c.args.count c.in-Ok.made c.in-Ok.ensures.made)

pub judge_award-requires-clause-pairings : goal.judge_award-requires-clause-pairings
judge_award-requires-clause-pairings c =
    in_range-made c.args.problem.now c.args.count c.in-Ok.made c.args.roster.now c.in-Ok.ensures.made c.requires.pairings

pub judge_award-requires-clause-bids : goal.judge_award-requires-clause-bids
judge_award-requires-clause-bids c = λ k d lt.
    bid-made c.args.problem.now c.args.count c.in-Ok.made _ c.in-Ok.ensures.made (c.requires.bids k d lt)

pub returns-in-Err-clause-first : goal.returns-in-Err-clause-first
returns-in-Err-clause-first c =
    opening_first c.args.problem.now c.args.count (option_copied c.args.none) c.args.roster.now c.args.reasons.now c.args.awarded.now c.in-Err.why c.in-Err.ensures.fault

pub returns-in-Err-clause-refused : goal.returns-in-Err-clause-refused
returns-in-Err-clause-refused c named is =
    opening_refuses c.args.problem.now c.args.count (option_copied c.args.none) c.args.roster.now c.args.reasons.now c.args.awarded.now c.in-Err.why c.in-Err.ensures.fault named is.room

pub returns-in-Err-judge_below-clause-first : goal.returns-in-Err-judge_below-clause-first
returns-in-Err-judge_below-clause-first c =
    below_first c.args.problem.now c.args.count (option_copied c.args.none) c.args.roster.now c.args.reasons.now c.args.awarded.now c.in-Err-judge_below.why
    c.in-Ok.ensures.room c.in-Err-judge_below.ensures.fault

pub returns-in-Err-judge_below-clause-refused : goal.returns-in-Err-judge_below-clause-refused
returns-in-Err-judge_below-clause-refused c named is =
    below_refuses c.args.problem.now c.args.count (option_copied c.args.none) c.in-Err-judge_below.why c.in-Err-judge_below.ensures.fault named is.fewer

pub returns-clause-accepted : goal.returns-clause-accepted
returns-clause-accepted c =
    on_ok_weaker c.judge_award.result
    (λ accepted. record {
      room = c.in-Ok.ensures.room;
      fewer = c.in-Ok-judge_below.ensures.accepted;
      award = record { made = c.in-Ok.made; of = c.in-Ok.ensures.made; accepted = accepted };
    }) c.judge_award.ensures.accepted

pub returns-clause-needs : goal.returns-clause-needs
returns-clause-needs c =
    on_ok_weaker c.judge_award.result
    (λ accepted. needs_vacant c.args.problem.now c.args.count (option_copied c.args.none) c.args.roster.now c.args.reasons.now c.args.awarded.now (record {
      room = c.in-Ok.ensures.room;
      fewer = c.in-Ok-judge_below.ensures.accepted;
      award = record { made = c.in-Ok.made; of = c.in-Ok.ensures.made; accepted = accepted };
    })) c.judge_award.ensures.accepted

pub returns-clause-fewest : goal.returns-clause-fewest
returns-clause-fewest c =
    on_ok_weaker c.judge_award.result
    (λ accepted. unfilled_under c.args.problem.now c.args.count c.in-Ok.ensures.room
    (below_unfilled c.args.problem.now c.args.count (option_copied c.args.none) c.in-Ok-judge_below.ensures.accepted)) c.judge_award.ensures.accepted

pub returns-clause-first : goal.returns-clause-first
returns-clause-first c =
    IfErr-weaker c.judge_award.result _ _
    (λ why h. award_first c.args.problem.now c.args.count (option_copied c.args.none) c.args.roster.now c.args.reasons.now c.args.awarded.now c.in-Ok.made why
    c.in-Ok.ensures.made c.in-Ok.ensures.room c.in-Ok-judge_below.ensures.accepted h)
    c.judge_award.ensures.fault

pub returns-clause-refused : goal.returns-clause-refused
returns-clause-refused c =
    IfErr-weaker c.judge_award.result _ _
    (λ why h named is. award_refuses c.args.problem.now c.args.count (option_copied c.args.none) c.args.roster.now c.args.reasons.now c.args.awarded.now c.in-Ok.made why
    c.in-Ok.ensures.made h named is)
    c.judge_award.ensures.fault
