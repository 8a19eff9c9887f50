use Rattle.std.proofs.Common.{inr, ◌∙◌}
use Rattle.std.proofs.lemmas.Result.{on_ok_weaker, IfErr-weaker}
use Rattle.roster_model.proofs.Soundness.{closes_sound}
use Rattle.roster_model.proofs.Greatest.{best-greatest}
use Rattle.roster_model.proofs.Denials.{awarded_answered}
use Rattle.cert_checker.proofs.award.judge_noting.Goals as goal

pub returns-in_err-scores-clause-sound : goal.returns-in_err-scores-clause-sound
returns-in_err-scores-clause-sound c = closes_sound c.args.problem.now

pub judge_denials-judged-requires-clause-scores : goal.judge_denials-judged-requires-clause-scores
judge_denials-judged-requires-clause-scores c = c.as_slice.ensures ∙ c.in_ok-scores.ensures.value

pub returns-clause-accepted : goal.returns-clause-accepted
returns-clause-accepted c =
    on_ok_weaker c.judge_denials-judged.result (λ fit. record { best = c.in_ok-scores.ensures.accepted; denials = fit }) c.judge_denials-judged.ensures.fit

pub returns-clause-first : goal.returns-clause-first
returns-clause-first c =
    IfErr-weaker c.judge_denials-judged.result _ _ (λ why h. inr (c.in_ok-scores.ensures.accepted, h)) c.judge_denials-judged.ensures.fault

pub returns-clause-refused : goal.returns-clause-refused
returns-clause-refused c =
    IfErr-weaker c.judge_denials-judged.result _ _ (λ why h named is. h named is.denials) c.judge_denials-judged.ensures.refused

pub returns-clause-greatest : goal.returns-clause-greatest
returns-clause-greatest c =
    on_ok_weaker c.judge_denials-judged.result
    (λ fit. best-greatest c.args.problem.now c.args.roster.now c.args.awarded.now.proofs c.in_ok-scores.ensures.accepted) c.judge_denials-judged.ensures.fit

pub returns-clause-answered : goal.returns-clause-answered
returns-clause-answered c =
    on_ok_weaker c.judge_denials-judged.result
    (λ fit. awarded_answered c.args.problem.now c.args.roster.now c.args.reasons.now c.args.awarded.now (record { best = c.in_ok-scores.ensures.accepted; denials = fit }))
    c.judge_denials-judged.ensures.fit

pub returns-clause-sound : goal.returns-clause-sound
returns-clause-sound c = closes_sound c.args.problem.now

pub judge_places-requires-clause-right : goal.judge_places-requires-clause-right
judge_places-requires-clause-right c = c.new-recall.ensures.right c.args.problem.now
