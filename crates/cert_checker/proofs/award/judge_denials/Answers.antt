use Rattle.std.proofs.Common.{List, sym, subst}
use Rattle.std.specs.Prelude.{All}
use Rattle.std.proofs.lemmas.Result.{on_ok_weaker, IfErr-weaker}
use Rattle.roster_model.specs.declared.award.Shown.{Shown}
use Rattle.cert_checker.specs.Given.{HasCountableProof, HasSmallProof}
use Rattle.cert_checker.proofs.Scores.{scores-length}
use Rattle.cert_checker.proofs.Denied.{fails_slice, few_slice, fit_slice, list_fails, list_refused, named_slice, places_slice, refused_slice}
use Rattle.cert_checker.proofs.award.judge_denials.Goals as goal

pub returns-in-Some-clause-fault : goal.returns-in-Some-clause-fault
returns-in-Some-clause-fault c =
    list_fails c.args.problem.now c.args.roster.now c.args.reasons.now c.as_slice-listed.result.now c.as_slice-listed.ensures
    c.args.shown.now c.as_slice-parts.result.now c.as_slice-parts.ensures c.if-found-listed.false
    c.in-Some.bid c.in-Some.ensures.first

pub returns-in-Some-clause-refused : goal.returns-in-Some-clause-refused
returns-in-Some-clause-refused c named =
    list_refused c.args.problem.now c.args.roster.now c.args.reasons.now c.as_slice-listed.result.now c.as_slice-listed.ensures
    c.args.shown.now c.as_slice-parts.result.now c.as_slice-parts.ensures c.if-found-listed.false
    c.in-Some.bid c.in-Some.ensures.first

pub first_unshown-requires-clause-members : goal.first_unshown-requires-clause-members
first_unshown-requires-clause-members c = scores-length c.args.problem.now c.args.roster.now _ c.requires.scores

pub first_unshown-requires-clause-few : goal.first_unshown-requires-clause-few
first_unshown-requires-clause-few c =
    few_slice c.args.problem.now c.args.roster.now c.args.reasons.now c.as_slice-listed.result.now c.as_slice-listed.ensures c.requires.bids c.in_default.ensures.first

pub first_unshown-requires-clause-bids : goal.first_unshown-requires-clause-bids
first_unshown-requires-clause-bids c =
    named_slice c.args.problem.now c.args.roster.now c.args.reasons.now c.as_slice-listed.result.now c.as_slice-listed.ensures c.requires.bids

pub first_unshown-requires-clause-places : goal.first_unshown-requires-clause-places
first_unshown-requires-clause-places c =
    places_slice c.args.problem.now c.args.roster.now c.args.reasons.now c.as_slice-listed.result.now c.as_slice-listed.ensures c.requires.bids c.in_default.ensures.first

pub first_unshown-requires-clause-small : goal.first_unshown-requires-clause-small
first_unshown-requires-clause-small c = subst (λ (ps : List Shown). All HasSmallProof ps) (sym c.as_slice-parts.ensures) c.requires.small

pub first_unshown-requires-clause-countable : goal.first_unshown-requires-clause-countable
first_unshown-requires-clause-countable c = subst (λ (ps : List Shown). All HasCountableProof ps) (sym c.as_slice-parts.ensures) c.requires.countable.each

pub returns-clause-fit : goal.returns-clause-fit
returns-clause-fit c =
    on_ok_weaker c.first_unshown.result
    (fit_slice c.args.problem.now c.args.roster.now c.args.reasons.now c.as_slice-listed.result.now c.as_slice-listed.ensures
    c.args.shown.now c.as_slice-parts.result.now c.as_slice-parts.ensures c.if-found-listed.false
    c.args.scores.now c.requires.scores c.requires.bids c.in_default.ensures.first)
    c.first_unshown.ensures.shown

pub returns-clause-fault : goal.returns-clause-fault
returns-clause-fault c =
    IfErr-weaker c.first_unshown.result _ _
    (fails_slice c.args.problem.now c.args.roster.now c.args.reasons.now c.as_slice-listed.result.now c.as_slice-listed.ensures
    c.args.shown.now c.as_slice-parts.result.now c.as_slice-parts.ensures c.if-found-listed.false
    c.args.scores.now c.requires.scores c.requires.bids c.in_default.ensures.first)
    c.first_unshown.ensures.fault

pub returns-clause-refused : goal.returns-clause-refused
returns-clause-refused c =
    IfErr-weaker c.first_unshown.result _ _
    (refused_slice c.args.problem.now c.args.roster.now c.args.reasons.now c.as_slice-listed.result.now c.as_slice-listed.ensures
    c.args.shown.now c.as_slice-parts.result.now c.as_slice-parts.ensures c.if-found-listed.false
    c.args.scores.now c.requires.scores c.requires.bids c.in_default.ensures.first)
    c.first_unshown.ensures.fault
