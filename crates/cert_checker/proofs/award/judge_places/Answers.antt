use Rattle.std.proofs.Common.{◌∙◌, arith}
use Rattle.roster_model.proofs.Soundness.{closes_sound}
use Rattle.roster_model.proofs.Greatest.{best-greatest}
use Rattle.cert_checker.proofs.Scores.{scores-length, scores-small}
use Rattle.cert_checker.proofs.Taken.{err_at}
use Rattle.cert_checker.proofs.Verdicts.{best_of, first_of, incomplete_fails, refused_of}
use Rattle.cert_checker.proofs.award.judge_places.Goals as goal

pub returns-in_err-whole-clause-first : goal.returns-in_err-whole-clause-first
returns-in_err-whole-clause-first c =
    err_at c.from_residual.result c.in_err-whole.field-0.0 _ c.from_residual.ensures.1
    (incomplete_fails c.args.problem.now c.args.roster.now c.args.place_proofs.now c.in_err-whole.field-0.0 c.in_err-whole.ensures.fault)

pub places-requires-clause-members : goal.places-requires-clause-members
places-requires-clause-members c = scores-length c.args.problem.now c.args.roster.now _ (c.as_slice.ensures ∙ c.in_ok-scores.ensures.value)

pub places-requires-clause-amount : goal.places-requires-clause-amount
places-requires-clause-amount c =
    let scores = scores-length c.args.problem.now c.args.roster.now _ (c.as_slice.ensures ∙ c.in_ok-scores.ensures.value) in omega (arith, scores)

pub places-requires-clause-room : goal.places-requires-clause-room
places-requires-clause-room c = scores-small c.args.problem.now c.args.roster.now _ (c.as_slice.ensures ∙ c.in_ok-scores.ensures.value)

pub returns-clause-accepted : goal.returns-clause-accepted
returns-clause-accepted c =
    best_of c.args.problem.now c.args.roster.now c.args.place_proofs.now c.as_slice-proofs.result.now c.as_slice.result.now
    c.in_ok-whole.ensures.complete (c.as_slice.ensures ∙ c.in_ok-scores.ensures.value) c.as_slice-proofs.ensures (omega arith) c.in_ok-places.ensures.closed

pub returns-in_err-places-clause-first : goal.returns-in_err-places-clause-first
returns-in_err-places-clause-first c =
    err_at c.from_residual-in_err-places.result c.in_err-places.field-0.0 _ c.from_residual-in_err-places.ensures.1
    (first_of c.args.problem.now c.args.roster.now c.args.place_proofs.now c.as_slice-proofs.result.now c.as_slice.result.now c.in_err-places.field-0.0
    c.in_ok-whole.ensures.complete (c.as_slice.ensures ∙ c.in_ok-scores.ensures.value) c.as_slice-proofs.ensures (omega arith) c.in_err-places.ensures.fault)

pub returns-in_err-places-clause-refused : goal.returns-in_err-places-clause-refused
returns-in_err-places-clause-refused c =
    err_at c.from_residual-in_err-places.result c.in_err-places.field-0.0 _ c.from_residual-in_err-places.ensures.1
    (refused_of c.args.problem.now c.args.roster.now c.args.place_proofs.now c.as_slice-proofs.result.now c.as_slice.result.now c.in_err-places.field-0.0
    (c.as_slice.ensures ∙ c.in_ok-scores.ensures.value) c.as_slice-proofs.ensures c.in_err-places.ensures.fault)

pub returns-clause-greatest : goal.returns-clause-greatest
returns-clause-greatest c =
    best-greatest c.args.problem.now c.args.roster.now c.args.place_proofs.now
    (best_of c.args.problem.now c.args.roster.now c.args.place_proofs.now c.as_slice-proofs.result.now c.as_slice.result.now
    c.in_ok-whole.ensures.complete (c.as_slice.ensures ∙ c.in_ok-scores.ensures.value) c.as_slice-proofs.ensures (omega arith) c.in_ok-places.ensures.closed)

pub returns-in_err-whole-clause-sound : goal.returns-in_err-whole-clause-sound
returns-in_err-whole-clause-sound c = closes_sound c.args.problem.now

pub returns-then-found-len-clause-sound : goal.returns-then-found-len-clause-sound
returns-then-found-len-clause-sound c = closes_sound c.args.problem.now

pub returns-in_err-scores-clause-sound : goal.returns-in_err-scores-clause-sound
returns-in_err-scores-clause-sound c = closes_sound c.args.problem.now

pub returns-in_err-places-clause-sound : goal.returns-in_err-places-clause-sound
returns-in_err-places-clause-sound c = closes_sound c.args.problem.now

pub returns-clause-sound : goal.returns-clause-sound
returns-clause-sound c = closes_sound c.args.problem.now
