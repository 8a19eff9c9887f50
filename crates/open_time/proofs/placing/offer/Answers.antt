use Rattle.std.proofs.Common.{ℕ, List, sym, ap, ◌∙◌, arith}
use Rattle.roster_model.specs.Scores.{is_flown}
use Rattle.open_time.proofs.Sweeping.{not_there, one_refused, one_taken}
use Rattle.open_time.proofs.placing.offer.Goals as goal

pub returns-then-not-is_flown : goal.returns-then-not-is_flown
returns-then-not-is_flown c = record {
  found = not_there c.args.problem.now c.args.roster.now c.args.giver c.args.pairing c.args.crew
      (ap (λ (l : List ℕ). is_flown l c.args.pairing) (sym c.line_at.ensures.line) ∙ sym c.is_flown.ensures.flown ∙ c.if-not-is_flown.true);
}

pub try_move-requires-clause-has : goal.try_move-requires-clause-has
try_move-requires-clause-has c =
    ap (λ (l : List ℕ). is_flown l c.args.pairing) (sym c.line_at.ensures.line) ∙ sym c.is_flown.ensures.flown ∙ c.if-not-is_flown.false

pub loop-taker-init : goal.loop-taker-init
loop-taker-init c = λ m lt. absurd (omega (arith, lt))

pub loop-taker-preserved : goal.loop-taker-preserved
loop-taker-preserved c =
    one_refused c.args.problem.now c.args.roster.now c.args.giver c.args.pairing c.loop-taker.taker c.loop-taker.invariant
    (rw c.in-None.is at c.in_ok-made.ensures.found)

pub returns-in-Some : goal.returns-in-Some
returns-in-Some c = record {
  found = one_taken c.args.problem.now c.args.roster.now c.in-Some.made c.args.crew c.args.giver c.loop-taker.taker c.args.pairing
      c.requires.complete c.requires.vacant c.requires.giver c.loop-taker-test.true (rw c.in-Some.is at c.in_ok-made.ensures.found);
}

pub returns : goal.returns
returns c = record {
  found = λ m lt can. c.loop-taker.invariant m (omega (arith, lt, c.loop-taker-test.false)) can;
}
