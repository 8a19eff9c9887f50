use Rattle.std.proofs.Common.{◌≡◌, ◌<◌, ◌∙◌, ℕ, Bool, true, List, Option, Some, length, sym, ap, subst, arith}
use Rattle.std.specs.Prelude.{All, None, filter}
use Rattle.std.specs.List.{range_with_len}
use Rattle.std.proofs.lemmas.Bool.{false≢true}
use Rattle.roster_model.specs.Ascending.{is_ascending}
use Rattle.roster_model.specs.Decided.{is_decided_as}
use Rattle.roster_model.specs.Closing.{decided_line}
use Rattle.cert_checker.proofs.Choices.{choice_read, choices_turned, known_turned, line_more, line_with, line_without}
use Rattle.cert_checker.proofs.Lines.{ascends_from-filter}
use Rattle.cert_checker.proofs.Taken.{ok_fact}
use Rattle.cert_checker.proofs.fixed.decided_line.Goals.{then-flies+else-is_err, else-flies}
use Rattle.cert_checker.proofs.fixed.decided_line.Goals as goal

pub choices_of-requires : goal.choices_of-requires
choices_of-requires c = record {
  pairings =
      known_turned c.decisions.result.now c.args.node.now c.len.result c.decisions.ensures.order
      (subst (λ (n : ℕ). All (λ d. d.pairing < n) c.args.node.now) (sym c.len.ensures) c.requires.node.pairings);
}

pub returns-in_default : goal.returns-in_default
returns-in_default c =
    let all = choices_turned c.decisions.result.now c.args.node.now c.args.member c.len.result c.in_ok-choices.choices.items c.decisions.ensures.order c.in_ok-choices.ensures.choices in
    let here =
    choice_read c.deref-choice-items.result.now c.in_ok-choices.choices.items c.loop-pairing.pairing None c.deref-choice-items.ensures.value c.loop-pairing-test.true c.in_default.is in
    let same = ap (λ (xs : List (Option Bool)). length xs) c.deref-choice-items.ensures.value in
    record {
      found = record {
        in_range = omega (arith, c.loop-pairing-test.true, same, all.each, c.len.ensures);
        undecided = all.here c.loop-pairing.pairing None here;
        before = c.loop-pairing.invariant.decided;
      };
    }

pub loop-pairing-preserved : goal.loop-pairing-preserved
loop-pairing-preserved c =
    let k = c.loop-pairing.pairing in
    let all = choices_turned c.decisions.result.now c.args.node.now c.args.member c.len.result c.in_ok-choices.choices.items c.decisions.ensures.order c.in_ok-choices.ensures.choices in
    let here =
    choice_read c.deref-choice-items.result.now c.in_ok-choices.choices.items k (Some c.in-Some.flies) c.deref-choice-items.ensures.value c.loop-pairing-test.true c.in-Some.is in
    record {
      flown =
          elim c.if-flies.branch [
            | then-flies+else-is_err w ↦
                w.flown-is
                ∙ ok_fact w.push.result (sym w.is_err.ensures.value ∙ w.if-is_err.false) w.push.ensures.ok
                ∙ line_with c.args.node.now c.args.member c.len.result k c.in_ok-choices.choices.items c.in-Some.flies c.loop-pairing.flown all here w.if-flies.true c.loop-pairing.invariant.flown
            | else-flies w ↦
                w.flown-is
                ∙ line_without c.args.node.now c.args.member c.len.result k c.in_ok-choices.choices.items c.in-Some.flies c.loop-pairing.flown c.requires.node.once all here w.if-flies.false c.loop-pairing.invariant.flown
          ];
      decided = line_more c.args.node.now c.args.member c.len.result k c.in_ok-choices.choices.items c.in-Some.flies all here c.loop-pairing.invariant.decided;
    }

pub unreachable-requires : goal.unreachable-requires
unreachable-requires c =
    let test = λ (p : ℕ). is_decided_as c.args.node.now c.args.member p true in
    false≢true (c.in-None.ensures.succeeds.1 (subst (λ (xs : List ℕ). is_ascending xs ≡ true) (sym c.loop-pairing.invariant.flown) (ascends_from-filter test 0 0 c.loop-pairing.pairing (omega arith))))

pub returns : goal.returns
unfolding decided_line
returns c =
    let test = λ (p : ℕ). is_decided_as c.args.node.now c.args.member p true in
    let same = ap (λ (xs : List (Option Bool)). length xs) c.deref-choice-items.ensures.value in
    let all : c.loop-pairing.pairing ≡ length c.args.problem.now.base.pairings =
    omega (arith, c.loop-pairing-test.false, c.loop-pairing.auto.pairing-end, same, c.in_ok-choices.ensures.choices.each, c.len.ensures) in
    record {
      found = record {
        decided = λ p lt. c.loop-pairing.invariant.decided p (omega (arith, lt, all));
        value = c.in-Some-new.ensures.value ∙ c.loop-pairing.invariant.flown ∙ ap (λ (n : ℕ). filter test (range_with_len 0 n)) all;
      };
    }
