use Rattle.std.proofs.Common.{◌≡◌, ◌≤◌, ◌++◌, ℕ, List, length, sym, ap, subst, ◌∙◌}
use Rattle.roster_text.specs.RosterText.{longest_text}
use Rattle.roster_text.specs.ReasonText.{reasons_text}
use Rattle.roster_text.proofs.ReasonLines.{one_list}
use Rattle.roster_text.proofs.ReasonSizes.{reasons_short}
use Rattle.roster_text.proofs.ReasonSteps.{are_reasons}
use Rattle.roster_text.proofs.reason_printing.print_reasons.Goals as goal

pub returns-clause-again : goal.returns-clause-again
returns-clause-again c = λ r good.
    let whole : c.put_reasons.new.out ≡ reasons_text c.args.problem.now c.args.reasons.now =
    c.in_ok-put_reasons.ensures.whole ∙ ap (λ (t : List ℕ). t ++ reasons_text c.args.problem.now c.as_slice.result.now) c.new-out.ensures
    ∙ ap (reasons_text c.args.problem.now) c.as_slice.ensures in
    one_list c.args.problem.now c.put_reasons.new.out r c.args.reasons.now good
    (are_reasons c.args.problem.now c.args.reasons.now c.requires.bids c.requires.places, whole)

pub returns-clause-short : goal.returns-clause-short
returns-clause-short c = λ few.
    let whole : c.put_reasons.new.out ≡ reasons_text c.args.problem.now c.args.reasons.now =
    c.in_ok-put_reasons.ensures.whole ∙ ap (λ (t : List ℕ). t ++ reasons_text c.args.problem.now c.as_slice.result.now) c.new-out.ensures
    ∙ ap (reasons_text c.args.problem.now) c.as_slice.ensures in
    subst (λ (t : List ℕ). length t ≤ longest_text) (sym whole)
    (reasons_short c.args.problem.now c.args.reasons.now (are_reasons c.args.problem.now c.args.reasons.now c.requires.bids c.requires.places) few)
