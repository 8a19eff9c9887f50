use Rattle.std.proofs.Common.{◌≡◌, ◌≤◌, ◌++◌, ℕ, List, length, sym, ap, subst, ◌∙◌}
use Rattle.roster_text.specs.RosterText.{roster_text, longest_text}
use Rattle.roster_text.proofs.RowLaws.{one_roster}
use Rattle.roster_text.proofs.Sizes.{text_short}
use Rattle.roster_text.proofs.printing.print_roster.Goals as goal

pub returns-clause-again : goal.returns-clause-again
returns-clause-again c = λ r good.
    let whole : c.put_roster.new.out ≡ roster_text c.args.problem.now c.args.roster.now =
    c.in_ok-put_roster.ensures.whole ∙ ap (λ (t : List ℕ). t ++ roster_text c.args.problem.now c.args.roster.now) c.new-out.ensures in
    one_roster c.args.problem.now c.put_roster.new.out r c.args.roster.now good (c.put_roster.ensures.valid, whole)

pub returns-clause-short : goal.returns-clause-short
returns-clause-short c =
    let whole : c.put_roster.new.out ≡ roster_text c.args.problem.now c.args.roster.now =
    c.in_ok-put_roster.ensures.whole ∙ ap (λ (t : List ℕ). t ++ roster_text c.args.problem.now c.args.roster.now) c.new-out.ensures in
    subst (λ (t : List ℕ). length t ≤ longest_text) (sym whole) (text_short c.args.problem.now c.args.roster.now c.put_roster.ensures.valid)
