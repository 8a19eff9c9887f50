use Rattle.std.proofs.Common.{◌+◌, ◌∙◌, ℕ, List, sym, subst}
use Rattle.std.proofs.lemmas.Bool.{false≢true}
use Rattle.roster_text.specs.RosterText.{member_name}
use Rattle.open_time.specs.Eligible.{IsEligible}
use Rattle.open_commands.specs.OpenRows.{AreNamed}
use Rattle.open_commands.proofs.Those.{named_more, named_skip}
use Rattle.open_commands.proofs.open_rows.eligible_names.Goals as goal
use Rattle.open_commands.proofs.open_rows.eligible_names.Goals.{then-branch+in_ok-name+in_ok-add, else-branch}

pub loop-number-preserved : goal.loop-number-preserved
loop-number-preserved c =
    let P : ℕ → Type 0 = λ m. IsEligible c.args.made.now c.args.roster.now m c.args.pairing in
    let k : ℕ = c.loop-number.number in
    elim c.if-branch.branch [
      | then-branch+in_ok-name+in_ok-add w ↦
          named_more P (member_name c.args.problem.now) c.loop-number.names c.if-branch.names k w.in_ok-name.name c.loop-number.invariant
          (c.in_ok-eligible.ensures.value.0 w.if-branch.true) (w.in_ok-name.ensures.equal ∙ w.member_name.ensures.name)
          (w.names-is ∙ w.in_ok-add.ensures.ok)
      | else-branch w ↦
          subst (λ (xs : List (List ℕ)). AreNamed P (member_name c.args.problem.now) (k + 1) xs) (sym w.names-is)
          (named_skip P (member_name c.args.problem.now) c.loop-number.names k c.loop-number.invariant
          (λ e. false≢true (sym w.if-branch.false ∙ c.in_ok-eligible.ensures.value.1 e)))
    ]
