use Rattle.std.proofs.Common.{◌≡◌, ℕ, List, true, subst, ◌∙◌}
use Rattle.std.specs.Prelude.{All}
use Rattle.std.proofs.lemmas.List.{take_all}
use Rattle.std.proofs.lemmas.List.Elements.{All-more}
use Rattle.roster_model.specs.Ascending.{is_ascending}
use Rattle.roster_text.proofs.printing.lines_ascend.Goals as goal

pub loop-line-preserved : goal.loop-line-preserved
loop-line-preserved c =
    All-more (λ (line : List ℕ). is_ascending line ≡ true) c.as_slice-line-items.result.now c.loop-line.line-index c.line-item.result c.loop-line-test.true c.loop-line.invariant
    (subst (λ (line : List ℕ). is_ascending line ≡ true) c.line-item.is c.pairings-pairings.ensures.ascending)

pub returns : goal.returns
returns c =
    record {
      ascending =
          subst (λ (ls : List (List ℕ)). All (λ (line : List ℕ). is_ascending line ≡ true) ls)
          (take_all c.loop-line.line-index c.as_slice-line-items.result.now c.loop-line-test.false ∙ c.as_slice-line-items.ensures) c.loop-line.invariant;
    }
