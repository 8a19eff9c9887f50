use Rattle.std.proofs.Common.{ap, ◌∙◌}
use Rattle.std.proofs.lemmas.Result.{on_ok_weaker}
use Rattle.pairing_files.specs.Texts.{pairings_text, duties_text, legs_text}
use Rattle.month_files.proofs.Drafted.{three}
use Rattle.month_files.proofs.drafting.add_pairings.Goals as goal

pub returns-clause-added : goal.returns-clause-added
returns-clause-added c =
    on_ok_weaker c.add-3.result
    (λ last. three _ _ _ c.args.drafts.now c.add.new.drafts c.add-2.new.drafts c.add-3.new.drafts _ _ _ _ _ _ c.in_ok-add.ensures.added c.in_ok-add-2.ensures.added last
    (c.in_ok-pairings.ensures.pairings ∙ ap pairings_text c.as_slice.ensures)
    (c.in_ok-pairings.ensures.duties ∙ ap (duties_text c.args.base.now.rules.horizon) c.as_slice.ensures)
    (c.in_ok-pairings.ensures.legs ∙ ap (legs_text c.args.base.now.rules.horizon) c.as_slice.ensures)) c.add-3.ensures.added
