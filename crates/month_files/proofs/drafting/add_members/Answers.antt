use Rattle.std.proofs.Common.{ap, ◌∙◌}
use Rattle.std.proofs.lemmas.Result.{on_ok_weaker}
use Rattle.crew_files.specs.Texts.{crew_text, events_text}
use Rattle.crew_files.specs.declared.part.Part.TheVariants.{History as Past, Fixed as Given}
use Rattle.month_files.proofs.Drafted.{three}
use Rattle.month_files.proofs.drafting.add_members.Goals as goal

pub returns-clause-added : goal.returns-clause-added
returns-clause-added c =
    on_ok_weaker c.add-3.result
    (λ last. three _ _ _ c.args.drafts.now c.add.new.drafts c.add-2.new.drafts c.add-3.new.drafts _ _ _ _ _ _ c.in_ok-add.ensures.added c.in_ok-add-2.ensures.added last
    (c.in_ok-crew.ensures.crew ∙ ap crew_text c.as_slice.ensures)
    (c.in_ok-crew.ensures.history ∙ ap (events_text c.args.base.now.rules.horizon Past) c.as_slice.ensures)
    (c.in_ok-crew.ensures.fixed ∙ ap (events_text c.args.base.now.rules.horizon Given) c.as_slice.ensures)) c.add-3.ensures.added
