use Rattle.std.proofs.Common.{◌∙◌}
use Rattle.whatif_commands.specs.AskingTexts.{view_asked}
use Rattle.whatif_commands.proofs.AskingLaws.{ends_unasked, asks, handed_unasked, question_handed}
use Rattle.whatif_commands.proofs.asking.whatif.Goals as goal

pub returns-in-Ok-clause-told : goal.returns-in-Ok-clause-told
returns-in-Ok-clause-told g c = λ files told.
    c.follow.ensures.told files (c.in_ok-texts.ensures.kept ∙ told) c.args.name.now
    (asks files c.args.name.now c.args.nodes (view_asked c.in_ok-texts.texts) (c.in_ok-texts.ensures.told files told) c.in-Ok.question c.in-Ok.ensures.asked)

pub returns-in-Ok-clause-handed : goal.returns-in-Ok-clause-handed
returns-in-Ok-clause-handed g c =
    c.follow.ensures.handed _ c.args.name.now
    (question_handed _ _ c.args.name.now c.args.nodes (view_asked c.in_ok-texts.texts) c.in_ok-texts.ensures.logged c.in_ok-texts.ensures.short c.in_ok-texts.ensures.brief
    c.in-Ok.question c.in-Ok.ensures.asked)

pub returns-clause-told : goal.returns-clause-told
returns-clause-told g c = λ files told.
    ends_unasked files c.args.name.now c.args.nodes (view_asked c.in_ok-texts.texts) (c.in_ok-texts.ensures.told files told) c.in-Err.stop c.in-Err.ensures.unasked

pub returns-clause-handed : goal.returns-clause-handed
returns-clause-handed g c =
    handed_unasked _ _ c.args.name.now c.args.nodes (view_asked c.in_ok-texts.texts) c.in_ok-texts.ensures.logged c.in_ok-texts.ensures.short c.in_ok-texts.ensures.brief
    c.in-Err.stop c.in-Err.ensures.unasked
