use Rattle.std.proofs.Common.{refl}
use Rattle.next_folder.specs.Texts.{view_theirs}
use Rattle.next_folder.proofs.Found.{all_drafts}
use Rattle.next_folder.proofs.drafts.next_drafts.Goals as goal

pub returns-clause-drafts : goal.returns-clause-drafts
returns-clause-drafts c = λ members is_crew is_past is_coming.
    all_drafts (view_theirs c.args.theirs.now) c.args.rules.now members c.args.theirs.now.rules c.args.theirs.now.crew c.args.theirs.now.fixed
    c.new-drafts.result c.add_unless.new.drafts c.add_unless-2.new.drafts c.add_unless-3.new.drafts c.add_unless-4.new.drafts c.is_some.result c.is_some-2.result c.is_some-3.result _ _ _ _ refl refl refl
    c.new-drafts.ensures c.in_ok-add_unless.ensures.added c.in_ok-add_unless-2.ensures.added c.in_ok-add_unless-3.ensures.added c.in_ok-add_unless-4.ensures.added
    c.is_some.ensures c.is_some-2.ensures c.is_some-3.ensures c.in_ok-text.ensures.value is_crew is_past is_coming
