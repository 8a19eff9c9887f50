use Rattle.crew_files.proofs.MembersAgain.{texts-again}
use Rattle.crew_files.proofs.writing.put_members.Goals as goal

pub returns-clause-again : goal.returns-clause-again
returns-clause-again c =
    texts-again c.args.horizon.now c.args.list.now c.in_ok-crew.crew c.in_ok-history.history c.in_ok-fixed.fixed c.in_ok-crew.ensures.whole c.in_ok-history.ensures.whole c.in_ok-fixed.ensures.whole
