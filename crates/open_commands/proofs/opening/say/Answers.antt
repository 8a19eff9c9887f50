use Rattle.open_commands.proofs.OpeningLaws.{writable_last}
use Rattle.open_commands.proofs.opening.say.Goals as goal

pub none_drafts-requires : goal.none_drafts-requires
none_drafts-requires c = record {
  writable = writable_last c.args.problem.now c.args.most c.args.nodes c.requires.few c.in-NoRoster.proof c.in-NoRoster.ledger
      (rw c.in-NoRoster.is at c.requires.opened);
}
