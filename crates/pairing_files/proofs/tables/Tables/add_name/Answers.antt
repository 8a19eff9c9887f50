use Rattle.std.proofs.Common.{◌∙◌}
use Rattle.pairing_files.proofs.NameFacts.{insert-new}
use Rattle.pairing_files.proofs.tables.Tables.add_name.Goals as goal

pub returns-in-Ok-insert-clause-ok : goal.returns-in-Ok-insert-clause-ok
returns-in-Ok-insert-clause-ok c =
    c.in-Ok-insert.ensures.keys ∙ insert-new _ c.args.self.now.list c.args.name.now _ c.requires.named c.requires.new c.in-Ok.ensures.equal
