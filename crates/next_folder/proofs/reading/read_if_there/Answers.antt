use Rattle.std.proofs.Common.{subst}
use Rattle.month_files.specs.FileNames.{name_of}
use Rattle.month_files.specs.Reading.{UnreadIs, within}
use Rattle.month_files.specs.declared.unread.Unread.{Unread}
use Rattle.shelf.specs.Files.{file}
use Rattle.next_folder.proofs.Found.{there_long}
use Rattle.next_folder.proofs.reading.read_if_there.Goals as goal

pub returns-in-Err-TooLong-clause-told : goal.returns-in-Err-TooLong-clause-told
returns-in-Err-TooLong-clause-told g c = λ files f.
    there_long c.args.which c.in-Err-TooLong.file (file files (name_of c.args.which))
    (subst (λ (why : Unread). UnreadIs why (within c.args.which (file files (name_of c.args.which)))) c.in-Err-TooLong.field-0-is (c.in-Err-TooLong.ensures.told files f))
