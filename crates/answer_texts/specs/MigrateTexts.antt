-- How a run of `migrate` ends, and what it prints.
use Rattle.std.specs.Prelude.{ℕ, List, [], ◌∷◌, codes, Result, Ok, Err}
use Rattle.cert_text.specs.Codes.{cert_code}
use Rattle.desk_commands.specs.declared.migrate_stop.Migrated.{Migrated}
use Rattle.desk_commands.specs.declared.migrate_stop.MigrateStop.{MigrateStop}
use Rattle.desk_commands.specs.declared.migrate_stop.MigrateStop.TheVariants as stop
use Rattle.desk_commands.specs.declared.migrate_stop.Unmigrated.{Unmigrated}
use Rattle.desk_commands.specs.declared.migrate_stop.Unmigrated.TheVariants as unmigrated
use Rattle.answer_texts.specs.declared.status.Status.{Status}
use Rattle.answer_texts.specs.declared.status.Status.TheVariants as status
use Rattle.answer_texts.specs.Lines.{line_of}
use Rattle.answer_texts.specs.MonthEnds.{unread_status, unread_text}
use Rattle.answer_texts.specs.WriteEnds.{write_status, unwritten_text}

abbrev pub migrate_status : Result Migrated MigrateStop → Status
migrate_status (Ok m) = status.Done
migrate_status (Err (stop.Unread why)) = unread_status why
migrate_status (Err (stop.No why)) = status.No
migrate_status (Err (stop.Unwritten m u)) = write_status u.why
migrate_status (Err stop.NoMemory) = status.NoMemory

-- the version that the certificate had
abbrev pub migrated_line : ℕ → List ℕ
migrated_line version = line_of (codes "migrated") (version ∷ [])

-- why the certificate is not written anew; where the text to be written is too long, line 0 stands for the whole of it
abbrev pub unmigrated_text : Unmigrated → List ℕ
unmigrated_text (unmigrated.Certificate fault) =
    line_of (codes "no certificate") (fault.line ∷ cert_code fault.code ∷ [])
unmigrated_text unmigrated.TooLong = line_of (codes "no certificate") (0 ∷ 6 ∷ [])

abbrev pub migrate_text : Result Migrated MigrateStop → List ℕ
migrate_text (Ok m) = migrated_line m.version
migrate_text (Err (stop.Unread why)) = unread_text why
migrate_text (Err (stop.No why)) = unmigrated_text why
migrate_text (Err (stop.Unwritten m u)) = unwritten_text u
migrate_text (Err stop.NoMemory) = []
