-- What a fault of the certificate's text becomes for `migrate`, and which changes of the shelf's counts and which files an
-- end of the command comes with.
use Rattle.std.specs.Prelude.{◌≡◌, Result, Ok, Err}
use Rattle.cert_text.specs.declared.fault.CertCode.{CertCode}
use Rattle.cert_text.specs.declared.fault.CertCode.TheVariants as cert
use Rattle.cert_text.specs.declared.fault.CertFault.{CertFault}
use Rattle.month_files.specs.FileNames.{name_of}
use Rattle.month_files.specs.Reading.{UnreadCause}
use Rattle.month_files.specs.Writes.{Written, nothing_written, written, StopCause}
use Rattle.shelf.specs.declared.tally.Tally.{Tally}
use Rattle.desk_commands.specs.declared.migrate_stop.Migrated.{Migrated}
use Rattle.desk_commands.specs.declared.migrate_stop.MigrateStop.{MigrateStop}
use Rattle.desk_commands.specs.declared.migrate_stop.MigrateStop.TheVariants as stop
use Rattle.desk_commands.specs.declared.migrate_stop.Unmigrated.TheVariants as unmigrated

abbrev pub cert_stop : CertCode → CertFault → MigrateStop
cert_stop cert.NoMemory fault = stop.NoMemory
cert_stop cert.Version fault = stop.No (unmigrated.Certificate fault)
cert_stop cert.Word fault = stop.No (unmigrated.Certificate fault)
cert_stop cert.Number fault = stop.No (unmigrated.Certificate fault)
cert_stop cert.Short fault = stop.No (unmigrated.Certificate fault)
cert_stop cert.Trailing fault = stop.No (unmigrated.Certificate fault)
cert_stop cert.Limit fault = stop.No (unmigrated.Certificate fault)

-- which change of the shelf's counts an end comes with
abbrev pub MigrateCause : Tally → Tally → Result Migrated MigrateStop → Type 0
MigrateCause old new (Ok m) = new ≡ old
MigrateCause old new (Err (stop.Unread why)) = UnreadCause old new why
MigrateCause old new (Err (stop.No why)) = new ≡ old
MigrateCause old new (Err (stop.Unwritten m u)) = StopCause (name_of u.file) old new u.why
MigrateCause old new (Err stop.NoMemory) = new ≡ old

-- the file that is written, or none
abbrev pub migrate_written : Result Migrated MigrateStop → Written
migrate_written (Ok m) = written m.drafts (Ok tt)
migrate_written (Err (stop.Unread why)) = nothing_written
migrate_written (Err (stop.No why)) = nothing_written
migrate_written (Err (stop.Unwritten m u)) = written m.drafts (Err u)
migrate_written (Err stop.NoMemory) = nothing_written
