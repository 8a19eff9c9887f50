-- What an end of `migrate` says, which way leads to it, and which counts it speaks of.
use Rattle.std.proofs.Common.{◌≡◌, ℕ, Result, Ok, Err, inl, inr, refl}
use Rattle.std.specs.Prelude.{◌⊎◌}
use Rattle.shelf.specs.Files.{Files}
use Rattle.shelf.specs.declared.tally.Tally.{Tally}
use Rattle.command_words.specs.declared.command.Command.TheVariants as command
use Rattle.desk_commands.specs.Migrate.{IsMigration}
use Rattle.desk_commands.specs.MigrateEnds.{MigrateCause}
use Rattle.desk_commands.specs.declared.migrate_stop.Migrated.{Migrated}
use Rattle.desk_commands.specs.declared.migrate_stop.MigrateStop.{MigrateStop}
use Rattle.desk_commands.specs.declared.migrate_stop.MigrateStop.TheVariants as stop
use Rattle.month_files.specs.FileNames.{name_of}
use Rattle.month_files.specs.declared.unread.Unread.TheVariants as unread
use Rattle.answer_texts.specs.MigrateTexts.{migrate_status}
use Rattle.answer_texts.specs.declared.status.Status.TheVariants as status
use Rattle.pbs_engine.specs.Rows.{IsQuiet}
use Rattle.pbs_engine.specs.Runs.{RunCause}
use Rattle.pbs_engine.proofs.AwardRows.{unwritten_caused}
use Rattle.pbs_engine.proofs.Meaning.{CommandMeans}
use Rattle.pbs_engine.proofs.MigrateWays.{MigratePath, migrated_path, unmigrated_path, unread_certificate_path}
use Rattle.pbs_engine.proofs.Settled.{settled, unwritten_way, unwritten_means}

pub migrate_means : (files : Files) (end : Result Migrated MigrateStop) → IsMigration files end → CommandMeans files command.Migrate (migrate_status end)
migrate_means files (Ok m) h = inl (inr (m, h))
migrate_means files (Err (stop.Unread (unread.Missing f))) h = (f, h)
migrate_means files (Err (stop.Unread (unread.ReadFault f))) h = tt
migrate_means files (Err (stop.Unread (unread.TooLong f))) h = (f, h)
migrate_means files (Err (stop.Unread unread.NoMemory)) h = tt
migrate_means files (Err (stop.No why)) h = (why, h)
migrate_means files (Err (stop.Unwritten m u)) h = unwritten_means files command.Migrate u.why
migrate_means files (Err stop.NoMemory) h = tt

module _ (old new : Tally) (before after : ℕ) where
  pub migrate_way : (files : Files) (end : Result Migrated MigrateStop) → IsQuiet old new before after → IsMigration files end → MigrateCause old new end
      → MigratePath files (settled (migrate_status end)) ⊎ (migrate_status end ≡ status.NoMemory)
  migrate_way files (Ok m) quiet h cause = inl (migrated_path files m h)
  migrate_way files (Err (stop.Unread (unread.Missing f))) quiet h cause = inl (unread_certificate_path files (unread.Missing f) h)
  migrate_way files (Err (stop.Unread (unread.ReadFault f))) quiet h cause = absurd (quiet.reads cause.rose)
  migrate_way files (Err (stop.Unread (unread.TooLong f))) quiet h cause = inl (unread_certificate_path files (unread.TooLong f) h)
  migrate_way files (Err (stop.Unread unread.NoMemory)) quiet h cause = inr refl
  migrate_way files (Err (stop.No why)) quiet h cause = inl (unmigrated_path files why h)
  migrate_way files (Err (stop.Unwritten m u)) quiet h cause = unwritten_way (MigratePath files) u.why (migrated_path files m h.found)
  migrate_way files (Err stop.NoMemory) quiet h cause = inr refl

  pub migrate_caused : (end : Result Migrated MigrateStop) → MigrateCause old new end → after ≡ before → RunCause old new before after (migrate_status end)
  migrate_caused (Ok m) cause put = (cause, put)
  migrate_caused (Err (stop.Unread (unread.Missing f))) cause put = cause.rose
  migrate_caused (Err (stop.Unread (unread.ReadFault f))) cause put = cause.rose
  migrate_caused (Err (stop.Unread (unread.TooLong f))) cause put = cause.rose
  migrate_caused (Err (stop.Unread unread.NoMemory)) cause put = tt
  migrate_caused (Err (stop.No why)) cause put = (cause, put)
  migrate_caused (Err (stop.Unwritten m u)) cause put = unwritten_caused old new before after (name_of u.file) u.why cause
  migrate_caused (Err stop.NoMemory) cause put = tt
