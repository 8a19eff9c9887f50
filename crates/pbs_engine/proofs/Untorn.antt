-- Where no write failed or found no memory, no file is torn.
use Rattle.std.proofs.Common.{◌≡◌, ℕ, List, Option, None, Result, Ok, Err, refl}
use Rattle.shelf.specs.declared.tally.Tally.{Tally}
use Rattle.command_words.specs.declared.command.Command.{Command}
use Rattle.desk_commands.specs.CalendarEnds.{calendar_written, CalendarCause}
use Rattle.desk_commands.specs.MigrateEnds.{migrate_written, MigrateCause}
use Rattle.desk_commands.specs.TradeEnds.{trade_written, TradeCause}
use Rattle.desk_commands.specs.declared.calendars.MemberCalendar.{MemberCalendar}
use Rattle.desk_commands.specs.declared.calendar_stop.CalendarStop.{CalendarStop}
use Rattle.desk_commands.specs.declared.calendar_stop.CalendarStop.TheVariants as calendar_stop
use Rattle.desk_commands.specs.declared.migrate_stop.Migrated.{Migrated}
use Rattle.desk_commands.specs.declared.migrate_stop.MigrateStop.{MigrateStop}
use Rattle.desk_commands.specs.declared.migrate_stop.MigrateStop.TheVariants as migrate_stop
use Rattle.desk_commands.specs.declared.trade_stop.Traded.{Traded}
use Rattle.desk_commands.specs.declared.trade_stop.TradeStop.{TradeStop}
use Rattle.desk_commands.specs.declared.trade_stop.TradeStop.TheVariants as trade_stop
use Rattle.month_commands.specs.AwardEnds.{award_written, AwardCause}
use Rattle.month_commands.specs.MakeEnds.{make_written, MakeCause}
use Rattle.month_commands.specs.declared.award_stop.Finding.{Finding}
use Rattle.month_commands.specs.declared.award_stop.AwardStop.{AwardStop}
use Rattle.month_commands.specs.declared.award_stop.AwardStop.TheVariants as award_stop
use Rattle.month_commands.specs.declared.make_stop.MakeStop.{MakeStop}
use Rattle.month_commands.specs.declared.make_stop.MakeStop.TheVariants as make_stop
use Rattle.whatif_commands.specs.AskingEnds.{whatif_written, AskingCause}
use Rattle.open_commands.specs.OpeningEnds.{open_written, OpenCause}
use Rattle.whatif_commands.specs.declared.asking_stop.WhatIf.{WhatIf}
use Rattle.whatif_commands.specs.declared.asking_stop.WhatIfStop.{WhatIfStop}
use Rattle.whatif_commands.specs.declared.asking_stop.WhatIfStop.TheVariants as whatif_stop
use Rattle.open_commands.specs.declared.open_stop.OpenFinding.{OpenFinding}
use Rattle.open_commands.specs.declared.open_stop.OpenStop.{OpenStop}
use Rattle.open_commands.specs.declared.open_stop.OpenStop.TheVariants as open_stop
use Rattle.month_files.specs.FileNames.{name_of}
use Rattle.month_files.specs.Writes.{StopCause}
use Rattle.month_files.specs.declared.writing.Draft.{Draft}
use Rattle.month_files.specs.declared.writing.WriteStop.{WriteStop}
use Rattle.month_files.specs.declared.writing.WriteStop.TheVariants as write
use Rattle.pbs_engine.specs.Outcomes.{written_by, HasCause}
use Rattle.pbs_engine.specs.Runs.{Shelved, ComesTo, WritesWell, TearsNone}
use Rattle.pbs_engine.specs.declared.outcome.Outcome.{Outcome}
use Rattle.pbs_engine.specs.declared.outcome.Outcome.TheVariants as outcome

module _ (old new : Tally) (well : WritesWell old new) where
  never : (name : List ℕ) (why : WriteStop) → StopCause name old new why → ⊥
  never name write.Fault cause = well.no_fails cause.rose
  never name write.NoMemory cause = well.no_wants cause.rose

  award_whole : (end : Result Finding AwardStop) → AwardCause old new end → (award_written end).torn ≡ None
  award_whole (Ok f) cause = refl
  award_whole (Err (award_stop.Unread why)) cause = refl
  award_whole (Err (award_stop.BadInput why)) cause = refl
  award_whole (Err (award_stop.Budget nodes)) cause = refl
  award_whole (Err (award_stop.Unwritten f u)) cause = absurd (never (name_of u.file) u.why cause)
  award_whole (Err award_stop.NoMemory) cause = refl

  migrate_whole : (end : Result Migrated MigrateStop) → MigrateCause old new end → (migrate_written end).torn ≡ None
  migrate_whole (Ok m) cause = refl
  migrate_whole (Err (migrate_stop.Unread why)) cause = refl
  migrate_whole (Err (migrate_stop.No why)) cause = refl
  migrate_whole (Err (migrate_stop.Unwritten m u)) cause = absurd (never (name_of u.file) u.why cause)
  migrate_whole (Err migrate_stop.NoMemory) cause = refl

  trade_whole : (end : Result Traded TradeStop) → TradeCause old new end → (trade_written end).torn ≡ None
  trade_whole (Ok t) cause = refl
  trade_whole (Err (trade_stop.Unread why)) cause = refl
  trade_whole (Err (trade_stop.BadInput why)) cause = refl
  trade_whole (Err (trade_stop.No why)) cause = refl
  trade_whole (Err (trade_stop.Unwritten t u)) cause = absurd (never (name_of u.file) u.why cause)
  trade_whole (Err trade_stop.NoMemory) cause = refl

  calendar_whole : (end : Result MemberCalendar CalendarStop) → CalendarCause old new end → (calendar_written end).torn ≡ None
  calendar_whole (Ok m) cause = refl
  calendar_whole (Err (calendar_stop.Unread why)) cause = refl
  calendar_whole (Err (calendar_stop.BadInput why)) cause = refl
  calendar_whole (Err (calendar_stop.No why)) cause = refl
  calendar_whole (Err (calendar_stop.Unwritten m why)) cause = absurd (never m.file why cause)
  calendar_whole (Err calendar_stop.NoMemory) cause = refl

  whatif_whole : (end : Result WhatIf WhatIfStop) → AskingCause old new end → (whatif_written end).torn ≡ None
  whatif_whole (Ok w) cause = refl
  whatif_whole (Err (whatif_stop.Unread why)) cause = refl
  whatif_whole (Err (whatif_stop.BadInput why)) cause = refl
  whatif_whole (Err (whatif_stop.BadBids fault)) cause = refl
  whatif_whole (Err (whatif_stop.No why)) cause = refl
  whatif_whole (Err (whatif_stop.Budget nodes)) cause = refl
  whatif_whole (Err (whatif_stop.Unwritten w u)) cause = absurd (never (name_of u.file) u.why cause)
  whatif_whole (Err whatif_stop.NoMemory) cause = refl

  open_whole : (end : Result OpenFinding OpenStop) → OpenCause old new end → (open_written end).torn ≡ None
  open_whole (Ok f) cause = refl
  open_whole (Err (open_stop.Unread why)) cause = refl
  open_whole (Err (open_stop.BadInput why)) cause = refl
  open_whole (Err (open_stop.No why)) cause = refl
  open_whole (Err (open_stop.Budget nodes)) cause = refl
  open_whole (Err (open_stop.Unwritten f u)) cause = absurd (never (name_of u.file) u.why cause)
  open_whole (Err open_stop.NoMemory) cause = refl

  make_whole : (end : Result (List Draft) MakeStop) → MakeCause old new end → (make_written end).torn ≡ None
  make_whole (Ok drafts) cause = refl
  make_whole (Err (make_stop.Unwritten drafts u)) cause = absurd (never (name_of u.file) u.why cause)
  make_whole (Err make_stop.NoMemory) cause = refl

  whole : (o : Outcome) → HasCause old new o → (written_by o).torn ≡ None
  whole outcome.Usage cause = refl
  whole (outcome.Check end) cause = refl
  whole (outcome.Award nodes end) cause = award_whole end cause
  whole (outcome.Show name end) cause = refl
  whole (outcome.Make sizes end) cause = make_whole end cause
  whole (outcome.Trial sizes nodes end) cause = refl
  whole (outcome.Migrate end) cause = migrate_whole end cause
  whole (outcome.Trade end) cause = trade_whole end cause
  whole (outcome.Calendar name end) cause = calendar_whole end cause
  whole (outcome.WhatIf name nodes end) cause = whatif_whole end cause
  whole (outcome.Open lines nodes end) cause = open_whole end cause
  whole (outcome.OpenCheck lines end) cause = refl

pub run_untorn : (c : Option Command) (old new : Shelved) (o : Outcome) → WritesWell old.tally new.tally → ComesTo c old new o → TearsNone c old new
run_untorn c old new o well comes = record { outcome = o; comes = comes; whole = whole old.tally new.tally well o comes.cause }
