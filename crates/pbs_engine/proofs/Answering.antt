-- The outcome of a command that writes what it finds, what is said of it, and what its reads handed in.
use Rattle.std.proofs.Common.{◌≡◌, ℕ, List, Option, Some, Result, Ok, Err, inl, inr, refl, sym, ap, subst, ◌∙◌, cond}
use Rattle.std.specs.FinMap.{insert, get-insert}
use Rattle.std.proofs.lemmas.Cmp.{nat_list_cmp_total}
use Rattle.std.proofs.lemmas.Map.Text.{is_eq-slice_cmp}
use Rattle.std.proofs.lemmas.Slice.Eq.{bytes_eq-Decides}
use Rattle.shelf.specs.Files.{Files, file}
use Rattle.shelf.specs.Logs.{Entries, holding}
use Rattle.shelf.specs.Puts.{with_piece, Puts}
use Rattle.shelf.specs.declared.fault.SinkFault.{SinkFault}
use Rattle.shelf.specs.declared.fault.SinkFault.TheVariants.{PutFailed, NoMemory}
use Rattle.command_words.specs.declared.command.Command.TheVariants as command
use Rattle.desk_commands.specs.declared.calendar_stop.CalendarStop.{CalendarStop}
use Rattle.desk_commands.specs.declared.calendars.MemberCalendar.{MemberCalendar}
use Rattle.desk_commands.specs.declared.migrate_stop.Migrated.{Migrated}
use Rattle.desk_commands.specs.declared.migrate_stop.MigrateStop.{MigrateStop}
use Rattle.desk_commands.specs.declared.trade_stop.Traded.{Traded}
use Rattle.desk_commands.specs.declared.trade_stop.TradeStop.{TradeStop}
use Rattle.month_files.specs.Handing.{FromReads}
use Rattle.whatif_commands.specs.declared.asking_stop.WhatIf.{WhatIf}
use Rattle.whatif_commands.specs.declared.asking_stop.WhatIfStop.{WhatIfStop}
use Rattle.open_commands.specs.declared.open_check_stop.OpenCheckStop.{OpenCheckStop}
use Rattle.open_commands.specs.declared.open_stop.OpenFinding.{OpenFinding}
use Rattle.open_commands.specs.declared.open_stop.OpenStop.{OpenStop}
use Rattle.month_files.specs.declared.file.File.{File}
use Rattle.answer_texts.specs.declared.status.Status.{Status}
use Rattle.answer_texts.specs.declared.status.Status.TheVariants as status
use Rattle.pbs_engine.specs.Outcomes.{asked_by, status_of, text_of}
use Rattle.pbs_engine.specs.Runs.{Sunk, Says, ending}
use Rattle.pbs_engine.specs.declared.outcome.Outcome.{Outcome}
use Rattle.pbs_engine.specs.declared.outcome.Outcome.TheVariants as outcome

-- ---- the outcome of a command

pub of_migrate : (o : Outcome) → asked_by o ≡ Some command.Migrate → (end : Result Migrated MigrateStop) × (o ≡ outcome.Migrate end)
of_migrate outcome.Usage asked = absurd cc
of_migrate (outcome.Check end) asked = absurd cc
of_migrate (outcome.Award nodes end) asked = absurd cc
of_migrate (outcome.Show name end) asked = absurd cc
of_migrate (outcome.Make sizes end) asked = absurd cc
of_migrate (outcome.Trial sizes nodes end) asked = absurd cc
of_migrate (outcome.Migrate end) asked = (end, refl)
of_migrate (outcome.Trade end) asked = absurd cc
of_migrate (outcome.Calendar name end) asked = absurd cc
of_migrate (outcome.WhatIf name nodes end) asked = absurd cc
of_migrate (outcome.Open lines nodes end) asked = absurd cc
of_migrate (outcome.OpenCheck lines end) asked = absurd cc

pub of_trade : (o : Outcome) → asked_by o ≡ Some command.Trade → (end : Result Traded TradeStop) × (o ≡ outcome.Trade end)
of_trade outcome.Usage asked = absurd cc
of_trade (outcome.Check end) asked = absurd cc
of_trade (outcome.Award nodes end) asked = absurd cc
of_trade (outcome.Show name end) asked = absurd cc
of_trade (outcome.Make sizes end) asked = absurd cc
of_trade (outcome.Trial sizes nodes end) asked = absurd cc
of_trade (outcome.Migrate end) asked = absurd cc
of_trade (outcome.Trade end) asked = (end, refl)
of_trade (outcome.Calendar name end) asked = absurd cc
of_trade (outcome.WhatIf name nodes end) asked = absurd cc
of_trade (outcome.Open lines nodes end) asked = absurd cc
of_trade (outcome.OpenCheck lines end) asked = absurd cc

pub of_calendar : (o : Outcome) (name : List ℕ) → asked_by o ≡ Some (command.Calendar name) → (end : Result MemberCalendar CalendarStop) × (o ≡ outcome.Calendar name end)
of_calendar outcome.Usage name asked = absurd cc
of_calendar (outcome.Check end) name asked = absurd cc
of_calendar (outcome.Award nodes end) name asked = absurd cc
of_calendar (outcome.Show n end) name asked = absurd cc
of_calendar (outcome.Make sizes end) name asked = absurd cc
of_calendar (outcome.Trial sizes nodes end) name asked = absurd cc
of_calendar (outcome.Migrate end) name asked = absurd cc
of_calendar (outcome.Trade end) name asked = absurd cc
of_calendar (outcome.Calendar n end) name asked = let same : n ≡ name = cc in (end, ap (λ (k : List ℕ). outcome.Calendar k end) same)
of_calendar (outcome.WhatIf n nodes end) name asked = absurd cc
of_calendar (outcome.Open lines nodes end) name asked = absurd cc
of_calendar (outcome.OpenCheck lines end) name asked = absurd cc

pub of_whatif : (o : Outcome) (name : List ℕ) (nodes : ℕ) → asked_by o ≡ Some (command.WhatIf name nodes)
    → (end : Result WhatIf WhatIfStop) × (o ≡ outcome.WhatIf name nodes end)
of_whatif outcome.Usage name nodes asked = absurd cc
of_whatif (outcome.Check end) name nodes asked = absurd cc
of_whatif (outcome.Award n end) name nodes asked = absurd cc
of_whatif (outcome.Show n end) name nodes asked = absurd cc
of_whatif (outcome.Make sizes end) name nodes asked = absurd cc
of_whatif (outcome.Trial sizes n end) name nodes asked = absurd cc
of_whatif (outcome.Migrate end) name nodes asked = absurd cc
of_whatif (outcome.Trade end) name nodes asked = absurd cc
of_whatif (outcome.Calendar n end) name nodes asked = absurd cc
of_whatif (outcome.Open l k end) name nodes asked = absurd cc
of_whatif (outcome.OpenCheck l end) name nodes asked = absurd cc
of_whatif (outcome.WhatIf n k end) name nodes asked =
    let same : n ≡ name = cc in
    let so_many : k ≡ nodes = cc in
    (end, ap (λ (x : List ℕ). outcome.WhatIf x k end) same ∙ ap (λ (x : ℕ). outcome.WhatIf name x end) so_many)

pub of_open : (o : Outcome) (lines nodes : ℕ) → asked_by o ≡ Some (command.Open lines nodes)
    → (end : Result OpenFinding OpenStop) × (o ≡ outcome.Open lines nodes end)
of_open outcome.Usage lines nodes asked = absurd cc
of_open (outcome.Check end) lines nodes asked = absurd cc
of_open (outcome.Award n end) lines nodes asked = absurd cc
of_open (outcome.Show n end) lines nodes asked = absurd cc
of_open (outcome.Make sizes end) lines nodes asked = absurd cc
of_open (outcome.Trial sizes n end) lines nodes asked = absurd cc
of_open (outcome.Migrate end) lines nodes asked = absurd cc
of_open (outcome.Trade end) lines nodes asked = absurd cc
of_open (outcome.Calendar n end) lines nodes asked = absurd cc
of_open (outcome.WhatIf n k end) lines nodes asked = absurd cc
of_open (outcome.Open l k end) lines nodes asked =
    let same : l ≡ lines = cc in
    let so_many : k ≡ nodes = cc in
    (end, ap (λ (x : ℕ). outcome.Open x k end) same ∙ ap (λ (x : ℕ). outcome.Open lines x end) so_many)
of_open (outcome.OpenCheck l end) lines nodes asked = absurd cc

pub of_open_check : (o : Outcome) (lines : ℕ) → asked_by o ≡ Some (command.OpenCheck lines)
    → (end : Result (List ℕ) OpenCheckStop) × (o ≡ outcome.OpenCheck lines end)
of_open_check outcome.Usage lines asked = absurd cc
of_open_check (outcome.Check end) lines asked = absurd cc
of_open_check (outcome.Award n end) lines asked = absurd cc
of_open_check (outcome.Show n end) lines asked = absurd cc
of_open_check (outcome.Make sizes end) lines asked = absurd cc
of_open_check (outcome.Trial sizes n end) lines asked = absurd cc
of_open_check (outcome.Migrate end) lines asked = absurd cc
of_open_check (outcome.Trade end) lines asked = absurd cc
of_open_check (outcome.Calendar n end) lines asked = absurd cc
of_open_check (outcome.WhatIf n k end) lines asked = absurd cc
of_open_check (outcome.Open l k end) lines asked = absurd cc
of_open_check (outcome.OpenCheck l end) lines asked = let same : l ≡ lines = cc in (end, ap (λ (x : ℕ). outcome.OpenCheck x end) same)

-- ---- what is said of an outcome

put_by : (P : Status → Type 0) (o : Outcome) (before after : Option (List ℕ)) (put : Result (Unit {0}) SinkFault) → P status.WriteFault → P status.NoMemory
    → (after ≡ with_piece before (text_of o) → P (status_of o)) → Puts before after (text_of o) put → P (ending o put)
put_by P o before after (Ok x) fault want whole text = whole text
put_by P o before after (Err PutFailed) fault want whole text = fault
put_by P o before after (Err NoMemory) fault want whole text = want

-- its text was put whole, or a put failed, or memory was wanting
pub said_by : (P : Status → Type 0) (o : Outcome) (before after : Sunk) (result : Status) → P status.WriteFault → P status.NoMemory
    → (after.bytes ≡ with_piece before.bytes (text_of o) → P (status_of o)) → Says o before after result → P result
said_by P o before after result fault want whole (inl said) = subst P (sym said.ends) (put_by P o before.bytes after.bytes said.put fault want whole said.text)
said_by P o before after result fault want whole (inr said) = subst P (sym said.ends) want

-- ---- what reads handed in

pub on_reads : (order : List File) (old new : Entries) (P Q : Files → Type 0) → FromReads order old new P → ((files : Files) → P files → Q files) → FromReads order old new Q
on_reads order old new P Q h f = record { texts = h.texts; logged = h.logged; count = h.count; names = h.names; found = f (holding h.texts) h.found }

-- ---- a file that was written

pub file_given : (files : Files) (name bytes : List ℕ) → file (insert files name bytes) name ≡ Some bytes
file_given files name bytes =
    get-insert nat_list_cmp_total files name bytes name
    ∙ ap (λ b. cond b (Some bytes) (file files name)) (is_eq-slice_cmp name name ∙ (bytes_eq-Decides name name).1 refl)
