-- How a run of `make` ends, and what it prints.
use Rattle.std.specs.Prelude.{ℕ, List, [], ◌++◌, codes, decimal, Result, Ok, Err}
use Rattle.command_words.specs.declared.command.Sizes.{Sizes}
use Rattle.month_commands.specs.declared.make_stop.MakeStop.{MakeStop}
use Rattle.month_commands.specs.declared.make_stop.MakeStop.TheVariants as stop
use Rattle.month_files.specs.declared.writing.Draft.{Draft}
use Rattle.answer_texts.specs.declared.status.Status.{Status}
use Rattle.answer_texts.specs.declared.status.Status.TheVariants as status
use Rattle.answer_texts.specs.Lines.{line}
use Rattle.answer_texts.specs.WriteEnds.{write_status, unwritten_text}

abbrev pub make_status : Result (List Draft) MakeStop → Status
make_status (Ok drafts) = status.Done
make_status (Err (stop.Unwritten drafts u)) = write_status u.why
make_status (Err stop.NoMemory) = status.NoMemory

-- how large the month is
abbrev pub made_line : Sizes → List ℕ
made_line sizes =
    line (codes "made " ++ decimal sizes.members ++ codes " members " ++ decimal sizes.pairings ++ codes " pairings")

abbrev pub make_text : Sizes → Result (List Draft) MakeStop → List ℕ
make_text sizes (Ok drafts) = made_line sizes
make_text sizes (Err (stop.Unwritten drafts u)) = unwritten_text u
make_text sizes (Err stop.NoMemory) = []
