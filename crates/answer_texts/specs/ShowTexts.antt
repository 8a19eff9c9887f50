-- How a run of `show` ends, and what it prints.
use Rattle.std.specs.Prelude.{ℕ, List, [], ◌∷◌, ◌++◌, codes, Result, Ok, Err}
use Rattle.month_commands.specs.declared.show_stop.ShowStop.{ShowStop}
use Rattle.month_commands.specs.declared.show_stop.ShowStop.TheVariants as stop
use Rattle.month_commands.specs.declared.show_stop.Unshown.{Unshown}
use Rattle.month_commands.specs.declared.show_stop.Unshown.TheVariants as unshown
use Rattle.roster_text.specs.Codes.{roster_code}
use Rattle.answer_texts.specs.declared.status.Status.{Status}
use Rattle.answer_texts.specs.declared.status.Status.TheVariants as status
use Rattle.answer_texts.specs.Lines.{line, line_of}
use Rattle.answer_texts.specs.MonthEnds.{unread_status, unread_text, input_status, bad_input_text}

abbrev pub show_status : Result (List ℕ) ShowStop → Status
show_status (Ok view) = status.Done
show_status (Err (stop.Unread why)) = unread_status why
show_status (Err (stop.BadInput why)) = input_status why
show_status (Err (stop.No why)) = status.No
show_status (Err stop.NoMemory) = status.NoMemory

-- why there is nothing to show of the name
abbrev pub unshown_text : List ℕ → Unshown → List ℕ
unshown_text name (unshown.Roster fault) = line_of (codes "no roster") (fault.row ∷ roster_code fault.code ∷ [])
unshown_text name unshown.Member = line (codes "no member " ++ name)

abbrev pub show_text : List ℕ → Result (List ℕ) ShowStop → List ℕ
show_text name (Ok view) = view
show_text name (Err (stop.Unread why)) = unread_text why
show_text name (Err (stop.BadInput why)) = bad_input_text why
show_text name (Err (stop.No why)) = unshown_text name why
show_text name (Err stop.NoMemory) = []
