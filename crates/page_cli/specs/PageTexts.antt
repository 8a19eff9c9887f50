-- How a page ends a run, and what is printed of it.
use Rattle.std.specs.Prelude.{◌≡◌, ℕ, List, [], ◌++◌, codes, Result, Ok, Err}
use Rattle.field_text.specs.Spelling.{number_text}
use Rattle.month_commands.specs.CheckEnds.{roster_stop, reasons_stop}
use Rattle.month_files.specs.declared.writing.WriteStop.{WriteStop}
use Rattle.month_files.specs.declared.writing.WriteStop.TheVariants as write
use Rattle.month_page.specs.declared.page_stop.PageStop.{PageStop}
use Rattle.month_page.specs.declared.page_stop.PageStop.TheVariants as stop
use Rattle.answer_texts.specs.CheckTexts.{check_status, check_text}
use Rattle.answer_texts.specs.Lines.{line}
use Rattle.answer_texts.specs.MonthEnds.{unread_status, unread_text, input_status, bad_input_text}
use Rattle.answer_texts.specs.WriteEnds.{write_status}
use Rattle.answer_texts.specs.declared.status.Status.{Status}
use Rattle.answer_texts.specs.declared.status.Status.TheVariants as status
use Rattle.page_cli.specs.declared.ending.Ending.{Ending}

-- what does not read ends the run as it ends `check`
abbrev pub page_status : Result ℕ PageStop → Status
page_status (Ok members) = status.Done
page_status (Err (stop.Unread why)) = unread_status why
page_status (Err (stop.BadInput why)) = input_status why
page_status (Err (stop.Roster fault)) = check_status (Err (roster_stop fault.code fault))
page_status (Err (stop.Reasons fault)) = check_status (Err (reasons_stop fault.code fault))
page_status (Err (stop.Unwritten why)) = write_status why
page_status (Err stop.NoMemory) = status.NoMemory

abbrev pub lost_text : WriteStop → List ℕ
lost_text write.Fault = line (codes "write fault month.html")
lost_text write.NoMemory = []

abbrev pub page_text : Result ℕ PageStop → List ℕ
page_text (Ok members) = line (codes "page " ++ number_text members ++ codes " members")
page_text (Err (stop.Unread why)) = unread_text why
page_text (Err (stop.BadInput why)) = bad_input_text why
page_text (Err (stop.Roster fault)) = check_text (Err (roster_stop fault.code fault))
page_text (Err (stop.Reasons fault)) = check_text (Err (reasons_stop fault.code fault))
page_text (Err (stop.Unwritten why)) = lost_text why
page_text (Err stop.NoMemory) = []

-- this is how a run ends in which a page came to this end
pub record EndsSo (end : Result ℕ PageStop) (ending : Ending) : Type 0 where
  pub status_is : ending.status ≡ page_status end
  pub text_is : ending.text ≡ page_text end
