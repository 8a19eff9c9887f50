-- What `history` reads of the folders of this month and of the next one.
use Rattle.std.specs.Prelude.{ℕ, ◌≤◌, List, [], ◌∷◌, ◌++◌, length, nat_lt, Option, Some, None, IfSome, Result, Ok, Err, if◌then◌else◌}
use Rattle.std.specs.Option.{option_map}
use Rattle.shelf.specs.Files.{Files, file}
use Rattle.shelf.specs.Logs.{Entries}
use Rattle.month_files.specs.declared.file.File.{File}
use Rattle.month_files.specs.declared.file.File.TheVariants.{Rules, Crew, History, Fixed, Roster}
use Rattle.month_files.specs.declared.unread.Unread.{Unread}
use Rattle.month_files.specs.declared.unread.Unread.TheVariants as unread
use Rattle.month_files.specs.FileNames.{name_of, limit_of}
use Rattle.month_files.specs.Handing.{input_texts}
use Rattle.month_files.specs.Reading.{◌>>=◌, Inputs, text_in, texts_in, view_texts}
use Rattle.next_folder.specs.declared.reading.MonthTexts.{MonthTexts}
use Rattle.next_folder.specs.declared.reading.NextTexts.{NextTexts}

-- the inputs of this month, and its roster
pub record Ours : Type 0 where
  pub inputs : Inputs
  pub roster : List ℕ

abbrev pub view_ours : MonthTexts → Ours
view_ours t = record { inputs = view_texts t.inputs; roster = t.roster.items }

unfoldable pub ours_in : Files → Result Ours Unread
ours_in files = do
  inputs ← texts_in files
  roster ← text_in files Roster
  Ok (record { inputs = inputs; roster = roster })

-- what is there of the next month: rules, crew, history and fixed events
pub record Theirs : Type 0 where
  pub rules : Option (List ℕ)
  pub crew : Option (List ℕ)
  pub history : Option (List ℕ)
  pub fixed : Option (List ℕ)

abbrev pub view_theirs : NextTexts → Theirs
view_theirs t = record {
  rules = option_map (λ v. v.items) t.rules;
  crew = option_map (λ v. v.items) t.crew;
  history = option_map (λ v. v.items) t.history;
  fixed = option_map (λ v. v.items) t.fixed;
}

-- the bytes of a file that may be missing: no more than its limit
abbrev pub if_there : File → Option (List ℕ) → Result (Option (List ℕ)) Unread
if_there f None = Ok None
if_there f (Some bytes) = if nat_lt (limit_of f) (length bytes) then Err (unread.TooLong f) else Ok (Some bytes)

abbrev pub there_in : Files → File → Result (Option (List ℕ)) Unread
there_in files f = if_there f (file files (name_of f))

unfoldable pub theirs_in : Files → Result Theirs Unread
theirs_in files = do
  rules ← there_in files Rules
  crew ← there_in files Crew
  history ← there_in files History
  fixed ← there_in files Fixed
  Ok (record { rules = rules; crew = crew; history = history; fixed = fixed })

-- the crew is no longer than its limit
abbrev pub AreBrief : NextTexts → Type 0
AreBrief t = IfSome t.crew (λ v. length v.items ≤ limit_of Crew)

-- ---- what the reads of them hand in

abbrev pub ours_texts : Ours → Entries
ours_texts t = input_texts t.inputs ++ (name_of Roster, t.roster) ∷ []

abbrev pub text_there : File → Option (List ℕ) → Entries
text_there f None = []
text_there f (Some text) = (name_of f, text) ∷ []

abbrev pub theirs_texts : Theirs → Entries
theirs_texts t =
    ((text_there Rules t.rules ++ text_there Crew t.crew) ++ text_there History t.history) ++ text_there Fixed t.fixed
