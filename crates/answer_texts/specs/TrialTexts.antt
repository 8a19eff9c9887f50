-- How a run of `trial` ends, and what it prints: as `award` does of such a month.
use Rattle.std.specs.Prelude.{ℕ, List, [], ◌∷◌, codes, length, Result, Ok, Err}
use Rattle.month_commands.specs.declared.award_stop.Miss.{Miss}
use Rattle.month_commands.specs.declared.award_stop.Miss.TheVariants as miss
use Rattle.month_commands.specs.declared.trying.Tried.{Tried}
use Rattle.answer_texts.specs.declared.status.Status.{Status}
use Rattle.answer_texts.specs.declared.status.Status.TheVariants as status
use Rattle.answer_texts.specs.AwardTexts.{found_status, lines_of}
use Rattle.answer_texts.specs.Lines.{line_of}

abbrev pub trial_status : Result Tried Miss → Status
trial_status (Ok t) = found_status t.found
trial_status (Err (miss.Budget ledger)) = status.Budget
trial_status (Err miss.NoMemory) = status.NoMemory

abbrev pub trial_text : Result Tried Miss → List ℕ
trial_text (Ok t) = lines_of t.found (length t.ledger.entries)
trial_text (Err (miss.Budget ledger)) = line_of (codes "budget") (length ledger.entries ∷ [])
trial_text (Err miss.NoMemory) = []
