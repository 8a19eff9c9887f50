-- The texts that `whatif` reads, as its reads hand them in.
use Rattle.std.specs.Prelude.{◌≡◌, ◌≤◌, [], ◌∷◌, ◌++◌, ℕ, List, length}
use Rattle.shelf.specs.Logs.{Entries}
use Rattle.month_files.specs.declared.file.File.TheVariants.{Certificate, OtherBids, Roster, Reasons}
use Rattle.month_files.specs.FileNames.{name_of, limit_of}
use Rattle.month_files.specs.Handing.{input_texts}
use Rattle.month_files.specs.Reading.{AreShort, view_texts}
use Rattle.whatif_commands.specs.declared.texts.AskedTexts.{AskedTexts}
use Rattle.whatif_commands.specs.declared.texts.ClaimedTexts.{ClaimedTexts}
use Rattle.whatif_commands.specs.declared.question.Question.{Question}
use Rattle.whatif_commands.specs.Asking.{Asked, Claimed, IsQuestion}

abbrev pub view_asked : AskedTexts → Asked
view_asked t = record { inputs = view_texts t.inputs; certificate = t.certificate.items; bids = t.bids.items }

abbrev pub view_claimed : ClaimedTexts → Claimed
view_claimed t = record { roster = t.roster.items; reasons = t.reasons.items }

-- each once, in the order in which they are read
abbrev pub asked_texts : Asked → Entries
asked_texts t = input_texts t.inputs ++ (name_of Certificate, t.certificate) ∷ (name_of OtherBids, t.bids) ∷ []

abbrev pub claimed_texts : Claimed → Entries
claimed_texts t = (name_of Roster, t.roster) ∷ (name_of Reasons, t.reasons) ∷ []

-- those behind the inputs are no longer than their limits
pub record AreBrief (t : Asked) : Type 0 where
  pub certificate : length t.certificate ≤ limit_of Certificate
  pub bids : length t.bids ≤ limit_of OtherBids

pub record IsBrief (t : Claimed) : Type 0 where
  pub roster : length t.roster ≤ limit_of Roster
  pub reasons : length t.reasons ≤ limit_of Reasons

-- the reads so far handed in these, and they ask this
pub record IsQuestionHanded (old log : Entries) (name : List ℕ) (q : Question) : Type 0 where
  pub asked : Asked
  pub logged : log ≡ old ++ asked_texts asked
  pub short : AreShort asked.inputs
  pub brief : AreBrief asked
  pub question : IsQuestion name asked q
