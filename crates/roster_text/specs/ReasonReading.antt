-- Reading the lines of reasons one after another.
use Rattle.std.specs.Prelude.{ℕ, zero, suc, ◌+◌, List, [], ◌∷◌, ◌++◌, length, Result, Ok, Err}
use Rattle.field_text.specs.Gives.{GivesUnless}
use Rattle.field_text.specs.Steps.{◌>>=◌, or_fault}
use Rattle.roster_model.specs.declared.problem.Problem.{Problem}
use Rattle.roster_model.specs.declared.goal.BidRef.{BidRef}
use Rattle.roster_model.specs.declared.award.Denial.{Denial}
use Rattle.roster_model.specs.Scores.{bids_of}
use Rattle.bid_language.specs.Spelling.{text_of}
use Rattle.roster_text.specs.declared.reason_fault.ReasonTextCode.{ReasonTextCode}
use Rattle.roster_text.specs.declared.reason_fault.ReasonTextCode.TheVariants.{NoMemory, Shape, Member, Bid, Place, Text}
use Rattle.roster_text.specs.declared.reason_fault.ReasonTextFault.{ReasonTextFault}
use Rattle.roster_text.specs.NameReading.{word_at}
use Rattle.roster_text.specs.ReasonWords.{Words, words_in, member_named, numbered, cause_named}

-- what a reader of a line returned, seen by `view`, is what is due, unless memory ran out
abbrev pub Gives : {X Y : Type 0} → (X → Y) → Result X ReasonTextCode → Result Y ReasonTextCode
    → Type 0
Gives view result due = GivesUnless NoMemory view result due

-- want of memory, which has no line
abbrev pub no_memory : ReasonTextFault
no_memory = record { line = 0; code = NoMemory }

-- the same of what was read as a whole
abbrev pub Answers : {A : Type 0} → Result A ReasonTextFault → Result A ReasonTextFault → Type 0
Answers result due = GivesUnless no_memory (λ x. x) result due

-- a line and a fault in it
abbrev pub line_of : ℕ → ReasonTextCode → ℕ
line_of line NoMemory = 0
line_of line Shape = line
line_of line Member = line
line_of line Bid = line
line_of line Place = line
line_of line Text = line

abbrev pub fault_at : ℕ → ReasonTextCode → ReasonTextFault
fault_at line code = record { line = line_of line code; code = code }

abbrev pub at : {A : Type 0} → ℕ → Result A ReasonTextCode → Result A ReasonTextFault
at line (Ok x) = Ok x
at line (Err code) = Err (fault_at line code)

-- the reason that words name
unfoldable pub denial_of : Problem → Words → Result Denial ReasonTextCode
denial_of problem words = do
  m ← or_fault Member (member_named problem words.member)
  k ← or_fault Bid (numbered (length (bids_of problem m)) words.number)
  c ← or_fault Place (cause_named problem words.cause)
  Ok (record { bid = record { member = m; bid = k }; cause = c })

-- the space, the text of a bid and the line feed behind a colon
abbrev pub bid_end : Problem → BidRef → List ℕ
bid_end problem bid = 32 ∷ text_of problem bid ++ 10 ∷ []

unfoldable pub reason_at : Problem → List ℕ → Result (Denial × List ℕ) ReasonTextCode
reason_at problem bytes = do
  words ← or_fault Shape (words_in bytes)
  denial ← denial_of problem words
  rest ← or_fault Text (word_at (bid_end problem denial.bid) words.rest)
  Ok (denial, rest)

-- the reasons of a text whose first line has this number, of at most so many lines
unfoldable pub reasons_at : Problem → ℕ → ℕ → List ℕ → Result (List Denial) ReasonTextFault
reasons_at problem zero line bytes = Ok []
reasons_at problem (suc n) line [] = Ok []
reasons_at problem (suc n) line (b ∷ bs) = do
  first ← at line (reason_at problem (b ∷ bs))
  others ← reasons_at problem n (line + 1) first.1
  Ok (first.0 ∷ others)

unfoldable pub reasons_of : Problem → List ℕ → Result (List Denial) ReasonTextFault
reasons_of problem text = reasons_at problem (length text) 1 text
