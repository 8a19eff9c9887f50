-- How a run of `whatif` ends, and what it prints.
use Rattle.std.specs.Prelude.{ℕ, List, [], ◌∷◌, ◌++◌, codes, length, Result, Ok, Err}
use Rattle.bid_language.specs.Codes.{bid_code}
use Rattle.bid_language.specs.declared.fault.BidFault.{BidFault}
use Rattle.cert_text.specs.Codes.{cert_code}
use Rattle.month_files.specs.declared.file.File.TheVariants.{OtherBids}
use Rattle.roster_text.specs.Codes.{roster_code, reason_code}
use Rattle.whatif_commands.specs.declared.asking_stop.Unasked.{Unasked}
use Rattle.whatif_commands.specs.declared.asking_stop.Unasked.TheVariants as unasked
use Rattle.whatif_commands.specs.declared.asking_stop.WhatIf.{WhatIf}
use Rattle.whatif_commands.specs.declared.asking_stop.WhatIfStop.{WhatIfStop}
use Rattle.whatif_commands.specs.declared.asking_stop.WhatIfStop.TheVariants as stop
use Rattle.answer_texts.specs.declared.status.Status.{Status}
use Rattle.answer_texts.specs.declared.status.Status.TheVariants as status
use Rattle.answer_texts.specs.CheckTexts.{no_text}
use Rattle.answer_texts.specs.Lines.{line, line_of}
use Rattle.answer_texts.specs.MonthEnds.{unread_status, unread_text, input_status, bad_input_text, bad_words}
use Rattle.answer_texts.specs.WriteEnds.{write_status, unwritten_text}

abbrev pub whatif_status : Result WhatIf WhatIfStop → Status
whatif_status (Ok w) = status.Done
whatif_status (Err (stop.Unread why)) = unread_status why
whatif_status (Err (stop.BadInput why)) = input_status why
whatif_status (Err (stop.BadBids fault)) = status.BadInput
whatif_status (Err (stop.No why)) = status.No
whatif_status (Err (stop.Budget ledger)) = status.Budget
whatif_status (Err (stop.Unwritten w u)) = write_status u.why
whatif_status (Err stop.NoMemory) = status.NoMemory

-- the scores of the award with the other bids, and how many nodes were counted
abbrev pub whatif_lines : List ℕ → ℕ → List ℕ
whatif_lines scores nodes =
    (line (codes "whatif") ++ line_of (codes "vector") scores) ++ line_of (codes "nodes") (nodes ∷ [])

abbrev pub other_bids_text : BidFault → List ℕ
other_bids_text fault = line_of (bad_words OtherBids) (fault.line ∷ fault.column ∷ bid_code fault.code ∷ [])

-- a no of the award that stands has the line that `check` prints for it
abbrev pub unasked_text : List ℕ → Unasked → List ℕ
unasked_text name unasked.Member = line (codes "no member " ++ name)
unasked_text name (unasked.Certificate fault) = line_of (codes "no certificate") (fault.line ∷ cert_code fault.code ∷ [])
unasked_text name unasked.NoAward = line (codes "no award")
unasked_text name (unasked.Roster fault) = line_of (codes "no roster") (fault.row ∷ roster_code fault.code ∷ [])
unasked_text name (unasked.Reasons fault) = line_of (codes "no reasons") (fault.line ∷ reason_code fault.code ∷ [])
unasked_text name (unasked.Judged why) = line (codes "no" ++ no_text why)
unasked_text name (unasked.Bids other) = line (codes "no bids " ++ other)

abbrev pub whatif_text : List ℕ → Result WhatIf WhatIfStop → List ℕ
whatif_text name (Ok w) = whatif_lines w.scores (length w.ledger.entries)
whatif_text name (Err (stop.Unread why)) = unread_text why
whatif_text name (Err (stop.BadInput why)) = bad_input_text why
whatif_text name (Err (stop.BadBids fault)) = other_bids_text fault
whatif_text name (Err (stop.No why)) = unasked_text name why
whatif_text name (Err (stop.Budget ledger)) = line_of (codes "budget") (length ledger.entries ∷ [])
whatif_text name (Err (stop.Unwritten w u)) = unwritten_text u
whatif_text name (Err stop.NoMemory) = []
