-- What the faults of texts and the answers of the judge become for `whatif`, and which changes of the shelf's counts and
-- which files an end comes with.
use Rattle.std.specs.Prelude.{◌≡◌, Result, Ok, Err}
use Rattle.shelf.specs.declared.tally.Tally.{Tally}
use Rattle.bid_language.specs.declared.fault.BidCode.{BidCode}
use Rattle.bid_language.specs.declared.fault.BidCode.TheVariants as bid
use Rattle.bid_language.specs.declared.fault.BidFault.{BidFault}
use Rattle.cert_checker.specs.declared.refusal.No.{No}
use Rattle.cert_checker.specs.declared.refusal.No.TheVariants as no
use Rattle.cert_text.specs.declared.fault.CertCode.{CertCode}
use Rattle.cert_text.specs.declared.fault.CertCode.TheVariants as cert
use Rattle.cert_text.specs.declared.fault.CertFault.{CertFault}
use Rattle.month_files.specs.FileNames.{name_of}
use Rattle.month_files.specs.Reading.{UnreadCause}
use Rattle.month_files.specs.Writes.{Written, nothing_written, written, StopCause}
use Rattle.roster_text.specs.declared.fault.RosterTextCode.{RosterTextCode}
use Rattle.roster_text.specs.declared.fault.RosterTextCode.TheVariants as text
use Rattle.roster_text.specs.declared.fault.RosterTextFault.{RosterTextFault}
use Rattle.roster_text.specs.declared.reason_fault.ReasonTextCode.{ReasonTextCode}
use Rattle.roster_text.specs.declared.reason_fault.ReasonTextCode.TheVariants as reason
use Rattle.roster_text.specs.declared.reason_fault.ReasonTextFault.{ReasonTextFault}
use Rattle.whatif_commands.specs.declared.asking_stop.Unasked.TheVariants as unasked
use Rattle.whatif_commands.specs.declared.asking_stop.WhatIf.{WhatIf}
use Rattle.whatif_commands.specs.declared.asking_stop.WhatIfStop.{WhatIfStop}
use Rattle.whatif_commands.specs.declared.asking_stop.WhatIfStop.TheVariants as stop

-- a fault of the other bids
abbrev pub bids_stop : BidCode → BidFault → WhatIfStop
bids_stop bid.NoMemory fault = stop.NoMemory
bids_stop bid.Token fault = stop.BadBids fault
bids_stop (bid.Expected w) fault = stop.BadBids fault
bids_stop bid.Number fault = stop.BadBids fault
bids_stop bid.Date fault = stop.BadBids fault
bids_stop bid.UnknownMember fault = stop.BadBids fault
bids_stop bid.UnknownPairing fault = stop.BadBids fault
bids_stop bid.Weight fault = stop.BadBids fault
bids_stop bid.TooMany fault = stop.BadBids fault
bids_stop bid.MemberTwice fault = stop.BadBids fault

-- a fault of the certificate's text
abbrev pub cert_stop : CertCode → CertFault → WhatIfStop
cert_stop cert.NoMemory fault = stop.NoMemory
cert_stop cert.Version fault = stop.No (unasked.Certificate fault)
cert_stop cert.Word fault = stop.No (unasked.Certificate fault)
cert_stop cert.Number fault = stop.No (unasked.Certificate fault)
cert_stop cert.Short fault = stop.No (unasked.Certificate fault)
cert_stop cert.Trailing fault = stop.No (unasked.Certificate fault)
cert_stop cert.Limit fault = stop.No (unasked.Certificate fault)

-- a fault of the roster's text
abbrev pub roster_stop : RosterTextCode → RosterTextFault → WhatIfStop
roster_stop text.NoMemory fault = stop.NoMemory
roster_stop text.Header fault = stop.No (unasked.Roster fault)
roster_stop text.Shape fault = stop.No (unasked.Roster fault)
roster_stop text.Member fault = stop.No (unasked.Roster fault)
roster_stop text.Pairing fault = stop.No (unasked.Roster fault)
roster_stop text.Sums fault = stop.No (unasked.Roster fault)
roster_stop text.Rows fault = stop.No (unasked.Roster fault)

-- a fault of the reasons' text
abbrev pub reasons_stop : ReasonTextCode → ReasonTextFault → WhatIfStop
reasons_stop reason.NoMemory fault = stop.NoMemory
reasons_stop reason.Shape fault = stop.No (unasked.Reasons fault)
reasons_stop reason.Member fault = stop.No (unasked.Reasons fault)
reasons_stop reason.Bid fault = stop.No (unasked.Reasons fault)
reasons_stop reason.Place fault = stop.No (unasked.Reasons fault)
reasons_stop reason.Text fault = stop.No (unasked.Reasons fault)

-- an answer of the judge
abbrev pub judge_stop : No → WhatIfStop
judge_stop no.NoMemory = stop.NoMemory
judge_stop (no.Member m why) = stop.No (unasked.Judged (no.Member m why))
judge_stop (no.Cover p count) = stop.No (unasked.Judged (no.Cover p count))
judge_stop (no.Amount found) = stop.No (unasked.Judged (no.Amount found))
judge_stop (no.Item k at why) = stop.No (unasked.Judged (no.Item k at why))
judge_stop (no.Left k) = stop.No (unasked.Judged (no.Left k))
judge_stop (no.Reason m b) = stop.No (unasked.Judged (no.Reason m b))
judge_stop (no.Shown m b) = stop.No (unasked.Judged (no.Shown m b))

-- which change of the shelf's counts an end comes with
abbrev pub AskingCause : Tally → Tally → Result WhatIf WhatIfStop → Type 0
AskingCause old new (Ok w) = new ≡ old
AskingCause old new (Err (stop.Unread why)) = UnreadCause old new why
AskingCause old new (Err (stop.BadInput why)) = new ≡ old
AskingCause old new (Err (stop.BadBids fault)) = new ≡ old
AskingCause old new (Err (stop.No why)) = new ≡ old
AskingCause old new (Err (stop.Budget ledger)) = new ≡ old
AskingCause old new (Err (stop.Unwritten w u)) = StopCause (name_of u.file) old new u.why
AskingCause old new (Err stop.NoMemory) = new ≡ old

-- the file that is written: where there is an award that of its roster, unless its write did not end well
abbrev pub whatif_written : Result WhatIf WhatIfStop → Written
whatif_written (Ok w) = written w.drafts (Ok tt)
whatif_written (Err (stop.Unread why)) = nothing_written
whatif_written (Err (stop.BadInput why)) = nothing_written
whatif_written (Err (stop.BadBids fault)) = nothing_written
whatif_written (Err (stop.No why)) = nothing_written
whatif_written (Err (stop.Budget ledger)) = nothing_written
whatif_written (Err (stop.Unwritten w u)) = written w.drafts (Err u)
whatif_written (Err stop.NoMemory) = nothing_written
