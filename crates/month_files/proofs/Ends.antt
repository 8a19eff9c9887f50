-- Faults of the inputs, as ends of their readers.
use Rattle.std.proofs.Common.{◌≡◌, ◌≢◌, Result, Err, refl}
use Rattle.std.specs.Prelude.{IfSome}
use Rattle.rules_file.specs.declared.fault.RuleFault.{RuleFault}
use Rattle.rules_file.specs.declared.fault.RuleFault.TheVariants as rule
use Rattle.rules_file.specs.Rules.{rules_file}
use Rattle.rules_file.specs.Rules as rules
use Rattle.field_text.specs.declared.file_fault.FileCode.{FileCode}
use Rattle.field_text.specs.declared.file_fault.FileCode.TheVariants as code
use Rattle.field_text.specs.declared.file_fault.FileFault.{FileFault}
use Rattle.field_text.specs.Rows as rows
use Rattle.bid_language.specs.declared.fault.BidCode.{BidCode}
use Rattle.bid_language.specs.declared.fault.BidCode.TheVariants as bid
use Rattle.bid_language.specs.declared.fault.BidFault.{BidFault}
use Rattle.bid_language.specs.Sheets as sheets
use Rattle.month_files.specs.declared.fault.InputFault.{InputFault}
use Rattle.month_files.specs.declared.fault.BadInput.{BadInput}
use Rattle.month_files.specs.declared.fault.BadInput.TheVariants as bad
use Rattle.month_files.specs.Reading.{Inputs}
use Rattle.month_files.specs.Months.{HasFault}
use Rattle.month_files.specs.Months.{Ends, rule_end, file_end, bid_end}

pub file_end_other : (fault : InputFault) (c : FileCode) → c ≢ code.NoMemory → file_end fault c ≡ bad.Fault fault
file_end_other fault code.NoMemory other = absurd (other refl)
file_end_other fault code.Header other = refl
file_end_other fault code.Utf8 other = refl
file_end_other fault code.Width other = refl
file_end_other fault (code.Field column why) other = refl
file_end_other fault code.Duplicate other = refl
file_end_other fault code.Unknown other = refl
file_end_other fault code.Order other = refl
file_end_other fault code.OutsideMonth other = refl
file_end_other fault code.InnerRest other = refl
file_end_other fault (code.Limit number) other = refl
file_end_other fault code.Empty other = refl

pub bid_end_other : (fault : InputFault) (c : BidCode) → c ≢ bid.NoMemory → bid_end fault c ≡ bad.Fault fault
bid_end_other fault bid.NoMemory other = absurd (other refl)
bid_end_other fault bid.Token other = refl
bid_end_other fault (bid.Expected w) other = refl
bid_end_other fault bid.Number other = refl
bid_end_other fault bid.Date other = refl
bid_end_other fault bid.UnknownMember other = refl
bid_end_other fault bid.UnknownPairing other = refl
bid_end_other fault bid.Weight other = refl
bid_end_other fault bid.TooMany other = refl
bid_end_other fault bid.MemberTwice other = refl

pub rules_ends : {X : Type 0} (P : X → Type 0) (t : Inputs) (e : RuleFault) → IfSome (rules.told e) (λ f. rules_file t.rules ≡ Err f) → Ends P t (Err (rule_end e))
rules_ends P t rule.NoMemory h = tt
rules_ends P t rule.NotToml h = h
rules_ends P t (rule.MissingKey key) h = h
rules_ends P t (rule.UnknownKey key) h = h
rules_ends P t (rule.Range key) h = h

pub file_ends : {X Y : Type 0} (P : X → Type 0) (t : Inputs) (fault : InputFault) (e : FileFault) (read : Result Y FileFault) → (read ≡ Err e → HasFault t fault) → (c : FileCode) → rows.Fails c e read → Ends P t (Err (file_end fault c))
file_ends P t fault e read has code.NoMemory h = tt
file_ends P t fault e read has code.Header h = has h
file_ends P t fault e read has code.Utf8 h = has h
file_ends P t fault e read has code.Width h = has h
file_ends P t fault e read has (code.Field column why) h = has h
file_ends P t fault e read has code.Duplicate h = has h
file_ends P t fault e read has code.Unknown h = has h
file_ends P t fault e read has code.Order h = has h
file_ends P t fault e read has code.OutsideMonth h = has h
file_ends P t fault e read has code.InnerRest h = has h
file_ends P t fault e read has (code.Limit number) h = has h
file_ends P t fault e read has code.Empty h = has h

pub bid_ends : {X Y : Type 0} (P : X → Type 0) (t : Inputs) (fault : InputFault) (e : BidFault) (read : Result Y BidFault) → (read ≡ Err e → HasFault t fault) → (c : BidCode) → sheets.FailsBy c e read → Ends P t (Err (bid_end fault c))
bid_ends P t fault e read has bid.NoMemory h = tt
bid_ends P t fault e read has bid.Token h = has h
bid_ends P t fault e read has (bid.Expected w) h = has h
bid_ends P t fault e read has bid.Number h = has h
bid_ends P t fault e read has bid.Date h = has h
bid_ends P t fault e read has bid.UnknownMember h = has h
bid_ends P t fault e read has bid.UnknownPairing h = has h
bid_ends P t fault e read has bid.Weight h = has h
bid_ends P t fault e read has bid.TooMany h = has h
bid_ends P t fault e read has bid.MemberTwice h = has h

-- an end of one part is an end of the whole
pub ends_whole : {X Y : Type 0} (P : X → Type 0) (Q : Y → Type 0) (t : Inputs) (e : BadInput) → Ends P t (Err e) → Ends Q t (Err e)
ends_whole P Q t (bad.Fault fault) h = h
ends_whole P Q t bad.NoMemory h = h
