-- The month that eight texts name, or their first fault.
use Rattle.std.specs.Prelude.{◌≡◌, List, Result, Ok, Err}
use Rattle.bid_language.specs.Lines.{bids_in}
use Rattle.bid_language.specs.declared.fault.BidFault.{BidFault}
use Rattle.crew_files.specs.Files.{members_of}
use Rattle.duty_calendar.specs.declared.member.Base.{Base}
use Rattle.duty_calendar.specs.declared.member.Member.{Member}
use Rattle.duty_calendar.specs.declared.member.Rules.{Rules}
use Rattle.duty_calendar.specs.declared.pairing.Pairing.{Pairing}
use Rattle.field_text.specs.declared.file_fault.FileFault.{FileFault}
use Rattle.pairing_files.specs.Files.{pairings_of}
use Rattle.roster_model.specs.declared.problem.Problem.{Problem}
use Rattle.rules_file.specs.Rules.{rules_file, values}
use Rattle.rules_file.specs.declared.fault.RuleFault.{RuleFault}
use Rattle.rules_file.specs.declared.fault.RuleFault.TheVariants as rule
use Rattle.field_text.specs.declared.file_fault.FileCode.{FileCode}
use Rattle.field_text.specs.declared.file_fault.FileCode.TheVariants as code
use Rattle.bid_language.specs.declared.fault.BidCode.{BidCode}
use Rattle.bid_language.specs.declared.fault.BidCode.TheVariants as bid
use Rattle.month_files.specs.declared.fault.BadInput.{BadInput}
use Rattle.month_files.specs.declared.fault.BadInput.TheVariants as bad
use Rattle.month_files.specs.declared.fault.InputFault.{InputFault}
use Rattle.month_files.specs.declared.fault.InputFault.TheVariants as input
use Rattle.month_files.specs.Reading.{Inputs}

-- the texts give these rules, pairings and members
abbrev pub GivesRules : Inputs → Rules → Type 0
GivesRules t rules = rules_file t.rules ≡ Ok (values rules)

abbrev pub GivesPairings : Inputs → Rules → List Pairing → Type 0
GivesPairings t rules pairings = pairings_of rules.horizon t.pairings t.duties t.legs ≡ Ok pairings

abbrev pub GivesMembers : Inputs → Rules → List Member → Type 0
GivesMembers t rules members = members_of rules.horizon t.crew t.history t.fixed ≡ Ok members

pub record GivesBase (t : Inputs) (base : Base) : Type 0 where
  pub rules : GivesRules t base.rules
  pub pairings : GivesPairings t base.rules base.pairings
  pub members : GivesMembers t base.rules base.members

-- the texts name this problem
pub record Names (t : Inputs) (problem : Problem) : Type 0 where
  pub base_is : GivesBase t problem.base
  pub bids_are : bids_in problem.base t.bids ≡ Ok problem.bids

-- the first fault stands in the pairings' files, in the members' files or in the bids, and all before them read
pub record HasPairingFault (t : Inputs) (fault : FileFault) : Type 0 where
  pub rules : Rules
  pub before : GivesRules t rules
  pub here : pairings_of rules.horizon t.pairings t.duties t.legs ≡ Err fault

pub record HasMemberFault (t : Inputs) (fault : FileFault) : Type 0 where
  pub rules : Rules
  pub pairings : List Pairing
  pub rules_before : GivesRules t rules
  pub pairings_before : GivesPairings t rules pairings
  pub here : members_of rules.horizon t.crew t.history t.fixed ≡ Err fault

pub record HasBidFault (t : Inputs) (fault : BidFault) : Type 0 where
  pub base : Base
  pub before : GivesBase t base
  pub here : bids_in base t.bids ≡ Err fault

-- the texts have this first fault
abbrev pub HasFault : Inputs → InputFault → Type 0
HasFault t (input.Rules fault) = rules_file t.rules ≡ Err fault
HasFault t (input.Pairings fault) = HasPairingFault t fault
HasFault t (input.Members fault) = HasMemberFault t fault
HasFault t (input.Bids fault) = HasBidFault t fault

-- what a reader of a part of the month answers: a value of which P holds, or the first fault of the texts
abbrev pub Ends : {X : Type 0} → (X → Type 0) → Inputs → Result X BadInput → Type 0
Ends P t (Ok x) = P x
Ends P t (Err (bad.Fault fault)) = HasFault t fault
Ends P t (Err bad.NoMemory) = Unit {0}

-- a fault as an end
abbrev pub rule_end : RuleFault → BadInput
rule_end rule.NoMemory = bad.NoMemory
rule_end rule.NotToml = bad.Fault (input.Rules rule.NotToml)
rule_end (rule.MissingKey key) = bad.Fault (input.Rules (rule.MissingKey key))
rule_end (rule.UnknownKey key) = bad.Fault (input.Rules (rule.UnknownKey key))
rule_end (rule.Range key) = bad.Fault (input.Rules (rule.Range key))

abbrev pub file_end : InputFault → FileCode → BadInput
file_end fault code.NoMemory = bad.NoMemory
file_end fault code.Header = bad.Fault fault
file_end fault code.Utf8 = bad.Fault fault
file_end fault code.Width = bad.Fault fault
file_end fault (code.Field column why) = bad.Fault fault
file_end fault code.Duplicate = bad.Fault fault
file_end fault code.Unknown = bad.Fault fault
file_end fault code.Order = bad.Fault fault
file_end fault code.OutsideMonth = bad.Fault fault
file_end fault code.InnerRest = bad.Fault fault
file_end fault (code.Limit number) = bad.Fault fault
file_end fault code.Empty = bad.Fault fault

abbrev pub bid_end : InputFault → BidCode → BadInput
bid_end fault bid.NoMemory = bad.NoMemory
bid_end fault bid.Token = bad.Fault fault
bid_end fault (bid.Expected w) = bad.Fault fault
bid_end fault bid.Number = bad.Fault fault
bid_end fault bid.Date = bad.Fault fault
bid_end fault bid.UnknownMember = bad.Fault fault
bid_end fault bid.UnknownPairing = bad.Fault fault
bid_end fault bid.Weight = bad.Fault fault
bid_end fault bid.TooMany = bad.Fault fault
bid_end fault bid.MemberTwice = bad.Fault fault
