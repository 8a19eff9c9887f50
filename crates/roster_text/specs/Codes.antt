-- The numbers of faults.
use Rattle.std.specs.Prelude.{ℕ}
use Rattle.roster_text.specs.declared.fault.RosterTextCode.{RosterTextCode}
use Rattle.roster_text.specs.declared.fault.RosterTextCode.TheVariants.{NoMemory, Header, Shape, Member, Pairing, Sums, Rows}
use Rattle.roster_text.specs.declared.reason_fault.ReasonTextCode.{ReasonTextCode}
use Rattle.roster_text.specs.declared.reason_fault.ReasonTextCode.TheVariants as lost

abbrev pub roster_code : RosterTextCode → ℕ
roster_code NoMemory = 0
roster_code Header = 1
roster_code Shape = 2
roster_code Member = 3
roster_code Pairing = 4
roster_code Sums = 5
roster_code Rows = 6

abbrev pub reason_code : ReasonTextCode → ℕ
reason_code lost.NoMemory = 0
reason_code lost.Shape = 1
reason_code lost.Member = 2
reason_code lost.Bid = 3
reason_code lost.Place = 4
reason_code lost.Text = 5
