-- What the ends of the stages of `check` become, and which changes of the shelf's counts they come with.
use Rattle.std.specs.Prelude.{◌≡◌, Result, Ok, Err}
use Rattle.shelf.specs.declared.tally.Tally.{Tally}
use Rattle.cert_checker.specs.declared.refusal.No.{No}
use Rattle.cert_checker.specs.declared.refusal.No.TheVariants as no
use Rattle.cert_text.specs.declared.fault.CertCode.{CertCode}
use Rattle.cert_text.specs.declared.fault.CertCode.TheVariants as cert
use Rattle.cert_text.specs.declared.fault.CertFault.{CertFault}
use Rattle.month_files.specs.Reading.{UnreadCause}
use Rattle.roster_text.specs.declared.reason_fault.ReasonTextCode.{ReasonTextCode}
use Rattle.roster_text.specs.declared.reason_fault.ReasonTextCode.TheVariants as reason
use Rattle.roster_text.specs.declared.reason_fault.ReasonTextFault.{ReasonTextFault}
use Rattle.roster_text.specs.declared.fault.RosterTextCode.{RosterTextCode}
use Rattle.roster_text.specs.declared.fault.RosterTextCode.TheVariants as text
use Rattle.roster_text.specs.declared.fault.RosterTextFault.{RosterTextFault}
use Rattle.month_commands.specs.declared.check_stop.CheckStop.{CheckStop}
use Rattle.month_commands.specs.declared.check_stop.CheckStop.TheVariants as stop
use Rattle.month_commands.specs.declared.check_stop.Refusal.TheVariants as refusal
use Rattle.month_commands.specs.declared.verdict.Verdict.{Verdict}

-- a fault of the certificate's text
abbrev pub cert_stop : CertCode → CertFault → CheckStop
cert_stop cert.NoMemory fault = stop.NoMemory
cert_stop cert.Version fault = stop.No (refusal.Certificate fault)
cert_stop cert.Word fault = stop.No (refusal.Certificate fault)
cert_stop cert.Number fault = stop.No (refusal.Certificate fault)
cert_stop cert.Short fault = stop.No (refusal.Certificate fault)
cert_stop cert.Trailing fault = stop.No (refusal.Certificate fault)
cert_stop cert.Limit fault = stop.No (refusal.Certificate fault)

-- a fault of the roster's text
abbrev pub roster_stop : RosterTextCode → RosterTextFault → CheckStop
roster_stop text.NoMemory fault = stop.NoMemory
roster_stop text.Header fault = stop.No (refusal.Roster fault)
roster_stop text.Shape fault = stop.No (refusal.Roster fault)
roster_stop text.Member fault = stop.No (refusal.Roster fault)
roster_stop text.Pairing fault = stop.No (refusal.Roster fault)
roster_stop text.Sums fault = stop.No (refusal.Roster fault)
roster_stop text.Rows fault = stop.No (refusal.Roster fault)

-- a fault of the reasons' text
abbrev pub reasons_stop : ReasonTextCode → ReasonTextFault → CheckStop
reasons_stop reason.NoMemory fault = stop.NoMemory
reasons_stop reason.Shape fault = stop.No (refusal.Reasons fault)
reasons_stop reason.Member fault = stop.No (refusal.Reasons fault)
reasons_stop reason.Bid fault = stop.No (refusal.Reasons fault)
reasons_stop reason.Place fault = stop.No (refusal.Reasons fault)
reasons_stop reason.Text fault = stop.No (refusal.Reasons fault)

-- an answer of the judge
abbrev pub judge_stop : No → CheckStop
judge_stop no.NoMemory = stop.NoMemory
judge_stop (no.Member m why) = stop.No (refusal.Judged (no.Member m why))
judge_stop (no.Cover p count) = stop.No (refusal.Judged (no.Cover p count))
judge_stop (no.Amount found) = stop.No (refusal.Judged (no.Amount found))
judge_stop (no.Item k at why) = stop.No (refusal.Judged (no.Item k at why))
judge_stop (no.Left k) = stop.No (refusal.Judged (no.Left k))
judge_stop (no.Reason m b) = stop.No (refusal.Judged (no.Reason m b))
judge_stop (no.Shown m b) = stop.No (refusal.Judged (no.Shown m b))

-- which change of the shelf's counts an end comes with
abbrev pub CheckCause : Tally → Tally → Result Verdict CheckStop → Type 0
CheckCause old new (Ok shown) = new ≡ old
CheckCause old new (Err (stop.Unread why)) = UnreadCause old new why
CheckCause old new (Err (stop.BadInput why)) = new ≡ old
CheckCause old new (Err (stop.No why)) = new ≡ old
CheckCause old new (Err stop.NoMemory) = new ≡ old
