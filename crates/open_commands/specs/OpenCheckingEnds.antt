-- What the ends of the stages of `opencheck` become, and which changes of the shelf's counts they come with.
use Rattle.std.specs.Prelude.{◌≡◌, List, Result, Ok, Err, ℕ}
use Rattle.shelf.specs.declared.tally.Tally.{Tally}
use Rattle.cert_text.specs.declared.fault.CertCode.{CertCode}
use Rattle.cert_text.specs.declared.fault.CertCode.TheVariants as cert
use Rattle.cert_text.specs.declared.fault.CertFault.{CertFault}
use Rattle.month_files.specs.Reading.{UnreadCause}
use Rattle.open_time.specs.declared.refusal.OpenNo.{OpenNo}
use Rattle.open_time.specs.declared.refusal.OpenNo.TheVariants as no
use Rattle.roster_text.specs.declared.reason_fault.ReasonTextCode.{ReasonTextCode}
use Rattle.roster_text.specs.declared.reason_fault.ReasonTextCode.TheVariants as reason
use Rattle.roster_text.specs.declared.reason_fault.ReasonTextFault.{ReasonTextFault}
use Rattle.roster_text.specs.declared.fault.RosterTextCode.{RosterTextCode}
use Rattle.roster_text.specs.declared.fault.RosterTextCode.TheVariants as text
use Rattle.roster_text.specs.declared.fault.RosterTextFault.{RosterTextFault}
use Rattle.open_commands.specs.declared.open_check_stop.OpenCheckStop.{OpenCheckStop}
use Rattle.open_commands.specs.declared.open_check_stop.OpenCheckStop.TheVariants as stop
use Rattle.open_commands.specs.declared.open_check_stop.Unopened.TheVariants as unopened

-- a fault of a certificate's text
abbrev pub cert_end : CertCode → CertFault → OpenCheckStop
cert_end cert.NoMemory fault = stop.NoMemory
cert_end cert.Version fault = stop.No (unopened.Certificate fault)
cert_end cert.Word fault = stop.No (unopened.Certificate fault)
cert_end cert.Number fault = stop.No (unopened.Certificate fault)
cert_end cert.Short fault = stop.No (unopened.Certificate fault)
cert_end cert.Trailing fault = stop.No (unopened.Certificate fault)
cert_end cert.Limit fault = stop.No (unopened.Certificate fault)

-- a fault of the roster's text
abbrev pub roster_end : RosterTextCode → RosterTextFault → OpenCheckStop
roster_end text.NoMemory fault = stop.NoMemory
roster_end text.Header fault = stop.No (unopened.Roster fault)
roster_end text.Shape fault = stop.No (unopened.Roster fault)
roster_end text.Member fault = stop.No (unopened.Roster fault)
roster_end text.Pairing fault = stop.No (unopened.Roster fault)
roster_end text.Sums fault = stop.No (unopened.Roster fault)
roster_end text.Rows fault = stop.No (unopened.Roster fault)

-- a fault of the reasons' text
abbrev pub reasons_end : ReasonTextCode → ReasonTextFault → OpenCheckStop
reasons_end reason.NoMemory fault = stop.NoMemory
reasons_end reason.Shape fault = stop.No (unopened.Reasons fault)
reasons_end reason.Member fault = stop.No (unopened.Reasons fault)
reasons_end reason.Bid fault = stop.No (unopened.Reasons fault)
reasons_end reason.Place fault = stop.No (unopened.Reasons fault)
reasons_end reason.Text fault = stop.No (unopened.Reasons fault)

-- an answer of the judge
abbrev pub judged_end : OpenNo → OpenCheckStop
judged_end no.NoMemory = stop.NoMemory
judged_end (no.Open why) = stop.No (unopened.Judged (no.Open why))
judged_end no.NoneProof = stop.No (unopened.Judged no.NoneProof)
judged_end (no.Fewer why) = stop.No (unopened.Judged (no.Fewer why))
judged_end (no.Award why) = stop.No (unopened.Judged (no.Award why))

-- which change of the shelf's counts an end comes with
abbrev pub OpenCheckCause : Tally → Tally → Result (List ℕ) OpenCheckStop → Type 0
OpenCheckCause old new (Ok scores) = new ≡ old
OpenCheckCause old new (Err (stop.Unread why)) = UnreadCause old new why
OpenCheckCause old new (Err (stop.BadInput why)) = new ≡ old
OpenCheckCause old new (Err (stop.No why)) = new ≡ old
OpenCheckCause old new (Err stop.NoMemory) = new ≡ old
