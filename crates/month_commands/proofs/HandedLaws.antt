-- What the reads of `check` handed in, as files that hold it.
use Rattle.std.proofs.Common.{◌≡◌, ◌≢◌, ℕ, ◌≤◌, Bool, true, false, cond, ltb, List, [], ◌∷◌, ◌++◌, map, take, length, Some, Result, Ok, Err, refl, sym, ap, subst, ◌∙◌, append_assoc, nat_cmp, arith}
use Rattle.std.proofs.lemmas.Bool.Decides.{nat_tests}
use Rattle.std.proofs.lemmas.Cmp.{nat_list_cmp_total}
use Rattle.std.specs.Cmp.Lexicographic.{slice_cmp}
use Rattle.std.specs.FinMap.{find, get-from_entries}
use Rattle.shelf.specs.Files.{Files, file}
use Rattle.shelf.specs.Logs.{Entries, holding}
use Rattle.roster_model.specs.declared.problem.Problem.{Problem}
use Rattle.roster_model.specs.declared.award.Certificate.{Certificate}
use Rattle.month_files.specs.declared.file.File.{File}
use Rattle.month_files.specs.declared.file.File.TheVariants.{Rules, Pairings, Duties, Legs, Crew, History, Fixed, Bids, Certificate as CertificateFile, Roster, Reasons}
use Rattle.month_files.specs.declared.unread.Unread.{Unread}
use Rattle.month_files.specs.declared.unread.Unread.TheVariants as unread
use Rattle.month_files.specs.FileNames.{name_of, limit_of}
use Rattle.month_files.specs.Handing.{input_texts}
use Rattle.month_files.specs.Reading.{◌>>=◌, Inputs, AreShort, within, text_in, texts_in}
use Rattle.roster_model.specs.declared.proof.Item.{Item}
use Rattle.roster_model.specs.declared.award.Awarded.{Awarded}
use Rattle.roster_model.specs.declared.award.Denial.{Denial}
use Rattle.roster_model.specs.declared.award.Certificate.TheVariants.{Award, NoRoster}
use Rattle.roster_model.specs.Awards.{IsGreatest, HasNoRoster, no_goal}
use Rattle.roster_model.specs.Denials.{DenialsAreAnswered, IsAwarded}
use Rattle.roster_model.specs.Closing.{Closes}
use Rattle.roster_model.specs.Rosters.{scores_of}
use Rattle.cert_checker.specs.declared.refusal.No.{No}
use Rattle.cert_checker.specs.Awards.{IsFirstNo, NamesFault}
use Rattle.cert_checker.specs.Stops.{Stops}
use Rattle.cert_text.specs.declared.fault.CertCode.{CertCode}
use Rattle.cert_text.specs.declared.fault.CertFault.{CertFault}
use Rattle.cert_text.specs.Lines.{FailsBy}
use Rattle.cert_text.specs.Reading.{certificate_in}
use Rattle.month_files.specs.declared.fault.BadInput.{BadInput}
use Rattle.month_files.specs.Months.{Names, Ends}
use Rattle.roster_text.specs.declared.fault.RosterTextCode.{RosterTextCode}
use Rattle.roster_text.specs.declared.fault.RosterTextFault.{RosterTextFault}
use Rattle.roster_text.specs.RosterFaults.{HasFault}
use Rattle.roster_text.specs.RosterText.{IsTextOf}
use Rattle.roster_text.specs.RowReading.{no_memory}
use Rattle.roster_text.specs.declared.reason_fault.ReasonTextCode.{ReasonTextCode}
use Rattle.roster_text.specs.declared.reason_fault.ReasonTextFault.{ReasonTextFault}
use Rattle.roster_text.specs.ReasonFaults.{HasReasonFault}
use Rattle.roster_text.specs.ReasonReading.{no_memory as no_room}
use Rattle.roster_text.specs.ReasonText.{IsReasonsText}
use Rattle.month_commands.specs.declared.verdict.Verdict.TheVariants as verdict
use Rattle.month_commands.specs.CheckEnds.{cert_stop, roster_stop, reasons_stop, judge_stop}
use Rattle.month_commands.proofs.CheckLaws.{ends_at_month, ends_at_certificate, ends_at_roster, ends_at_reasons, none_accepted, none_refused, award_accepted, award_refused}
use Rattle.month_commands.specs.declared.check_stop.CheckStop.{CheckStop}
use Rattle.month_commands.specs.declared.check_stop.CheckStop.TheVariants as stop
use Rattle.month_commands.specs.declared.verdict.Verdict.{Verdict}
use Rattle.month_commands.specs.Check.{Given, given_in, Claimed, claimed_in, NamesCertificate, IsCheck}
use Rattle.month_commands.specs.Handed.{checking_order, IsHanded, given_texts, claimed_texts, IsBrief, HandedIn}

-- ---- one text

pub within_limit : (f : File) (bytes : List ℕ) → length bytes ≤ limit_of f → within f (Some bytes) ≡ Ok bytes
within_limit f bytes le = by (ltb (limit_of f) (length bytes)) (not_over (limit_of f) (length bytes) le)
  where
    not_over : (limit n : ℕ) → n ≤ limit → ltb limit n ≡ false
    not_over limit n le = grind (arith, nat_tests)

    by : (b : Bool) → b ≡ false → cond b (Err (unread.TooLong f)) (Ok bytes) ≡ Ok bytes
    by true e = absurd cc
    by false e = refl

pub held : (texts : Entries) (f : File) (bytes : List ℕ) → find (slice_cmp nat_cmp) (name_of f) texts ≡ Some bytes → length bytes ≤ limit_of f → text_in (holding texts) f ≡ Ok bytes
held texts f bytes e le =
    let found : file (holding texts) (name_of f) ≡ Some bytes = get-from_entries nat_list_cmp_total _ _ ∙ e in
    ap (within f) found ∙ within_limit f bytes le

-- ---- the texts that are read first

pub then_ok : {A B : Type 0} (r : Result A Unread) (f : A → Result B Unread) (x : A) (y : Result B Unread) → r ≡ Ok x → f x ≡ y → (r >>= f) ≡ y
then_ok r f x y e h = subst (λ q. (q >>= f) ≡ y) (sym e) h

module _ (inputs : Inputs) (rest : Entries) (short : AreShort inputs) where
  pub inputs_held : texts_in (holding (input_texts inputs ++ rest)) ≡ Ok inputs
  unfolding texts_in
  inputs_held =
      then_ok _ _ inputs.rules _ (held (input_texts inputs ++ rest) Rules inputs.rules refl short.rules)
      (then_ok _ _ inputs.pairings _ (held (input_texts inputs ++ rest) Pairings inputs.pairings refl short.pairings)
      (then_ok _ _ inputs.duties _ (held (input_texts inputs ++ rest) Duties inputs.duties refl short.duties)
      (then_ok _ _ inputs.legs _ (held (input_texts inputs ++ rest) Legs inputs.legs refl short.legs)
      (then_ok _ _ inputs.crew _ (held (input_texts inputs ++ rest) Crew inputs.crew refl short.crew)
      (then_ok _ _ inputs.history _ (held (input_texts inputs ++ rest) History inputs.history refl short.history)
      (then_ok _ _ inputs.fixed _ (held (input_texts inputs ++ rest) Fixed inputs.fixed refl short.fixed)
      (then_ok _ _ inputs.bids _ (held (input_texts inputs ++ rest) Bids inputs.bids refl short.bids) refl)))))))

module _ (given : Given) (rest : Entries) (short : AreShort given.inputs) (limit : length given.certificate ≤ limit_of CertificateFile) where
  pub given_held : given_in (holding (given_texts given ++ rest)) ≡ Ok given
  unfolding given_in
  given_held =
      then_ok _ _ given.inputs _ (inputs_held given.inputs ((name_of CertificateFile, given.certificate) ∷ rest) short)
      (then_ok _ _ given.certificate _ (held (given_texts given ++ rest) CertificateFile given.certificate refl limit) refl)

-- ---- the answers over them

pub handed : (old new texts : Entries) → new ≡ old ++ texts → (count : ℕ) → map (λ x. x.0) texts ≡ take count (map name_of checking_order)
    → (end : Result Verdict CheckStop) → IsCheck (holding texts) end → IsHanded old new end
handed old new texts logged count names (Ok shown) h = record { texts = texts; logged = logged; count = count; names = names; found = h }
handed old new texts logged count names (Err (stop.Unread why)) h = tt
handed old new texts logged count names (Err (stop.BadInput why)) h = record { texts = texts; logged = logged; count = count; names = names; found = h }
handed old new texts logged count names (Err (stop.No why)) h = record { texts = texts; logged = logged; count = count; names = names; found = h }
handed old new texts logged count names (Err stop.NoMemory) h = tt

-- with the inputs and the certificate alone
pub alone : (given : Given) → AreShort given.inputs → length given.certificate ≤ limit_of CertificateFile → given_in (holding (given_texts given)) ≡ Ok given
alone given short limit = given_held given [] short limit

pub handed_given : (old new : Entries) (given : Given) → new ≡ old ++ given_texts given → (end : Result Verdict CheckStop) → IsCheck (holding (given_texts given)) end → IsHanded old new end
handed_given old new given logged end h = handed old new (given_texts given) logged 9 refl end h

-- and with the roster and the reasons
module _ (old log new : Entries) (problem : Problem) (certificate : Certificate) (read : HandedIn old log problem certificate) (claimed : Claimed) (logged : new ≡ log ++ claimed_texts claimed) (brief : IsBrief claimed) where
  abbrev pub all_texts : Entries
  all_texts = given_texts read.given ++ claimed_texts claimed

  pub claimed_held : claimed_in (holding all_texts) ≡ Ok claimed
  unfolding claimed_in
  claimed_held =
      then_ok _ _ claimed.roster _ (held all_texts Roster claimed.roster refl brief.roster)
      (then_ok _ _ claimed.reasons _ (held all_texts Reasons claimed.reasons refl brief.reasons) refl)

  pub all_named : NamesCertificate (holding all_texts) problem certificate
  all_named = record {
    given = read.given;
    before = record { read = given_held read.given (claimed_texts claimed) read.short read.limit; names = read.names };
    read = read.read;
  }

  pub handed_all : (end : Result Verdict CheckStop) → IsCheck (holding all_texts) end → IsHanded old new end
  handed_all end h =
      handed old new all_texts (logged ∙ ap (λ (l : Entries). l ++ claimed_texts claimed) read.logged ∙ append_assoc old (given_texts read.given) (claimed_texts claimed)) 11 refl end h

pub given_named : (old log : Entries) (problem : Problem) (certificate : Certificate) (read : HandedIn old log problem certificate) → NamesCertificate (holding (given_texts read.given)) problem certificate
given_named old log problem certificate read = record {
  given = read.given;
  before = record { read = alone read.given read.short read.limit; names = read.names };
  read = read.read;
}

-- ---- the form of an award

module _ (old log new : Entries) (problem : Problem) (awarded : Awarded) (read : HandedIn old log problem (Award awarded)) (claimed : Claimed) (logged : new ≡ log ++ claimed_texts claimed) (brief : IsBrief claimed) where
  abbrev over : Files
  over = holding (all_texts old log new problem (Award awarded) read claimed logged brief)

  by_all : (end : Result Verdict CheckStop) → IsCheck over end → IsHanded old new end
  by_all end h = handed_all old log new problem (Award awarded) read claimed logged brief end h

  named : NamesCertificate over problem (Award awarded)
  named = all_named old log new problem (Award awarded) read claimed logged brief

  there : claimed_in over ≡ Ok claimed
  there = claimed_held old log new problem (Award awarded) read claimed logged brief

  pub handed_roster : (fault : RosterTextFault) (c : RosterTextCode) → fault.code ≡ c → (fault ≢ no_memory → HasFault problem claimed.roster fault) → IsHanded old new (Err (roster_stop c fault))
  handed_roster fault c is h = by_all (Err (roster_stop c fault)) (ends_at_roster over problem awarded named claimed there fault c is h)

  module _ (roster : List (List ℕ)) (is : IsTextOf problem claimed.roster roster) where
    pub handed_reasons : (fault : ReasonTextFault) (c : ReasonTextCode) → fault.code ≡ c → (fault ≢ no_room → HasReasonFault problem claimed.reasons fault) → IsHanded old new (Err (reasons_stop c fault))
    handed_reasons fault c code h =
        by_all (Err (reasons_stop c fault)) (ends_at_reasons over problem awarded named claimed there roster is fault c code h)

    module _ (reasons : List Denial) (listed : IsReasonsText problem claimed.reasons reasons) where
      pub handed_accepted : (scores : List ℕ) → IsAwarded problem roster reasons awarded → IsGreatest problem roster
          → DenialsAreAnswered problem roster reasons awarded.shown → scores ≡ scores_of problem roster → IsHanded old new (Ok (verdict.Award scores))
      handed_accepted scores accepted greatest answered are =
          by_all (Ok (verdict.Award scores)) (award_accepted over problem awarded named claimed there roster is reasons listed scores accepted greatest answered are)

      pub handed_refused : (why : No) → IsFirstNo problem roster reasons awarded why → (NamesFault why → IsAwarded problem roster reasons awarded → ⊥) → IsHanded old new (Err (judge_stop why))
      handed_refused why first refused =
          by_all (Err (judge_stop why)) (award_refused over problem awarded named claimed there roster is reasons listed why first refused)

-- ---- before the form is known

module _ (old new : Entries) (given : Given) (logged : new ≡ old ++ given_texts given) (short : AreShort given.inputs) (limit : length given.certificate ≤ limit_of CertificateFile) where
  pub handed_month : (why : BadInput) → Ends {X = Problem} (Names given.inputs) given.inputs (Err why) → IsHanded old new (Err (stop.BadInput why))
  handed_month why h =
      handed_given old new given logged (Err (stop.BadInput why)) (ends_at_month (holding (given_texts given)) given (alone given short limit) why h)

  module _ (problem : Problem) (names : Names given.inputs problem) where
    pub handed_certificate : (fault : CertFault) (c : CertCode) → FailsBy c fault (certificate_in given.certificate) → IsHanded old new (Err (cert_stop c fault))
    handed_certificate fault c h =
        handed_given old new given logged (Err (cert_stop c fault)) (ends_at_certificate (holding (given_texts given)) given (alone given short limit) problem names fault c h)

    pub handed_in : (certificate : Certificate) → certificate_in given.certificate ≡ Ok certificate → HandedIn old new problem certificate
    handed_in certificate read = record { given = given; logged = logged; short = short; limit = limit; names = names; read = read }

-- ---- the form without a roster

module _ (old log : Entries) (problem : Problem) (proof : List Item) (read : HandedIn old log problem (NoRoster proof)) where
  pub handed_none : Closes problem no_goal [] proof → HasNoRoster problem → IsHanded old log (Ok verdict.NoRoster)
  handed_none closes none =
      handed_given old log read.given read.logged (Ok verdict.NoRoster)
      (none_accepted (holding (given_texts read.given)) problem proof (given_named old log problem (NoRoster proof) read) closes none)

  pub handed_open : (why : No) → Stops problem no_goal 0 proof why → (NamesFault why → Closes problem no_goal [] proof → ⊥) → IsHanded old log (Err (judge_stop why))
  handed_open why stops refused =
      handed_given old log read.given read.logged (Err (judge_stop why))
      (none_refused (holding (given_texts read.given)) problem proof (given_named old log problem (NoRoster proof) read) why stops refused)
