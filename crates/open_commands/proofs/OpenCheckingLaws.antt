-- How `opencheck` ends, over files and over the texts that reads handed in, from what its stages answer.
use Rattle.std.proofs.Common.{true, ◌≡◌, ◌≢◌, ℕ, zero, suc, ◌+◌, ◌<◌, ◌≤◌, nat_lt, List, [], ◌∷◌, ◌++◌, map, take, length, Option, Some, None, Result, Ok, Err, refl, sym, ap, subst, ◌∙◌, inl, inr, arith, append_assoc}
use Rattle.std.specs.Prelude.{All, slice_get, unwrap_or}
use Rattle.std.specs.List.{AllByRecursion, range_with_len}
use Rattle.std.specs.Option.{ForSome, is_some}
use Rattle.std.proofs.lemmas.Bool.{false≢true, true≢false}
use Rattle.std.proofs.lemmas.Bool.Decides.{nat_tests}
use Rattle.std.proofs.lemmas.List.Elements.{All-cons, All-nil, All-weaker}
use Rattle.shelf.specs.Files.{Files}
use Rattle.shelf.specs.Logs.{Entries, holding}
use Rattle.cert_text.specs.declared.fault.CertCode.{CertCode}
use Rattle.cert_text.specs.declared.fault.CertCode.TheVariants as cert
use Rattle.cert_text.specs.declared.fault.CertFault.{CertFault}
use Rattle.cert_checker.specs.Given.{HasSmallWeights, IsCountableProof}
use Rattle.cert_text.specs.declared.limits.TheConstants.{MOST_ITEMS}
use Rattle.cert_text.specs.Limits.{is_certificate, is_item}
use Rattle.cert_text.specs.Lines.{FailsBy}
use Rattle.cert_text.specs.Reading.{certificate_in}
use Rattle.month_files.specs.declared.fault.BadInput.{BadInput}
use Rattle.month_files.specs.declared.fault.BadInput.TheVariants as bad
use Rattle.month_files.specs.declared.file.File.TheVariants.{OpenNone, OpenCertificate, OpenReasons, OpenRoster}
use Rattle.month_files.specs.FileNames.{name_of, limit_of}
use Rattle.month_files.specs.Handing.{FromReads, input_texts}
use Rattle.month_files.specs.Months.{Names, Ends}
use Rattle.month_files.specs.Reading.{AreShort}
use Rattle.open_time.specs.declared.refusal.OpenNo.{OpenNo}
use Rattle.open_time.specs.declared.refusal.OpenNo.TheVariants as no
use Rattle.open_time.specs.Judged.{IsFirstOpenNo, NamesOpenFault}
use Rattle.open_time.specs.Refuted.{IsOpenAward}
use Rattle.open_time.specs.Vacant.{HasRoomFor, IsWithVacant, IsUnfilledUnder, NeedsVacant, no_bids}
use Rattle.roster_model.specs.declared.award.Awarded.{Awarded}
use Rattle.roster_model.specs.declared.award.Certificate.TheVariants.{Award, NoRoster}
use Rattle.roster_model.specs.declared.award.Denial.{Denial}
use Rattle.duty_calendar.specs.declared.pairing.Pairing.{Pairing}
use Rattle.roster_model.specs.declared.problem.Problem.{Problem}
use Rattle.roster_model.specs.declared.proof.Item.{Item}
use Rattle.roster_model.specs.declared.bid.Bid.{Bid}
use Rattle.roster_model.specs.Goals.{IsBidOf}
use Rattle.roster_model.specs.Rosters.{scores_of}
use Rattle.roster_model.proofs.Greatest.{best-greatest}
use Rattle.roster_text.specs.declared.fault.RosterTextCode.{RosterTextCode}
use Rattle.roster_text.specs.declared.fault.RosterTextCode.TheVariants as text
use Rattle.roster_text.specs.declared.fault.RosterTextFault.{RosterTextFault}
use Rattle.roster_text.specs.declared.reason_fault.ReasonTextCode.{ReasonTextCode}
use Rattle.roster_text.specs.declared.reason_fault.ReasonTextCode.TheVariants as reason
use Rattle.roster_text.specs.declared.reason_fault.ReasonTextFault.{ReasonTextFault}
use Rattle.roster_text.specs.ReasonFaults.{HasReasonFault}
use Rattle.roster_text.specs.ReasonReading.{no_memory as no_room}
use Rattle.roster_text.specs.ReasonText.{IsReasonsText}
use Rattle.roster_text.specs.RosterFaults.{HasFault}
use Rattle.roster_text.specs.RosterText.{IsLine, IsTextOf}
use Rattle.roster_text.specs.RowReading.{no_memory}
use Rattle.open_commands.specs.declared.open_check_stop.OpenCheckStop.{OpenCheckStop}
use Rattle.open_commands.specs.declared.open_check_stop.OpenCheckStop.TheVariants as stop
use Rattle.open_commands.specs.declared.open_check_stop.Unopened.TheVariants as unopened
use Rattle.open_commands.specs.OpenChecking.{Lodged, lodged_in, IsNoneText, IsNoneEnd, IsNoneUnread, IsAwardEnd, IsClosedEnd, SaysProofs, SaysAll, IsOpenCheckEnd, IsBadLodged, IsOpenCheck, IsOpenCheckHanded, checking_order}
use Rattle.open_commands.specs.OpenCheckingEnds.{cert_end, roster_end, reasons_end, judged_end}
use Rattle.open_commands.specs.OpenCheckingTexts.{none_texts, lodged_texts, AreBriefLodged}
use Rattle.open_commands.proofs.Held.{held, inputs_held, then_ok}
use Rattle.open_commands.proofs.Limits.{all_of, countable, few, small_weights}
use Rattle.open_commands.proofs.OpeningLaws.{award_of}

-- ---- what the judge asks of what is read

small_items : (items : List Item) → is_certificate (NoRoster items) ≡ true → All HasSmallWeights items
small_items items h = all_of is_item HasSmallWeights small_weights items (few MOST_ITEMS is_item items h).1

countable_items : (items : List Item) → is_certificate (NoRoster items) ≡ true → IsCountableProof items
countable_items items h = countable items h

pub small_below : (below : Option (List Item)) → ForSome below (λ items. is_certificate (NoRoster items) ≡ true) → ForSome below (All HasSmallWeights)
small_below below h = λ items e. small_items items (h items e)

pub countable_below : (below : Option (List Item)) → ForSome below (λ items. is_certificate (NoRoster items) ≡ true) → ForSome below IsCountableProof
countable_below below h = λ items e. countable_items items (h items e)

-- the roster and the reasons of a month with vacant lines, for the month without them
pub lines_in_range : (problem : Problem) (count : ℕ) (made : Problem) (roster : List (List ℕ)) → IsWithVacant problem count made → AllByRecursion (IsLine made) roster
    → All (All (λ p. p < length problem.base.pairings)) roster
lines_in_range problem count made roster of each =
    subst (λ (ps : List Pairing). All (All (λ p. p < length ps)) roster) of.pairings (go roster each)
  where
    go : (lines : List (List ℕ)) → AllByRecursion (IsLine made) lines → All (All (λ p. p < length made.base.pairings)) lines
    go [] h = All-nil (All (λ p. p < length made.base.pairings))
    go (l ∷ ls) h = All-cons (All (λ p. p < length made.base.pairings)) l ls h.0.in_range (go ls h.1)

no_bid : (ns : List ℕ) (m : ℕ) → unwrap_or (slice_get (map no_bids ns) m) [] ≡ []
no_bid [] m = refl
no_bid (n ∷ ns) zero = refl
no_bid (n ∷ ns) (suc m) = no_bid ns m

bids_front : (xs : List (List Bid)) (ns : List ℕ) (m k : ℕ) → k < length (unwrap_or (slice_get (xs ++ map no_bids ns) m) [])
    → k < length (unwrap_or (slice_get xs m) [])
bids_front [] ns m k lt = absurd (let none = no_bid ns m in omega (arith, lt, ap (λ (bs : List Bid). length bs) none))
bids_front (x ∷ xs) ns zero k lt = lt
bids_front (x ∷ xs) ns (suc m) k lt = bids_front xs ns m k lt

bidder : (xs : List (List Bid)) (m k : ℕ) → k < length (unwrap_or (slice_get xs m) []) → m < length xs
bidder [] m k lt = absurd (omega (arith, lt))
bidder (x ∷ xs) zero k lt = omega arith
bidder (x ∷ xs) (suc m) k lt = let less = bidder xs m k lt in omega (arith, less)

pub bids_named : (problem : Problem) (count : ℕ) (made : Problem) (reasons : List Denial) → IsWithVacant problem count made
    → All (λ d. IsBidOf made d.bid) reasons → All (λ d. IsBidOf problem d.bid) reasons
bids_named problem count made reasons of named = All-weaker (λ (d : Denial). IsBidOf made d.bid) (λ (d : Denial). IsBidOf problem d.bid) one reasons named
  where
    one : (d : Denial) → IsBidOf made d.bid → IsBidOf problem d.bid
    one d is =
        let number : d.bid.bid < length (unwrap_or (slice_get problem.bids d.bid.member) []) =
        bids_front problem.bids (range_with_len 0 count) d.bid.member d.bid.bid
        (subst (λ (xs : List (List Bid)). d.bid.bid < length (unwrap_or (slice_get xs d.bid.member) [])) of.bids is.number) in
        record { member = omega (arith, bidder problem.bids d.bid.member d.bid.bid number, problem.valid.lists); number = number }

-- ---- a certificate that does not read, or has the other form

pub none_end : (text : List ℕ) (why : CertFault) (c : CertCode) → FailsBy c why (certificate_in text) → IsNoneEnd text (cert_end c why)
none_end text why cert.NoMemory h = tt
none_end text why cert.Version h = h
none_end text why cert.Word h = h
none_end text why cert.Number h = h
none_end text why cert.Short h = h
none_end text why cert.Trailing h = h
none_end text why cert.Limit h = h

pub award_end : (text : List ℕ) (why : CertFault) (c : CertCode) → FailsBy c why (certificate_in text) → IsAwardEnd text (cert_end c why)
award_end text why cert.NoMemory h = tt
award_end text why cert.Version h = h
award_end text why cert.Word h = h
award_end text why cert.Number h = h
award_end text why cert.Short h = h
award_end text why cert.Trailing h = h
award_end text why cert.Limit h = h

-- ---- of a problem and texts

module _ (problem : Problem) (count : ℕ) (lodged : Lodged) where
  pub closed_end : (s : OpenCheckStop) → IsClosedEnd problem count s → IsOpenCheckEnd problem count lodged (Err s)
  closed_end (stop.Unread why) h = h
  closed_end (stop.BadInput why) h = h
  closed_end (stop.No (unopened.Open why)) h = h
  closed_end (stop.No (unopened.Certificate why)) h = absurd h
  closed_end (stop.No unopened.Form) h = absurd h
  closed_end (stop.No (unopened.Reasons why)) h = absurd h
  closed_end (stop.No (unopened.Roster why)) h = absurd h
  closed_end (stop.No (unopened.Judged why)) h = absurd h
  closed_end stop.NoMemory h = tt

  module _ (room : HasRoomFor problem count) where
    pub none_end_of : (s : OpenCheckStop) → IsNoneUnread lodged.below s → IsOpenCheckEnd problem count lodged (Err s)
    none_end_of (stop.Unread why) h = h.refused
    none_end_of (stop.BadInput why) h = h.refused
    none_end_of (stop.No (unopened.Open why)) h = absurd h.refused
    none_end_of (stop.No (unopened.Certificate why)) h = record { room = room; either = inl h }
    none_end_of (stop.No unopened.Form) h = record { room = room; either = inl h }
    none_end_of (stop.No (unopened.Reasons why)) h = absurd h.refused
    none_end_of (stop.No (unopened.Roster why)) h = absurd h.refused
    none_end_of (stop.No (unopened.Judged why)) h = absurd h.refused
    none_end_of stop.NoMemory h = tt

    module _ (below : Option (List Item)) (before : IsNoneText lodged.below below) where
      pub award_end_of : (s : OpenCheckStop) → IsAwardEnd lodged.certificate s → IsOpenCheckEnd problem count lodged (Err s)
      award_end_of (stop.Unread why) h = h
      award_end_of (stop.BadInput why) h = h
      award_end_of (stop.No (unopened.Open why)) h = absurd h
      award_end_of (stop.No (unopened.Certificate why)) h = record { room = room; either = inr (record { below = below; before = before; refused = h }) }
      award_end_of (stop.No unopened.Form) h = record { room = room; either = inr (record { below = below; before = before; refused = h }) }
      award_end_of (stop.No (unopened.Reasons why)) h = absurd h
      award_end_of (stop.No (unopened.Roster why)) h = absurd h
      award_end_of (stop.No (unopened.Judged why)) h = absurd h
      award_end_of stop.NoMemory h = tt

  module _ (made : Problem) (below : Option (List Item)) (awarded : Awarded) (before : SaysProofs problem count lodged made below awarded) where
    unreasoned : (why : ReasonTextFault) → HasReasonFault made lodged.reasons why → IsOpenCheckEnd problem count lodged (Err (stop.No (unopened.Reasons why)))
    unreasoned why bad = record { made = made; below = below; awarded = awarded; before = before; bad = bad }

    spelt : (why : ReasonTextFault) (c : ReasonTextCode) → why.code ≡ c → (c ≡ reason.NoMemory → ⊥) → why ≡ no_room → ⊥
    spelt why c is other e = other (sym is ∙ ap (λ (f : ReasonTextFault). f.code) e)

    pub ends_at_reasons : (why : ReasonTextFault) (c : ReasonTextCode) → why.code ≡ c → (why ≢ no_room → HasReasonFault made lodged.reasons why)
        → IsOpenCheckEnd problem count lodged (Err (reasons_end c why))
    ends_at_reasons why reason.NoMemory is h = tt
    ends_at_reasons why reason.Shape is h = unreasoned why (h (spelt why reason.Shape is (λ (e : reason.Shape ≡ reason.NoMemory). absurd cc)))
    ends_at_reasons why reason.Member is h = unreasoned why (h (spelt why reason.Member is (λ (e : reason.Member ≡ reason.NoMemory). absurd cc)))
    ends_at_reasons why reason.Bid is h = unreasoned why (h (spelt why reason.Bid is (λ (e : reason.Bid ≡ reason.NoMemory). absurd cc)))
    ends_at_reasons why reason.Place is h = unreasoned why (h (spelt why reason.Place is (λ (e : reason.Place ≡ reason.NoMemory). absurd cc)))
    ends_at_reasons why reason.Text is h = unreasoned why (h (spelt why reason.Text is (λ (e : reason.Text ≡ reason.NoMemory). absurd cc)))

    module _ (reasons : List Denial) (reasons_read : IsReasonsText made lodged.reasons reasons) where
      faulty : (why : RosterTextFault) → HasFault made lodged.roster why → IsOpenCheckEnd problem count lodged (Err (stop.No (unopened.Roster why)))
      faulty why bad =
          record { made = made; below = below; awarded = awarded; before = before; reasons = reasons; reasons_read = reasons_read; bad = bad }

      known : (why : RosterTextFault) (c : RosterTextCode) → why.code ≡ c → (c ≡ text.NoMemory → ⊥) → why ≡ no_memory → ⊥
      known why c is other e = other (sym is ∙ ap (λ (f : RosterTextFault). f.code) e)

      pub ends_at_roster : (why : RosterTextFault) (c : RosterTextCode) → why.code ≡ c → (why ≢ no_memory → HasFault made lodged.roster why)
          → IsOpenCheckEnd problem count lodged (Err (roster_end c why))
      ends_at_roster why text.NoMemory is h = tt
      ends_at_roster why text.Header is h = faulty why (h (known why text.Header is (λ (e : text.Header ≡ text.NoMemory). absurd cc)))
      ends_at_roster why text.Shape is h = faulty why (h (known why text.Shape is (λ (e : text.Shape ≡ text.NoMemory). absurd cc)))
      ends_at_roster why text.Member is h = faulty why (h (known why text.Member is (λ (e : text.Member ≡ text.NoMemory). absurd cc)))
      ends_at_roster why text.Pairing is h = faulty why (h (known why text.Pairing is (λ (e : text.Pairing ≡ text.NoMemory). absurd cc)))
      ends_at_roster why text.Sums is h = faulty why (h (known why text.Sums is (λ (e : text.Sums ≡ text.NoMemory). absurd cc)))
      ends_at_roster why text.Rows is h = faulty why (h (known why text.Rows is (λ (e : text.Rows ≡ text.NoMemory). absurd cc)))

      module _ (roster : List (List ℕ)) (roster_read : IsTextOf made lodged.roster roster) where
        says : SaysAll problem count lodged made below awarded reasons roster
        says = record { proofs = before; reasons_read = reasons_read; roster_read = roster_read }

        refused : (why : OpenNo) → NamesOpenFault why → IsFirstOpenNo problem count below roster reasons awarded why
            → (NamesOpenFault why → IsOpenAward problem count below roster reasons awarded → ⊥)
            → IsOpenCheckEnd problem count lodged (Err (stop.No (unopened.Judged why)))
        refused why named first not = record {
          made = made;
          below = below;
          awarded = awarded;
          reasons = reasons;
          roster = roster;
          says = says;
          known = named;
          first = first;
          not_accepted = not named;
        }

        pub ends_at_judge : (why : OpenNo) → IsFirstOpenNo problem count below roster reasons awarded why
            → (NamesOpenFault why → IsOpenAward problem count below roster reasons awarded → ⊥)
            → IsOpenCheckEnd problem count lodged (Err (judged_end why))
        ends_at_judge no.NoMemory first not = tt
        ends_at_judge (no.Open why) first not = refused (no.Open why) tt first not
        ends_at_judge no.NoneProof first not = refused no.NoneProof tt first not
        ends_at_judge (no.Fewer why) first not = refused (no.Fewer why) tt first not
        ends_at_judge (no.Award why) first not = refused (no.Award why) tt first not

        pub shown : (scores : List ℕ) → IsOpenAward problem count below roster reasons awarded → NeedsVacant problem count → IsUnfilledUnder problem count
            → scores ≡ scores_of made roster → IsOpenCheckEnd problem count lodged (Ok scores)
        shown scores accepted needs fewest is = record {
          made = made;
          below = below;
          awarded = awarded;
          reasons = reasons;
          roster = roster;
          says = says;
          accepted = accepted;
          needs = needs;
          fewest = fewest;
          greatest = best-greatest made roster awarded.proofs (award_of problem count below roster reasons awarded made accepted before.of).best;
          scores_are = is;
        }

-- ---- what reads add to the log

pub all_more : (old front below a b c d e : Entries) (x y z : List ℕ × List ℕ) → a ≡ old ++ front → b ≡ a ++ below → c ≡ b ++ x ∷ [] → d ≡ c ++ y ∷ []
    → e ≡ d ++ z ∷ [] → e ≡ old ++ (front ++ (below ++ x ∷ y ∷ z ∷ []))
all_more old front below a b c d e x y z p q r s t =
    t ∙ ap (λ (l : Entries). l ++ z ∷ []) (s ∙ ap (λ (l : Entries). l ++ y ∷ []) (r ∙ ap (λ (l : Entries). l ++ x ∷ []) (q ∙ ap (λ (l : Entries). l ++ below) p)))
    ∙ append_assoc (((old ++ front) ++ below) ++ x ∷ []) (y ∷ []) (z ∷ [])
    ∙ append_assoc ((old ++ front) ++ below) (x ∷ []) (y ∷ z ∷ [])
    ∙ append_assoc (old ++ front) below (x ∷ y ∷ z ∷ [])
    ∙ append_assoc old front (below ++ x ∷ y ∷ z ∷ [])

-- ---- over files

module _ (files : Files) (count : ℕ) (lodged : Lodged) (read : lodged_in files count ≡ Ok lodged) where
  pub bad_lodged : (why : BadInput) → Ends {X = Problem} (Names lodged.inputs) lodged.inputs (Err why) → IsOpenCheck files count (Err (stop.BadInput why))
  bad_lodged (bad.Fault why) h = record { lodged = lodged; read = read; bad = h }
  bad_lodged bad.NoMemory h = tt

  pub ends_told : (problem : Problem) → Names lodged.inputs problem → (r : Result (List ℕ) OpenCheckStop) → IsOpenCheckEnd problem count lodged r
      → IsOpenCheck files count r
  ends_told problem names (Ok scores) h = record { lodged = lodged; read = read; problem = problem; names = names; found = h }
  ends_told problem names (Err (stop.Unread why)) h = absurd h
  ends_told problem names (Err (stop.BadInput why)) h = absurd h
  ends_told problem names (Err (stop.No why)) h = record { lodged = lodged; read = read; problem = problem; names = names; found = h }
  ends_told problem names (Err stop.NoMemory) h = tt

-- ---- over the texts that reads handed in

some_above : (less : ℕ) → nat_lt 0 (suc less) ≡ true
some_above less = grind (arith, nat_tests)

-- the text of the proof is read for a number above 0, and for no other
module _ (lodged : Lodged) (short : AreShort lodged.inputs) (brief : AreBriefLodged lodged) where
  abbrev rest : Entries
  rest = (name_of OpenCertificate, lodged.certificate) ∷ (name_of OpenReasons, lodged.reasons) ∷ (name_of OpenRoster, lodged.roster) ∷ []

  abbrev all : Option (List ℕ) → Entries
  all below = input_texts lodged.inputs ++ (none_texts below ++ rest)

  abbrev whole : Option (List ℕ) → Lodged
  whole below =
      record { inputs = lodged.inputs; below = below; certificate = lodged.certificate; reasons = lodged.reasons; roster = lodged.roster }

  held_by : (below : Option (List ℕ)) (count : ℕ) → is_some below ≡ nat_lt 0 count → ForSome below (λ text. length text ≤ limit_of OpenNone)
      → lodged_in (holding (all below)) count ≡ Ok (whole below)
  unfolding lodged_in
  held_by None zero due small =
      then_ok _ _ lodged.inputs _ (inputs_held lodged.inputs rest short)
      (then_ok _ _ lodged.certificate _ (held (all None) OpenCertificate lodged.certificate refl brief.certificate)
      (then_ok _ _ lodged.reasons _ (held (all None) OpenReasons lodged.reasons refl brief.reasons)
      (then_ok _ _ lodged.roster _ (held (all None) OpenRoster lodged.roster refl brief.roster) refl)))
  held_by None (suc less) due small = absurd (false≢true (due ∙ some_above less))
  held_by (Some text) zero due small = absurd (true≢false due)
  held_by (Some text) (suc less) due small =
      then_ok _ _ lodged.inputs _ (inputs_held lodged.inputs ((name_of OpenNone, text) ∷ rest) short)
      (then_ok _ _ (Some text) _ (then_ok _ _ text _ (held (all (Some text)) OpenNone text refl (small text refl)) refl)
      (then_ok _ _ lodged.certificate _ (held (all (Some text)) OpenCertificate lodged.certificate refl brief.certificate)
      (then_ok _ _ lodged.reasons _ (held (all (Some text)) OpenReasons lodged.reasons refl brief.reasons)
      (then_ok _ _ lodged.roster _ (held (all (Some text)) OpenRoster lodged.roster refl brief.roster) refl))))

  pub lodged_held : (count : ℕ) → is_some lodged.below ≡ nat_lt 0 count → lodged_in (holding (lodged_texts lodged)) count ≡ Ok lodged
  lodged_held count due = held_by lodged.below count due brief.below

  named_by : (below : Option (List ℕ)) (count : ℕ) → is_some below ≡ nat_lt 0 count
      → (n : ℕ) × (map (λ x. x.0) (all below) ≡ take n (map name_of (checking_order count)))
  named_by None zero due = (11, refl)
  named_by None (suc less) due = absurd (false≢true (due ∙ some_above less))
  named_by (Some text) zero due = absurd (true≢false due)
  named_by (Some text) (suc less) due = (12, refl)

module _ (old new : Entries) (count : ℕ) (lodged : Lodged) (logged : new ≡ old ++ lodged_texts lodged) (short : AreShort lodged.inputs)
    (brief : AreBriefLodged lodged) (due : is_some lodged.below ≡ nat_lt 0 count) where
  from_lodged : (P : Files → Type 0) → P (holding (lodged_texts lodged)) → FromReads (checking_order count) old new P
  from_lodged P h =
      let names = named_by lodged short brief lodged.below count due in
      record { texts = lodged_texts lodged; logged = logged; count = names.0; names = names.1; found = h }

  pub bad_lodged_handed : (why : BadInput) → Ends {X = Problem} (Names lodged.inputs) lodged.inputs (Err why)
      → IsOpenCheckHanded old new count (Err (stop.BadInput why))
  bad_lodged_handed why h =
      from_lodged (λ files. IsBadLodged files count why) (bad_lodged (holding (lodged_texts lodged)) count lodged (lodged_held lodged short brief count due) why h)

  pub ends_handed : (problem : Problem) → Names lodged.inputs problem → (r : Result (List ℕ) OpenCheckStop) → IsOpenCheckEnd problem count lodged r
      → IsOpenCheckHanded old new count r
  ends_handed problem names (Ok scores) h =
      from_lodged (λ files. IsOpenCheck files count (Ok scores)) (ends_told (holding (lodged_texts lodged)) count lodged (lodged_held lodged short brief count due) problem names (Ok scores) h)
  ends_handed problem names (Err (stop.Unread why)) h = absurd h
  ends_handed problem names (Err (stop.BadInput why)) h = absurd h
  ends_handed problem names (Err (stop.No why)) h =
      from_lodged (λ files. IsOpenCheck files count (Err (stop.No why))) (ends_told (holding (lodged_texts lodged)) count lodged (lodged_held lodged short brief count due) problem names (Err (stop.No why)) h)
  ends_handed problem names (Err stop.NoMemory) h = tt
