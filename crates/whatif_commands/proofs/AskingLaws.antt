-- How `whatif` ends, over files and over the texts that reads handed in, from what its stages answer.
use Rattle.std.proofs.Common.{◌≡◌, ℕ, List, [], ◌∷◌, ◌++◌, Ok, Err, refl, ap, ◌∙◌, inl, inr, append_assoc}
use Rattle.shelf.specs.Files.{Files}
use Rattle.shelf.specs.Logs.{Entries, holding}
use Rattle.month_files.specs.FileNames.{name_of}
use Rattle.month_files.specs.Handing.{FromReads, input_texts}
use Rattle.month_files.specs.Reading.{AreShort, UnreadIs}
use Rattle.month_files.specs.declared.fault.BadInput.TheVariants as bad
use Rattle.month_files.specs.declared.file.File.TheVariants.{Certificate, OtherBids, Roster, Reasons}
use Rattle.month_files.specs.declared.unread.Unread.{Unread}
use Rattle.month_files.specs.declared.unread.Unread.TheVariants as unread
use Rattle.whatif_commands.specs.declared.question.Question.{Question}
use Rattle.whatif_commands.specs.declared.asking_stop.Unasked.{Unasked}
use Rattle.whatif_commands.specs.declared.asking_stop.Unasked.TheVariants as unasked
use Rattle.whatif_commands.specs.declared.asking_stop.WhatIf.{WhatIf}
use Rattle.whatif_commands.specs.declared.asking_stop.WhatIfStop.{WhatIfStop}
use Rattle.whatif_commands.specs.declared.asking_stop.WhatIfStop.TheVariants as stop
use Rattle.whatif_commands.specs.Asking.{Asked, asked_in, Claimed, claimed_in, IsQuestion, IsNotAsked, IsUnasked, IsUnanswered, IsClaimEnd, IsAskedIn, OfAsked, OfClaim, HasUnasked, HasWhatIf, IsBadAsked, HasOtherFault, IsSpent, IsRun, IsRunHanded, asking_order}
use Rattle.whatif_commands.specs.AskingTexts.{asked_texts, AreBrief, claimed_texts, IsBrief, IsQuestionHanded}
use Rattle.whatif_commands.proofs.Held.{held, inputs_held, then_ok}

-- ---- over files that are read

pub unread_first : (files : Files) (name : List ℕ) (nodes : ℕ) (why : Unread) → UnreadIs why (asked_in files) → IsRun files name nodes (Err (stop.Unread why))
unread_first files name nodes (unread.Missing f) h = inl h
unread_first files name nodes (unread.ReadFault f) h = tt
unread_first files name nodes (unread.TooLong f) h = inl h
unread_first files name nodes unread.NoMemory h = tt

module _ (files : Files) (name : List ℕ) (nodes : ℕ) (asked : Asked) (read : asked_in files ≡ Ok asked) where
  not_asked : (why : Unasked) → IsNotAsked name asked why → HasUnasked files name why
  not_asked unasked.Member h = record { asked = asked; read = read; found = h }
  not_asked (unasked.Certificate fault) h = record { asked = asked; read = read; found = h }
  not_asked unasked.NoAward h = record { asked = asked; read = read; found = h }
  not_asked (unasked.Roster fault) h = absurd h
  not_asked (unasked.Reasons fault) h = absurd h
  not_asked (unasked.Judged why) h = absurd h
  not_asked (unasked.Bids other) h = absurd h

  pub ends_unasked : (s : WhatIfStop) → IsUnasked name asked s → IsRun files name nodes (Err s)
  ends_unasked (stop.Unread why) h = absurd h
  ends_unasked (stop.BadInput (bad.Fault fault)) h = record { asked = asked; read = read; found = h }
  ends_unasked (stop.BadInput bad.NoMemory) h = tt
  ends_unasked (stop.BadBids fault) h = record { asked = asked; read = read; found = h }
  ends_unasked (stop.No why) h = not_asked why h
  ends_unasked (stop.Budget ledger) h = absurd h
  ends_unasked (stop.Unwritten w u) h = absurd h
  ends_unasked stop.NoMemory h = tt

  pub asks : (q : Question) → IsQuestion name asked q → IsAskedIn files name q
  asks q h = record { asked = asked; read = read; question = h }

module _ (files : Files) (name : List ℕ) (nodes : ℕ) (q : Question) (before : IsAskedIn files name q) where
  pub unread_claim : (why : Unread) → UnreadIs why (claimed_in files) → IsRun files name nodes (Err (stop.Unread why))
  unread_claim (unread.Missing f) h = inr (record { q = q; before = before; ends = h })
  unread_claim (unread.ReadFault f) h = tt
  unread_claim (unread.TooLong f) h = inr (record { q = q; before = before; ends = h })
  unread_claim unread.NoMemory h = tt

  module _ (claimed : Claimed) (there : claimed_in files ≡ Ok claimed) where
    unanswered : (why : Unasked) → IsUnanswered q claimed why → HasUnasked files name why
    unanswered unasked.Member h = absurd h
    unanswered (unasked.Certificate fault) h = absurd h
    unanswered unasked.NoAward h = absurd h
    unanswered (unasked.Roster fault) h = record { q = q; before = before; claimed = claimed; there = there; found = h }
    unanswered (unasked.Reasons fault) h = record { q = q; before = before; claimed = claimed; there = there; found = h }
    unanswered (unasked.Judged why) h = record { q = q; before = before; claimed = claimed; there = there; found = h }
    unanswered (unasked.Bids other) h = record { q = q; before = before; claimed = claimed; there = there; found = h }

    pub ends_claim : (s : WhatIfStop) → IsClaimEnd q claimed nodes (Err s) → IsRun files name nodes (Err s)
    ends_claim (stop.Unread why) h = absurd h
    ends_claim (stop.BadInput why) h = absurd h
    ends_claim (stop.BadBids fault) h = absurd h
    ends_claim (stop.No why) h = unanswered why h
    ends_claim (stop.Budget ledger) h = record { q = q; before = before; claimed = claimed; there = there; found = h }
    ends_claim (stop.Unwritten w u) h = absurd h
    ends_claim stop.NoMemory h = tt

    pub has_whatif : (w : WhatIf) → IsClaimEnd q claimed nodes (Ok w) → HasWhatIf files name nodes w
    has_whatif w h = record { q = q; before = before; claimed = claimed; there = there; found = h }

-- ---- over the texts that reads handed in

-- texts that are read behind the inputs, the certificate and the other bids leave these as they are
module _ (asked : Asked) (rest : Entries) (short : AreShort asked.inputs) (brief : AreBrief asked) where
  abbrev behind : Entries
  behind = (name_of Certificate, asked.certificate) ∷ (name_of OtherBids, asked.bids) ∷ rest

  asked_held : asked_in (holding (input_texts asked.inputs ++ behind)) ≡ Ok asked
  unfolding asked_in
  asked_held =
      then_ok _ _ asked.inputs _ (inputs_held asked.inputs behind short)
      (then_ok _ _ asked.certificate _ (held (input_texts asked.inputs ++ behind) Certificate asked.certificate refl brief.certificate)
      (then_ok _ _ asked.bids _ (held (input_texts asked.inputs ++ behind) OtherBids asked.bids refl brief.bids) refl))

module _ (old new : Entries) (name : List ℕ) (nodes : ℕ) (asked : Asked) (logged : new ≡ old ++ asked_texts asked) (short : AreShort asked.inputs) (brief : AreBrief asked) where
  from_asked : (P : Files → Type 0) → P (holding (asked_texts asked)) → FromReads asking_order old new P
  from_asked P h = record { texts = asked_texts asked; logged = logged; count = 10; names = refl; found = h }

  pub handed_unasked : (s : WhatIfStop) → IsUnasked name asked s → IsRunHanded old new name nodes (Err s)
  handed_unasked (stop.Unread why) h = tt
  handed_unasked (stop.BadInput why) h =
      from_asked (λ files. IsBadAsked files why) (ends_unasked (holding (asked_texts asked)) name nodes asked (asked_held asked [] short brief) (stop.BadInput why) h)
  handed_unasked (stop.BadBids fault) h =
      from_asked (λ files. OfAsked files (HasOtherFault fault)) (ends_unasked (holding (asked_texts asked)) name nodes asked (asked_held asked [] short brief) (stop.BadBids fault) h)
  handed_unasked (stop.No why) h =
      from_asked (λ files. HasUnasked files name why) (ends_unasked (holding (asked_texts asked)) name nodes asked (asked_held asked [] short brief) (stop.No why) h)
  handed_unasked (stop.Budget ledger) h = absurd h
  handed_unasked (stop.Unwritten w u) h = absurd h
  handed_unasked stop.NoMemory h = tt

  pub question_handed : (q : Question) → IsQuestion name asked q → IsQuestionHanded old new name q
  question_handed q h = record { asked = asked; logged = logged; short = short; brief = brief; question = h }

module _ (old log new : Entries) (name : List ℕ) (nodes : ℕ) (q : Question) (before : IsQuestionHanded old log name q) (claimed : Claimed)
    (logged : new ≡ log ++ claimed_texts claimed) (brief : IsBrief claimed) where
  abbrev all_texts : Entries
  all_texts = input_texts before.asked.inputs ++ (name_of Certificate, before.asked.certificate) ∷ (name_of OtherBids, before.asked.bids) ∷ claimed_texts claimed

  all_logged : new ≡ old ++ all_texts
  all_logged =
      logged ∙ ap (λ (l : Entries). l ++ claimed_texts claimed) before.logged ∙ append_assoc old (asked_texts before.asked) (claimed_texts claimed)
      ∙ ap (λ (l : Entries). old ++ l)
      (append_assoc (input_texts before.asked.inputs) ((name_of Certificate, before.asked.certificate) ∷ (name_of OtherBids, before.asked.bids) ∷ []) (claimed_texts claimed))

  claimed_held : claimed_in (holding all_texts) ≡ Ok claimed
  unfolding claimed_in
  claimed_held =
      then_ok _ _ claimed.roster _ (held all_texts Roster claimed.roster refl brief.roster)
      (then_ok _ _ claimed.reasons _ (held all_texts Reasons claimed.reasons refl brief.reasons) refl)

  asked_before : IsAskedIn (holding all_texts) name q
  asked_before =
      asks (holding all_texts) name nodes before.asked (asked_held before.asked (claimed_texts claimed) before.short before.brief) q before.question

  from_all : (P : Files → Type 0) → P (holding all_texts) → FromReads asking_order old new P
  from_all P h = record { texts = all_texts; logged = all_logged; count = 12; names = refl; found = h }

  pub handed_claim : (s : WhatIfStop) → IsClaimEnd q claimed nodes (Err s) → IsRunHanded old new name nodes (Err s)
  handed_claim (stop.Unread why) h = tt
  handed_claim (stop.BadInput why) h = absurd h
  handed_claim (stop.BadBids fault) h = absurd h
  handed_claim (stop.No why) h =
      from_all (λ files. HasUnasked files name why) (ends_claim (holding all_texts) name nodes q asked_before claimed claimed_held (stop.No why) h)
  handed_claim (stop.Budget ledger) h =
      from_all (λ files. OfClaim files name (IsSpent nodes ledger)) (ends_claim (holding all_texts) name nodes q asked_before claimed claimed_held (stop.Budget ledger) h)
  handed_claim (stop.Unwritten w u) h = absurd h
  handed_claim stop.NoMemory h = tt

  pub handed_whatif : (w : WhatIf) → IsClaimEnd q claimed nodes (Ok w) → FromReads asking_order old new (λ files. HasWhatIf files name nodes w)
  handed_whatif w h = from_all (λ files. HasWhatIf files name nodes w) (has_whatif (holding all_texts) name nodes q asked_before claimed claimed_held w h)

-- texts are read behind others
pub one_more : (old one two : Entries) (x y : List ℕ × List ℕ) → one ≡ old ++ x ∷ [] → two ≡ one ++ y ∷ [] → two ≡ old ++ x ∷ y ∷ []
one_more old one two x y e f = f ∙ ap (λ (l : Entries). l ++ y ∷ []) e ∙ append_assoc old (x ∷ []) (y ∷ [])

pub two_more : (old front one two all : Entries) (x y : List ℕ × List ℕ) → one ≡ old ++ front → two ≡ one ++ x ∷ [] → all ≡ two ++ y ∷ [] → all ≡ old ++ (front ++ x ∷ y ∷ [])
two_more old front one two all x y e f g =
    g ∙ ap (λ (l : Entries). l ++ y ∷ []) (f ∙ ap (λ (l : Entries). l ++ x ∷ []) e)
    ∙ append_assoc (old ++ front) (x ∷ []) (y ∷ []) ∙ append_assoc old front (x ∷ y ∷ [])
