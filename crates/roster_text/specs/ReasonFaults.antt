-- Which fault a text has that is no text of reasons: the first line that differs, and what is wrong there.
use Rattle.std.specs.Prelude.{◌≡◌, ◌≢◌, ℕ, ◌+◌, ◌<◌, ◌≤◌, ◌⊎◌, Bool, true, false, ◌==◌, List, [], ◌∷◌, ◌++◌, length, codes, if◌then◌else◌}
use Rattle.std.specs.List.{list_all, AllByRecursion}
use Rattle.std.specs.Char.{is_ascii_digit}
use Rattle.duty_calendar.specs.Forms.{is_name}
use Rattle.field_text.specs.Spelling.{number_text}
use Rattle.roster_model.specs.declared.problem.Problem.{Problem}
use Rattle.roster_model.specs.declared.goal.BidRef.{BidRef}
use Rattle.roster_model.specs.declared.award.Cause.{Cause}
use Rattle.roster_model.specs.declared.award.Denial.{Denial}
use Rattle.roster_model.specs.Goals.{IsBidOf}
use Rattle.roster_model.specs.Scores.{bids_of}
use Rattle.roster_model.specs.Denials.{place_of}
use Rattle.roster_text.specs.declared.reason_fault.ReasonTextCode.{ReasonTextCode}
use Rattle.roster_text.specs.declared.reason_fault.ReasonTextCode.TheVariants.{NoMemory, Shape, Member, Bid, Place, Text}
use Rattle.roster_text.specs.declared.reason_fault.ReasonTextFault.{ReasonTextFault}
use Rattle.roster_text.specs.RosterText.{member_name, Text as Bytes}
use Rattle.roster_text.specs.ReasonText.{cause_text, reason_text, reasons_text, IsReason, IsReasonsText}

-- a number of any size: digits, of which the first is 0 only where it is alone
abbrev pub is_numeral : List ℕ → Bool
is_numeral [] = false
is_numeral (c ∷ []) = is_ascii_digit c
is_numeral (c ∷ d ∷ cs) = if c == 48 then false else list_all is_ascii_digit (c ∷ d ∷ cs)

-- a place above 0, whatever its size, and a name
pub record IsPlaceWord (cause : List ℕ) : Type 0 where
  pub place : List ℕ
  pub name : List ℕ
  pub is : cause ≡ codes "place " ++ (place ++ (32 ∷ name))
  pub numeral : is_numeral place ≡ true
  pub above : place ≢ codes "0"
  pub named : is_name name ≡ true

-- a cause as it may be spelt in any month
abbrev pub IsCauseWord : List ℕ → Type 0
IsCauseWord cause = (cause ≡ codes "tie") ⊎ ((cause ≡ codes "place 0") ⊎ IsPlaceWord cause)

-- The line has the form of a reason's up to the space behind the colon, and it ends.
pub record HasReasonForm (bytes : List ℕ) : Type 0 where
  pub member : List ℕ
  pub number : List ℕ
  pub cause : List ℕ
  pub bid : List ℕ
  pub rest : List ℕ
  pub is : bytes ≡ member ++ (32 ∷ (number ++ (32 ∷ (cause ++ (58 ∷ (32 ∷ (bid ++ (10 ∷ rest))))))))
  pub named : is_name member ≡ true
  pub numeral : is_numeral number ≡ true
  pub caused : IsCauseWord cause

-- its first words are those of a member and of a bid of that member
pub record NamesBid (problem : Problem) (bytes : List ℕ) (bid : BidRef) : Type 0 where
  pub form : HasReasonForm bytes
  pub known : IsBidOf problem bid
  pub member : form.member ≡ member_name problem bid.member
  pub number : form.number ≡ number_text (bid.bid + 1)

-- what is wrong with the bytes that stand where a line begins
abbrev pub IsWrongReason : Problem → List ℕ → ReasonTextCode → Type 0
IsWrongReason problem bytes NoMemory = ⊥
IsWrongReason problem bytes Shape = ¬ (HasReasonForm bytes)
IsWrongReason problem bytes Member =
    (form : HasReasonForm bytes)
    × ((m : ℕ) → m < length problem.base.members → form.member ≢ member_name problem m)
IsWrongReason problem bytes Bid =
    (form : HasReasonForm bytes) × (m : ℕ) × (m < length problem.base.members)
    × (form.member ≡ member_name problem m)
    × ((k : ℕ) → k < length (bids_of problem m) → form.number ≢ number_text (k + 1))
IsWrongReason problem bytes Place =
    (bid : BidRef) × (names : NamesBid problem bytes bid)
    × ((cause : Cause) → place_of cause ≤ length problem.base.members
    → names.form.cause ≢ cause_text problem cause)
IsWrongReason problem bytes Text =
    (denial : Denial) × (names : NamesBid problem bytes denial.bid)
    × (place_of denial.cause ≤ length problem.base.members)
    × (names.form.cause ≡ cause_text problem denial.cause)
    × ((rest : List ℕ) → bytes ≢ reason_text problem denial ++ rest)

-- behind the lines of these reasons more bytes stand, and no further line of a reason
pub record HasReasonFault (problem : Problem) (text : List ℕ) (fault : ReasonTextFault) : Type 0 where
  pub reasons : List Denial
  pub each : AllByRecursion (IsReason problem) reasons
  pub rest : List ℕ
  pub some : rest ≢ []
  pub is : text ≡ reasons_text problem reasons ++ rest
  pub line : fault.line ≡ length reasons + 1
  pub wrong : IsWrongReason problem rest fault.code

-- a text has at most one list of reasons, at most one fault, and not both
abbrev pub Listed : Type 0
Listed = List Denial

abbrev pub HasOneList : Problem → Bytes → Type 0
HasOneList problem text =
    (r s : Listed) → IsReasonsText problem text r → IsReasonsText problem text s → r ≡ s

abbrev pub HasOneReasonFault : Problem → Bytes → Type 0
HasOneReasonFault problem text =
    (f g : ReasonTextFault) → HasReasonFault problem text f → HasReasonFault problem text g → f ≡ g

abbrev pub HasListOrFault : Problem → Bytes → Type 0
HasListOrFault problem text =
    (r : Listed) (f : ReasonTextFault) → IsReasonsText problem text r → ¬ (HasReasonFault problem text f)
