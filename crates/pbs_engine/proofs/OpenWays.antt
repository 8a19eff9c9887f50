-- The files of a folder have `open` end in one way, but for what the search finds.
use Rattle.std.proofs.Common.{◌≡◌, ◌≢◌, ℕ, Result, Ok, Err, inl, inr, refl, sym, subst, ◌∙◌, arith}
use Rattle.std.specs.Prelude.{◌⊎◌}
use Rattle.shelf.specs.Files.{Files}
use Rattle.month_commands.specs.Award.{OfMonth, HasBadMonth}
use Rattle.month_files.proofs.OneMonth.{one_problem, never_both}
use Rattle.month_files.specs.Months.{Names}
use Rattle.month_files.specs.Reading.{Inputs, texts_in}
use Rattle.month_files.specs.declared.fault.InputFault.{InputFault}
use Rattle.month_files.specs.declared.unread.Unread.{Unread}
use Rattle.open_time.specs.Vacant.{HasRoomFor, IsOpenFault}
use Rattle.open_time.specs.declared.fault.OpenFault.{OpenFault}
use Rattle.open_time.specs.declared.fault.OpenFault.TheVariants as fault
use Rattle.open_commands.proofs.OpeningLaws.{name_free}
use Rattle.roster_model.specs.declared.problem.Problem.{Problem}
use Rattle.answer_texts.specs.MonthEnds.{unread_status}
use Rattle.answer_texts.specs.declared.status.Status.{Status}
use Rattle.answer_texts.specs.declared.status.Status.TheVariants as status
use Rattle.pbs_engine.specs.Rows.{HasClosed}
use Rattle.pbs_engine.proofs.AwardWays.{IsAnswer, Agree, FaultyMonth}
use Rattle.pbs_engine.proofs.OneAnswer.{By, enter, leave}

-- the vacant lines can be added, and the status is one of the search; or they cannot, and the answer is no
abbrev Added : Type 0 → Status → Type 0
Added room s = (room × IsAnswer s) ⊎ ((room → ⊥) × (s ≡ status.No))

-- the inputs have a fault, or name a problem
pub record NamedOpening (most : ℕ) (inputs : Inputs) (s : Status) : Type 0 where
  pub problem : Problem
  pub names : Names inputs problem
  pub then' : Added (HasRoomFor problem most) s

abbrev AfterInputs : ℕ → Inputs → Status → Type 0
AfterInputs most inputs s = FaultyMonth inputs s ⊎ NamedOpening most inputs s

abbrev pub OpenPath : Files → ℕ → Status → Type 0
OpenPath files most s = By (λ why u. u ≡ unread_status why) (AfterInputs most) (texts_in files) s

-- ---- there is one way

added_agree : (room : Type 0) (s t : Status) → Added room s → Added room t → Agree s t
added_agree room s t (inl x) (inl y) = inr (x.1, y.1)
added_agree room s t (inl x) (inr y) = absurd (y.0 x.0)
added_agree room s t (inr x) (inl y) = absurd (x.0 y.0)
added_agree room s t (inr x) (inr y) = inl (x.1 ∙ sym y.1)

after_agree : (most : ℕ) (inputs : Inputs) (s t : Status) → AfterInputs most inputs s → AfterInputs most inputs t → Agree s t
after_agree most inputs s t (inl x) (inl y) = inl (x.is ∙ sym y.is)
after_agree most inputs s t (inl x) (inr y) = absurd (never_both inputs y.problem x.fault y.names x.has)
after_agree most inputs s t (inr x) (inl y) = absurd (never_both inputs x.problem y.fault x.names y.has)
after_agree most inputs s t (inr x) (inr y) =
    added_agree (HasRoomFor y.problem most) s t
    (subst (λ (p : Problem). Added (HasRoomFor p most) s) (one_problem inputs x.problem y.problem x.names y.names) x.then') y.then'

by_agree : (most : ℕ) (r : Result Inputs Unread) (s t : Status) → By (λ why u. u ≡ unread_status why) (AfterInputs most) r s
    → By (λ why u. u ≡ unread_status why) (AfterInputs most) r t → Agree s t
by_agree most (Ok inputs) s t a b = after_agree most inputs s t a b
by_agree most (Err why) s t a b = inl (a ∙ sym b)

pub open_agree : (files : Files) (most : ℕ) (s t : Status) → OpenPath files most s → OpenPath files most t → Agree s t
open_agree files most s t a b = by_agree most (texts_in files) s t a b

-- ---- each answer has its way

-- where the vacant lines cannot be added for a reason, there is no room for them
pub no_room : (problem : Problem) (most : ℕ) (why : OpenFault) → why ≢ fault.NoMemory → IsOpenFault problem most why → HasRoomFor problem most → ⊥
no_room problem most fault.NoMemory named h room = named refl
no_room problem most (fault.Members total) named h room = omega (arith, h.0, h.1, room.few)
no_room problem most (fault.NameTaken member) named h room = name_free problem most member h room

module _ (files : Files) (most : ℕ) where
  with_inputs : (inputs : Inputs) (s : Status) → texts_in files ≡ Ok inputs → AfterInputs most inputs s → OpenPath files most s
  with_inputs inputs s read h = enter (λ why u. u ≡ unread_status why) (AfterInputs most) (texts_in files) inputs s read h

  pub opening_path : (P : Problem → Type 0) (s : Status) → (month : OfMonth files P) → HasRoomFor month.problem most → IsAnswer s → OpenPath files most s
  opening_path P s month room answer =
      with_inputs month.inputs s month.read (inr (record { problem = month.problem; names = month.names; then' = inl (room, answer) }))

  pub closed_path : (why : OpenFault) → HasClosed files most why → OpenPath files most status.No
  closed_path why h =
      with_inputs h.inputs status.No h.read
      (inr (record { problem = h.problem; names = h.names; then' = inr (no_room h.problem most why h.found.0 h.found.1, refl) }))

  pub bad_opening_path : (fault : InputFault) → HasBadMonth files fault → OpenPath files most status.BadInput
  bad_opening_path fault h = with_inputs h.inputs status.BadInput h.read (inl (record { fault = fault; has = h.bad; is = refl }))

  pub unread_opening_path : (why : Unread) → texts_in files ≡ Err why → OpenPath files most (unread_status why)
  unread_opening_path why h = leave (λ w u. u ≡ unread_status w) (AfterInputs most) (texts_in files) why (unread_status why) h refl
