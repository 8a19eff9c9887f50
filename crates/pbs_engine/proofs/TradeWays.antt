-- The files of a folder have `trade` end in one way, where nothing fails and memory is there.
use Rattle.std.proofs.Common.{◌≡◌, ℕ, List, Ok, Err, inl, inr, refl, sym, subst, ◌∙◌}
use Rattle.std.specs.Prelude.{◌⊎◌}
use Rattle.shelf.specs.Files.{Files}
use Rattle.desk_commands.specs.Trade.{Offered, offered_in, HasRoster, HasTraded, HasUntraded, HasBadOffer, IsUntraded}
use Rattle.desk_commands.specs.declared.trade_stop.Traded.{Traded}
use Rattle.desk_commands.specs.declared.trade_stop.Untraded.{Untraded}
use Rattle.desk_commands.specs.declared.trade_stop.Untraded.TheVariants as untraded
use Rattle.month_files.proofs.OneMonth.{one_problem, never_both}
use Rattle.month_files.specs.Months.{Names, HasFault}
use Rattle.month_files.specs.declared.fault.InputFault.{InputFault}
use Rattle.month_files.specs.declared.unread.Unread.{Unread}
use Rattle.roster_model.specs.Rosters.{IsComplete}
use Rattle.roster_model.specs.declared.problem.Problem.{Problem}
use Rattle.roster_text.proofs.FaultLaws.{not_both}
use Rattle.roster_text.proofs.RowLaws.{one_roster}
use Rattle.roster_text.specs.RosterText.{IsTextOf}
use Rattle.trade_desk.specs.Reading.{trades_in}
use Rattle.trade_desk.specs.declared.fault.TradeFault.{TradeFault}
use Rattle.trade_desk.specs.declared.trade.Trade.{Trade}
use Rattle.answer_texts.specs.MonthEnds.{unread_status}
use Rattle.answer_texts.specs.declared.status.Status.{Status}
use Rattle.answer_texts.specs.declared.status.Status.TheVariants as status
use Rattle.pbs_engine.proofs.OneAnswer.{By, IsOne, one_is, one_by, FaultyRoster, enter, leave}

-- the text of trades reads, or not
abbrev AfterComplete : Problem → List ℕ → Status → Type 0
AfterComplete p text s = By (λ (fault : TradeFault) u. u ≡ status.No) (λ (trades : List Trade) u. u ≡ status.Done) (trades_in p text) s

-- the roster is complete, or not
abbrev AfterRoster : Problem → List ℕ → List (List ℕ) → Status → Type 0
AfterRoster p text roster s = (IsComplete p roster × AfterComplete p text s) ⊎ ((IsComplete p roster → ⊥) × (s ≡ status.No))

-- the roster's text is that of a roster
pub record RosterOffered (p : Problem) (offered : Offered) (s : Status) : Type 0 where
  pub roster : List (List ℕ)
  pub read : IsTextOf p offered.roster roster
  pub then' : AfterRoster p offered.trades roster s

abbrev AfterProblem : Problem → Offered → Status → Type 0
AfterProblem p offered s = FaultyRoster p offered.roster s ⊎ RosterOffered p offered s

-- the inputs have a fault, or name a problem
pub record FaultyOffer (offered : Offered) (s : Status) : Type 0 where
  pub fault : InputFault
  pub has : HasFault offered.inputs fault
  pub is : s ≡ status.BadInput

pub record NamedOffer (offered : Offered) (s : Status) : Type 0 where
  pub problem : Problem
  pub names : Names offered.inputs problem
  pub then' : AfterProblem problem offered s

abbrev AfterOffered : Offered → Status → Type 0
AfterOffered offered s = FaultyOffer offered s ⊎ NamedOffer offered s

abbrev pub TradePath : Files → Status → Type 0
TradePath files s = By (λ why u. u ≡ unread_status why) AfterOffered (offered_in files) s

-- ---- there is one way

one_complete : (p : Problem) (text : List ℕ) → IsOne (AfterComplete p text)
one_complete p text =
    one_by (λ (fault : TradeFault) u. u ≡ status.No) (λ (trades : List Trade) u. u ≡ status.Done) (λ fault. one_is status.No) (λ trades. one_is status.Done) (trades_in p text)

one_after_roster : (p : Problem) (text : List ℕ) (roster : List (List ℕ)) → IsOne (AfterRoster p text roster)
one_after_roster p text roster s t (inl x) (inl y) = one_complete p text s t x.1 y.1
one_after_roster p text roster s t (inl x) (inr y) = absurd (y.0 x.0)
one_after_roster p text roster s t (inr x) (inl y) = absurd (x.0 y.0)
one_after_roster p text roster s t (inr x) (inr y) = x.1 ∙ sym y.1

one_after_problem : (p : Problem) (offered : Offered) → IsOne (AfterProblem p offered)
one_after_problem p offered s t (inl x) (inl y) = x.is ∙ sym y.is
one_after_problem p offered s t (inl x) (inr y) = absurd (not_both p offered.roster y.roster x.fault y.read x.has)
one_after_problem p offered s t (inr x) (inl y) = absurd (not_both p offered.roster x.roster y.fault x.read y.has)
one_after_problem p offered s t (inr x) (inr y) =
    one_after_roster p offered.trades y.roster s t
    (subst (λ (r : List (List ℕ)). AfterRoster p offered.trades r s) (one_roster p offered.roster x.roster y.roster x.read y.read) x.then') y.then'

one_offered : (offered : Offered) → IsOne (AfterOffered offered)
one_offered offered s t (inl x) (inl y) = x.is ∙ sym y.is
one_offered offered s t (inl x) (inr y) = absurd (never_both offered.inputs y.problem x.fault y.names x.has)
one_offered offered s t (inr x) (inl y) = absurd (never_both offered.inputs x.problem y.fault x.names y.has)
one_offered offered s t (inr x) (inr y) =
    one_after_problem y.problem offered s t
    (subst (λ (p : Problem). AfterProblem p offered s) (one_problem offered.inputs x.problem y.problem x.names y.names) x.then') y.then'

pub one_trade : (files : Files) → IsOne (TradePath files)
one_trade files = one_by (λ why u. u ≡ unread_status why) AfterOffered (λ why. one_is (unread_status why)) one_offered (offered_in files)

-- ---- each answer has its way

module _ (files : Files) where
  offered_path : (s : Status) (offered : Offered) → offered_in files ≡ Ok offered → AfterOffered offered s → TradePath files s
  offered_path s offered read h = enter (λ why u. u ≡ unread_status why) AfterOffered (offered_in files) offered s read h

  problem_path : (s : Status) (offered : Offered) (p : Problem) → offered_in files ≡ Ok offered → Names offered.inputs p → AfterProblem p offered s → TradePath files s
  problem_path s offered p read names h = offered_path s offered read (inr (record { problem = p; names = names; then' = h }))

  complete_path : (s : Status) (offered : Offered) (p : Problem) (roster : List (List ℕ)) → offered_in files ≡ Ok offered → Names offered.inputs p → HasRoster p offered roster
      → AfterComplete p offered.trades s → TradePath files s
  complete_path s offered p roster read names has h =
      problem_path s offered p read names (inr (record { roster = roster; read = has.read; then' = inl (has.complete, h) }))

  pub traded_path : (t : Traded) → HasTraded files t → TradePath files status.Done
  traded_path t h =
      complete_path status.Done h.offered h.problem h.found.roster h.read h.names h.found.before
      (enter (λ (fault : TradeFault) u. u ≡ status.No) (λ (trades : List Trade) u. u ≡ status.Done) (trades_in h.problem h.offered.trades) h.found.trades status.Done h.found.listed refl)

  untraded_way : (offered : Offered) (p : Problem) (why : Untraded) → offered_in files ≡ Ok offered → Names offered.inputs p → IsUntraded p offered why → TradePath files status.No
  untraded_way offered p (untraded.Roster fault) read names h =
      problem_path status.No offered p read names (inl (record { fault = fault; has = h; is = refl }))
  untraded_way offered p (untraded.Incomplete fault) read names h =
      problem_path status.No offered p read names (inr (record { roster = h.roster; read = h.read; then' = inr (h.refused, refl) }))
  untraded_way offered p (untraded.Trades fault) read names h =
      complete_path status.No offered p h.roster read names h.before
      (leave (λ (f : TradeFault) u. u ≡ status.No) (λ (trades : List Trade) u. u ≡ status.Done) (trades_in p offered.trades) fault status.No h.bad refl)

  pub untraded_path : (why : Untraded) → HasUntraded files why → TradePath files status.No
  untraded_path why h = untraded_way h.offered h.problem why h.read h.names h.found

  pub bad_offer_path : (fault : InputFault) → HasBadOffer files fault → TradePath files status.BadInput
  bad_offer_path fault h = offered_path status.BadInput h.offered h.read (inl (record { fault = fault; has = h.bad; is = refl }))

  pub unread_offer_path : (why : Unread) → offered_in files ≡ Err why → TradePath files (unread_status why)
  unread_offer_path why h = leave (λ w u. u ≡ unread_status w) AfterOffered (offered_in files) why (unread_status why) h refl
