-- Texts name at most one problem, have at most one first fault, and never both.
use Rattle.std.proofs.Common.{◌≡◌, ℕ, ℤ, List, Result, Ok, Err, ap, subst}
use denote.Struct.Props.{props}
use mathlib.Core.HLevel.{is_prop→PathP}
use Rattle.duty_calendar.specs.Calendar.{IsMonth, IsOffset}
use Rattle.duty_calendar.specs.declared.horizon.Horizon.{Horizon}
use Rattle.duty_calendar.specs.declared.member.Base.{Base}
use Rattle.duty_calendar.specs.declared.member.Member.{Member}
use Rattle.duty_calendar.specs.declared.member.Rules.{Rules}
use Rattle.duty_calendar.specs.declared.pairing.Pairing.{Pairing}
use Rattle.bid_language.specs.Lines.{bids_in}
use Rattle.crew_files.specs.Files.{members_of}
use Rattle.pairing_files.specs.Files.{pairings_of}
use Rattle.roster_model.specs.declared.bid.Bid.{Bid}
use Rattle.roster_model.specs.declared.problem.Problem.{Problem}
use Rattle.roster_model.specs.Valid.{IsValid}
use Rattle.rules_file.specs.Rules.{rules_file, values, Values}
use Rattle.month_files.specs.declared.fault.InputFault.{InputFault}
use Rattle.month_files.specs.declared.fault.InputFault.TheVariants as input
use Rattle.month_files.specs.Reading.{Inputs}
use Rattle.month_files.specs.Months.{GivesRules, GivesBase, Names, HasFault}

-- two reads of one text
both_ok : {A E : Type 0} (r : Result A E) (x y : A) → r ≡ Ok x → r ≡ Ok y → x ≡ y
both_ok r x y a b = cc

both_err : {A E : Type 0} (r : Result A E) (d e : E) → r ≡ Err d → r ≡ Err e → d ≡ e
both_err r d e a b = cc

not_both : {A E : Type 0} (r : Result A E) (x : A) (e : E) → r ≡ Ok x → r ≡ Err e → ⊥
not_both r x e a b = absurd cc

-- ---- values with the same data are the same

month_prop : (y : ℤ) (m : ℕ) → IsProp (IsMonth y m)
month_prop y m = hlevel props

offset_prop : (o : ℤ) → IsProp (IsOffset o)
offset_prop o = hlevel props

valid_prop : (base : Base) (bids : List (List Bid)) → IsProp (IsValid base bids)
valid_prop base bids = hlevel props

same_horizon : (a b : Horizon) → a.year ≡ b.year → a.month ≡ b.month → a.offset ≡ b.offset → a ≡ b
same_horizon a b y m o = λ i. record {
  year = y i;
  month = m i;
  offset = o i;
  year_in = (is_prop→PathP (λ j. IsMonth (y j) (m j)) (λ j. month_prop (y j) (m j)) (a.year_in, a.month_in) (b.year_in, b.month_in) i).0;
  month_in = (is_prop→PathP (λ j. IsMonth (y j) (m j)) (λ j. month_prop (y j) (m j)) (a.year_in, a.month_in) (b.year_in, b.month_in) i).1;
  offset_in = is_prop→PathP (λ j. IsOffset (o j)) (λ j. offset_prop (o j)) a.offset_in b.offset_in i;
}

same_rules : (a b : Rules) → values a ≡ values b → a ≡ b
same_rules a b e =
    let h : a.horizon ≡ b.horizon = same_horizon a.horizon b.horizon (ap (λ (v : Values). v.year) e) (ap (λ (v : Values). v.month) e) (ap (λ (v : Values). v.offset) e) in
    λ i. record { base = (e i).base; seat = (e i).seat; horizon = h i; days_off = (e i).days_off }

same_base : (a b : Base) → a.rules ≡ b.rules → a.pairings ≡ b.pairings → a.members ≡ b.members → a ≡ b
same_base a b r p m = λ i. record { rules = r i; pairings = p i; members = m i }

same_problem : (a b : Problem) → a.base ≡ b.base → a.bids ≡ b.bids → a ≡ b
same_problem a b e f = λ i. record {
  base = e i;
  bids = f i;
  valid = is_prop→PathP (λ j. IsValid (e j) (f j)) (λ j. valid_prop (e j) (f j)) a.valid b.valid i;
}

-- ---- the stages of a month

one_rules : (t : Inputs) (a b : Rules) → GivesRules t a → GivesRules t b → a ≡ b
one_rules t a b g h = same_rules a b (both_ok (rules_file t.rules) (values a) (values b) g h)

one_pairings : (t : Inputs) (r s : Rules) (a b : List Pairing) → r ≡ s → pairings_of r.horizon t.pairings t.duties t.legs ≡ Ok a → pairings_of s.horizon t.pairings t.duties t.legs ≡ Ok b → a ≡ b
one_pairings t r s a b e g h =
    both_ok (pairings_of s.horizon t.pairings t.duties t.legs) a b (subst (λ (x : Rules). pairings_of x.horizon t.pairings t.duties t.legs ≡ Ok a) e g) h

one_members : (t : Inputs) (r s : Rules) (a b : List Member) → r ≡ s → members_of r.horizon t.crew t.history t.fixed ≡ Ok a → members_of s.horizon t.crew t.history t.fixed ≡ Ok b → a ≡ b
one_members t r s a b e g h =
    both_ok (members_of s.horizon t.crew t.history t.fixed) a b (subst (λ (x : Rules). members_of x.horizon t.crew t.history t.fixed ≡ Ok a) e g) h

one_base : (t : Inputs) (a b : Base) → GivesBase t a → GivesBase t b → a ≡ b
one_base t a b g h =
    let r = one_rules t a.rules b.rules g.rules h.rules in
    same_base a b r (one_pairings t a.rules b.rules a.pairings b.pairings r g.pairings h.pairings) (one_members t a.rules b.rules a.members b.members r g.members h.members)

pub one_problem : (t : Inputs) (a b : Problem) → Names t a → Names t b → a ≡ b
one_problem t a b g h =
    let e = one_base t a.base b.base g.base_is h.base_is in
    same_problem a b e (both_ok (bids_in b.base t.bids) a.bids b.bids (subst (λ (x : Base). bids_in x t.bids ≡ Ok a.bids) e g.bids_are) h.bids_are)

-- ---- a month and a fault

module _ (t : Inputs) where
  pub never_both : (p : Problem) (f : InputFault) → Names t p → HasFault t f → ⊥
  never_both p (input.Rules fault) g h = not_both (rules_file t.rules) (values p.base.rules) fault g.base_is.rules h
  never_both p (input.Pairings fault) g h =
      let e = one_rules t h.rules p.base.rules h.before g.base_is.rules in
      not_both (pairings_of p.base.rules.horizon t.pairings t.duties t.legs) p.base.pairings fault g.base_is.pairings
      (subst (λ (x : Rules). pairings_of x.horizon t.pairings t.duties t.legs ≡ Err fault) e h.here)
  never_both p (input.Members fault) g h =
      let e = one_rules t h.rules p.base.rules h.rules_before g.base_is.rules in
      not_both (members_of p.base.rules.horizon t.crew t.history t.fixed) p.base.members fault g.base_is.members
      (subst (λ (x : Rules). members_of x.horizon t.crew t.history t.fixed ≡ Err fault) e h.here)
  never_both p (input.Bids fault) g h =
      let e = one_base t h.base p.base h.before g.base_is in
      not_both (bids_in p.base t.bids) p.bids fault g.bids_are (subst (λ (x : Base). bids_in x t.bids ≡ Err fault) e h.here)

  -- ---- two faults

  -- what stands before a fault of pairings, members and bids reads
  rules_read : (a : Rules) (pairings : List Pairing) (x : Rules) → GivesRules t a → GivesRules t x → pairings_of a.horizon t.pairings t.duties t.legs ≡ Ok pairings
      → pairings_of x.horizon t.pairings t.duties t.legs ≡ Ok pairings
  rules_read a pairings x g h p = subst (λ (y : Rules). pairings_of y.horizon t.pairings t.duties t.legs ≡ Ok pairings) (one_rules t a x g h) p

  members_read : (a : Rules) (members : List Member) (x : Rules) → GivesRules t a → GivesRules t x → members_of a.horizon t.crew t.history t.fixed ≡ Ok members
      → members_of x.horizon t.crew t.history t.fixed ≡ Ok members
  members_read a members x g h p = subst (λ (y : Rules). members_of y.horizon t.crew t.history t.fixed ≡ Ok members) (one_rules t a x g h) p

  pub one_fault : (f g : InputFault) → HasFault t f → HasFault t g → f ≡ g
  one_fault (input.Rules a) (input.Rules b) h k = ap input.Rules (both_err (rules_file t.rules) a b h k)
  one_fault (input.Rules a) (input.Pairings b) h k = absurd (not_both (rules_file t.rules) (values k.rules) a k.before h)
  one_fault (input.Rules a) (input.Members b) h k = absurd (not_both (rules_file t.rules) (values k.rules) a k.rules_before h)
  one_fault (input.Rules a) (input.Bids b) h k = absurd (not_both (rules_file t.rules) (values k.base.rules) a k.before.rules h)
  one_fault (input.Pairings a) (input.Rules b) h k = absurd (not_both (rules_file t.rules) (values h.rules) b h.before k)
  one_fault (input.Pairings a) (input.Pairings b) h k =
      ap input.Pairings (both_err (pairings_of k.rules.horizon t.pairings t.duties t.legs) a b
      (subst (λ (x : Rules). pairings_of x.horizon t.pairings t.duties t.legs ≡ Err a) (one_rules t h.rules k.rules h.before k.before) h.here) k.here)
  one_fault (input.Pairings a) (input.Members b) h k =
      absurd (not_both (pairings_of h.rules.horizon t.pairings t.duties t.legs) k.pairings a (rules_read k.rules k.pairings h.rules k.rules_before h.before k.pairings_before) h.here)
  one_fault (input.Pairings a) (input.Bids b) h k =
      absurd (not_both (pairings_of h.rules.horizon t.pairings t.duties t.legs) k.base.pairings a (rules_read k.base.rules k.base.pairings h.rules k.before.rules h.before k.before.pairings) h.here)
  one_fault (input.Members a) (input.Rules b) h k = absurd (not_both (rules_file t.rules) (values h.rules) b h.rules_before k)
  one_fault (input.Members a) (input.Pairings b) h k =
      absurd (not_both (pairings_of k.rules.horizon t.pairings t.duties t.legs) h.pairings b (rules_read h.rules h.pairings k.rules h.rules_before k.before h.pairings_before) k.here)
  one_fault (input.Members a) (input.Members b) h k =
      ap input.Members (both_err (members_of k.rules.horizon t.crew t.history t.fixed) a b
      (subst (λ (x : Rules). members_of x.horizon t.crew t.history t.fixed ≡ Err a) (one_rules t h.rules k.rules h.rules_before k.rules_before) h.here) k.here)
  one_fault (input.Members a) (input.Bids b) h k =
      absurd (not_both (members_of h.rules.horizon t.crew t.history t.fixed) k.base.members a (members_read k.base.rules k.base.members h.rules k.before.rules h.rules_before k.before.members) h.here)
  one_fault (input.Bids a) (input.Rules b) h k = absurd (not_both (rules_file t.rules) (values h.base.rules) b h.before.rules k)
  one_fault (input.Bids a) (input.Pairings b) h k =
      absurd (not_both (pairings_of k.rules.horizon t.pairings t.duties t.legs) h.base.pairings b (rules_read h.base.rules h.base.pairings k.rules h.before.rules k.before h.before.pairings) k.here)
  one_fault (input.Bids a) (input.Members b) h k =
      absurd (not_both (members_of k.rules.horizon t.crew t.history t.fixed) h.base.members b (members_read h.base.rules h.base.members k.rules h.before.rules k.rules_before h.before.members) k.here)
  one_fault (input.Bids a) (input.Bids b) h k =
      ap input.Bids (both_err (bids_in k.base t.bids) a b (subst (λ (x : Base). bids_in x t.bids ≡ Err a) (one_base t h.base k.base h.before k.before) h.here) k.here)
