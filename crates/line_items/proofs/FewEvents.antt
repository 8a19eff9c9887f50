-- How many events and duties there are at most.
use Rattle.std.proofs.Common.{◌≡◌, ℕ, ◌<◌, ◌≤◌, List, [], Option, inl, inr, sym, subst, arith, length, get_or}
use Rattle.std.specs.Option.{option_map_or}
use Rattle.std.proofs.lemmas.Option.{slice_get_cases}
use Rattle.duty_calendar.specs.declared.member.Member.{Member}
use Rattle.duty_calendar.specs.declared.pairing.Duty.{Duty}
use Rattle.duty_calendar.specs.declared.pairing.Pairing.{Pairing}
use Rattle.roster_model.specs.Timelines.{fixed_of, history_of}
use Rattle.roster_model.specs.declared.problem.Problem.{Problem}

pub fixed_few : (problem : Problem) (member : ℕ) → length (fixed_of problem member) ≤ 60
fixed_few problem member =
    elim (slice_get_cases problem.base.members member).1 [
      | inl found ↦
          subst Few (sym found.2) (subst (λ (m : Member). length m.fixed ≤ 60) found.3 (problem.valid.month.members_form.each member found.0 found.1).few_fixed)
      | inr past ↦ subst Few (sym past.1) (omega arith)
    ]
  where
    Few : Option Member → Type 0
    Few o = length (option_map_or (λ (m : Member). m.fixed) o []) ≤ 60

pub few_fixed : (problem : Problem) (member : ℕ) → member < length problem.base.members → length (fixed_of problem member) ≤ 60
few_fixed problem member there = fixed_few problem member

pub few_history : (problem : Problem) (member : ℕ) → member < length problem.base.members → length (history_of problem member) ≤ 500
few_history problem member there =
    elim (slice_get_cases problem.base.members member).1 [
      | inl found ↦
          subst Few (sym found.2) (subst (λ (m : Member). length m.history ≤ 500) found.3 (problem.valid.month.members_form.each member found.0 found.1).few_history)
      | inr past ↦ subst Few (sym past.1) (omega arith)
    ]
  where
    Few : Option Member → Type 0
    Few o = length (option_map_or (λ (m : Member). m.history) o []) ≤ 500

pub few_duties : (problem : Problem) (n : ℕ) (x : Pairing) (ds : List Duty) → n < length problem.base.pairings → x ≡ get_or problem.base.pairings n x → ds ≡ x.duties → length ds ≤ 12
few_duties problem n x ds inside read are =
    let few : length x.duties ≤ 12 = subst (λ (p : Pairing). length p.duties ≤ 12) (sym read) (problem.valid.month.pairings_form.each n x inside).few_duties in
    subst (λ (l : List Duty). length l ≤ 12) (sym are) few
