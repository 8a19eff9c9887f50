-- With more vacant lines there is a complete roster too, and with fewer there is none.
use Rattle.std.proofs.Common.{◌≡◌, ℕ, zero, suc, ◌+◌, ◌-◌, ◌≤◌, ◌++◌, map, inl, inr, refl, sym, subst, arith}
use Rattle.std.specs.List.{range_with_len}
use Rattle.std.proofs.lemmas.Bool.{cases_lt}
use Rattle.duty_calendar.specs.declared.member.Base.{Base}
use Rattle.open_time.proofs.Months.{fewer_room, vacant_valid}
use Rattle.open_time.proofs.OneMonth.{one_month}
use Rattle.open_time.proofs.Unfilled.{filled_more, longer, unfilled_under}
use Rattle.open_time.specs.Vacant.{HasRoomFor, IsFilledWith, IsUnfilledBelow, IsUnfilledWith, IsWithVacant, no_bids, vacant_members}
use Rattle.roster_model.specs.Awards.{HasNoRoster}
use Rattle.roster_model.specs.declared.problem.Problem.{Problem}

-- a month with room has one with so many vacant lines
with_made : (problem : Problem) (count : ℕ) → HasRoomFor problem count → (made : Problem) × IsWithVacant problem count made
with_made problem count room =
    let base : Base = record {
      rules = problem.base.rules;
      pairings = problem.base.pairings;
      members = problem.base.members ++ vacant_members count;
    } in
    let bids = problem.bids ++ map no_bids (range_with_len 0 count) in (
      record { base = base; bids = bids; valid = vacant_valid problem count base bids room refl refl refl refl },
      record { rules = refl; pairings = refl; members = refl; bids = refl },
    )

filled_by : (problem : Problem) (gap less : ℕ) → HasRoomFor problem (less + gap) → IsFilledWith problem less → IsFilledWith problem (less + gap)
filled_by problem zero less room filled =
    let same : less ≡ less + 0 = omega arith in
    subst (λ (n : ℕ). IsFilledWith problem n) same filled
filled_by problem (suc gap) less room filled =
    let same : (less + 1) + gap ≡ less + suc gap = omega arith in
    let room' : HasRoomFor problem ((less + 1) + gap) = subst (λ (n : ℕ). HasRoomFor problem n) (sym same) room in
    let more = with_made problem (less + 1) (fewer_room problem ((less + 1) + gap) (less + 1) (omega arith) room') in
    subst (λ (n : ℕ). IsFilledWith problem n) same
    (filled_by problem gap (less + 1) room' (
      more.0,
      more.1,
      (
        longer problem less filled.0 more.0 filled.1 more.1 filled.2.0 filled.2.1,
        filled_more problem less filled.0 more.0 filled.1 more.1 filled.2.0 filled.2.1,
      ),
    ))

pub filled_up_to : (problem : Problem) (most count : ℕ) → HasRoomFor problem most → count ≤ most → IsFilledWith problem count → IsFilledWith problem most
filled_up_to problem most count room few filled =
    let same : count + (most - count) ≡ most = omega (arith, few) in
    subst (λ (n : ℕ). IsFilledWith problem n) same
    (filled_by problem (most - count) count (subst (λ (n : ℕ). HasRoomFor problem n) (sym same) room) filled)

-- where the most are not enough, no number is
module _ (problem made : Problem) (most : ℕ) (room : HasRoomFor problem most) (of : IsWithVacant problem most made) (none : HasNoRoster made) where
  below_most : IsUnfilledBelow problem most
  below_most less next fewer fewer_of roster complete =
      let last : IsWithVacant problem (less + 1) made = subst (λ (n : ℕ). IsWithVacant problem n made) (sym next) of in
      none (longer problem less fewer made fewer_of last roster complete) (filled_more problem less fewer made fewer_of last roster complete)

  pub unfilled_up_to : (count : ℕ) → count ≤ most → IsUnfilledWith problem count
  unfilled_up_to count few = elim (cases_lt count most) [
    | inl less ↦ unfilled_under problem most room below_most count less
    | inr all ↦
        (λ last last_of.
        let same : count ≡ most = omega (arith, few, all) in
        subst (λ (p : Problem). HasNoRoster p)
        (one_month problem most made last of (subst (λ (n : ℕ). IsWithVacant problem n last) same last_of)) none)
  ]
