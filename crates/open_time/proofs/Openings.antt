-- The search for the fewest vacant lines: what is known before each number, and what each exit answers.
use Rattle.std.proofs.Common.{◌≡◌, ℕ, suc, ◌≤◌, List, length, Option, Some, None, refl, ap, subst, arith}
use Rattle.std.proofs.lemmas.List.{length-append}
use Rattle.duty_calendar.specs.declared.member.Member.{Member}
use Rattle.roster_model.specs.declared.award.Awarded.{Awarded}
use Rattle.roster_model.specs.declared.award.Denial.{Denial}
use Rattle.roster_model.specs.declared.problem.Problem.{Problem}
use Rattle.roster_model.specs.declared.proof.Item.{Item}
use Rattle.roster_model.specs.Splits.{splits_of}
use Rattle.branch_log.specs.Book.{Book}
use Rattle.open_time.specs.Vacant.{IsWithVacant, HasRoomFor, vacant_members}
use Rattle.open_time.specs.Refuted.{IsRefutedBelow, IsOpenAward}
use Rattle.open_time.specs.Tries.{IsRunOf, IsTriedAward, IsTriedNone}
use Rattle.open_time.specs.Opened.{IsOpenedAward, IsOpenedNone, IsOpenedSpent}
use Rattle.open_time.proofs.Months.{fewer_room}
use Rattle.open_time.proofs.Needs.{below_unfilled, needs_vacant}
use Rattle.open_time.proofs.Unfilled.{unfilled_under}

-- there is room for the most that are asked for, this number is at most that, and one less is refuted by a short proof
pub record HasTried (problem : Problem) (ceiling nodes count : ℕ) (below : Option (List Item)) : Type 0 where
  pub room : HasRoomFor problem ceiling
  pub within : count ≤ ceiling
  pub fewer : IsRefutedBelow problem count below
  pub short : splits_of below ≤ nodes

pub tried_nothing : (problem : Problem) (ceiling nodes : ℕ) → HasRoomFor problem ceiling → HasTried problem ceiling nodes 0 None
tried_nothing problem ceiling nodes room = record { room = room; within = omega arith; fewer = refl; short = omega arith }

-- the members stand before the vacant lines
pub crew_kept : (problem : Problem) (count : ℕ) (made : Problem) → IsWithVacant problem count made
    → length problem.base.members ≤ length made.base.members
crew_kept problem count made of =
    omega (arith, ap (λ (ms : List Member). length ms) of.members, length-append problem.base.members (vacant_members count))

-- the answers at one number
module _ (problem : Problem) (ceiling nodes count : ℕ) (below : Option (List Item)) (tried : HasTried problem ceiling nodes count below)
    (made : Problem) (of : IsWithVacant problem count made) (book : Book) (run : IsRunOf made nodes book) where
  pub opened_award : (roster : List (List ℕ)) (awarded : Awarded) (reasons : List Denial) → IsTriedAward made (length problem.base.members) book roster awarded reasons
      → IsOpenedAward problem ceiling nodes count below roster awarded reasons book
  opened_award roster awarded reasons h =
      let award : IsOpenAward problem count below roster reasons awarded = record {
        room = fewer_room problem ceiling count tried.within tried.room;
        fewer = tried.fewer;
        award = record { made = made; of = of; accepted = h.accepted };
      } in
      record {
        within = tried.within;
        needs = needs_vacant problem count below roster reasons awarded award;
        fewest = unfilled_under problem count award.room (below_unfilled problem count below tried.fewer);
        award = award;
        settled = record { made = made; of = of; settled = h.settled };
        short = tried.short;
        run = record { made = made; of = of; run = run };
        room = h.room;
        splits = h.splits;
      }

  pub opened_spent : length book.entries ≡ book.cap → IsOpenedSpent problem ceiling nodes count book
  opened_spent full = record {
    within = tried.within;
    fewer = below_unfilled problem count below tried.fewer;
    run = record { made = made; of = of; run = run };
    full = full;
  }

  pub opened_none : (proof : List Item) → IsTriedNone made book proof → count ≡ ceiling → IsOpenedNone problem ceiling nodes proof book
  opened_none proof h e =
      let last : IsWithVacant problem ceiling made = subst (λ (n : ℕ). IsWithVacant problem n made) e of in
      record {
        refuted = record { made = made; of = last; closes = h.closes };
        run = record { made = made; of = last; run = run };
        room = h.room;
        splits = h.splits;
      }

  -- one number more is refuted
  pub tried_more : (proof : List Item) (next : ℕ) → IsTriedNone made book proof → (count ≡ ceiling → ⊥) → next ≡ suc count
      → HasTried problem ceiling nodes next (Some proof)
  tried_more proof next h other e =
      subst (λ (n : ℕ). HasTried problem ceiling nodes n (Some proof)) (sym' e)
      (record {
        room = tried.room;
        within = at_most tried.within other;
        fewer = (proof, refl, record { made = made; of = of; closes = h.closes });
        short = omega (arith, h.splits, h.room, run.cap);
      })
    where
      sym' : {a b : ℕ} → a ≡ b → b ≡ a
      sym' e = omega (arith, e)

      at_most : {a b : ℕ} → a ≤ b → (a ≡ b → ⊥) → suc a ≤ b
      at_most le other = omega (arith, le, other)
