-- The first test of an award with vacant lines that fails, and what is accepted.
use Rattle.std.proofs.Common.{◌≡◌, ◌≢◌, ℕ, zero, suc, ◌-◌, ◌<◌, true, nat_lt, List, [], get_or, Option, Some, None, refl, sym, ap, subst, ◌∙◌, arith}
use Rattle.std.specs.Option.{is_some}
use Rattle.std.proofs.lemmas.Bool.{false≢true, true≢false}
use Rattle.std.proofs.lemmas.Bool.Decides.{nat_tests}
use Rattle.std.proofs.lemmas.Option.{slice_get-get_or, slice_get_within}
use Rattle.duty_calendar.specs.declared.member.Member.{Member}
use Rattle.roster_model.specs.declared.award.Awarded.{Awarded}
use Rattle.roster_model.specs.declared.award.Denial.{Denial}
use Rattle.roster_model.specs.declared.problem.Problem.{Problem}
use Rattle.roster_model.specs.declared.proof.Item.{Item}
use Rattle.roster_model.specs.Awards.{no_goal}
use Rattle.roster_model.specs.Closing.{Closes}
use Rattle.roster_model.specs.Denials.{IsAwarded}
use Rattle.open_time.specs.declared.fault.OpenFault.{OpenFault}
use Rattle.open_time.specs.declared.fault.OpenFault.TheVariants as fault
use Rattle.open_time.specs.declared.refusal.OpenNo.{OpenNo}
use Rattle.open_time.specs.declared.refusal.OpenNo.TheVariants.{NoMemory, Open, NoneProof, Fewer, Award}
use Rattle.open_time.specs.Vacant.{IsWithVacant, HasRoomFor, IsOpenFault, IsVacantName}
use Rattle.open_time.specs.Refuted.{IsOpenAward, IsRefutedWith, IsRefutedBelow}
use Rattle.open_time.specs.Judged.{IsRefutedBy, GivenFails, IsBelowWrong, OpeningFails, FewerFails, BelowFails, AwardFails, IsFirstOpenNo, NamesOpenFault}
use Rattle.open_time.proofs.OneMonth.{one_month}

module _ (problem : Problem) (count : ℕ) (below : Option (List Item)) (roster : List (List ℕ)) (reasons : List Denial) (awarded : Awarded) where
  pub opening_first : (why : OpenNo) → OpeningFails problem count why → IsFirstOpenNo problem count below roster reasons awarded why
  opening_first NoMemory h = tt
  opening_first (Open why) h = h
  opening_first NoneProof h = absurd h
  opening_first (Fewer why) h = absurd h
  opening_first (Award why) h = absurd h

  pub below_first : (why : OpenNo) → HasRoomFor problem count → BelowFails problem count below why → IsFirstOpenNo problem count below roster reasons awarded why
  below_first NoMemory room h = tt
  below_first (Open why) room h = absurd h
  below_first NoneProof room h = (room, h)
  below_first (Fewer why) room h = (room, h)
  below_first (Award why) room h = absurd h

  pub award_first : (made : Problem) (why : OpenNo) → IsWithVacant problem count made → HasRoomFor problem count → IsRefutedBelow problem count below
      → AwardFails made roster reasons awarded why → IsFirstOpenNo problem count below roster reasons awarded why
  award_first made NoMemory of room fewer h = tt
  award_first made (Open why) of room fewer h = absurd h
  award_first made NoneProof of room fewer h = absurd h
  award_first made (Fewer why) of room fewer h = absurd h
  award_first made (Award why) of room fewer h = record { room = room; fewer = fewer; made = made; of = of; known = h.0; first = h.1 }

  -- a fault of the opening excludes room
  no_room : (why : OpenFault) → why ≢ fault.NoMemory → IsOpenFault problem count why → HasRoomFor problem count → ⊥
  no_room fault.NoMemory named h room = named refl
  no_room (fault.Members total) named h room = omega (arith, h.0, h.1, room.few)
  no_room (fault.NameTaken member) named h room =
      let at = slice_get-get_or problem.base.members member h.has (slice_get_within problem.base.members member h.has h.here) in
      let same : get_or problem.base.members member h.has ≡ h.has = cc in
      subst (λ (m : Member). IsVacantName count m.name → ⊥) same
      (room.free member h.has (slice_get_within problem.base.members member h.has h.here)) h.taken

  pub opening_refuses : (why : OpenNo) → OpeningFails problem count why → NamesOpenFault why → HasRoomFor problem count → ⊥
  opening_refuses NoMemory h named room = named
  opening_refuses (Open why) h named room = no_room why h.0 h.1 room
  opening_refuses NoneProof h named room = h
  opening_refuses (Fewer why) h named room = h
  opening_refuses (Award why) h named room = h

  pub award_refuses : (made : Problem) (why : OpenNo) → IsWithVacant problem count made → AwardFails made roster reasons awarded why
      → NamesOpenFault why → IsOpenAward problem count below roster reasons awarded → ⊥
  award_refuses made NoMemory of h named is = named
  award_refuses made (Open why) of h named is = h
  award_refuses made NoneProof of h named is = h
  award_refuses made (Fewer why) of h named is = h
  award_refuses made (Award why) of h named is =
      h.2 (subst (λ (p : Problem). IsAwarded p roster reasons awarded) (one_month problem count is.award.made made is.award.of of) is.award.accepted)

some_above : (less : ℕ) → true ≡ nat_lt 0 (suc less)
some_above less = sym (grind (arith, nat_tests))

one_proof : (below : Option (List Item)) (a b : List Item) → below ≡ Some a → below ≡ Some b → a ≡ b
one_proof below a b e f = cc

-- the proof that one vacant line less is not enough
pub below_refuses : (problem : Problem) (count : ℕ) (below : Option (List Item)) (why : OpenNo) → BelowFails problem count below why → NamesOpenFault why → IsRefutedBelow problem count below → ⊥
below_refuses problem count below NoMemory h named is = named
below_refuses problem count below (Open why) h named is = h
below_refuses problem zero below NoneProof h named is = h (ap is_some is)
below_refuses problem (suc less) below NoneProof h named is = h (ap is_some is.1 ∙ some_above less)
below_refuses problem zero below (Fewer why) h named is = h
below_refuses problem (suc less) below (Fewer why) h named is =
    let wrong = h.2 in
    let right = is.2 in
    wrong.closes_not
    (subst (λ (p : Problem). Closes p no_goal [] h.0) (one_month problem less right.made wrong.made right.of wrong.of)
    (subst (λ (items : List Item). Closes right.made no_goal [] items) (one_proof below is.0 h.0 is.1 h.1) right.closes))
below_refuses problem count below (Award why) h named is = h

-- what the judge of one proof says
pub refuted : (problem : Problem) (less : ℕ) (proof : List Item) (made : Problem) → IsWithVacant problem less made → Closes made no_goal [] proof → IsRefutedWith problem less proof
refuted problem less proof made of closes = record { made = made; of = of; closes = closes }

-- the proof as it is given or missing
pub given_accepted : (problem : Problem) (count : ℕ) (below : Option (List Item)) (proof : List Item) → below ≡ Some proof → IsRefutedBy problem count proof → IsRefutedBelow problem count below
given_accepted problem count below proof e h =
    subst (λ (n : ℕ). IsRefutedBelow problem n below) (sym h.1) (proof, e, h.2)

pub given_fails : (problem : Problem) (count : ℕ) (below : Option (List Item)) (proof : List Item) (why : OpenNo) → below ≡ Some proof → GivenFails problem count proof why → BelowFails problem count below why
given_fails problem count below proof NoMemory e h = tt
given_fails problem count below proof (Open why) e h = h
given_fails problem count below proof NoneProof e h = λ same.
    true≢false (sym (ap is_some e) ∙ same ∙ ap (λ (n : ℕ). nat_lt 0 n) h)
given_fails problem count below proof (Fewer why) e h =
    subst (λ (n : ℕ). IsBelowWrong problem n below why) (sym h.1) (proof, e, h.2)
given_fails problem count below proof (Award why) e h = h

pub missing_accepted : (problem : Problem) (count : ℕ) (below : Option (List Item)) → below ≡ None → count ≡ 0 → IsRefutedBelow problem count below
missing_accepted problem count below e z = subst (λ (n : ℕ). IsRefutedBelow problem n below) (sym z) e

missing_due : (count : ℕ) → 0 < count → nat_lt 0 count ≡ true
missing_due count lt = grind (arith, nat_tests)

pub missing_fails : (problem : Problem) (count : ℕ) (below : Option (List Item)) (why : OpenNo) → below ≡ None → (why ≡ NoneProof) × (0 < count) → BelowFails problem count below why
missing_fails problem count below why e h =
    subst (λ (w : OpenNo). BelowFails problem count below w) (sym h.0)
    (λ same. false≢true (sym (ap is_some e) ∙ same ∙ missing_due count h.1))

pub previous : (count : ℕ) → (count ≡ 0 → ⊥) → count ≡ suc (count - 1)
previous zero some = absurd (some refl)
previous (suc n) some = omega arith

pub fewer_given : (problem : Problem) (count less : ℕ) (proof : List Item) (why : OpenNo) → count ≡ suc less → FewerFails problem less proof why → GivenFails problem count proof why
fewer_given problem count less proof NoMemory e h = tt
fewer_given problem count less proof (Open why) e h = h
fewer_given problem count less proof NoneProof e h = absurd h
fewer_given problem count less proof (Fewer why) e h = (less, e, h)
fewer_given problem count less proof (Award why) e h = h
