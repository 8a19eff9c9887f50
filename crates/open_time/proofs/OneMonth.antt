-- A month and a count make one month with vacant lines, and what is known of it.
use Rattle.std.proofs.Common.{◌≡◌, ℕ, zero, suc, ◌+◌, ◌<◌, List, [], ◌∷◌, ◌++◌, length, map, sym, ap, subst, ◌∙◌, arith, length-append}
use Rattle.std.specs.Prelude.{All, slice_get, unwrap_or}
use Rattle.std.specs.List.{range_with_len}
use denote.Struct.Props.{props}
use mathlib.Core.HLevel.{is_prop→PathP}
use Rattle.std.proofs.lemmas.List.FromFn.{length-map-range_with_len}
use Rattle.duty_calendar.specs.declared.member.Base.{Base}
use Rattle.duty_calendar.specs.declared.member.Member.{Member}
use Rattle.duty_calendar.specs.declared.pairing.Pairing.{Pairing}
use Rattle.roster_model.specs.declared.bid.Bid.{Bid}
use Rattle.roster_model.specs.declared.problem.Problem.{Problem}
use Rattle.roster_model.specs.declared.goal.BidRef.{BidRef}
use Rattle.roster_model.specs.Valid.{IsValid}
use Rattle.roster_model.specs.Goals.{IsBidOf}
use Rattle.open_time.specs.Vacant.{IsWithVacant, vacant_member, vacant_members, no_bids}

valid_prop : (base : Base) (bids : List (List Bid)) → IsProp (IsValid base bids)
valid_prop base bids = hlevel props

same_base : (a b : Base) → a.rules ≡ b.rules → a.pairings ≡ b.pairings → a.members ≡ b.members → a ≡ b
same_base a b r p m = λ i. record { rules = r i; pairings = p i; members = m i }

same_problem : (a b : Problem) → a.base ≡ b.base → a.bids ≡ b.bids → a ≡ b
same_problem a b e f = λ i. record {
  base = e i;
  bids = f i;
  valid = is_prop→PathP (λ j. IsValid (e j) (f j)) (λ j. valid_prop (e j) (f j)) a.valid b.valid i;
}

pub one_month : (problem : Problem) (count : ℕ) (a b : Problem) → IsWithVacant problem count a → IsWithVacant problem count b → a ≡ b
one_month problem count a b h g =
    same_problem a b (same_base a.base b.base (h.rules ∙ sym g.rules) (h.pairings ∙ sym g.pairings) (h.members ∙ sym g.members)) (h.bids ∙ sym g.bids)

-- how many members it has
pub length-members : (problem : Problem) (count : ℕ) (made : Problem) → IsWithVacant problem count made
    → length made.base.members ≡ length problem.base.members + count
length-members problem count made h =
    ap (λ (xs : List Member). length xs) h.members ∙ length-append problem.base.members (vacant_members count)
    ∙ ap (λ (n : ℕ). length problem.base.members + n) (length-map-range_with_len vacant_member 0 count)

-- the bids of the month are bids of it
bids-front : (xs ys : List (List Bid)) (m k : ℕ) → k < length (unwrap_or (slice_get xs m) []) → k < length (unwrap_or (slice_get (xs ++ ys) m) [])
bids-front [] ys m k lt = absurd (omega (arith, lt))
bids-front (x ∷ xs) ys zero k lt = lt
bids-front (x ∷ xs) ys (suc m) k lt = bids-front xs ys m k lt

pub bid-made : (problem : Problem) (count : ℕ) (made : Problem) (bid : BidRef) → IsWithVacant problem count made → IsBidOf problem bid → IsBidOf made bid
bid-made problem count made bid h is = record {
  member = omega (arith, is.member, length-members problem count made h);
  number = subst (λ (xs : List (List Bid)). bid.bid < length (unwrap_or (slice_get xs bid.member) [])) (sym h.bids)
      (bids-front problem.bids (map no_bids (range_with_len 0 count)) bid.member bid.bid is.number);
}

pub in_range-made : (problem : Problem) (count : ℕ) (made : Problem) (roster : List (List ℕ)) → IsWithVacant problem count made
    → All (All (λ p. p < length problem.base.pairings)) roster → All (All (λ p. p < length made.base.pairings)) roster
in_range-made problem count made roster h known =
    subst (λ (ps : List Pairing). All (All (λ p. p < length ps)) roster) (sym h.pairings) known
