-- A number, and so many members and pairings, make one month.
use Rattle.std.proofs.Common.{◌≡◌, ℕ, zero, suc, ◌+◌, ℤ, List, [], ◌∷◌, ◌++◌, length, refl, sym, ap, ◌∙◌, arith}
use Rattle.std.specs.Prelude.{map}
use Rattle.std.specs.List.{range_with_len}
use denote.Struct.Props.{props}
use mathlib.Core.HLevel.{is_prop→PathP}
use Rattle.std.proofs.lemmas.List.{map-append}
use Rattle.std.proofs.lemmas.List.FromFn.{map-range_with_len_more}
use Rattle.duty_calendar.specs.Calendar.{IsMonth, IsOffset}
use Rattle.duty_calendar.specs.declared.horizon.Horizon.{Horizon}
use Rattle.duty_calendar.specs.declared.member.Base.{Base}
use Rattle.duty_calendar.specs.declared.member.Rules.{Rules}
use Rattle.duty_calendar.specs.declared.pairing.Pairing.{Pairing}
use Rattle.roster_model.specs.declared.bid.Bid.{Bid}
use Rattle.roster_model.specs.declared.problem.Problem.{Problem}
use Rattle.roster_model.specs.Valid.{IsValid}
use Rattle.instance_maker.specs.Draws.{in_order}
use Rattle.instance_maker.specs.Months.{AreMadeRules, IsMade, made_pairings, made_bids, drawn_pairing, pairing_name}
use Rattle.instance_maker.proofs.InOrder.{in_order_length}
use Rattle.instance_maker.proofs.Wishes.{bids_length}

month_prop : (y : ℤ) (m : ℕ) → IsProp (IsMonth y m)
month_prop y m = hlevel props

offset_prop : (o : ℤ) → IsProp (IsOffset o)
offset_prop o = hlevel props

valid_prop : (base : Base) (bids : List (List Bid)) → IsProp (IsValid base bids)
valid_prop base bids = hlevel props

same_horizon : (a b : Horizon) → a.year ≡ b.year → a.month ≡ b.month → a.offset ≡ b.offset → a ≡ b
same_horizon a b y m o = λ i. record {
  year = y i;
  month = m i;
  offset = o i;
  year_in = (is_prop→PathP (λ j. IsMonth (y j) (m j)) (λ j. month_prop (y j) (m j)) (a.year_in, a.month_in) (b.year_in, b.month_in) i).0;
  month_in = (is_prop→PathP (λ j. IsMonth (y j) (m j)) (λ j. month_prop (y j) (m j)) (a.year_in, a.month_in) (b.year_in, b.month_in) i).1;
  offset_in = is_prop→PathP (λ j. IsOffset (o j)) (λ j. offset_prop (o j)) a.offset_in b.offset_in i;
}

same_rules : (a b : Rules) → AreMadeRules a → AreMadeRules b → a ≡ b
same_rules a b h g =
    let base : a.base ≡ b.base = h.base ∙ sym g.base in
    let seat : a.seat ≡ b.seat = h.seat ∙ sym g.seat in
    let off : a.days_off ≡ b.days_off = h.days_off ∙ sym g.days_off in
    let horizon : a.horizon ≡ b.horizon =
    same_horizon a.horizon b.horizon (h.year ∙ sym g.year) (h.month ∙ sym g.month) (h.offset ∙ sym g.offset) in
    λ i. record { base = base i; seat = seat i; horizon = horizon i; days_off = off i }

same_base : (a b : Base) → a.rules ≡ b.rules → a.pairings ≡ b.pairings → a.members ≡ b.members → a ≡ b
same_base a b r p m = λ i. record { rules = r i; pairings = p i; members = m i }

same_problem : (a b : Problem) → a.base ≡ b.base → a.bids ≡ b.bids → a ≡ b
same_problem a b e f = λ i. record {
  base = e i;
  bids = f i;
  valid = is_prop→PathP (λ j. IsValid (e j) (f j)) (λ j. valid_prop (e j) (f j)) a.valid b.valid i;
}

pub one_month_is_made : (number members pairings : ℕ) (a b : Problem) → IsMade number members pairings a
    → IsMade number members pairings b → a ≡ b
one_month_is_made number members pairings a b h g =
    same_problem a b
    (same_base a.base b.base (same_rules a.base.rules b.base.rules h.rules g.rules) (h.all_pairings ∙ sym g.all_pairings) (h.all_members ∙ sym g.all_members))
    (h.all_bids ∙ sym g.all_bids)

-- the names of pairings, in order
pub names_in_order : (members n state : ℕ)
    → map (λ p. p.name) (in_order (drawn_pairing members) n state).0 ≡ map pairing_name (range_with_len 0 n)
unfolding in_order drawn_pairing
names_in_order members zero state = refl
names_in_order members (suc n) state =
    let before = (in_order (drawn_pairing members) n state).0 in
    let last = (drawn_pairing members n (in_order (drawn_pairing members) n state).1).0 in
    let more : suc n ≡ n + 1 = omega arith in
    map-append (λ (p : Pairing). p.name) before (last ∷ [])
    ∙ ap (λ (xs : List (List ℕ)). xs ++ pairing_name n ∷ []) (names_in_order members n state)
    ∙ sym (map-range_with_len_more pairing_name 0 n n (omega arith))
    ∙ ap (λ (k : ℕ). map pairing_name (range_with_len 0 k)) (sym more)

pub sizes_are_asked : (number members pairings : ℕ)
    → (length (made_pairings number members pairings) ≡ pairings) × (length (made_bids number members pairings) ≡ members)
sizes_are_asked number members pairings =
    (in_order_length (drawn_pairing members) pairings number, bids_length members pairings (in_order (drawn_pairing members) pairings number).1)
