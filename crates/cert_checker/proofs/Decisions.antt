-- Decisions on a pair, of which a node has no two.
use Rattle.std.proofs.Common.{◌≡◌, ℕ, Bool, true, false, ◌||◌, ◌&&◌, List, [], ◌∷◌, reverse, refl, sym, subst, inl, inr}
use Rattle.std.proofs.lemmas.Bool.{and_parts, and_left, and_right, cases_Bool, eqb-true, or_cases, both_ways}
use Rattle.std.proofs.lemmas.List.Sorted.{list_any-IsPermutation, IsPermutation-reverse}
use Rattle.roster_model.specs.declared.node.Decision.{Decision}
use Rattle.roster_model.specs.Decided.{is_on, is_same, is_decided, is_decided_as, HasNoPairTwice}
use Rattle.roster_model.proofs.Undecided.{or_fails}

-- the order of decisions does not matter
pub is_decided_as_reverse : (node : List Decision) (m p : ℕ) (flies : Bool)
    → is_decided_as (reverse node) m p flies ≡ is_decided_as node m p flies
is_decided_as_reverse node m p flies =
    sym (list_any-IsPermutation (λ (d : Decision). is_on m p d && is_same d.flies flies) node (reverse node) (IsPermutation-reverse node))

-- Booleans
pub or_none : (a b : Bool) → a ≡ false → b ≡ false → (a || b) ≡ false
or_none true b e f = absurd (cc e)
or_none false b e f = f

pub or_first : (a b : Bool) → a ≡ true → (a || b) ≡ true
or_first true b e = refl
or_first false b e = absurd (cc e)

pub or_second : (a b : Bool) → b ≡ true → (a || b) ≡ true
or_second true b e = refl
or_second false b e = e

-- a pair that is not decided is not decided either way
pub undecided_as : (node : List Decision) (m p : ℕ) (flies : Bool)
    → is_decided node m p ≡ false → is_decided_as node m p flies ≡ false
undecided_as [] m p flies e = refl
undecided_as (d ∷ node) m p flies e =
    let parts = or_fails (is_on m p d) (is_decided node m p) e in
    or_none (is_on m p d && is_same d.flies flies) (is_decided_as node m p flies) (and_left (is_on m p d) (is_same d.flies flies) parts.0)
    (undecided_as node m p flies parts.1)

-- and one that is decided one way is decided
pub decided_by : (node : List Decision) (m p : ℕ) (flies : Bool)
    → is_decided_as node m p flies ≡ true → is_decided node m p ≡ true
decided_by node m p flies e =
    elim (cases_Bool (is_decided node m p)) [
      | inl is ↦ is
      | inr not ↦ absurd (both_ways (is_decided_as node m p flies) (undecided_as node m p flies not) e)
    ]

-- the decisions below are on other pairs
pub newest_apart : (d : Decision) (node : List Decision) (m p : ℕ) (flies : Bool)
    → is_decided node d.member d.pairing ≡ false → is_on m p d ≡ true → is_decided_as node m p flies ≡ false
newest_apart d node m p flies new is =
    let on = and_parts _ _ is in
    subst (λ (k : ℕ). is_decided_as node k p flies ≡ false) (eqb-true d.member m on.0)
    (subst (λ (q : ℕ). is_decided_as node d.member q flies ≡ false) (eqb-true d.pairing p on.1)
    (undecided_as node d.member d.pairing flies new))

-- no pair is decided both ways
not_flown : (a : Bool) → is_same a false ≡ true → is_same a true ≡ false
not_flown true e = absurd (cc e)
not_flown false e = refl

pub one_way : (node : List Decision) (m p : ℕ) → HasNoPairTwice node
    → is_decided_as node m p false ≡ true → is_decided_as node m p true ≡ false
one_way [] m p once e = absurd (cc e)
one_way (d ∷ node) m p once e =
    let same = is_on m p d && is_same d.flies true in
    elim (or_cases (is_on m p d && is_same d.flies false) (is_decided_as node m p false) e) [
      | inl here ↦
          let parts = and_parts (is_on m p d) (is_same d.flies false) here in
          or_none same (is_decided_as node m p true) (and_right (is_on m p d) (is_same d.flies true) (not_flown d.flies parts.1))
          (newest_apart d node m p true once.0 parts.0)
      | inr below ↦
          elim (cases_Bool (is_on m p d)) [
            | inl on ↦ absurd (both_ways (is_decided_as node m p false) (newest_apart d node m p false once.0 on) below)
            | inr off ↦ or_none same (is_decided_as node m p true) (and_left (is_on m p d) (is_same d.flies true) off) (one_way node m p once.1 below)
          ]
    ]
