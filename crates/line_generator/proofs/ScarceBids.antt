-- No line has more pairings of a kind than the month.
use Rattle.std.proofs.Common.{◌≡◌, ℕ, ◌<◌, ◌≤◌, ◌+◌, Bool, true, false, cond, List, [], ◌∷◌, Option, length, refl, ap, sym, ◌∙◌, subst, arith}
use Rattle.std.specs.Prelude.{All, count_by}
use Rattle.std.specs.Option.{option_map_or}
use Rattle.std.proofs.lemmas.Bool.{and_parts, leb-true}
use Rattle.std.proofs.lemmas.List.Elements.{All-head, All-tail}
use Rattle.std.proofs.lemmas.List.Recursion.{is_count_by}
use Rattle.duty_calendar.specs.Minutes.{count_between}
use Rattle.duty_calendar.proofs.Counting.{count_between-append, count_between-one}
use Rattle.roster_model.specs.declared.bid.Bid.{Bid}
use Rattle.roster_model.specs.declared.bid.Wish.{Wish}
use Rattle.roster_model.specs.declared.bid.Wish.TheVariants.{Fly, Avoid, Prefer, Off, CreditBelow, CreditAbove, DaysOff}
use Rattle.roster_model.specs.declared.node.Decision.{Decision}
use Rattle.roster_model.specs.declared.problem.Problem.{Problem}
use Rattle.roster_model.specs.declared.proof.Lens.{Lens}
use Rattle.roster_model.specs.Ascending.{ascends_from, is_ascending}
use Rattle.roster_model.specs.Filters.{is_kept}
use Rattle.roster_model.specs.Scores.{is_granting}
use Rattle.lens_classes.specs.TermLines.{IsTermLine}
use Rattle.lens_classes.specs.declared.terms.Terms.{Terms}
use Rattle.line_generator.specs.Scarce.{CountsScarce, IsScarce}

-- how many of the numbers pass a test, one by one
abbrev tally : (ℕ → Bool) → List ℕ → ℕ
tally test [] = 0
tally test (x ∷ xs) = cond (test x) (1 + tally test xs) (tally test xs)

one_less : (b : Bool) (rest high : ℕ) → rest ≤ high → cond b (1 + rest) rest ≤ cond b 1 0 + high
one_less true rest high le = omega (arith, le)
one_less false rest high le = omega (arith, le)

ascends_within : (test : ℕ → Bool) (xs : List ℕ) (low n : ℕ) → ascends_from low xs ≡ true → All (λ x. x < n) xs → tally test xs ≤ count_between test low n
ascends_within test [] low n up small = omega arith
ascends_within test (x ∷ xs) low n up small =
    let parts = and_parts _ _ up in
    let least : low ≤ x = leb-true _ _ parts.0 in
    let most : x < n = All-head (λ y. y < n) x xs small in
    let rest = ascends_within test xs (x + 1) n parts.1 (All-tail (λ y. y < n) x xs small) in
    let first = count_between-append test low (x + 1) n (omega (arith, least)) (omega (arith, most)) in
    let one = count_between-one test low x least in
    let here = one_less (test x) (tally test xs) (count_between test (x + 1) n) rest in
    omega (arith, first, one, here)

pub kept_within : (test : ℕ → Bool) (line : List ℕ) (n : ℕ) → is_ascending line ≡ true → All (λ p. p < n) line → count_by test line ≤ count_between test 0 n
kept_within test line n up small =
    subst (λ (k : ℕ). k ≤ count_between test 0 n) (is_count_by (tally test) test refl (λ x xs. refl) line) (ascends_within test line 0 n up small)

not_granted : (problem : Problem) (member : ℕ) (line : List ℕ) (wish : Wish) → is_ascending line ≡ true → All (λ p. p < length problem.base.pairings) line
    → IsScarce problem wish → is_granting problem member line wish ≡ true → ⊥
not_granted problem member line (Fly p) up small few granted = few
not_granted problem member line (Avoid f) up small few granted = few
not_granted problem member line (Prefer n f) up small few granted =
    let most = kept_within (is_kept problem f) line (length problem.base.pairings) up small in
    let least : n ≤ count_by (is_kept problem f) line = leb-true _ _ granted in
    omega (arith, few, most, least)
not_granted problem member line (Off first last) up small few granted = few
not_granted problem member line (CreditBelow m) up small few granted = few
not_granted problem member line (CreditAbove m) up small few granted = few
not_granted problem member line (DaysOff n) up small few granted = few

-- no line keeps terms that count for such a wish
pub scarce_none : (problem : Problem) (member : ℕ) (node : List Decision) (lens : Lens) (terms : Terms) (line : List ℕ)
    → CountsScarce problem member terms → IsTermLine problem member node lens terms line → ⊥
scarce_none problem member node lens terms line scarce is =
    let granted : is_granting problem member line scarce.scarce.wish ≡ true =
    sym (ap (λ (o : Option Bid). option_map_or (λ (b : Bid). is_granting problem member line b.wish) o false) scarce.there) ∙ is.counts scarce.bid scarce.counted in
    not_granted problem member line scarce.scarce.wish is.ascending is.in_range scarce.few granted
