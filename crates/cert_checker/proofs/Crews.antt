-- The crew of a pairing: decisions on it are of as many members, since no pair is decided twice.
use Rattle.std.proofs.Common.{◌≡◌, ℕ, ◌+◌, ◌-◌, ◌<◌, ◌≤◌, Bool, true, false, ◌||◌, ◌&&◌, ◌==◌, cond, List, [], ◌∷◌, reverse, length, refl, sym, ap, subst, ◌∙◌, arith, zero-add}
use Rattle.std.specs.Prelude.{All, count_by, not, min, max}
use Rattle.std.proofs.lemmas.Bool.{and_parts}
use Rattle.std.proofs.lemmas.Bool.Decides.{nat_tests}
use Rattle.std.proofs.lemmas.List.Elements.{All-head, All-tail}
use Rattle.std.proofs.lemmas.List.Sums.{sum_by-cons}
use Rattle.std.proofs.lemmas.List.Sorted.{sum_by-IsPermutation, IsPermutation-reverse}
use Rattle.duty_calendar.specs.Minutes.{count_between, is_between}
use Rattle.duty_calendar.proofs.Counting.{count_between-agree, count_between-le, count_between-or, count_between-stretch}
use Rattle.roster_model.specs.declared.problem.Problem.{Problem}
use Rattle.roster_model.specs.declared.node.Decision.{Decision}
use Rattle.roster_model.specs.Decided.{is_on, is_same, is_decided_as, HasNoPairTwice}
use Rattle.roster_model.specs.Goals.{IsNode}
use Rattle.roster_model.specs.Closing.{possible_crew}
use Rattle.cert_checker.proofs.Decisions.{newest_apart}

-- counting the numbers below a bound
agrees : (f g : ℕ → Bool) (n : ℕ) → ((m : ℕ) → m < n → f m ≡ g m) → count_between f 0 n ≡ count_between g 0 n
agrees f g n h =
    subst (λ (s : ℕ). count_between f 0 s ≡ count_between g 0 s) (zero-add n)
    (count_between-agree f g 0 n (λ m low lt. h m (omega (arith, lt))))

together : (f g : ℕ → Bool) (n : ℕ) → ((m : ℕ) → f m ≡ true → g m ≡ false)
    → count_between (λ m. f m || g m) 0 n ≡ count_between f 0 n + count_between g 0 n
together f g n h =
    subst (λ (s : ℕ). count_between (λ m. f m || g m) 0 s ≡ count_between f 0 s + count_between g 0 s) (zero-add n)
    (count_between-or f g 0 n h)

stretched : (a b n : ℕ) → count_between (is_between a b) 0 n ≡ min b n - max a 0
stretched a b n =
    subst (λ (s : ℕ). count_between (is_between a b) 0 s ≡ min b s - max a 0) (zero-add n)
    (count_between-stretch a b 0 n)

alone : (k m : ℕ) → (k == m) ≡ is_between k (k + 1) m
alone k m = grind (arith, nat_tests)

never : (m : ℕ) → false ≡ is_between 0 0 m
never m = grind (arith, nat_tests)

always : (n m : ℕ) → m < n → true ≡ is_between 0 n m
always n m lt = grind (arith, nat_tests)

none_of : (n : ℕ) → count_between (λ m. false) 0 n ≡ 0
none_of n =
    let one = stretched 0 0 n in
    agrees (λ m. false) (is_between 0 0) n (λ m lt. never m) ∙ one ∙ omega arith

one_of : (k n : ℕ) (b : Bool) → k < n → count_between (λ m. (k == m) && b) 0 n ≡ cond b 1 0
one_of k n true lt =
    agrees (λ m. (k == m) && true) (is_between k (k + 1)) n (λ m low. and_true (k == m) ∙ alone k m)
    ∙ stretched k (k + 1) n ∙ omega (arith, lt)
  where
    and_true : (a : Bool) → (a && true) ≡ a
    and_true true = refl
    and_true false = refl
one_of k n false lt =
    agrees (λ m. (k == m) && false) (λ m. false) n (λ m low. and_false (k == m)) ∙ none_of n
  where
    and_false : (a : Bool) → (a && false) ≡ false
    and_false true = refl
    and_false false = refl

-- what no test passes of all
others_of : (f : ℕ → Bool) (n : ℕ) → count_between f 0 n + count_between (λ m. not (f m)) 0 n ≡ n
others_of f n =
    sym (together f (λ m. not (f m)) n (λ m t. rw t refl))
    ∙ agrees (λ m. f m || not (f m)) (is_between 0 n) n (λ m lt. or_not (f m) ∙ always n m lt)
    ∙ stretched 0 n n ∙ omega arith
  where
    or_not : (a : Bool) → (a || not a) ≡ true
    or_not true = refl
    or_not false = refl

-- a decision that a member flies the pairing, or that one does not
abbrev pub is_for : ℕ → Bool → Decision → Bool
is_for pairing flies d = d.pairing == pairing && is_same d.flies flies

and_assoc : (a b c : Bool) → ((a && b) && c) ≡ (a && (b && c))
and_assoc true b c = refl
and_assoc false b c = refl

-- each decision on the pairing is of another member
by_member : (node : List Decision) (count p : ℕ) (flies : Bool) → All (λ d. d.member < count) node → HasNoPairTwice node
    → count_by (is_for p flies) node ≡ count_between (λ m. is_decided_as node m p flies) 0 count
by_member [] count p flies known once = sym (none_of count)
by_member (d ∷ node) count p flies known once =
    let own = λ (m : ℕ). is_on m p d && is_same d.flies flies in
    let rest = λ (m : ℕ). is_decided_as node m p flies in
    let lt = All-head (λ (d : Decision). d.member < count) d node known in
    let one : count_between own 0 count ≡ cond (is_for p flies d) 1 0 =
    agrees own (λ m. (d.member == m) && is_for p flies d) count (λ m low. and_assoc (d.member == m) (d.pairing == p) (is_same d.flies flies))
    ∙ one_of d.member count (is_for p flies d) lt in
    sum_by-cons (λ (x : Decision). cond (is_for p flies x) 1 0) d node
    ∙ ap (λ (k : ℕ). cond (is_for p flies d) 1 0 + k)
    (by_member node count p flies (All-tail (λ (d : Decision). d.member < count) d node known) once.1)
    ∙ ap (λ (k : ℕ). k + count_between rest 0 count) (sym one)
    ∙ sym (together own rest count (λ m is. newest_apart d node m p flies once.0 (and_parts _ _ is).0))

-- the same, of decisions with the newest last
pub decided_counted : (problem : Problem) (decisions node : List Decision) (p : ℕ) (flies : Bool) (count : ℕ)
    → count ≡ count_by (is_for p flies) decisions → reverse decisions ≡ node → IsNode problem node
    → count ≡ count_between (λ m. is_decided_as node m p flies) 0 (length problem.base.members)
decided_counted problem decisions node p flies count counted e is =
    counted
    ∙ sym (sum_by-IsPermutation (λ (x : Decision). cond (is_for p flies x) 1 0) decisions (reverse decisions) (IsPermutation-reverse decisions))
    ∙ ap (λ (xs : List Decision). count_by (is_for p flies) xs) e
    ∙ by_member node (length problem.base.members) p flies is.members is.once

pub few_decided : (problem : Problem) (decisions node : List Decision) (p : ℕ) (flies : Bool) (count members : ℕ)
    → count ≡ count_by (is_for p flies) decisions → members ≡ length problem.base.members → reverse decisions ≡ node → IsNode problem node
    → count ≤ members
few_decided problem decisions node p flies count members counted all e is =
    let test = λ (m : ℕ). is_decided_as node m p flies in
    omega (arith, all, decided_counted problem decisions node p flies count counted e is, count_between-le test 0 (length problem.base.members))

pub left_counted : (problem : Problem) (decisions node : List Decision) (p : ℕ) (count members : ℕ)
    → count ≡ count_by (is_for p false) decisions → members ≡ length problem.base.members → reverse decisions ≡ node → IsNode problem node
    → members - count ≡ possible_crew problem node p
left_counted problem decisions node p count members counted all e is =
    let test = λ (m : ℕ). is_decided_as node m p false in
    omega (arith, all, decided_counted problem decisions node p false count counted e is, others_of test (length problem.base.members))
