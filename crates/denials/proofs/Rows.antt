-- The searches for one bid after another.
use Rattle.std.proofs.Common.{◌≡◌, ◌≢◌, ℕ, zero, suc, ◌+◌, ◌*◌, ◌^◌, ◌<◌, ◌≤◌, inr, List, [], ◌∷◌, length, take, get_or, None, Some, refl, sym, ap, subst, ◌∙◌, arith}
use Rattle.std.specs.Prelude.{All, slice_get, sum_by, unwrap_or}
use Rattle.std.proofs.lemmas.List.{take_more, get_or_read, get_or_default}
use Rattle.std.proofs.lemmas.List.Elements.{All-head, All-tail}
use Rattle.std.proofs.lemmas.List.Sums.{sum_by-append, sum_by-cons, sum_by-le}
use Rattle.std.proofs.lemmas.Option.{unwrap_or-slice_get}
use Rattle.std.proofs.Math.Nat.{mul-le-mul_left, mul-le-mul_right}
use Rattle.roster_model.specs.declared.problem.Problem.{Problem}
use Rattle.roster_model.specs.declared.bid.Bid.{Bid}
use Rattle.roster_model.specs.declared.goal.Goal.{Goal}
use Rattle.roster_model.specs.declared.goal.BidRef.{BidRef}
use Rattle.roster_model.specs.Scores.{bids_of}
use Rattle.roster_model.specs.Rosters.{IsComplete, scores_of}
use Rattle.roster_model.specs.Awards.{IsGreatest}
use Rattle.roster_model.specs.Lawful.{IsBidGoal, bid_count}
use Rattle.roster_model.specs.Denials.{granting}
use Rattle.roster_model.proofs.Greatest.{length-scores}
use Rattle.roster_model.proofs.Seniority.{greatest-first}
use Rattle.branch_log.specs.Book.{Book, IsLawfulBook}
use Rattle.completion_search.specs.Added.{AddsSearches, TakesSearches}
use Rattle.roster_model.specs.Ledgers.{pairs_of}
use Rattle.completion_search.proofs.Added.{AddsSearches-then, AddsSearches-weaker, lawful-more, room-left, TakesSearches-none, TakesSearches-then, TakesSearches-weaker}
use Rattle.denials.specs.Asked.{IsAskedFor}
use Rattle.denials.specs.Made.{bids_below}
use Rattle.denials.specs.Explained.{FitsDenials, bid_searches}

-- goals for other bids are other goals
asked-apart : (problem : Problem) (scores : List ℕ) (P Q : BidRef → Type 0) → ((b : BidRef) → P b → Q b → ⊥)
    → (g g' : Goal) → IsAskedFor problem scores P g → IsAskedFor problem scores Q g' → g ≢ g'
asked-apart problem scores P Q apart g g' h h' same =
    let goals : granting scores h.place h.bid ≡ granting scores h'.place h'.bid = sym h.is ∙ same ∙ h'.is in
    let grants : Some h.bid ≡ Some h'.bid = ap (λ (x : Goal). x.grant) goals in
    let bids : h.bid ≡ h'.bid = cc in
    apart h'.bid (subst P bids h.among) h'.among

asked-weaker : (problem : Problem) (scores : List ℕ) (P Q : BidRef → Type 0) → ((b : BidRef) → P b → Q b)
    → (g : Goal) → IsAskedFor problem scores P g → IsAskedFor problem scores Q g
asked-weaker problem scores P Q weaker g h =
    record { bid = h.bid; place = h.place; known = h.known; among = weaker h.bid h.among; within = h.within; is = h.is }

-- a bid more of the member
pub adds-bid : (problem : Problem) (scores : List ℕ) (member number : ℕ) (a b c : Book)
    → AddsSearches problem (IsAskedFor problem scores (λ x. (x.member ≡ member) × (x.bid < number))) a b
    → AddsSearches problem (IsAskedFor problem scores (λ x. x ≡ record { member = member; bid = number })) b c
    → AddsSearches problem (IsAskedFor problem scores (λ x. (x.member ≡ member) × (x.bid < number + 1))) a c
adds-bid problem scores member number a b c f g =
    let this : BidRef = record { member = member; bid = number } in
    let Below : ℕ → BidRef → Type 0 = λ k x. (x.member ≡ member) × (x.bid < k) in
    AddsSearches-then problem (IsAskedFor problem scores (Below number)) (IsAskedFor problem scores (λ x. x ≡ this)) (IsAskedFor problem scores (Below (number + 1))) a b c
    (asked-weaker problem scores (Below number) (Below (number + 1)) (λ x h. (h.0, omega (arith, h.1))))
    (asked-weaker problem scores (λ x. x ≡ this) (Below (number + 1)) (λ x e. subst (Below (number + 1)) (sym e) (refl, omega arith)))
    (asked-apart problem scores (Below number) (λ x. x ≡ this) (λ x h e. (let same : x.bid ≡ number = ap (λ (y : BidRef). y.bid) e in omega (arith, h.1, same))))
    f g

-- the searches for one bid, or none, are of the member
pub adds-of_member : (problem : Problem) (scores : List ℕ) (member number : ℕ) (a b : Book)
    → AddsSearches problem (IsAskedFor problem scores (λ x. (x.member ≡ member) × (x.bid < number))) a b
    → AddsSearches problem (IsAskedFor problem scores (λ x. x.member ≡ member)) a b
adds-of_member problem scores member number a b f =
    AddsSearches-weaker problem (IsAskedFor problem scores (λ x. (x.member ≡ member) × (x.bid < number))) (IsAskedFor problem scores (λ x. x.member ≡ member)) a b
    (asked-weaker problem scores (λ x. (x.member ≡ member) × (x.bid < number)) (λ x. x.member ≡ member) (λ x h. h.0)) f

-- a member more
pub adds-member : (problem : Problem) (scores : List ℕ) (member : ℕ) (a b c : Book)
    → AddsSearches problem (IsAskedFor problem scores (λ x. x.member < member)) a b
    → AddsSearches problem (IsAskedFor problem scores (λ x. x.member ≡ member)) b c
    → AddsSearches problem (IsAskedFor problem scores (λ x. x.member < member + 1)) a c
adds-member problem scores member a b c f g =
    AddsSearches-then problem (IsAskedFor problem scores (λ x. x.member < member)) (IsAskedFor problem scores (λ x. x.member ≡ member)) (IsAskedFor problem scores (λ x. x.member < member + 1)) a b c
    (asked-weaker problem scores (λ x. x.member < member) (λ x. x.member < member + 1) (λ x h. omega (arith, h)))
    (asked-weaker problem scores (λ x. x.member ≡ member) (λ x. x.member < member + 1) (λ x h. omega (arith, h)))
    (asked-apart problem scores (λ x. x.member < member) (λ x. x.member ≡ member) (λ x h e. omega (arith, h, e)))
    f g

-- all these goals are goals of a run
pub asked_bid_goal : (problem : Problem) (roster : List (List ℕ)) (scores : List ℕ) (P : BidRef → Type 0) → IsComplete problem roster → IsGreatest problem roster
    → scores ≡ scores_of problem roster → (g : Goal) → IsAskedFor problem scores P g → IsBidGoal problem g
asked_bid_goal problem roster scores P complete greatest e g h =
    let within : length (take h.place (scores_of problem roster)) ≤ length problem.base.members =
    omega (arith, length-take-most h.place (scores_of problem roster), length-scores problem roster) in
    record {
      before = take h.place (scores_of problem roster);
      bid = h.bid;
      greatest = greatest-first problem roster h.place complete greatest h.within;
      places = within;
      known = h.known;
      is = h.is ∙ ap (λ (xs : List ℕ). granting xs h.place h.bid) e;
    }
  where
    length-take-most : (k : ℕ) (xs : List ℕ) → length (take k xs) ≤ length xs
    length-take-most zero xs = omega arith
    length-take-most (suc k) [] = omega arith
    length-take-most (suc k) (x ∷ xs) = omega (arith, length-take-most k xs)

pub adds-bid_goals : (problem : Problem) (roster : List (List ℕ)) (scores : List ℕ) (P : BidRef → Type 0) (a b : Book) → IsComplete problem roster → IsGreatest problem roster
    → scores ≡ scores_of problem roster → AddsSearches problem (IsAskedFor problem scores P) a b → AddsSearches problem (IsBidGoal problem) a b
adds-bid_goals problem roster scores P a b complete greatest e f =
    AddsSearches-weaker problem (IsAskedFor problem scores P) (IsBidGoal problem) a b (asked_bid_goal problem roster scores P complete greatest e) f

-- a lawful ledger whose goals grant no bid stays lawful
pub stays_lawful : (problem : Problem) (a b : Book) → AddsSearches problem (IsBidGoal problem) a b → IsLawfulBook problem a
    → All (λ goal. goal.grant ≡ None) a.goals → IsLawfulBook problem b
stays_lawful problem a b f was free =
    lawful-more problem (λ g. g.grant ≡ None) (IsBidGoal problem) a b (λ g h. inr (inr h)) grants_none free was f
  where
    grants_none : (g g' : Goal) → g.grant ≡ None → IsBidGoal problem g' → g ≢ g'
    grants_none g g' none h same =
        let some : None ≡ Some h.bid = sym none ∙ ap (λ (x : Goal). x.grant) same ∙ ap (λ (x : Goal). x.grant) h.is in cc

-- how many searches there are
times-next : (n k : ℕ) → (n + 1) * k ≡ n * k + k
times-next n k = grind arith

times-sum : (m n k : ℕ) → (m + n) * k ≡ m * k + n * k
times-sum m n k = grind arith

times-le : (m n k : ℕ) → m ≤ n → m * k ≤ n * k
times-le m n k le = mul-le-mul_right k le

pub takes-bid : (problem : Problem) (number : ℕ) (a b c : Book) → TakesSearches problem (bid_searches problem number) a b
    → TakesSearches problem (length problem.base.members + 1) b c → TakesSearches problem (bid_searches problem (number + 1)) a c
takes-bid problem number a b c f g =
    let each = length problem.base.members + 1 in
    subst (λ (n : ℕ). TakesSearches problem n a c) (sym (times-next number each))
    (TakesSearches-then problem (number * each) each a b c f g)

pub takes-most : (problem : Problem) (m n : ℕ) (a b : Book) → m ≤ n → TakesSearches problem (bid_searches problem m) a b
    → TakesSearches problem (bid_searches problem n) a b
takes-most problem m n a b le f =
    let each = length problem.base.members + 1 in
    TakesSearches-weaker problem (m * each) (n * each) a b (times-le m n each le) f

bids_below-more : (problem : Problem) (member : ℕ) → member < length problem.base.members
    → bids_below problem (member + 1) ≡ bids_below problem member + length (bids_of problem member)
unfolding bids_below
bids_below-more problem member lt =
    let inside : member < length problem.bids = omega (arith, lt, problem.valid.lists) in
    let count : List Bid → ℕ = λ bids. length bids in
    ap (sum_by count) (take_more problem.bids member [] inside)
    ∙ sum_by-append count (take member problem.bids) (get_or problem.bids member [] ∷ [])
    ∙ ap (λ (n : ℕ). sum_by count (take member problem.bids) + n) (one (get_or problem.bids member []))
    ∙ ap (λ (xs : List Bid). sum_by count (take member problem.bids) + length xs) (sym (unwrap_or-slice_get problem.bids member []))
  where
    one : (xs : List Bid) → sum_by (λ (bids : List Bid). length bids) (xs ∷ []) ≡ length xs
    one xs = omega arith

pub takes-member : (problem : Problem) (member : ℕ) (a b c : Book) → member < length problem.base.members
    → TakesSearches problem (bid_searches problem (bids_below problem member)) a b
    → TakesSearches problem (bid_searches problem (length (bids_of problem member))) b c
    → TakesSearches problem (bid_searches problem (bids_below problem (member + 1))) a c
takes-member problem member a b c lt f g =
    let each = length problem.base.members + 1 in
    let count : bid_searches problem (bids_below problem (member + 1)) ≡ bid_searches problem (bids_below problem member) + bid_searches problem (length (bids_of problem member)) =
    ap (λ (n : ℕ). n * each) (bids_below-more problem member lt) ∙ times-sum (bids_below problem member) (length (bids_of problem member)) each in
    subst (λ (n : ℕ). TakesSearches problem n a c) (sym count)
    (TakesSearches-then problem (bid_searches problem (bids_below problem member)) (bid_searches problem (length (bids_of problem member))) a b c f g)

-- the first members have no more bids than all
bids_below-le : (lists : List (List Bid)) (k : ℕ) → sum_by (λ bids. length bids) (take k lists) ≤ sum_by (λ bids. length bids) lists
bids_below-le lists zero = omega arith
bids_below-le [] (suc k) = omega arith
bids_below-le (x ∷ xs) (suc k) =
    omega (arith, sum_by-cons (λ (bids : List Bid). length bids) x (take k xs), sum_by-cons (λ (bids : List Bid). length bids) x xs, bids_below-le xs k)

pub below_count : (problem : Problem) (member : ℕ) → bids_below problem member ≤ bid_count problem
unfolding bids_below bid_count
below_count problem member = bids_below-le problem.bids member

-- there are few bids, and few searches for them
pub few_bids : (lists : List (List Bid)) (m : ℕ) → All (λ list. length list ≤ 64) lists → length (unwrap_or (slice_get lists m) []) ≤ 64
few_bids [] m few = omega arith
few_bids (x ∷ xs) zero few = All-head (λ (list : List Bid). length list ≤ 64) x xs few
few_bids (x ∷ xs) (suc m) few = few_bids xs m (All-tail (λ (list : List Bid). length list ≤ 64) x xs few)

pub few_all : (problem : Problem) → bid_count problem ≤ 12800
unfolding bid_count
few_all problem =
    let most : length problem.base.members ≤ 200 = problem.valid.month.members_form.few in
    omega (arith, sum_by-le (λ (bids : List Bid). length bids) 64 problem.bids problem.valid.few_bids, problem.valid.lists, most)

pub few_searches : (problem : Problem) (bids : ℕ) → bids ≤ 12800 → bid_searches problem bids ≤ 2572800
few_searches problem bids le =
    let most : length problem.base.members ≤ 200 = problem.valid.month.members_form.few in
    omega (arith, mul-le-mul_right (length problem.base.members + 1) le)

-- there was room for all of them
pub not_full : (problem : Problem) (a b : Book) → TakesSearches problem (bid_searches problem (bid_count problem)) a b → b.cap ≡ a.cap
    → FitsDenials problem a → length b.entries ≢ b.cap
not_full problem a b f cap room =
    let bids = bid_count problem in
    let n = length problem.base.members in
    let each = 2 ^ pairs_of problem in
    let wider : bids * (n + 1) ≤ bids * (n + 2) = mul-le-mul_left bids (omega arith) in
    let more : bids * (n + 1) * each ≤ bids * (n + 2) * each = mul-le-mul_right each wider in
    room-left problem (bid_searches problem bids) a b f cap (omega (arith, room, more))

-- the bids of a member, as they are read
pub bids_read : (problem : Problem) (member : ℕ) (lists : List (List Bid)) (list slice : List Bid) → member < length problem.base.members
    → lists ≡ problem.bids → list ≡ get_or lists member list → slice ≡ list → slice ≡ bids_of problem member
bids_read problem member lists list slice known e is same =
    let count : length lists ≡ length problem.base.members = ap (λ (xs : List (List Bid)). length xs) e ∙ problem.valid.lists in
    same
    ∙ get_or_read lists member list (omega (arith, known, count)) is []
    ∙ ap (λ (xs : List (List Bid)). get_or xs member []) e
    ∙ sym (unwrap_or-slice_get problem.bids member [])

pub count_read : (problem : Problem) (member : ℕ) (lists : List (List Bid)) (list slice : List Bid) → member < length problem.base.members
    → lists ≡ problem.bids → list ≡ get_or lists member list → slice ≡ list → length slice ≡ length (bids_of problem member)
count_read problem member lists list slice known e is same =
    ap (λ (xs : List Bid). length xs) (bids_read problem member lists list slice known e is same)

pub few_of_member : (problem : Problem) (member : ℕ) → length (bids_of problem member) ≤ 64
few_of_member problem member = few_bids problem.bids member problem.valid.few_bids

-- the searches for a further bid of the member, all of the member's bids at most
pub takes-of_member : (problem : Problem) (member number : ℕ) (a b c : Book) → number < length (bids_of problem member)
    → TakesSearches problem (bid_searches problem number) a b → TakesSearches problem (length problem.base.members + 1) b c
    → TakesSearches problem (bid_searches problem (length (bids_of problem member))) a c
takes-of_member problem member number a b c lt f g =
    takes-most problem (number + 1) (length (bids_of problem member)) a c (omega arith) (takes-bid problem number a b c f g)

-- the searches for a further member, all of the problem's bids at most
pub takes-of_all : (problem : Problem) (member : ℕ) (a b c : Book) → member < length problem.base.members
    → TakesSearches problem (bid_searches problem (bids_below problem member)) a b
    → TakesSearches problem (bid_searches problem (length (bids_of problem member))) b c
    → TakesSearches problem (bid_searches problem (bid_count problem)) a c
takes-of_all problem member a b c lt f g =
    takes-most problem (bids_below problem (member + 1)) (bid_count problem) a c (below_count problem (member + 1)) (takes-member problem member a b c lt f g)

no-times : (k : ℕ) → 0 * k ≡ 0
no-times k = grind arith

-- no search at first
pub takes-none : (problem : Problem) (a : Book) → TakesSearches problem (bid_searches problem 0) a a
takes-none problem a =
    subst (λ (n : ℕ). TakesSearches problem n a a) (sym (no-times (length problem.base.members + 1))) (TakesSearches-none problem a)

none_below : (problem : Problem) → bids_below problem 0 ≡ 0
unfolding bids_below
none_below problem = refl

pub takes-none_below : (problem : Problem) (a : Book) → TakesSearches problem (bid_searches problem (bids_below problem 0)) a a
takes-none_below problem a =
    subst (λ (n : ℕ). TakesSearches problem (bid_searches problem n) a a) (sym (none_below problem)) (takes-none problem a)

-- all members at most
pub adds-of_all : (problem : Problem) (scores : List ℕ) (member : ℕ) (a b : Book) → member ≤ length problem.base.members
    → AddsSearches problem (IsAskedFor problem scores (λ x. x.member < member)) a b
    → AddsSearches problem (IsAskedFor problem scores (λ x. x.member < length problem.base.members)) a b
adds-of_all problem scores member a b le f =
    AddsSearches-weaker problem (IsAskedFor problem scores (λ x. x.member < member)) (IsAskedFor problem scores (λ x. x.member < length problem.base.members)) a b
    (asked-weaker problem scores (λ x. x.member < member) (λ x. x.member < length problem.base.members) (λ x h. omega (arith, h, le))) f

pub takes-all : (problem : Problem) (member : ℕ) (a b : Book) → TakesSearches problem (bid_searches problem (bids_below problem member)) a b
    → TakesSearches problem (bid_searches problem (bid_count problem)) a b
takes-all problem member a b f = takes-most problem (bids_below problem member) (bid_count problem) a b (below_count problem member) f

-- the lines of a complete roster name pairings of the problem
pub complete_in_range : (problem : Problem) (roster : List (List ℕ)) → IsComplete problem roster → All (All (λ p. p < length problem.base.pairings)) roster
complete_in_range problem roster is k d lt =
    let legal = is.legal k (omega (arith, is.lines, lt)) in
    subst (λ (line : List ℕ). All (λ p. p < length problem.base.pairings) line) (get_or_default roster k [] d lt) legal.in_range
