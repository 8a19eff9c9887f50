-- What the award of a month comes to, from what the loop over places and the explanation answer.
use Rattle.std.proofs.Common.{◌≡◌, ℕ, ◌+◌, ◌-◌, ◌*◌, ◌^◌, ◌<◌, ◌≤◌, List, [], length, take, refl, ap, ◌∙◌, arith, mul-le-mul_left}
use Rattle.std.specs.Prelude.{All, None}
use Rattle.roster_model.specs.declared.problem.Problem.{Problem}
use Rattle.roster_model.specs.declared.goal.Goal.{Goal}
use Rattle.roster_model.specs.declared.proof.Item.{Item}
use Rattle.roster_model.specs.declared.award.Denial.{Denial}
use Rattle.roster_model.specs.declared.award.Shown.{Shown}
use Rattle.roster_model.specs.declared.award.Certificate.TheVariants as form
use Rattle.roster_model.specs.Rosters.{scores_of}
use Rattle.roster_model.specs.Awards.{IsBest, above_at, no_goal}
use Rattle.roster_model.specs.Lawful.{AreGreatest, IsBidGoal, most_searches, bid_count}
use Rattle.roster_model.specs.Ledgers.{pairs_of}
use Rattle.roster_model.specs.Splits.{splits_in, all_splits, shown_splits}
use Rattle.roster_model.proofs.Bounds.{total_bids-bound}
use Rattle.roster_model.proofs.Greatest.{best-greatest}
use Rattle.roster_model.proofs.Seniority.{greatest-first}
use Rattle.branch_log.specs.Book.{Book, IsLawfulBook}
use Rattle.completion_search.specs.Added.{AddsSearches, TakesSearches}
use Rattle.completion_search.specs.Found.{IsFull}
use Rattle.award_loop.specs.Outcomes.{IsAward, IsAwardGoal, IsNone, FitsAward, place_searches}
use Rattle.denials.specs.Explained.{FitsDenials, IsExplained}
use Rattle.month_award.specs.Months.{IsLedgerOf, IsFullLedger, IsAwardedMonth, IsUnfillableMonth}
use Rattle.month_award.specs.Runs.{IsRun, HasAwarded}
use Rattle.month_award.proofs.Closings.{AreTidy, closing-tidy}
use Rattle.month_award.proofs.Reasons.{few-reasons}
use Rattle.month_award.proofs.Parts.{parts-tidy}
use Rattle.month_award.proofs.Certificates.{award-writable, none-writable}

-- the first scores of a best roster are the greatest
pub best-first : (problem : Problem) (roster : List (List ℕ)) (proofs : List (List Item)) → IsBest problem roster proofs
    → (k : ℕ) → k ≤ length problem.base.members → AreGreatest problem (take k (scores_of problem roster))
best-first problem roster proofs best k few = greatest-first problem roster k best.complete (best-greatest problem roster proofs best) few

run-ledger : (problem : Problem) (nodes : ℕ) (book : Book) → IsRun problem book → book.cap ≡ nodes → IsLedgerOf problem nodes book
run-ledger problem nodes book run cap = record { cap = cap; rounds = run.rounds; lawful = run.lawful }

-- the loop over places is run over an empty ledger of 400 rounds
module _ (problem : Problem) (nodes : ℕ) (before after : Book)
    (made : before ≡ record { cap = nodes; rounds = 400; goals = []; entries = [] })
    (adds : AddsSearches problem (IsAwardGoal problem) before after) (takes : TakesSearches problem (place_searches problem) before after) where
  pub no-goals : before.goals ≡ []
  no-goals = ap (λ (b : Book). b.goals) made

  pub same-cap : after.cap ≡ nodes
  same-cap = adds.cap ∙ ap (λ (b : Book). b.cap) made

  none-before : length before.entries ≡ 0
  none-before = ap (λ (b : Book). length b.entries) made

  pub award-run : nodes ≤ 20000 → (before.goals ≡ [] → IsLawfulBook problem after) → IsRun problem after
  award-run few lawful =
      let none : length before.goals ≡ 0 = ap (λ (b : Book). length b.goals) made in
      record {
        few = omega (arith, few, same-cap);
        rounds = adds.rounds ∙ ap (λ (b : Book). b.rounds) made;
        searches = omega (arith, takes.goals, none, total_bids-bound problem, problem.valid.month.members_form.few);
        lawful = lawful no-goals;
      }

  pub has-awarded : (roster : List (List ℕ)) (proofs : List (List Item)) → IsRun problem after
      → (before.goals ≡ [] → All (λ (g : Goal). g.grant ≡ None) after.goals) → IsAward problem after roster proofs
      → all_splits proofs + length before.entries ≤ length after.entries → HasAwarded problem after roster proofs
  has-awarded roster proofs run no_bid award short = record {
    run = run;
    room = award.room;
    no_bid = no_bid no-goals;
    best = award.best;
    short = omega (arith, short, none-before);
  }

  pub unfillable-month : (proof : List Item) → IsRun problem after → IsNone problem after proof → splits_in proof + length before.entries ≤ length after.entries
      → IsUnfillableMonth problem nodes (record { certificate = form.NoRoster proof; ledger = after })
  unfillable-month proof run none short = record {
    proof = proof;
    of_none = refl;
    closes = none.closes;
    writable = none-writable proof (closing-tidy problem no_goal [] proof none.closes) (omega (arith, short, none.room, run.few));
    ledger = run-ledger problem nodes after run same-cap;
    room = omega (arith, none.room, same-cap);
    splits = omega (arith, short);
  }

  pub full-month : IsRun problem after → IsFull after → IsFullLedger problem nodes after
  full-month run full = record { is = run-ledger problem nodes after run same-cap; full = full }

  more-room : (p q t : ℕ) → (p + q) * t < nodes → p * t + q * t < nodes
  more-room p q t room = omega (arith, room)

  room-parts : most_searches problem * 2 ^ pairs_of problem < nodes
      → place_searches problem * 2 ^ pairs_of problem + bid_count problem * (length problem.base.members + 2) * 2 ^ pairs_of problem < nodes
  room-parts room = more-room (place_searches problem) (bid_count problem * (length problem.base.members + 2)) (2 ^ pairs_of problem) room

  -- what is enough for both fits the explanation, and the award
  pub denials-fit : most_searches problem * 2 ^ pairs_of problem < nodes → FitsDenials problem after
  denials-fit room =
      let fewer : place_searches problem * (2 ^ pairs_of problem - 1) ≤ place_searches problem * 2 ^ pairs_of problem =
      mul-le-mul_left (place_searches problem) (omega arith) in
      omega (arith, room-parts room, fewer, takes.entries, none-before, same-cap)

-- an award that is run over an empty ledger fits
pub award-fits : (problem : Problem) (nodes : ℕ) (before : Book) → before ≡ record { cap = nodes; rounds = 400; goals = []; entries = [] }
    → most_searches problem * 2 ^ pairs_of problem < nodes → FitsAward problem before
award-fits problem nodes before made room =
    let none : length before.entries ≡ 0 = ap (λ (b : Book). length b.entries) made in
    let cap : before.cap ≡ nodes = ap (λ (b : Book). b.cap) made in
    let both : (p q t : ℕ) → (p + q) * t < nodes → p * t < nodes = λ p q t lt. omega (arith, lt) in
    omega (
      arith,
      none,
      cap,
      both (place_searches problem) (bid_count problem * (length problem.base.members + 2)) (2 ^ pairs_of problem) room,
    )

-- the denials are explained over the ledger of the award
module _ (problem : Problem) (roster : List (List ℕ)) (proofs : List (List Item)) (before after : Book)
    (awarded : HasAwarded problem before roster proofs) (adds : AddsSearches problem (IsBidGoal problem) before after)
    (rounds : after.rounds ≡ 400) (lawful : IsLawfulBook problem after) where
  same-ledger : IsLedgerOf problem before.cap after
  same-ledger = record { cap = adds.cap; rounds = rounds; lawful = lawful }

  pub spent-month : IsFull after → IsFullLedger problem before.cap after
  spent-month full = record { is = same-ledger; full = full }

  pub awarded-month : (reasons : List Denial) (shown : List Shown) → IsExplained problem roster after reasons shown
      → shown_splits shown + length before.entries ≤ length after.entries
      → IsAwardedMonth problem before.cap
      (record { certificate = form.Award (record { proofs = proofs; shown = shown }); roster = roster; reasons = reasons; ledger = after })
  awarded-month reasons shown said short =
      let tidy : AreTidy proofs = λ k proof here. closing-tidy problem (above_at (scores_of problem roster) k) [] proof (awarded.best.places k proof here) in
      let few = few-reasons problem roster reasons said.fit.listed in
      let places : length proofs ≤ 200 = omega (arith, awarded.best.count, problem.valid.month.members_form.few) in
      let splits : all_splits proofs + shown_splits shown ≤ length after.entries = omega (arith, short, awarded.short) in
      record {
        awarded = record { proofs = proofs; shown = shown };
        of_award = refl;
        accepted = record { best = awarded.best; denials = said.fit };
        few = few;
        writable = award-writable proofs shown tidy (parts-tidy problem roster reasons shown said.fit) places (omega (arith, few, said.fit.count)) (omega (arith, splits, said.room, adds.cap, awarded.run.few));
        ledger = same-ledger;
        room = omega (arith, said.room, adds.cap);
        splits = splits;
      }
