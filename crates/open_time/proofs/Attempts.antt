-- What one number of vacant lines comes to, from what the award and the explanation answer.
use Rattle.std.proofs.Common.{◌≡◌, ℕ, ◌+◌, ◌≤◌, List, [], length, None, sym, ap, subst, ◌∙◌, arith}
use Rattle.std.specs.Prelude.{All}
use Rattle.roster_model.specs.declared.award.Denial.{Denial}
use Rattle.roster_model.specs.declared.award.Shown.{Shown}
use Rattle.roster_model.specs.declared.goal.Goal.{Goal}
use Rattle.roster_model.specs.declared.problem.Problem.{Problem}
use Rattle.roster_model.specs.declared.proof.Item.{Item}
use Rattle.roster_model.specs.Awards.{above_at}
use Rattle.roster_model.specs.Closing.{Closes}
use Rattle.roster_model.specs.Rosters.{IsComplete, scores_of}
use Rattle.roster_model.specs.Splits.{splits_in, all_splits, shown_splits}
use Rattle.roster_model.proofs.Bounds.{total_bids-bound}
use Rattle.branch_log.specs.Book.{Book, IsLawfulBook}
use Rattle.completion_search.specs.Added.{TakesSearches}
use Rattle.award_loop.specs.Outcomes.{IsAward, IsNone, place_searches}
use Rattle.denials.specs.Explained.{IsExplained}
use Rattle.open_time.specs.Moves.{IsSettled}
use Rattle.open_time.specs.Tries.{HasAwarded, IsRunOf, IsTriedAward, IsTriedNone}

-- over a ledger that was empty
module _ (problem : Problem) (before after : Book) (unused : before.goals ≡ []) (empty : before.entries ≡ [])
    (takes : TakesSearches problem (place_searches problem) before after) where
  none_before : length before.entries ≡ 0
  none_before = ap (λ es. length es) empty

  pub has_awarded : (roster : List (List ℕ)) (proofs : List (List Item)) → (before.goals ≡ [] → IsLawfulBook problem after)
      → (before.goals ≡ [] → All (λ (g : Goal). g.grant ≡ None) after.goals) → IsAward problem after roster proofs
      → all_splits proofs + length before.entries ≤ length after.entries → HasAwarded problem after roster proofs
  has_awarded roster proofs lawful no_bid award short =
      let none : length before.goals ≡ 0 = ap (λ (gs : List Goal). length gs) unused in
      record {
        searches = omega (arith, takes.goals, none, total_bids-bound problem, problem.valid.month.members_form.few);
        lawful = lawful unused;
        no_bid = no_bid unused;
        room = award.room;
        best = award.best;
        short = omega (arith, short, none_before);
      }

  pub tried_none : (proof : List Item) → IsNone problem after proof → splits_in proof + length before.entries ≤ length after.entries
      → IsTriedNone problem after proof
  tried_none proof none short = record { room = none.room; closes = none.closes; splits = omega (arith, short, none_before) }

-- another complete roster of the same scores is as good an award
pub awarded_same : (problem : Problem) (book : Book) (roster made : List (List ℕ)) (proofs : List (List Item)) → HasAwarded problem book roster proofs
    → IsComplete problem made → scores_of problem made ≡ scores_of problem roster → HasAwarded problem book made proofs
awarded_same problem book roster made proofs awarded complete same = record {
  searches = awarded.searches;
  lawful = awarded.lawful;
  no_bid = awarded.no_bid;
  room = awarded.room;
  best = record {
    complete = complete;
    count = awarded.best.count;
    places = λ k proof at.
        subst (λ (scores : List ℕ). Closes problem (above_at scores k) [] proof) (sym same) (awarded.best.places k proof at);
  };
  short = awarded.short;
}

-- the reasons behind an award
pub tried_award : (problem : Problem) (crew : ℕ) (roster : List (List ℕ)) (proofs : List (List Item)) (before after : Book) (reasons : List Denial) (shown : List Shown)
    → HasAwarded problem before roster proofs → IsSettled problem crew roster → IsExplained problem roster after reasons shown
    → shown_splits shown + length before.entries ≤ length after.entries
    → IsTriedAward problem crew after roster (record { proofs = proofs; shown = shown }) reasons
tried_award problem crew roster proofs before after reasons shown awarded settled said short = record {
  room = said.room;
  accepted = record { best = awarded.best; denials = said.fit };
  settled = settled;
  splits = omega (arith, short, awarded.short);
}

-- a ledger that was new
pub run_of : (problem : Problem) (nodes : ℕ) (before after : Book) → before ≡ record { cap = nodes; rounds = 400; goals = []; entries = [] }
    → after.cap ≡ before.cap → after.rounds ≡ before.rounds → IsLawfulBook problem after → IsRunOf problem nodes after
run_of problem nodes before after made cap rounds lawful = record {
  cap = cap ∙ ap (λ (b : Book). b.cap) made;
  rounds = rounds ∙ ap (λ (b : Book). b.rounds) made;
  lawful = lawful;
}
