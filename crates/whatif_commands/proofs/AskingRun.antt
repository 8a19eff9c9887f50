-- What the award once more comes to, over a ledger that was empty.
use Rattle.std.proofs.Common.{◌≡◌, ℕ, ◌<◌, List, [], ◌∷◌, length, ap, subst, ◌∙◌}
use Rattle.branch_log.specs.Book.{Book, IsLawfulBook}
use Rattle.award_loop.specs.Outcomes.{IsLaterGoal}
use Rattle.completion_search.specs.Added.{AddsSearches}
use Rattle.completion_search.specs.Found.{IsFull}
use Rattle.month_files.specs.declared.writing.Draft.{Draft}
use Rattle.roster_model.proofs.Greatest.{best-greatest}
use Rattle.roster_model.specs.Rosters.{scores_of}
use Rattle.roster_model.specs.declared.proof.Item.{Item}
use Rattle.what_if.specs.Again.{AreBehind, IsAwardAgain}
use Rattle.whatif_commands.specs.declared.question.Question.{Question}
use Rattle.whatif_commands.specs.Asking.{again_draft, IsReadableRoster, IsLaterLedger, FindsAgain, SpendsLater}

module _ (q : Question) (nodes : ℕ) (before after : Book) (made : before ≡ record { cap = nodes; rounds = 400; goals = []; entries = [] })
    (adds : AddsSearches q.other (IsLaterGoal q.other q.member) before after) (lawful : IsLawfulBook q.other after) (behind : AreBehind q.member after.goals) where
  same-cap : after.cap ≡ nodes
  same-cap = adds.cap ∙ ap (λ (b : Book). b.cap) made

  later-ledger : IsLaterLedger q.other q.member nodes after
  later-ledger = record {
    is = record { cap = same-cap; rounds = adds.rounds ∙ ap (λ (b : Book). b.rounds) made; lawful = lawful };
    behind = behind;
  }

  pub spends-later : IsFull after → SpendsLater q nodes after
  spends-later full = record { is = later-ledger; full = full }

  pub finds-again : (kept roster : List (List ℕ)) (proofs : List (List Item)) → IsAwardAgain q.problem q.other kept q.awarded.proofs q.member after roster proofs
      → (scores : List ℕ) (drafts : List Draft) → scores ≡ scores_of q.other roster → drafts ≡ again_draft q.other roster ∷ [] → IsReadableRoster q.other roster
      → FindsAgain q kept nodes (record { scores = scores; ledger = after; drafts = drafts })
  finds-again kept roster proofs found scores drafts scores_are drafts_are readable = record {
    roster = roster;
    proofs = proofs;
    best = found.best;
    greatest = best-greatest q.other roster proofs found.best;
    reuses = found.reuses;
    same = found.same;
    scores_are = scores_are;
    drafts_are = drafts_are;
    readable = readable;
    ledger = later-ledger;
    room = subst (λ (n : ℕ). length after.entries < n) same-cap found.room;
  }
