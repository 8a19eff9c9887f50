-- The ledger of an answer is one that there is.
use Rattle.std.proofs.Common.{◌≡◌, ℕ, ◌<◌, length, refl, sym, subst, ◌∙◌}
use Rattle.branch_log.specs.Book.{Book}
use Rattle.month_award.specs.Months.{IsLedgerOf}
use Rattle.month_commands.specs.Award.{SpendsBudget}
use Rattle.roster_model.specs.declared.problem.Problem.{Problem}
use Rattle.pbs_engine.specs.Ledgers.{IsCounted, IsSpent}

pub counted : (problem : Problem) (nodes : ℕ) (ledger own : Book) → ledger ≡ own → IsLedgerOf problem nodes own → length own.entries < nodes
    → IsCounted problem nodes (length ledger.entries)
counted problem nodes ledger own same is room =
    subst (λ (b : Book). IsCounted problem nodes (length b.entries)) (sym same)
    (record { ledger = record { book = own; is = is; counted = refl }; room = room })

pub all_spent : (problem : Problem) (nodes : ℕ) (ledger : Book) → SpendsBudget problem nodes ledger → length ledger.entries ≡ nodes
all_spent problem nodes ledger h = h.all.full ∙ h.all.is.cap

pub is_spent : (problem : Problem) (nodes : ℕ) (ledger : Book) → SpendsBudget problem nodes ledger → IsSpent problem nodes
is_spent problem nodes ledger h =
    record { ledger = record { book = ledger; is = h.all.is; counted = sym (all_spent problem nodes ledger h) }; few = h.few }
