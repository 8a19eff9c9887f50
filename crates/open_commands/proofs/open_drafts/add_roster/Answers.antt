use Rattle.std.proofs.Common.{◌≤◌, ℕ, List, length, subst}
use Rattle.std.proofs.lemmas.Result.{on_ok_weaker}
use Rattle.open_commands.proofs.open_drafts.add_roster.Goals as goal

pub returns-clause-readable : goal.returns-clause-readable
returns-clause-readable c =
    on_ok_weaker c.add.result (λ added. record {
      form = c.print_roster.ensures.valid;
      fits = subst (λ (text : List ℕ). length text ≤ 67108864) c.in_ok-bytes.ensures.whole c.in_ok-bytes.ensures.short;
    }) c.add.ensures.ok
