use Rattle.std.proofs.Common.{◌≡◌, ℕ, List, [], ◌∷◌, ◌++◌, subst, sym}
use Rattle.std.specs.Prelude.{All}
use Rattle.std.proofs.lemmas.List.Elements.{All-push}
use Rattle.std.proofs.lemmas.Result.{IfOk-weaker}
use Rattle.duty_calendar.specs.declared.horizon.Horizon.{Horizon}
use Rattle.roster_model.specs.declared.bid.Bid.{Bid}
use Rattle.roster_model.specs.Valid.{IsBid}
use Rattle.line_tests.proofs.whole_lines.more.Goals as goal

pub returns-clause-form : goal.returns-clause-form
returns-clause-form c =
    let form : (list : List Bid) → list ≡ c.args.list ++ c.args.bid ∷ [] → (h : Horizon) (n : ℕ) → All (IsBid h n) list =
    λ list is h n. subst (All (IsBid h n)) (sym is) (All-push (IsBid h n) c.args.list c.args.bid (c.requires.list h n) (c.requires.bid h n)) in
    IfOk-weaker _ _ _ form c.with.ensures.added
