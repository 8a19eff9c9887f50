use Rattle.std.proofs.Common.{◌≡◌, ◌++◌, ◌∷◌, drop}
use Rattle.std.specs.List.{flat_map}
use Rattle.roster_text.specs.MonthText.{mark_word}
use Rattle.roster_text.proofs.month.put_others.Given as goal

abbrev pub invariant-loop-entry : goal.invariant-loop-entry
invariant-loop-entry l =
    l.out ++ flat_map (λ e. 32 ∷ mark_word l.problem e.mark) (drop l.entry-index l.entries)
    ≡ l.fn.out ++ flat_map (λ e. 32 ∷ mark_word l.problem e.mark) l.entries
