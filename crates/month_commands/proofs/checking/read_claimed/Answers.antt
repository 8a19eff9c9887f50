use Rattle.std.proofs.Common.{[], ◌∷◌, ◌++◌, ap, ◌∙◌, append_assoc}
use Rattle.shelf.specs.Logs.{Entries}
use Rattle.month_files.specs.FileNames.{name_of}
use Rattle.month_files.specs.declared.file.File.TheVariants.{Roster, Reasons}
use Rattle.month_commands.proofs.checking.read_claimed.Goals as goal

pub returns-clause-logged : goal.returns-clause-logged
returns-clause-logged g c =
    c.in_ok-reasons.ensures.logged ∙ ap (λ (l : Entries). l ++ (name_of Reasons, c.in_ok-reasons.reasons.items) ∷ []) c.in_ok-roster.ensures.logged
    ∙ append_assoc _ ((name_of Roster, c.in_ok-roster.roster.items) ∷ []) ((name_of Reasons, c.in_ok-reasons.reasons.items) ∷ [])
