use Rattle.std.proofs.Common.{[], ◌∷◌, ◌++◌, ap, ◌∙◌, append_assoc}
use Rattle.shelf.specs.Logs.{Entries}
use Rattle.month_files.specs.Handing.{input_texts}
use Rattle.month_files.specs.Reading.{view_texts}
use Rattle.month_files.specs.FileNames.{name_of}
use Rattle.month_files.specs.declared.file.File.TheVariants.{Roster}
use Rattle.month_files.proofs.reading.read_seen.Goals as goal

pub returns-clause-logged : goal.returns-clause-logged
returns-clause-logged g c =
    c.in_ok-roster.ensures.logged ∙ ap (λ (l : Entries). l ++ (name_of Roster, c.in_ok-roster.roster.items) ∷ []) c.in_ok-texts.ensures.logged
    ∙ append_assoc _ (input_texts (view_texts c.in_ok-texts.texts)) ((name_of Roster, c.in_ok-roster.roster.items) ∷ [])
