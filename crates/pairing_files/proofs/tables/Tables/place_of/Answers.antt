use Rattle.std.proofs.Common.{◌∙◌, ap, position, nat_eq}
use Rattle.std.specs.Cmp.Lexicographic.{pointwise}
use Rattle.duty_calendar.specs.declared.pairing.Pairing.{Pairing}
use Rattle.pairing_files.proofs.NameFacts.{position-map}
use Rattle.pairing_files.proofs.tables.Tables.place_of.Goals as goal

pub returns-clause-value : goal.returns-clause-value
returns-clause-value c =
    c.get_index_of.ensures.index
    ∙ ap (position (pointwise nat_eq c.args.name.now)) c.requires.named
    ∙ position-map (pointwise nat_eq c.args.name.now) (λ (p : Pairing). p.name) c.args.self.now.list
