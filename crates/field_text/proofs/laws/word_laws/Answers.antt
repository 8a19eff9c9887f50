use Rattle.field_text.proofs.Spelled.{tokens-joined, tokens-last}
use Rattle.field_text.proofs.laws.word_laws.Goals as goal

pub returns : goal.returns
returns c = record { more = tokens-joined; last = tokens-last }
