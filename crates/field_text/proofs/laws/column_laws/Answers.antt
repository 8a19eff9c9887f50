use Rattle.std.proofs.Common.{refl}
use Rattle.field_text.proofs.ColumnLaws.{fits, stops}
use Rattle.field_text.proofs.laws.column_laws.Goals as goal

pub returns : goal.returns
returns c = record { live = refl; fits = fits; stops = stops }
