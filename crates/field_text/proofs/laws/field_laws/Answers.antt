use Rattle.field_text.proofs.Again.{number-again, minutes-again}
use Rattle.field_text.proofs.FieldsAgain.{name-again, station-again, kind-again}
use Rattle.field_text.proofs.MomentAgain.{moment-read}
use Rattle.field_text.proofs.laws.field_laws.Goals as goal

pub returns : goal.returns
returns c =
    record { number = number-again; minutes = minutes-again; moment = moment-read; name = name-again; station = station-again; kind = kind-again }
