-- The token that a reader is lent.
use Rattle.bid_language.specs.declared.words.Spot.{Spot as Lent}
use Rattle.bid_language.specs.Words.{Spot}

abbrev pub spot_seen : Lent → Spot
spot_seen s = record { column = s.column; text = s.text.now }
