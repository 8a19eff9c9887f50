use Rattle.std.proofs.Common.{◌≡◌, ◌≤◌, drop}
use Rattle.roster_text.specs.RowReading.{fields_from}
use Rattle.roster_text.proofs.reading.has_fields.Given as goal

abbrev pub invariant-loop-byte : goal.invariant-loop-byte
invariant-loop-byte l =
    (fields_from l.commas (drop l.byte-index l.bytes) ≡ fields_from 0 l.bytes) × (l.commas ≤ l.byte-index)
