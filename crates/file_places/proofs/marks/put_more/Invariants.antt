use Rattle.std.proofs.Common.{◌≡◌, ◌++◌, drop}
use Rattle.std.specs.List.{flat_map}
use Rattle.file_places.specs.Marks.{caret_byte}
use Rattle.file_places.proofs.marks.put_more.Given as goal

abbrev pub invariant-loop-byte : goal.invariant-loop-byte
invariant-loop-byte l = l.out ++ flat_map caret_byte (drop l.byte-index l.rest) ≡ l.fn.out ++ flat_map caret_byte l.rest
