use Rattle.std.proofs.Common.{◌≡◌, ◌++◌, drop, map}
use Rattle.file_places.specs.Marks.{shown_byte}
use Rattle.file_places.proofs.marks.put_shown.Given as goal

abbrev pub invariant-loop-byte : goal.invariant-loop-byte
invariant-loop-byte l = l.out ++ map shown_byte (drop l.byte-index l.text) ≡ l.fn.out ++ map shown_byte l.text
