use Rattle.std.proofs.Common.{◌≡◌, ◌++◌, drop}
use Rattle.std.specs.List.{flat_map}
use Rattle.file_places.specs.Marks.{pad_byte}
use Rattle.file_places.proofs.marks.put_pads.Given as goal

abbrev pub invariant-loop-byte : goal.invariant-loop-byte
invariant-loop-byte l = l.out ++ flat_map pad_byte (drop l.byte-index l.before) ≡ l.fn.out ++ flat_map pad_byte l.before
