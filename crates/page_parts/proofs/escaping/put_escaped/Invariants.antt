use Rattle.std.proofs.Common.{◌≡◌, ◌++◌, drop}
use Rattle.std.specs.List.{flat_map}
use Rattle.page_parts.specs.Escaping.{escaped_byte}
use Rattle.page_parts.proofs.escaping.put_escaped.Given as goal

abbrev pub invariant-loop-byte : goal.invariant-loop-byte
invariant-loop-byte l = l.out ++ flat_map escaped_byte (drop l.byte-index l.text) ≡ l.fn.out ++ flat_map escaped_byte l.text
