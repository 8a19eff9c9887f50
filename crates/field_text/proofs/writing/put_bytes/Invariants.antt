use Rattle.std.proofs.Common.{◌≡◌, ◌++◌, take}
use Rattle.field_text.proofs.writing.put_bytes.Given as goal

abbrev pub invariant-loop-b : goal.invariant-loop-b
invariant-loop-b l = l.out ≡ l.fn.out ++ take l.b-index l.bytes
