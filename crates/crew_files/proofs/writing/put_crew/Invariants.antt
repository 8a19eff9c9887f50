use Rattle.std.proofs.Common.{◌≡◌, ◌++◌, drop, flat_map}
use Rattle.crew_files.specs.Texts.{crew_fields, crew_text}
use Rattle.field_text.specs.Rows.{line}
use Rattle.crew_files.proofs.writing.put_crew.Given as goal

abbrev pub invariant-loop-member : goal.invariant-loop-member
invariant-loop-member l = l.out ++ flat_map (λ m. line (crew_fields m)) (drop l.member-index l.list) ≡ crew_text l.list
