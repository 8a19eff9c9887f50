use Rattle.std.proofs.Common.{◌≡◌, length, drop, map}
use Rattle.csv.specs.Records.{fields_of}
use Rattle.field_text.specs.Rows.{same_record}
use Rattle.pairing_files.proofs.files.has_fields.Given as goal

abbrev pub invariant-loop-i : goal.invariant-loop-i
invariant-loop-i l = record {
  lengths : length (fields_of l.row) ≡ length l.header;
  same : same_record (drop l.i (fields_of l.row)) (drop l.i (map (λ f. f.now) l.header)) ≡ same_record (fields_of l.row) (map (λ f. f.now) l.header);
}
