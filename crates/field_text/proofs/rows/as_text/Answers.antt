use Rattle.std.proofs.Common.{sym, refl}
use Rattle.csv.specs.Records.{fields_of}
use Rattle.field_text.proofs.TextRows.{list_all-AllText, not-AllText}
use Rattle.field_text.proofs.rows.as_text.Goals as goal

pub returns-in-Ok : goal.returns-in-Ok
returns-in-Ok c = record {
  fields = c.in-Ok.ensures.same;
  utf8 = sym (list_all-AllText (fields_of c.args.row) (rw c.in-Ok.ensures.same at c.in-Ok.ensures.text));
  fault = tt;
}

pub returns : goal.returns
returns c = record {
  fields = tt;
  utf8 = sym (not-AllText (fields_of c.args.row) (λ a. let e = c.in-Err.ensures.refused a in cc));
  fault = refl;
}
