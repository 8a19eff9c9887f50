use Rattle.std.proofs.Common.{◌/◌, ◌%◌, ◌∷◌}
use Rattle.std.proofs.lemmas.Result.{on_err_weaker}
use Rattle.std.specs.Prelude.{decimal}
use Rattle.field_text.specs.Spelling.{two}
use Rattle.field_text.proofs.Again.{minutes-again}
use Rattle.field_text.proofs.Prefixes.{partly_back}
use Rattle.field_text.proofs.writing.put_minutes.Goals as goal

pub returns-in_err-put_number-clause-again : goal.returns-in_err-put_number-clause-again
returns-in_err-put_number-clause-again c = minutes-again c.args.value

pub returns-clause-again : goal.returns-clause-again
returns-clause-again c = minutes-again c.args.value

pub returns-clause-partly : goal.returns-clause-partly
returns-clause-partly c =
    on_err_weaker c.put_bytes.result
    (λ h. partly_back c.args.out.now (decimal (c.args.value / 60)) (58 ∷ two (c.args.value % 60)) c.minutes_end.result c.put_number.new.out c.put_bytes.new.out c.minutes_end.ensures.value c.in_ok-put_number.ensures.whole h)
    c.put_bytes.ensures.partly
