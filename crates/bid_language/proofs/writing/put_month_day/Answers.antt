use Rattle.std.proofs.Common.{refl}
use Rattle.std.proofs.lemmas.Result.{on_err_weaker}
use Rattle.bid_language.specs.Spelling.{day_word}
use Rattle.field_text.proofs.Prefixes.{partly_back}
use Rattle.bid_language.proofs.writing.put_month_day.Goals as goal

pub returns-clause-partly : goal.returns-clause-partly
returns-clause-partly c =
    on_err_weaker c.put_date.result
    (λ h. partly_back c.args.out.now c.args.front.now (day_word c.args.horizon.now c.args.day) (day_word c.args.horizon.now c.args.day) c.put_bytes.new.out c.put_date.new.out refl c.in_ok-put_bytes.ensures.whole h)
    c.put_date.ensures.partly
