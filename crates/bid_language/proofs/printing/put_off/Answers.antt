use Rattle.std.proofs.Common.{refl}
use Rattle.std.proofs.lemmas.Result.{on_err_weaker}
use Rattle.std.specs.Prelude.{codes, ◌++◌}
use Rattle.bid_language.specs.Spelling.{day_word, to_text}
use Rattle.field_text.proofs.Prefixes.{partly_back}
use Rattle.field_text.proofs.Prefixes.{on_err_is, partly_front}
use Rattle.bid_language.proofs.printing.put_off.Goals as goal

pub returns-clause-partly : goal.returns-clause-partly
returns-clause-partly c =
    on_err_weaker c.put_to.result
    (λ h. partly_back c.args.out.now (codes "off " ++ day_word c.args.horizon.now c.args.first) (to_text c.args.horizon.now c.args.first c.args.last) (to_text c.args.horizon.now c.args.first c.args.last) c.put_month_day.new.out c.put_to.new.out refl c.in_ok-put_month_day.ensures.whole h)
    c.put_to.ensures.partly

pub returns-in_err-put_month_day-clause-partly : goal.returns-in_err-put_month_day-clause-partly
returns-in_err-put_month_day-clause-partly c =
    on_err_is c.from_residual.result (partly_front c.args.out.now (codes "off " ++ day_word c.args.horizon.now c.args.first) (to_text c.args.horizon.now c.args.first c.args.last) c.put_month_day.new.out c.in_err-put_month_day.ensures.partly)
