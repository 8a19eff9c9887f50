use Rattle.std.proofs.Common.{refl}
use Rattle.std.proofs.lemmas.Result.{on_err_weaker}
use Rattle.field_text.specs.Spelling.{number_text}
use Rattle.field_text.proofs.Prefixes.{partly_back}
use Rattle.bid_language.proofs.writing.put_count.Goals as goal

pub returns-clause-partly : goal.returns-clause-partly
returns-clause-partly c =
    on_err_weaker c.put_number.result
    (λ h. partly_back c.args.out.now c.args.front.now (number_text c.args.value) (number_text c.args.value) c.put_bytes.new.out c.put_number.new.out refl c.in_ok-put_bytes.ensures.whole h)
    c.put_number.ensures.partly
