use Rattle.std.proofs.Common.{refl}
use Rattle.std.proofs.lemmas.Result.{on_err_weaker}
use Rattle.field_text.proofs.Prefixes.{partly_back}
use Rattle.bid_language.proofs.writing.put_word.Goals as goal

pub returns-clause-partly : goal.returns-clause-partly
returns-clause-partly c =
    on_err_weaker c.put_bytes-2.result
    (λ h. partly_back c.args.out.now c.args.front.now c.args.word.now c.args.word.now c.put_bytes.new.out c.put_bytes-2.new.out refl c.in_ok-put_bytes.ensures.whole h)
    c.put_bytes-2.ensures.partly
