use Rattle.std.proofs.Common.{refl}
use Rattle.std.proofs.lemmas.Result.{on_err_weaker}
use Rattle.std.specs.Prelude.{codes}
use Rattle.bid_language.specs.Spelling.{test_text}
use Rattle.field_text.proofs.Prefixes.{partly_back}
use Rattle.field_text.proofs.Prefixes.{on_err_is, partly_front}
use Rattle.bid_language.proofs.printing.put_opposite.Goals as goal

pub returns-clause-partly : goal.returns-clause-partly
returns-clause-partly c =
    on_err_weaker c.put_test.result
    (λ h. partly_back c.args.out.now (codes "not ") (test_text c.args.pairings.now c.args.test.now) (test_text c.args.pairings.now c.args.test.now) c.put_bytes.new.out c.put_test.new.out refl c.in_ok-put_bytes.ensures.whole h)
    c.put_test.ensures.partly

pub returns-in_err-put_bytes-clause-partly : goal.returns-in_err-put_bytes-clause-partly
returns-in_err-put_bytes-clause-partly c =
    on_err_is c.from_residual.result (partly_front c.args.out.now (codes "not ") (test_text c.args.pairings.now c.args.test.now) c.put_bytes.new.out c.in_err-put_bytes.ensures.partly)
