use Rattle.std.proofs.Common.{refl}
use Rattle.std.proofs.lemmas.Result.{on_err_weaker}
use Rattle.bid_language.specs.Spelling.{filter_text}
use Rattle.field_text.proofs.Prefixes.{partly_back}
use Rattle.bid_language.proofs.printing.put_kept.Goals as goal

pub returns-clause-partly : goal.returns-clause-partly
returns-clause-partly c =
    on_err_weaker c.put_filter.result
    (λ h. partly_back c.args.out.now c.args.front.now (filter_text c.args.pairings.now c.args.atoms.now) (filter_text c.args.pairings.now c.args.atoms.now) c.put_bytes.new.out c.put_filter.new.out refl c.in_ok-put_bytes.ensures.whole h)
    c.put_filter.ensures.partly
