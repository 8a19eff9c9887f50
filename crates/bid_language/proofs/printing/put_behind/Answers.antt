use Rattle.std.proofs.Common.{refl}
use Rattle.std.proofs.lemmas.Result.{on_err_weaker}
use Rattle.std.specs.Prelude.{◌∷◌, []}
use Rattle.bid_language.specs.Spelling.{wish_text}
use Rattle.field_text.proofs.Prefixes.{partly_back}
use Rattle.bid_language.proofs.printing.put_behind.Goals as goal

pub returns-clause-partly : goal.returns-clause-partly
returns-clause-partly c =
    on_err_weaker c.put_wish.result
    (λ h. partly_back c.args.out.now (32 ∷ []) (wish_text c.args.base.now c.args.wish.now) (wish_text c.args.base.now c.args.wish.now) c.put_bytes.new.out c.put_wish.new.out refl c.in_ok-put_bytes.ensures.whole h)
    c.put_wish.ensures.partly
