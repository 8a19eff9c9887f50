use Rattle.std.proofs.Common.{refl, ◌∷◌}
use Rattle.std.proofs.lemmas.Result.{on_err_weaker}
use Rattle.field_text.specs.Spelling.{number_text}
use Rattle.bid_language.specs.Spelling.{bid_text, wish_text}
use Rattle.field_text.proofs.Prefixes.{partly_back}
use Rattle.bid_language.proofs.printing.put_text.Goals as goal

pub returns-clause-partly : goal.returns-clause-partly
unfolding bid_text
returns-clause-partly c =
    on_err_weaker c.put_behind.result
    (λ h. partly_back c.args.out.now (number_text c.args.bid.now.weight) (32 ∷ wish_text c.args.base.now c.args.bid.now.wish) (32 ∷ wish_text c.args.base.now c.args.bid.now.wish) c.put_number.new.out c.put_behind.new.out refl c.in_ok-put_number.ensures.whole h)
    c.put_behind.ensures.partly
