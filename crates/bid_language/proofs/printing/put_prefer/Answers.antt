use Rattle.std.proofs.Common.{refl}
use Rattle.std.proofs.lemmas.Result.{on_err_weaker}
use Rattle.std.specs.Prelude.{codes, ◌++◌, ◌∷◌}
use Rattle.field_text.specs.Spelling.{number_text}
use Rattle.bid_language.specs.Spelling.{filter_text}
use Rattle.field_text.proofs.Prefixes.{partly_back}
use Rattle.field_text.proofs.Prefixes.{on_err_is, partly_front}
use Rattle.bid_language.proofs.printing.put_prefer.Goals as goal

pub returns-clause-partly : goal.returns-clause-partly
returns-clause-partly c =
    on_err_weaker c.put_kept.result
    (λ h. partly_back c.args.out.now (codes "prefer " ++ number_text c.args.least) (32 ∷ filter_text c.args.pairings.now c.args.atoms.now) (32 ∷ filter_text c.args.pairings.now c.args.atoms.now) c.put_count.new.out c.put_kept.new.out refl c.in_ok-put_count.ensures.whole h)
    c.put_kept.ensures.partly

pub returns-in_err-put_count-clause-partly : goal.returns-in_err-put_count-clause-partly
returns-in_err-put_count-clause-partly c =
    on_err_is c.from_residual.result (partly_front c.args.out.now (codes "prefer " ++ number_text c.args.least) (32 ∷ filter_text c.args.pairings.now c.args.atoms.now) c.put_count.new.out c.in_err-put_count.ensures.partly)
