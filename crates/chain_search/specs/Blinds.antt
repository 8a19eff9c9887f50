-- A view that sees nothing.
use Rattle.std.specs.Prelude.{◌≡◌, Bool, true, Option, Some, refl}
use Rattle.std.proofs.Common.{arith}
use Rattle.chain_search.specs.Views.{CoarseLaws}

pub blind_laws :
    {R S E : Type 0} (extend : R → S → Option R) (done : R → E → Bool)
    → CoarseLaws extend done 1 (λ a. 0) (λ a state. true) (λ step state. Some 0) (λ state. true) (λ step. true)
    (λ end. true)
blind_laws extend done = record {
  shown = λ a. omega arith;
  seen = λ a. refl;
  stays = λ step state next less is. let same : 0 ≡ next = cc in omega (arith, same);
  along = λ a b step state fits seen is. record { next = 0; is = refl; passes = refl };
  final = λ a end state fits seen is. refl;
}
