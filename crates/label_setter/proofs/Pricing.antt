-- A chain by its places gains what it gains by its arcs.
use Rattle.std.proofs.Common.{◌≡◌, ℕ, ℤ, List, Option, Some, None, Result}
use Rattle.std.specs.Prelude.{IfNone, IfOk, IfSome, option_map}
use Rattle.std.proofs.lemmas.Result.{IfOk-weaker}
use Rattle.label_setter.specs.declared.graph.Arc.{Arc}
use Rattle.label_setter.specs.declared.setter.Priced.{Priced}
use Rattle.label_setter.specs.declared.traces.Traced.{Traced}
use Rattle.label_setter.specs.Traces.{priced_by}

pub gain_priced : {S : Type 0} (arcs : List (Arc S)) (Q : ℤ → Type 0) (answer : Option Traced) (priced : Option Priced) → priced ≡ option_map (priced_by arcs) answer → IfSome answer (λ traced. Q traced.gain) → IfSome priced (λ found. Q found.gain)
gain_priced arcs Q None priced is h = rw is tt
gain_priced arcs Q (Some traced) priced is h = rw is h

pub priced_gain : {S F : Type 0} (arcs : List (Arc S)) (Q : ℤ → Type 0) (answer : Option Traced) (result : Result (Option Priced) F) → IfOk result (λ priced. priced ≡ option_map (priced_by arcs) answer) → IfSome answer (λ traced. Q traced.gain) → IfOk result (λ priced. IfSome priced (λ found. Q found.gain))
priced_gain arcs Q answer result is h = IfOk-weaker result _ _ (λ priced e. gain_priced arcs Q answer priced e h) is

pub gain_traced : (Q : List ℕ → ℤ → Type 0) (chain : List ℕ) (answer : Option ℤ) (result : Option Traced) → result ≡ option_map (λ gain. record { gain = gain; arcs = chain }) answer → IfSome answer (λ gain. Q chain gain) → IfSome result (λ traced. Q traced.arcs traced.gain)
gain_traced Q chain None result is h = rw is tt
gain_traced Q chain (Some gain) result is h = rw is h

pub none_traced : (P : Type 0) (chain : List ℕ) (answer : Option ℤ) (result : Option Traced) → result ≡ option_map (λ gain. record { gain = gain; arcs = chain }) answer → IfNone answer P → IfNone result P
none_traced P chain None result is h = rw is h
none_traced P chain (Some gain) result is h = rw is tt
