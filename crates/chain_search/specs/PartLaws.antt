-- The laws of views of a part of a pair.
use Rattle.std.specs.Prelude.{◌≡◌, ℕ, Bool, Option, Some, None}
use Rattle.std.proofs.lemmas.Bool.{and_parts}
use Rattle.label_lattice.specs.declared.pairs.Pair.{Pair}
use Rattle.label_lattice.specs.Pair.{both_of, pair_done, pair_extend}
use Rattle.chain_search.specs.Views.{CoarseLaws}

-- what a step of a pair makes of both
pub record Parts {A B : Type 0} (o : Option A) (p : Option B) (c : Pair A B) : Type 0 where
  pub first : o ≡ Some c.first
  pub second : p ≡ Some c.second

pub parts_of : {A B : Type 0} (o : Option A) (p : Option B) (c : Pair A B) → both_of o p ≡ Some c → Parts o p c
parts_of (Some a) (Some b) c e = record { first = cc; second = cc }
parts_of None p c e = cc
parts_of (Some a) None c e = cc

module _ {A B S T E F : Type 0} (extend_a : A → S → Option A) (done_a : A → E → Bool) (extend_b : B → T → Option B) (done_b : B → F → Bool) where
  pub first_laws : {count : ℕ} {shows : A → ℕ} {sees : A → ℕ → Bool} {moves : S → ℕ → Option ℕ} {ends : ℕ → Bool} {fits_step : S → Bool} {fits_end : E → Bool} → CoarseLaws extend_a done_a count shows sees moves ends fits_step fits_end
      → CoarseLaws (pair_extend extend_a extend_b) (pair_done done_a done_b) count (λ a. shows a.first) (λ a. sees a.first) (λ step. moves step.0) ends (λ step. fits_step step.0) (λ end. fits_end end.0)
  first_laws laws = record {
    shown = λ a. laws.shown a.first;
    seen = λ a. laws.seen a.first;
    stays = λ step state next less is. laws.stays step.0 state next less is;
    along = λ a b step state fits seen is. laws.along a.first b.first step.0 state fits seen (parts_of (extend_a a.first step.0) (extend_b a.second step.1) b is).first;
    final = λ a end state fits seen is. laws.final a.first end.0 state fits seen (and_parts (done_a a.first end.0) (done_b a.second end.1) is).0;
  }

  pub second_laws : {count : ℕ} {shows : B → ℕ} {sees : B → ℕ → Bool} {moves : T → ℕ → Option ℕ} {ends : ℕ → Bool} {fits_step : T → Bool} {fits_end : F → Bool} → CoarseLaws extend_b done_b count shows sees moves ends fits_step fits_end
      → CoarseLaws (pair_extend extend_a extend_b) (pair_done done_a done_b) count (λ a. shows a.second) (λ a. sees a.second) (λ step. moves step.1) ends (λ step. fits_step step.1) (λ end. fits_end end.1)
  second_laws laws = record {
    shown = λ a. laws.shown a.second;
    seen = λ a. laws.seen a.second;
    stays = λ step state next less is. laws.stays step.1 state next less is;
    along = λ a b step state fits seen is. laws.along a.second b.second step.1 state fits seen (parts_of (extend_a a.first step.0) (extend_b a.second step.1) b is).second;
    final = λ a end state fits seen is. laws.final a.second end.1 state fits seen (and_parts (done_a a.first end.0) (done_b a.second end.1) is).1;
  }
