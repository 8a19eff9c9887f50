-- Answers of searches for a line above a bound.
use Rattle.std.proofs.Common.{◌≡◌, ℕ, ℤ, List, Ok, Err, refl}
use Rattle.std.specs.Prelude.{IfOk, Result}
use Rattle.std.specs.Int.Signed.{◌<ℤ◌}
use Rattle.chain_search.specs.declared.search.Ended.{Ended}
use Rattle.chain_search.specs.declared.search.Ended.TheVariants.{Top, Enough, Limit as Stopped}
use Rattle.roster_model.specs.Weights.{weight_of}
use Rattle.term_lines.specs.declared.above.Over.{Over}
use Rattle.term_lines.specs.declared.above.Over.TheVariants.{Line, Nothing, Limit}
use Rattle.term_lines.specs.declared.above.Sought.{Sought}
use Rattle.term_lines.specs.declared.above.Wanted.TheVariants.{Heaviest}
use Rattle.term_lines.specs.declared.priced.PricedLine.{PricedLine}
use Rattle.term_lines.specs.Overs.{IfLine, IsMost, IsOverAnswer, over_of}

-- what holds of an answer, by what follows of it
pub line_more : (P Q : PricedLine → Type 0) (o : Over) → ((x : PricedLine) → P x → Q x) → IfLine o P → IfLine o Q
line_more P Q (Line x) h p = h x p
line_more P Q Nothing h p = cc
line_more P Q Limit h p = cc

module _ (Given Lines : List ℕ → Type 0) (weights : List ℤ) (sought : Sought) where
  -- the limit says nothing of lines
  pub limit_says : IsOverAnswer Given Lines weights sought Limit
  limit_says = record { line = tt; weight = tt; above = tt; most = λ heaviest. tt; none = λ told. absurd (cc told) }

  -- no chain above the bound, no line
  pub ended_says : (ended : Ended) → (ended ≡ Top → IsMost Lines weights sought.over) → IsOverAnswer Given Lines weights sought (over_of ended)
  ended_says Top none = record { line = tt; weight = tt; above = tt; most = λ heaviest. tt; none = λ told. none refl }
  ended_says Enough none = limit_says
  ended_says Stopped none = limit_says

  pub line_says : (b : PricedLine) → Given b.line → weight_of weights b.line ≡ b.weight → sought.over <ℤ b.weight
      → (sought.wanted ≡ Heaviest → IsMost Lines weights b.weight) → IsOverAnswer Given Lines weights sought (Line b)
  line_says b given weighs above most = record { line = given; weight = weighs; above = above; most = most; none = λ told. absurd (cc told) }

-- what an answer says of some lines it says of others that are the same
module _ (Given Lines GivenToo LinesToo : List ℕ → Type 0) (weights : List ℤ) (sought : Sought)
    (given : (line : List ℕ) → Given line → GivenToo line) (lines : (line : List ℕ) → LinesToo line → Lines line) where
  over_more : (answer : Over) → IsOverAnswer Given Lines weights sought answer → IsOverAnswer GivenToo LinesToo weights sought answer
  over_more answer says = record {
    line = line_more (λ b. Given b.line) (λ b. GivenToo b.line) answer (λ b is. given b.line is) says.line;
    weight = says.weight;
    above = says.above;
    most = λ heaviest. line_more (λ b. IsMost Lines weights b.weight) (λ b. IsMost LinesToo weights b.weight) answer (λ b most line is. most line (lines line is)) (says.most heaviest);
    none = λ told line is. says.none told line (lines line is);
  }

  pub overs_more : {E : Type 0} (r : Result Over E) → IfOk r (IsOverAnswer Given Lines weights sought) → IfOk r (IsOverAnswer GivenToo LinesToo weights sought)
  overs_more (Ok answer) says = over_more answer says
  overs_more (Err fault) says = tt
