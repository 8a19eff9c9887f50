-- What searches for a line answer: for one above a bound, and for a best one.
use Rattle.std.specs.Prelude.{◌≡◌, ⊤, ℕ, ℤ, ◌≤ℤ◌, List, Option, IfNone, IfSome}
use Rattle.std.specs.Int.Signed.{◌<ℤ◌}
use Rattle.chain_search.specs.declared.search.Ended.{Ended}
use Rattle.chain_search.specs.declared.search.Ended.TheVariants.{Top, Enough, Limit as Stopped}
use Rattle.roster_model.specs.Weights.{weight_of}
use Rattle.term_lines.specs.Questions.{KeepsTerms}
use Rattle.term_lines.specs.declared.above.Over.{Over}
use Rattle.term_lines.specs.declared.above.Over.TheVariants.{Line, Nothing, Limit}
use Rattle.term_lines.specs.declared.above.Sought.{Sought}
use Rattle.term_lines.specs.declared.above.Wanted.TheVariants.{Heaviest}
use Rattle.term_lines.specs.declared.priced.PricedLine.{PricedLine}
use Rattle.term_lines.specs.declared.question.TermQuestion.{TermQuestion}

-- what holds of the line, where one is given
abbrev pub IfLine : Over → (PricedLine → Type 0) → Type 0
IfLine (Line priced) P = P priced
IfLine Nothing P = ⊤
IfLine Limit P = ⊤

-- the answer of a climb that found no chain
abbrev pub over_of : Ended → Over
over_of Top = Nothing
over_of Enough = Limit
over_of Stopped = Limit

-- there is no such line
abbrev pub HasNone : (List ℕ → Type 0) → Type 0
HasNone Lines = (line : List ℕ) → Lines line → ⊥

-- no such line weighs more
abbrev pub IsMost : (List ℕ → Type 0) → List ℤ → ℤ → Type 0
IsMost Lines weights most = (line : List ℕ) → Lines line → weight_of weights line ≤ℤ most

-- what the answer of a search above a bound says: of the line that is given, and of all lines that it speaks for
pub record IsOverAnswer (Given Lines : List ℕ → Type 0) (weights : List ℤ) (sought : Sought) (answer : Over) : Type 0 where
  pub line : IfLine answer (λ b. Given b.line)
  pub weight : IfLine answer (λ b. weight_of weights b.line ≡ b.weight)
  pub above : IfLine answer (λ b. sought.over <ℤ b.weight)
  pub most : sought.wanted ≡ Heaviest → IfLine answer (λ b. IsMost Lines weights b.weight)
  pub none : answer ≡ Nothing → IsMost Lines weights sought.over

-- what the answer of a search for a best line says, in the same way
pub record IsBestAnswer (Given Lines : List ℕ → Type 0) (weights : List ℤ) (answer : Option PricedLine) : Type 0 where
  pub line : IfSome answer (λ b. Given b.line)
  pub weight : IfSome answer (λ b. weight_of weights b.line ≡ b.weight)
  pub most : IfSome answer (λ b. IsMost Lines weights b.weight)
  pub none : IfNone answer (HasNone Lines)

-- both of the lines that keep the terms of a question
abbrev pub IsTermOver : TermQuestion → Sought → Over → Type 0
IsTermOver asked sought = IsOverAnswer (KeepsTerms asked) (KeepsTerms asked) asked.weights.now sought

abbrev pub IsTermBest : TermQuestion → Option PricedLine → Type 0
IsTermBest asked = IsBestAnswer (KeepsTerms asked) (KeepsTerms asked) asked.weights.now
