-- What is remembered of a judgement: lines that are legal for their members.
use Rattle.std.specs.Prelude.{◌≡◌, ℕ, List, All}
use Rattle.roster_model.specs.declared.problem.Problem.{Problem}
use Rattle.roster_model.specs.Legality.{IsLegal}
use Rattle.cert_checker.specs.declared.legals.LegalLine.{LegalLine}
use Rattle.cert_checker.specs.declared.legals.Legals.{Legals}

-- the line is legal for its member
abbrev pub IsLegalLine : Problem → LegalLine → Type 0
IsLegalLine problem kept = IsLegal problem kept.member kept.line

-- each line that is kept is legal for its member
pub record AreLegalLines (problem : Problem) (legals : Legals) : Type 0 where
  pub each : All (IsLegalLine problem) legals.lines

-- the line of this member
abbrev pub legal_line : ℕ → List ℕ → LegalLine
legal_line member line = record { member = member; line = line }

-- the member and the line are these
pub record IsLineOf (kept : LegalLine) (member : ℕ) (line : List ℕ) : Type 0 where
  pub same_member : kept.member ≡ member
  pub same_line : kept.line ≡ line
