-- Lens lines that were read, of which one may repeat another.
use Rattle.std.specs.Prelude.{◌≡◌, ◌<◌, ◌+◌, ℕ, List, [], length, map, Err}
use Rattle.std.specs.Borrow.{Bor}
use Rattle.roster_model.specs.declared.proof.Lens.{Lens}
use Rattle.cert_text.specs.declared.fault.CertCode.TheVariants as code
use Rattle.cert_text.specs.declared.wanted.Wanted.{Wanted}
use Rattle.cert_text.specs.Lines.{Rest}
use Rattle.cert_text.specs.Places.{AreFreshTo}
use Rattle.cert_text.specs.Reading.{lens_of, table_from}

abbrev pub texts : List (Bor (List ℕ)) → List (List ℕ)
texts lines = map (λ l. l.now) lines

abbrev pub lenses_of : List (Bor (List ℕ)) → List Lens
lenses_of lines = map lens_of (texts lines)

-- so many lenses, read from here, end at the first of these lines that repeats an earlier one
abbrev pub EndsAtRepeat : Wanted → ℕ → List (List ℕ) → Rest → Type 0
EndsAtRepeat wanted count lines start = (n : ℕ) → n < length lines → AreFreshTo lines n
    → table_from wanted count [] start ≡ Err (record { line = start.line + n; code = code.Number })
