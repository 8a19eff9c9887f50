-- Reading the rows one after the other, as a loop does.
use Rattle.std.proofs.Common.{◌≡◌, ◌≢◌, ℕ, suc, ◌-◌, ◌+◌, ◌≤◌, ◌<◌, List, [], ◌∷◌, ◌++◌, Result, Ok, Err, refl, sym, ap, ◌∙◌, append_assoc, arith, length, Some}
use Rattle.std.specs.Prelude.{IfOk, IfErr}
use Rattle.std.proofs.lemmas.List.{append-nil}
use Rattle.field_text.specs.Steps.{◌>>=◌}
use Rattle.roster_model.specs.declared.problem.Problem.{Problem}
use Rattle.roster_text.specs.declared.fault.RosterTextCode.{RosterTextCode}
use Rattle.roster_text.specs.declared.fault.RosterTextCode.TheVariants.{NoMemory}
use Rattle.roster_text.specs.declared.fault.RosterTextFault.{RosterTextFault}
use Rattle.roster_text.specs.RosterText.{roster_header, roster_text, IsRoster, IsTextOf}
use Rattle.roster_text.specs.RosterFaults.{HasFault}
use Rattle.roster_text.specs.NameReading.{word_at}
use Rattle.roster_text.specs.RowReading.{GivesWhole, no_memory, fault_at, row_at, rows_at, roster_of}
use Rattle.roster_text.proofs.RowLaws.{Read, with_front, roster_takes, roster_again}
use Rattle.roster_text.proofs.FaultLaws.{roster_wrong, fault_found}

abbrev kept : List (List ℕ) → List ℕ → Read
kept ns rest = Ok (ns, rest)

regroup : (front : List (List ℕ)) (n : List ℕ) (read : Read) → with_front front (read >>= λ x. Ok (n ∷ x.0, x.1)) ≡ with_front (front ++ n ∷ []) read
regroup front n (Ok x) = ap (λ (ns : List (List ℕ)). kept ns x.1) (sym (append_assoc front (n ∷ []) x.0))
regroup front n (Err e) = refl

pub rows_on : (problem : Problem) (front : List (List ℕ)) (count i : ℕ) (bytes line after : List ℕ) (total : Read) → i < count → row_at problem i bytes ≡ Ok (line, after)
    → with_front front (rows_at problem i (count - i) bytes) ≡ total → with_front (front ++ line ∷ []) (rows_at problem (i + 1) (count - (i + 1)) after) ≡ total
unfolding rows_at
rows_on problem front count i bytes line after total lt h so_far =
    let k : count - i ≡ suc (count - (i + 1)) = omega arith in
    sym (ap (λ (m : ℕ). with_front front (rows_at problem i m bytes)) k ∙ rw h (regroup front line (rows_at problem (i + 1) (count - (i + 1)) after))) ∙ so_far

pub rows_ended : (problem : Problem) (code : RosterTextCode) (front : List (List ℕ)) (count i : ℕ) (bytes : List ℕ) (total : Read) → i < count
    → (code ≢ NoMemory → row_at problem i bytes ≡ Err code)
    → with_front front (rows_at problem i (count - i) bytes) ≡ total → fault_at (i + 2) code ≢ no_memory → total ≡ Err (fault_at (i + 2) code)
unfolding rows_at
rows_ended problem code front count i bytes total lt h so_far some =
    let k : count - i ≡ suc (count - (i + 1)) = omega arith in
    let here : row_at problem i bytes ≡ Err code = h (λ e. some (ap (fault_at (i + 2)) e)) in
    sym so_far ∙ ap (λ (m : ℕ). with_front front (rows_at problem i m bytes)) k ∙ rw here refl

pub rows_done : (problem : Problem) (front : List (List ℕ)) (count i : ℕ) (bytes : List ℕ) (total : Read) → count ≤ i
    → with_front front (rows_at problem i (count - i) bytes) ≡ total → total ≡ Ok (front, bytes)
unfolding rows_at
rows_done problem front count i bytes total le so_far =
    let k : count - i ≡ 0 = omega arith in
    sym so_far ∙ ap (λ (m : ℕ). with_front front (rows_at problem i m bytes)) k ∙ ap (λ (ls : List (List ℕ)). kept ls bytes) (append-nil front)

-- a header, and rows that are wrong
pub rest_wrong : (problem : Problem) (text rest : List ℕ) (fault : RosterTextFault) → Some rest ≡ word_at roster_header text
    → rows_at problem 0 (length problem.base.members) rest ≡ Err fault → roster_of problem text ≡ Err fault
unfolding roster_of
rest_wrong problem text rest fault header rows = rw (sym header, rows) refl

-- ---- what was read

abbrev pub Roster : Type 0
Roster = Result (List (List ℕ)) RosterTextFault

pub is_read : (problem : Problem) (text : List ℕ) (r : Roster) → GivesWhole (λ r. r) r (roster_of problem text) → IfOk r (λ roster. roster_text problem roster ≡ text)
is_read problem text (Ok roster) given = (roster_takes problem text roster given).1
is_read problem text (Err e) given = tt

pub is_form : (problem : Problem) (text : List ℕ) (r : Roster) → GivesWhole (λ r. r) r (roster_of problem text) → IfOk r (IsRoster problem)
is_form problem text (Ok roster) given = (roster_takes problem text roster given).0
is_form problem text (Err e) given = tt

pub is_fault : (problem : Problem) (text : List ℕ) (r : Roster) → GivesWhole (λ r. r) r (roster_of problem text) → IfErr r (λ fault. fault ≢ no_memory → HasFault problem text fault)
is_fault problem text (Ok roster) given = tt
is_fault problem text (Err e) given = λ some. roster_wrong problem text e (given some)

pub is_only : (problem : Problem) (text : List ℕ) (r : Roster) → GivesWhole (λ r. r) r (roster_of problem text)
    → (roster : List (List ℕ)) → IsTextOf problem text roster → GivesWhole (λ r. r) r (Ok roster)
is_only problem text r given roster good =
    by r (roster_of problem text) given (ap (roster_of problem) good.1 ∙ roster_again problem roster good.0)
  where
    by : (r due : Roster) → GivesWhole (λ r. r) r due → due ≡ Ok roster → GivesWhole (λ r. r) r (Ok roster)
    by (Ok x) due given e = sym e ∙ given
    by (Err f) due given e = λ some. sym e ∙ given some

pub is_first : (problem : Problem) (text : List ℕ) (r : Roster) → GivesWhole (λ r. r) r (roster_of problem text)
    → (fault : RosterTextFault) → HasFault problem text fault → GivesWhole (λ r. r) r (Err fault)
is_first problem text r given fault h =
    by r (roster_of problem text) given (fault_found problem text fault h)
  where
    by : (r due : Roster) → GivesWhole (λ r. r) r due → due ≡ Err fault → GivesWhole (λ r. r) r (Err fault)
    by (Ok x) due given e = sym e ∙ given
    by (Err f) due given e = λ some. sym e ∙ given some
