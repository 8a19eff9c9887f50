-- Reading the lines of reasons one after the other, as a loop does.
use Rattle.std.proofs.Common.{◌≡◌, ◌≢◌, ℕ, zero, suc, ◌+◌, ◌-◌, ◌<◌, ◌≤◌, Bool, false, List, [], ◌∷◌, ◌++◌, length, Option, Ok, Err, refl, sym, ap, ◌∙◌, append_assoc, arith}
use Rattle.std.specs.Prelude.{All, IfOk, IfErr}
use Rattle.std.specs.List.{AllByRecursion}
use Rattle.std.proofs.lemmas.List.{append-nil, nil_from_length}
use Rattle.std.proofs.lemmas.List.Elements.{All-head, All-tail}
use Rattle.field_text.specs.Steps.{◌>>=◌}
use Rattle.roster_model.specs.declared.problem.Problem.{Problem}
use Rattle.roster_model.specs.declared.award.Denial.{Denial}
use Rattle.roster_model.specs.Goals.{IsBidOf}
use Rattle.roster_model.specs.Denials.{place_of}
use Rattle.roster_text.specs.declared.reason_fault.ReasonTextCode.{ReasonTextCode}
use Rattle.roster_text.specs.declared.reason_fault.ReasonTextCode.TheVariants.{NoMemory}
use Rattle.roster_text.specs.declared.reason_fault.ReasonTextFault.{ReasonTextFault}
use Rattle.roster_text.specs.ReasonText.{reasons_text, IsReason, IsReasonsText}
use Rattle.roster_text.specs.ReasonFaults.{HasReasonFault}
use Rattle.roster_text.specs.ReasonWords.{first_from}
use Rattle.roster_text.specs.ReasonReading.{Answers, no_memory, fault_at, reason_at, reasons_of}
use Rattle.roster_text.proofs.ReasonLines.{Listing, all_at, with_front, all_none, all_next, all_wrong, all_taken, all_again, all_faulty, fault_found}

abbrev listed : List Denial → Listing
listed reasons = Ok reasons

regroup : (front : List Denial) (d : Denial) (read : Listing) → with_front front (read >>= λ others. Ok (d ∷ others)) ≡ with_front (front ++ d ∷ []) read
regroup front d (Ok x) = ap listed (sym (append_assoc front (d ∷ []) x))
regroup front d (Err e) = refl

whole_front : (read : Listing) → with_front [] read ≡ read
whole_front (Ok x) = refl
whole_front (Err e) = refl

pub lines_begun : (problem : Problem) (front : List Denial) (text : List ℕ) → front ≡ [] → with_front front (all_at problem 1 text) ≡ reasons_of problem text
unfolding all_at reasons_of
lines_begun problem front text e = ap (λ (f : List Denial). with_front f (all_at problem 1 text)) e ∙ whole_front (all_at problem 1 text)

pub lines_on : (problem : Problem) (front : List Denial) (line : ℕ) (bytes : List ℕ) (x : Denial × List ℕ) (total : Listing) → reason_at problem bytes ≡ Ok x
    → with_front front (all_at problem line bytes) ≡ total → with_front (front ++ x.0 ∷ []) (all_at problem (line + 1) x.1) ≡ total
lines_on problem front line bytes x total e so_far =
    sym (regroup front x.0 (all_at problem (line + 1) x.1)) ∙ ap (with_front front) (sym (all_next problem line bytes x e)) ∙ so_far

pub lines_ended : (problem : Problem) (code : ReasonTextCode) (front : List Denial) (line : ℕ) (bytes : List ℕ) (total : Listing) → 0 < length bytes
    → (code ≢ NoMemory → reason_at problem bytes ≡ Err code)
    → with_front front (all_at problem line bytes) ≡ total → fault_at line code ≢ no_memory → total ≡ Err (fault_at line code)
lines_ended problem code front line bytes total some h so_far known =
    let here : reason_at problem bytes ≡ Err code = h (λ e. known (ap (fault_at line) e)) in
    sym so_far ∙ ap (with_front front) (all_wrong problem line bytes code (λ e. absurd (omega (arith, ap (λ (t : List ℕ). length t) e, some))) here)

pub lines_done : (problem : Problem) (front : List Denial) (line : ℕ) (bytes : List ℕ) (total : Listing) → length bytes ≡ 0
    → with_front front (all_at problem line bytes) ≡ total → total ≡ Ok front
lines_done problem front line bytes total e so_far =
    sym so_far ∙ ap (with_front front) (all_none problem line bytes (nil_from_length bytes e)) ∙ ap listed (append-nil front)

-- ---- what was read

each_of : (P : Denial → Type 0) (ds : List Denial) → AllByRecursion P ds → All P ds
each_of P [] each k d lt = absurd (omega arith)
each_of P (x ∷ xs) each zero d lt = each.0
each_of P (x ∷ xs) each (suc k) d lt = each_of P xs each.1 k d (omega arith)

pub is_read : (problem : Problem) (text : List ℕ) (r : Listing) → Answers r (reasons_of problem text) → IfOk r (λ reasons. reasons_text problem reasons ≡ text)
is_read problem text (Ok reasons) given = sym (all_taken problem text reasons given).is
is_read problem text (Err e) given = tt

pub is_known : (problem : Problem) (text : List ℕ) (r : Listing) → Answers r (reasons_of problem text) → IfOk r (All (λ d. IsBidOf problem d.bid))
is_known problem text (Ok reasons) given = λ k d lt. (each_of (IsReason problem) reasons (all_taken problem text reasons given).each k d lt).bid
is_known problem text (Err e) given = tt

pub is_placed : (problem : Problem) (text : List ℕ) (r : Listing) → Answers r (reasons_of problem text)
    → IfOk r (All (λ d. place_of d.cause ≤ length problem.base.members))
is_placed problem text (Ok reasons) given = λ k d lt. (each_of (IsReason problem) reasons (all_taken problem text reasons given).each k d lt).place
is_placed problem text (Err e) given = tt

pub is_fault : (problem : Problem) (text : List ℕ) (r : Listing) → Answers r (reasons_of problem text)
    → IfErr r (λ fault. fault ≢ no_memory → HasReasonFault problem text fault)
is_fault problem text (Ok reasons) given = tt
is_fault problem text (Err e) given = λ some. all_faulty problem text e (given some)

pub is_only : (problem : Problem) (text : List ℕ) (r : Listing) → Answers r (reasons_of problem text)
    → (reasons : List Denial) → IsReasonsText problem text reasons → Answers r (Ok reasons)
is_only problem text (Ok x) given reasons is = sym (all_again problem text reasons is) ∙ given
is_only problem text (Err e) given reasons is = λ some. sym (all_again problem text reasons is) ∙ given some

pub is_first : (problem : Problem) (text : List ℕ) (r : Listing) → Answers r (reasons_of problem text)
    → (f : ReasonTextFault) → HasReasonFault problem text f → Answers r (Err f)
is_first problem text (Ok x) given f is = sym (fault_found problem text f is) ∙ given
is_first problem text (Err e) given f is = λ some. sym (fault_found problem text f is) ∙ given some

-- ---- what is printed

pub are_reasons : (problem : Problem) (reasons : List Denial) → All (λ d. IsBidOf problem d.bid) reasons
    → All (λ d. place_of d.cause ≤ length problem.base.members) reasons → AllByRecursion (IsReason problem) reasons
are_reasons problem [] bids places = tt
are_reasons problem (d ∷ ds) bids places = (
  record {
    bid = All-head (λ (x : Denial). IsBidOf problem x.bid) d ds bids;
    place = All-head (λ (x : Denial). place_of x.cause ≤ length problem.base.members) d ds places;
  },
  are_reasons problem ds (All-tail (λ (x : Denial). IsBidOf problem x.bid) d ds bids) (All-tail (λ (x : Denial). place_of x.cause ≤ length problem.base.members) d ds places),
)

-- ---- numbers that are tried one after another

pub numbers_on : (test : ℕ → Bool) (count i : ℕ) (total : Option ℕ) → i < count → test i ≡ false
    → first_from test i (count - i) ≡ total → first_from test (i + 1) (count - (i + 1)) ≡ total
numbers_on test count i total lt none so_far =
    let k : count - i ≡ suc (count - (i + 1)) = omega arith in
    sym (ap (first_from test i) k ∙ rw none refl) ∙ so_far
