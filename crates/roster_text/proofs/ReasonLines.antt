-- The lines of reasons, one after another, and the first that is none.
use Rattle.std.proofs.Common.{◌≡◌, ◌≢◌, ℕ, zero, suc, ◌+◌, ◌<◌, ◌≤◌, List, [], ◌∷◌, ◌++◌, length, Result, Ok, Err, refl, sym, ap, subst, ◌∙◌, append_assoc, length-append, arith}
use Rattle.std.specs.List.{AllByRecursion}
use Rattle.std.proofs.lemmas.List.{append-nil}
use Rattle.std.proofs.lemmas.List.Concat.{flat_map-cons}
use Rattle.field_text.specs.Steps.{◌>>=◌}
use Rattle.roster_model.specs.declared.problem.Problem.{Problem}
use Rattle.roster_model.specs.declared.award.Denial.{Denial}
use Rattle.roster_text.specs.declared.reason_fault.ReasonTextCode.{ReasonTextCode}
use Rattle.roster_text.specs.declared.reason_fault.ReasonTextCode.TheVariants.{NoMemory, Shape, Member, Bid, Place, Text}
use Rattle.roster_text.specs.declared.reason_fault.ReasonTextFault.{ReasonTextFault}
use Rattle.roster_text.specs.ReasonText.{head_text, end_text, reason_text, reasons_text, IsReason, IsReasonsText}
use Rattle.roster_text.specs.ReasonFaults.{IsWrongReason, HasReasonFault}
use Rattle.roster_text.specs.ReasonReading.{at, fault_at, line_of, reason_at, reasons_at, reasons_of}
use Rattle.roster_text.proofs.ReasonLaws.{ok_is, err_is, bind_ok, reason_taken, reason_back, reason_wrong, reason_found}

abbrev pub Listing : Type 0
Listing = Result (List Denial) ReasonTextFault

-- the reasons of all bytes, where this many lines stand before
unfoldable pub all_at : Problem → ℕ → List ℕ → Listing
all_at problem line bytes = reasons_at problem (length bytes) line bytes

-- what was read before, and what is still read
abbrev pub with_front : List Denial → Listing → Listing
with_front front read = read >>= λ others. Ok (front ++ others)

abbrev with_first : Denial → Listing → Listing
with_first first read = read >>= λ others. Ok (first ∷ others)

-- ---- a line takes bytes

line_some : (problem : Problem) (d : Denial) → 0 < length (reason_text problem d)
unfolding end_text
line_some problem d = omega (arith, length-append (head_text problem d) (end_text problem d))

pub shorter : (problem : Problem) (bytes : List ℕ) (x : Denial × List ℕ) → reason_at problem bytes ≡ Ok x → length x.1 < length bytes
shorter problem bytes x e =
    let t = reason_taken problem bytes x e in
    omega (arith, ap (λ (s : List ℕ). length s) t.is, length-append (reason_text problem x.0) x.1, line_some problem x.0)

-- ---- how many lines are asked for does not matter, where they are as many as bytes

abbrev with_line : Problem → ℕ → ℕ → Result (Denial × List ℕ) ReasonTextCode → Listing
with_line problem n line r = at line r >>= λ first. with_first first.0 (reasons_at problem n (line + 1) first.1)

none_left : (problem : Problem) (n line : ℕ) → reasons_at problem n line [] ≡ Ok []
unfolding reasons_at
none_left problem zero line = refl
none_left problem (suc n) line = refl

enough : (problem : Problem) (n m line : ℕ) (bytes : List ℕ) → length bytes ≤ n → length bytes ≤ m → reasons_at problem n line bytes ≡ reasons_at problem m line bytes
unfolding reasons_at
enough problem n m line [] en em = none_left problem n line ∙ sym (none_left problem m line)
enough problem zero m line (b ∷ bs) en em = absurd (omega arith)
enough problem (suc n) zero line (b ∷ bs) en em = absurd (omega arith)
enough problem (suc n) (suc m) line (b ∷ bs) en em = by (reason_at problem (b ∷ bs)) refl (enough problem n m (line + 1))
  where
    by : (r : Result (Denial × List ℕ) ReasonTextCode) → reason_at problem (b ∷ bs) ≡ r
        → ((rest : List ℕ) → length rest ≤ n → length rest ≤ m → reasons_at problem n (line + 1) rest ≡ reasons_at problem m (line + 1) rest)
        → with_line problem n line r ≡ with_line problem m line r
    by (Ok x) e later =
        let less = shorter problem (b ∷ bs) x e in
        ap (with_first x.0) (later x.1 (omega (arith, less, en)) (omega (arith, less, em)))
    by (Err code) e later = refl

-- ---- all bytes

pub all_none : (problem : Problem) (line : ℕ) (bytes : List ℕ) → bytes ≡ [] → all_at problem line bytes ≡ Ok []
unfolding all_at
all_none problem line bytes e = ap (λ (t : List ℕ). reasons_at problem (length t) line t) e ∙ none_left problem 0 line

pub all_next : (problem : Problem) (line : ℕ) (bytes : List ℕ) (x : Denial × List ℕ) → reason_at problem bytes ≡ Ok x
    → all_at problem line bytes ≡ with_first x.0 (all_at problem (line + 1) x.1)
unfolding all_at reasons_at
all_next problem line [] x e = absurd (let less = shorter problem [] x e in omega (arith, less))
all_next problem line (b ∷ bs) x e =
    let less = shorter problem (b ∷ bs) x e in
    ap (with_line problem (length bs) line) e
    ∙ ap (with_first x.0) (enough problem (length bs) (length x.1) (line + 1) x.1 (omega (arith, less)) (omega arith))

pub all_wrong : (problem : Problem) (line : ℕ) (bytes : List ℕ) (code : ReasonTextCode) → bytes ≢ [] → reason_at problem bytes ≡ Err code
    → all_at problem line bytes ≡ Err (fault_at line code)
unfolding all_at reasons_at
all_wrong problem line [] code some e = absurd (some refl)
all_wrong problem line (b ∷ bs) code some e = ap (with_line problem (length bs) line) e

-- ---- reasons that are read

cons_text : (problem : Problem) (d : Denial) (ds : List Denial) → reasons_text problem (d ∷ ds) ≡ reason_text problem d ++ reasons_text problem ds
cons_text problem d ds = flat_map-cons (reason_text problem) d ds

pub record AreTaken (problem : Problem) (bytes : List ℕ) (reasons : List Denial) : Type 0 where
  pub each : AllByRecursion (IsReason problem) reasons
  pub is : bytes ≡ reasons_text problem reasons

abbrev listed : List Denial → Listing
listed reasons = Ok reasons

taken : (problem : Problem) (n line : ℕ) (bytes : List ℕ) (reasons : List Denial) → length bytes ≤ n → reasons_at problem n line bytes ≡ Ok reasons → AreTaken problem bytes reasons
unfolding reasons_at
taken problem n line [] reasons le e =
    subst (AreTaken problem []) (ok_is (reasons_at problem n line []) [] reasons (none_left problem n line) e) (record { each = tt; is = refl })
taken problem zero line (b ∷ bs) reasons le e = absurd (omega arith)
taken problem (suc n) line (b ∷ bs) reasons le e = by (reason_at problem (b ∷ bs)) refl e (taken problem n (line + 1))
  where
    by : (r : Result (Denial × List ℕ) ReasonTextCode) → reason_at problem (b ∷ bs) ≡ r → with_line problem n line r ≡ Ok reasons
        → ((rest : List ℕ) (others : List Denial) → length rest ≤ n → reasons_at problem n (line + 1) rest ≡ Ok others → AreTaken problem rest others)
        → AreTaken problem (b ∷ bs) reasons
    by (Ok x) r e later =
        let a = bind_ok (reasons_at problem n (line + 1) x.1) (λ others. listed (x.0 ∷ others)) reasons e in
        let t = reason_taken problem (b ∷ bs) x r in
        let less = shorter problem (b ∷ bs) x r in
        let rest = later x.1 a.0 (omega (arith, less, le)) a.1 in
        subst (AreTaken problem (b ∷ bs)) (ok_is (listed (x.0 ∷ a.0)) (x.0 ∷ a.0) reasons refl a.2)
        (record {
          each = (t.reason, rest.each);
          is = t.is ∙ ap (λ (s : List ℕ). reason_text problem x.0 ++ s) rest.is ∙ sym (cons_text problem x.0 a.0);
        })
    by (Err code) r e later = absurd cc

pub all_taken : (problem : Problem) (text : List ℕ) (reasons : List Denial) → reasons_of problem text ≡ Ok reasons → AreTaken problem text reasons
unfolding reasons_of
all_taken problem text reasons e = taken problem (length text) 1 text reasons (omega arith) e

-- the lines of reasons, and the rest read behind them
one_front : (d : Denial) (ds : List Denial) (read : Listing) → with_first d (with_front ds read) ≡ with_front (d ∷ ds) read
one_front d ds (Ok x) = refl
one_front d ds (Err e) = refl

whole_front : (read : Listing) → with_front [] read ≡ read
whole_front (Ok x) = refl
whole_front (Err e) = refl

pub all_behind : (problem : Problem) (reasons : List Denial) (line : ℕ) (rest : List ℕ) → AllByRecursion (IsReason problem) reasons
    → all_at problem line (reasons_text problem reasons ++ rest) ≡ with_front reasons (all_at problem (line + length reasons) rest)
all_behind problem [] line rest each =
    ap (λ (k : ℕ). all_at problem k rest) (let same : line ≡ line + 0 = omega arith in same) ∙ sym (whole_front (all_at problem (line + 0) rest))
all_behind problem (d ∷ ds) line rest each =
    let text : reasons_text problem (d ∷ ds) ++ rest ≡ reason_text problem d ++ (reasons_text problem ds ++ rest) =
    ap (λ (t : List ℕ). t ++ rest) (cons_text problem d ds) ∙ append_assoc (reason_text problem d) (reasons_text problem ds) rest in
    let k : line + 1 + length ds ≡ line + suc (length ds) = omega arith in
    ap (all_at problem line) text
    ∙ all_next problem line (reason_text problem d ++ (reasons_text problem ds ++ rest)) (d, reasons_text problem ds ++ rest)
    (reason_back problem d (reasons_text problem ds ++ rest) each.0)
    ∙ ap (with_first d) (all_behind problem ds (line + 1) rest each.1)
    ∙ one_front d ds (all_at problem (line + 1 + length ds) rest)
    ∙ ap (λ (i : ℕ). with_front (d ∷ ds) (all_at problem i rest)) k

pub all_again : (problem : Problem) (text : List ℕ) (reasons : List Denial) → IsReasonsText problem text reasons → reasons_of problem text ≡ Ok reasons
unfolding reasons_of all_at
all_again problem text reasons is =
    ap (all_at problem 1) (is.1 ∙ sym (append-nil (reasons_text problem reasons)))
    ∙ all_behind problem reasons 1 [] is.0
    ∙ ap (with_front reasons) (all_none problem (1 + length reasons) [] refl)
    ∙ ap (λ (t : List Denial). listed t) (append-nil reasons)

pub one_list : (problem : Problem) (text : List ℕ) (r s : List Denial) → IsReasonsText problem text r → IsReasonsText problem text s → r ≡ s
one_list problem text r s hr hs = ok_is (reasons_of problem text) r s (all_again problem text r hr) (all_again problem text s hs)

-- ---- the first line that is none

abbrev faulty : ReasonTextFault → Listing
faulty fault = Err fault

record IsFaultFrom (problem : Problem) (line : ℕ) (bytes : List ℕ) (fault : ReasonTextFault) : Type 0 where
  reasons : List Denial
  each : AllByRecursion (IsReason problem) reasons
  rest : List ℕ
  some : rest ≢ []
  is : bytes ≡ reasons_text problem reasons ++ rest
  place : fault.line ≡ line + length reasons
  wrong : IsWrongReason problem rest fault.code

real_line : (problem : Problem) (bytes : List ℕ) (line : ℕ) (code : ReasonTextCode) → IsWrongReason problem bytes code → line_of line code ≡ line
real_line problem bytes line NoMemory w = absurd w
real_line problem bytes line Shape w = refl
real_line problem bytes line Member w = refl
real_line problem bytes line Bid w = refl
real_line problem bytes line Place w = refl
real_line problem bytes line Text w = refl

filled : (b : ℕ) (bs : List ℕ) → b ∷ bs ≢ []
filled b bs e = absurd (let count = ap (λ (t : List ℕ). length t) e in omega (arith, count))

bind_err : {A B E : Type 0} (r : Result A E) (f : A → B) (c : E) → (r >>= λ x. Ok (f x)) ≡ Err c → r ≡ Err c
bind_err (Ok x) f c e = absurd cc
bind_err (Err d) f c e = ap Err (err_is (Err d >>= λ x. Ok (f x)) d c refl e)

wrong_from : (problem : Problem) (n line : ℕ) (bytes : List ℕ) (fault : ReasonTextFault) → length bytes ≤ n → reasons_at problem n line bytes ≡ Err fault → IsFaultFrom problem line bytes fault
unfolding reasons_at
wrong_from problem n line [] fault le e = absurd (let same : Ok [] ≡ faulty fault = sym (none_left problem n line) ∙ e in cc)
wrong_from problem zero line (b ∷ bs) fault le e = absurd (omega arith)
wrong_from problem (suc n) line (b ∷ bs) fault le e = by (reason_at problem (b ∷ bs)) refl e (wrong_from problem n (line + 1))
  where
    by : (r : Result (Denial × List ℕ) ReasonTextCode) → reason_at problem (b ∷ bs) ≡ r → with_line problem n line r ≡ Err fault
        → ((rest : List ℕ) (f : ReasonTextFault) → length rest ≤ n → reasons_at problem n (line + 1) rest ≡ Err f → IsFaultFrom problem (line + 1) rest f)
        → IsFaultFrom problem line (b ∷ bs) fault
    by (Ok x) r e later =
        let t = reason_taken problem (b ∷ bs) x r in
        let less = shorter problem (b ∷ bs) x r in
        let w = later x.1 fault (omega (arith, less, le)) (bind_err (reasons_at problem n (line + 1) x.1) (λ others. x.0 ∷ others) fault e) in
        record {
          reasons = x.0 ∷ w.reasons;
          each = (t.reason, w.each);
          rest = w.rest;
          some = w.some;
          is =
              t.is ∙ ap (λ (s : List ℕ). reason_text problem x.0 ++ s) w.is
              ∙ sym (append_assoc (reason_text problem x.0) (reasons_text problem w.reasons) w.rest)
              ∙ ap (λ (s : List ℕ). s ++ w.rest) (sym (cons_text problem x.0 w.reasons));
          place = omega (arith, w.place);
          wrong = w.wrong;
        }
    by (Err code) r e later =
        let same : fault_at line code ≡ fault = err_is (faulty (fault_at line code)) (fault_at line code) fault refl e in
        let w = reason_wrong problem (b ∷ bs) code r in
        subst (IsFaultFrom problem line (b ∷ bs)) same
        (record {
          reasons = [];
          each = tt;
          rest = b ∷ bs;
          some = filled b bs;
          is = refl;
          place = real_line problem (b ∷ bs) line code w ∙ (let z : line ≡ line + 0 = omega arith in z);
          wrong = w;
        })

pub all_faulty : (problem : Problem) (text : List ℕ) (fault : ReasonTextFault) → reasons_of problem text ≡ Err fault → HasReasonFault problem text fault
unfolding reasons_of
all_faulty problem text fault e =
    let w = wrong_from problem (length text) 1 text fault (omega arith) e in
    record { reasons = w.reasons; each = w.each; rest = w.rest; some = w.some; is = w.is; line = omega (arith, w.place); wrong = w.wrong }

fault_is : (fault : ReasonTextFault) (line : ℕ) (code : ReasonTextCode) → line_of line code ≡ fault.line → code ≡ fault.code → fault_at line code ≡ fault
fault_is fault line code e f =
    ap (λ (k : ℕ). record { line = k; code = code }) e ∙ ap (λ (c : ReasonTextCode). record { line = fault.line; code = c }) f

pub fault_found : (problem : Problem) (text : List ℕ) (fault : ReasonTextFault) → HasReasonFault problem text fault → reasons_of problem text ≡ Err fault
unfolding reasons_of all_at
fault_found problem text fault h =
    let here = reason_found problem h.rest fault.code h.wrong in
    let line : line_of (1 + length h.reasons) fault.code ≡ fault.line =
    real_line problem h.rest (1 + length h.reasons) fault.code h.wrong ∙ (let k : 1 + length h.reasons ≡ fault.line = omega (arith, h.line) in k) in
    ap (all_at problem 1) h.is
    ∙ all_behind problem h.reasons 1 h.rest h.each
    ∙ ap (with_front h.reasons) (all_wrong problem (1 + length h.reasons) h.rest fault.code h.some here)
    ∙ ap faulty (fault_is fault (1 + length h.reasons) fault.code line refl)

pub one_fault : (problem : Problem) (text : List ℕ) (f g : ReasonTextFault) → HasReasonFault problem text f → HasReasonFault problem text g → f ≡ g
one_fault problem text f g hf hg = err_is (reasons_of problem text) f g (fault_found problem text f hf) (fault_found problem text g hg)

pub not_both : (problem : Problem) (text : List ℕ) (r : List Denial) (f : ReasonTextFault) → IsReasonsText problem text r → ¬ (HasReasonFault problem text f)
not_both problem text r f good h = apart (reasons_of problem text) r f (all_again problem text r good) (fault_found problem text f h)
  where
    apart : {A E : Type 0} (o : Result A E) (x : A) (y : E) → o ≡ Ok x → o ≡ Err y → ⊥
    apart o x y e f = let g : Ok x ≡ o = sym e in absurd cc
