-- A reason's line is read as the reason that it spells, and as no other; and what is wrong with a line that is none.
use Rattle.std.proofs.Common.{◌≡◌, ◌≢◌, ℕ, zero, suc, ◌+◌, ◌<◌, ◌≤◌, true, List, [], ◌∷◌, ◌++◌, length, Option, Some, None, Result, Ok, Err, refl, sym, ap, subst, ◌∙◌, append_assoc, arith}
use Rattle.std.specs.Prelude.{All, slice_get, unwrap_or}
use Rattle.std.proofs.lemmas.List.Elements.{All-head, All-tail}
use Rattle.field_text.specs.Spelling.{number_text}
use Rattle.field_text.specs.Steps.{◌>>=◌, or_fault}
use Rattle.roster_model.specs.declared.problem.Problem.{Problem}
use Rattle.roster_model.specs.declared.bid.Bid.{Bid as Wished}
use Rattle.roster_model.specs.declared.goal.BidRef.{BidRef}
use Rattle.roster_model.specs.declared.award.Cause.{Cause}
use Rattle.roster_model.specs.declared.award.Denial.{Denial}
use Rattle.roster_model.specs.Scores.{bids_of}
use Rattle.roster_model.specs.Denials.{place_of}
use Rattle.bid_language.specs.Spelling.{text_of}
use Rattle.roster_text.specs.declared.reason_fault.ReasonTextCode.{ReasonTextCode}
use Rattle.roster_text.specs.declared.reason_fault.ReasonTextCode.TheVariants.{NoMemory, Shape, Member, Bid, Place, Text}
use Rattle.roster_text.specs.NameReading.{word_at}
use Rattle.roster_text.specs.RosterText.{member_name}
use Rattle.roster_text.specs.ReasonText.{cause_text, end_text, reason_text, IsReason}
use Rattle.roster_text.specs.ReasonFaults.{HasReasonForm, NamesBid, IsWrongReason}
use Rattle.roster_text.specs.ReasonWords.{Words, words_in, member_named, numbered, cause_named, is_ended}
use Rattle.roster_text.specs.ReasonReading.{bid_end, denial_of, reason_at}
use Rattle.roster_text.proofs.Words.{some_is, word_takes, word_again}
use Rattle.roster_text.proofs.Bytes.{numeral_text}
use Rattle.roster_text.proofs.ReasonForms.{AreWords, words_taken, words_back, form_of_words, words_of_form, ended_back}
use Rattle.roster_text.proofs.ReasonNames.{member_found, member_back, member_named_form, bid_found, bid_back, cause_found, cause_back, cause_word}

pub ok_is : {A E : Type 0} (r : Result A E) (x y : A) → r ≡ Ok x → r ≡ Ok y → x ≡ y
ok_is r x y e f = let g : Ok x ≡ r = sym e in cc

pub err_is : {A E : Type 0} (r : Result A E) (x y : E) → r ≡ Err x → r ≡ Err y → x ≡ y
err_is r x y e f = let g : Err x ≡ r = sym e in cc

pub bind_ok : {A B E : Type 0} (r : Result A E) (f : A → Result B E) (y : B) → (r >>= f) ≡ Ok y → (x : A) × (r ≡ Ok x) × (f x ≡ Ok y)
bind_ok (Ok x) f y e = (x, refl, e)
bind_ok (Err c) f y e = absurd cc

need_ok : {A : Type 0} (code : ReasonTextCode) (o : Option A) (x : A) → or_fault code o ≡ Ok x → o ≡ Some x
need_ok code (Some y) x e = ap Some (ok_is (or_fault code (Some y)) y x refl e)
need_ok code None x e = absurd cc

none_some : {A : Type 0} (o : Option A) (x : A) → o ≡ None → o ≡ Some x → ⊥
none_some o x e f = let g : None ≡ o = sym e in cc

few_of : (lists : List (List Wished)) (m : ℕ) → All (λ list. length list ≤ 64) lists → length (unwrap_or (slice_get lists m) []) ≤ 64
few_of [] m few = omega arith
few_of (x ∷ xs) zero few = All-head (λ (list : List Wished). length list ≤ 64) x xs few
few_of (x ∷ xs) (suc m) few = few_of xs m (All-tail (λ (list : List Wished). length list ≤ 64) x xs few)

pub few_bids : (problem : Problem) (m : ℕ) → length (bids_of problem m) ≤ 64
few_bids problem m = few_of problem.bids m problem.valid.few_bids

-- ---- the reason that words name

abbrev made : ℕ → ℕ → Cause → Result Denial ReasonTextCode
made m k c = Ok (record { bid = record { member = m; bid = k }; cause = c })

abbrev with_cause : ℕ → ℕ → Option Cause → Result Denial ReasonTextCode
with_cause m k o = or_fault Place o >>= λ c. made m k c

abbrev with_number : Problem → Words → ℕ → Option ℕ → Result Denial ReasonTextCode
with_number problem words m o = or_fault Bid o >>= λ k. with_cause m k (cause_named problem words.cause)

abbrev with_member : Problem → Words → Option ℕ → Result Denial ReasonTextCode
with_member problem words o =
    or_fault Member o >>= λ m. with_number problem words m (numbered (length (bids_of problem m)) words.number)

pub record IsDenialOf (problem : Problem) (words : Words) (d : Denial) : Type 0 where
  pub reason : IsReason problem d
  pub member : words.member ≡ member_name problem d.bid.member
  pub number : words.number ≡ number_text (d.bid.bid + 1)
  pub cause : words.cause ≡ cause_text problem d.cause

denial_taken : (problem : Problem) (words : Words) (d : Denial) → denial_of problem words ≡ Ok d → IsDenialOf problem words d
unfolding denial_of
denial_taken problem words d e =
    let a =
    bind_ok (or_fault Member (member_named problem words.member)) (λ m. with_number problem words m (numbered (length (bids_of problem m)) words.number)) d e in
    let b = bind_ok (or_fault Bid (numbered (length (bids_of problem a.0)) words.number)) (λ k. with_cause a.0 k (cause_named problem words.cause)) d a.2 in
    let g = bind_ok (or_fault Place (cause_named problem words.cause)) (λ c. made a.0 b.0 c) d b.2 in
    let m = member_found problem words.member a.0 (need_ok Member (member_named problem words.member) a.0 a.1) in
    let k = bid_found (length (bids_of problem a.0)) words.number b.0 (need_ok Bid (numbered (length (bids_of problem a.0)) words.number) b.0 b.1) in
    let c = cause_found problem words.cause g.0 (need_ok Place (cause_named problem words.cause) g.0 g.1) in
    let this : Denial = record { bid = record { member = a.0; bid = b.0 }; cause = g.0 } in
    subst (IsDenialOf problem words) (ok_is (made a.0 b.0 g.0) this d refl g.2)
    (record {
      reason = record { bid = record { member = m.0; number = k.0 }; place = c.within };
      member = sym m.1;
      number = sym k.1;
      cause = sym c.text;
    })

-- the words of a reason's line, where the rest stands behind the colon
abbrev words_with : Problem → Denial → List ℕ → Words
words_with problem d rest = record {
  member = member_name problem d.bid.member;
  number = number_text (d.bid.bid + 1);
  cause = cause_text problem d.cause;
  rest = rest;
}

denial_back : (problem : Problem) (d : Denial) (rest : List ℕ) → IsReason problem d → denial_of problem (words_with problem d rest) ≡ Ok d
unfolding denial_of
denial_back problem d rest is =
    rw (
      member_back problem d.bid.member is.bid.member,
      bid_back (length (bids_of problem d.bid.member)) d.bid.bid (omega (arith, few_bids problem d.bid.member)) is.bid.number,
      cause_back problem d.cause is.place,
    ) refl

-- ---- a line

regroup : (a b c t rest : List ℕ) → (((a ++ (32 ∷ b)) ++ (32 ∷ c)) ++ (58 ∷ t)) ++ rest ≡ a ++ (32 ∷ (b ++ (32 ∷ (c ++ (58 ∷ (t ++ rest))))))
regroup a b c t rest = simp append_assoc

pub reason_is : (problem : Problem) (d : Denial) (rest : List ℕ)
    → reason_text problem d ++ rest
    ≡ member_name problem d.bid.member
    ++ (32 ∷ (number_text (d.bid.bid + 1) ++ (32 ∷ (cause_text problem d.cause ++ (58 ∷ (bid_end problem d.bid ++ rest))))))
unfolding end_text
reason_is problem d rest =
    regroup (member_name problem d.bid.member) (number_text (d.bid.bid + 1)) (cause_text problem d.cause) (bid_end problem d.bid) rest

bid_ended : (problem : Problem) (bid : BidRef) (rest : List ℕ) → is_ended (bid_end problem bid ++ rest) ≡ true
bid_ended problem bid rest =
    ap (λ (t : List ℕ). is_ended (32 ∷ t)) (append_assoc (text_of problem bid) (10 ∷ []) rest) ∙ ended_back (text_of problem bid) rest

words_behind : (problem : Problem) (d : Denial) (rest : List ℕ) → IsReason problem d
    → words_in (reason_text problem d ++ rest) ≡ Some (words_with problem d (bid_end problem d.bid ++ rest))
words_behind problem d rest is =
    ap words_in (reason_is problem d rest)
    ∙ words_back (member_name problem d.bid.member) (number_text (d.bid.bid + 1)) (cause_text problem d.cause) (bid_end problem d.bid ++ rest)
    (member_named_form problem d.bid.member is.bid.member)
    (numeral_text (d.bid.bid + 1) (omega (arith, is.bid.number, few_bids problem d.bid.member)))
    (cause_word problem d.cause is.place) (bid_ended problem d.bid rest)

abbrev with_end : Denial → Option (List ℕ) → Result (Denial × List ℕ) ReasonTextCode
with_end d o = or_fault Text o >>= λ rest. Ok (d, rest)

abbrev with_denial : Problem → Words → Denial → Result (Denial × List ℕ) ReasonTextCode
with_denial problem words d = with_end d (word_at (bid_end problem d.bid) words.rest)

abbrev line_read : Denial × List ℕ → Result (Denial × List ℕ) ReasonTextCode
line_read x = Ok x

pub record IsReasonAt (problem : Problem) (bytes : List ℕ) (x : Denial × List ℕ) : Type 0 where
  pub reason : IsReason problem x.0
  pub is : bytes ≡ reason_text problem x.0 ++ x.1

whole_line : (problem : Problem) (bytes rest : List ℕ) (words : Words) (d : Denial) → AreWords bytes words → IsDenialOf problem words d
    → words.rest ≡ bid_end problem d.bid ++ rest → bytes ≡ reason_text problem d ++ rest
whole_line problem bytes rest words d are is end =
    are.is
    ∙ ap (λ (t : List ℕ). t ++ (32 ∷ (words.number ++ (32 ∷ (words.cause ++ (58 ∷ words.rest)))))) is.member
    ∙ ap (λ (t : List ℕ). member_name problem d.bid.member ++ (32 ∷ (t ++ (32 ∷ (words.cause ++ (58 ∷ words.rest)))))) is.number
    ∙ ap (λ (t : List ℕ). member_name problem d.bid.member ++ (32 ∷ (number_text (d.bid.bid + 1) ++ (32 ∷ (t ++ (58 ∷ words.rest)))))) is.cause
    ∙ ap (λ (t : List ℕ). member_name problem d.bid.member ++ (32 ∷ (number_text (d.bid.bid + 1) ++ (32 ∷ (cause_text problem d.cause ++ (58 ∷ t)))))) end
    ∙ sym (reason_is problem d rest)

pub reason_taken : (problem : Problem) (bytes : List ℕ) (x : Denial × List ℕ) → reason_at problem bytes ≡ Ok x → IsReasonAt problem bytes x
unfolding reason_at
reason_taken problem bytes x e =
    let a = bind_ok (or_fault Shape (words_in bytes)) (λ words. denial_of problem words >>= with_denial problem words) x e in
    let b = bind_ok (denial_of problem a.0) (with_denial problem a.0) x a.2 in
    let g = bind_ok (or_fault Text (word_at (bid_end problem b.0.bid) a.0.rest)) (λ rest. line_read (b.0, rest)) x b.2 in
    let are = words_taken bytes a.0 (need_ok Shape (words_in bytes) a.0 a.1) in
    let is = denial_taken problem a.0 b.0 b.1 in
    let end = word_takes (bid_end problem b.0.bid) a.0.rest g.0 (need_ok Text (word_at (bid_end problem b.0.bid) a.0.rest) g.0 g.1) in
    subst (IsReasonAt problem bytes) (ok_is (line_read (b.0, g.0)) (b.0, g.0) x refl g.2)
    (record { reason = is.reason; is = whole_line problem bytes g.0 a.0 b.0 are is end })

pub reason_back : (problem : Problem) (d : Denial) (rest : List ℕ) → IsReason problem d → reason_at problem (reason_text problem d ++ rest) ≡ Ok (d, rest)
unfolding reason_at
reason_back problem d rest is =
    rw (words_behind problem d rest is, denial_back problem d (bid_end problem d.bid ++ rest) is, word_again (bid_end problem d.bid) rest) refl

-- ---- what is wrong with a line

abbrev wrong : ReasonTextCode → Result (Denial × List ℕ) ReasonTextCode
wrong code = Err code

code_is : (x y : ReasonTextCode) → wrong x ≡ wrong y → x ≡ y
code_is x y e = err_is (wrong x) x y refl e

module _ (problem : Problem) (bytes : List ℕ) (code : ReasonTextCode) (words : Words) (found : words_in bytes ≡ Some words) where
  abbrev are : AreWords bytes words
  are = words_taken bytes words found

  abbrev form : HasReasonForm bytes
  form = (form_of_words bytes words are).0

  form_member : form.member ≡ words.member
  form_member = (form_of_words bytes words are).1

  form_number : form.number ≡ words.number
  form_number = (form_of_words bytes words are).2

  form_cause : form.cause ≡ words.cause
  form_cause = (form_of_words bytes words are).3

  abbrev names : (bid : BidRef) → bid.member < length problem.base.members → bid.bid < length (bids_of problem bid.member)
      → words.member ≡ member_name problem bid.member → words.number ≡ number_text (bid.bid + 1) → NamesBid problem bytes bid
  names bid lt few member number = record {
    form = form;
    known = record { member = lt; number = few };
    member = form_member ∙ member;
    number = form_number ∙ number;
  }

  wrong_end : (d : Denial) → IsDenialOf problem words d → (o : Option (List ℕ)) → word_at (bid_end problem d.bid) words.rest ≡ o
      → with_end d o ≡ Err code → IsWrongReason problem bytes code
  wrong_end d is None o e =
      subst (IsWrongReason problem bytes) (code_is Text code e) (
        d,
        names d.bid is.reason.bid.member is.reason.bid.number is.member is.number,
        is.reason.place,
        form_cause ∙ is.cause,
        λ rest same.
            let here : words_with problem d (bid_end problem d.bid ++ rest) ≡ words =
            some_is (words_with problem d (bid_end problem d.bid ++ rest)) words (sym (words_behind problem d rest is.reason) ∙ ap words_in (sym same) ∙ found) in
            none_some (word_at (bid_end problem d.bid) words.rest) rest o
            (ap (λ (w : Words). word_at (bid_end problem d.bid) w.rest) (sym here) ∙ word_again (bid_end problem d.bid) rest),
      )
  wrong_end d is (Some rest) o e = absurd cc

  wrong_cause : (m k : ℕ) → m < length problem.base.members → words.member ≡ member_name problem m → k < length (bids_of problem m)
      → words.number ≡ number_text (k + 1) → (o : Option Cause) → cause_named problem words.cause ≡ o
      → (with_cause m k o >>= with_denial problem words) ≡ Err code → IsWrongReason problem bytes code
  wrong_cause m k lt member few number None o e =
      subst (IsWrongReason problem bytes) (code_is Place code e) (
        record { member = m; bid = k },
        names (record { member = m; bid = k }) lt few member number,
        λ cause within same. none_some (cause_named problem words.cause) cause o (ap (cause_named problem) (sym form_cause ∙ same) ∙ cause_back problem cause within),
      )
  wrong_cause m k lt member few number (Some c) o e =
      let this : Denial = record { bid = record { member = m; bid = k }; cause = c } in
      let is = cause_found problem words.cause c o in
      wrong_end this
      (record {
        reason = record { bid = record { member = lt; number = few }; place = is.within };
        member = member;
        number = number;
        cause = sym is.text;
      })
      (word_at (bid_end problem this.bid) words.rest) refl e

  wrong_number : (m : ℕ) → m < length problem.base.members → words.member ≡ member_name problem m → (o : Option ℕ)
      → numbered (length (bids_of problem m)) words.number ≡ o
      → (with_number problem words m o >>= with_denial problem words) ≡ Err code → IsWrongReason problem bytes code
  wrong_number m lt member None o e =
      let count = length (bids_of problem m) in
      subst (IsWrongReason problem bytes) (code_is Bid code e) (
        form,
        m,
        lt,
        form_member ∙ member,
        λ k few same. none_some (numbered count words.number) k o
            (ap (numbered count) (sym form_number ∙ same) ∙ bid_back count k (omega (arith, few_bids problem m)) few),
      )
  wrong_number m lt member (Some k) o e =
      let h = bid_found (length (bids_of problem m)) words.number k o in
      wrong_cause m k lt member h.0 (sym h.1) (cause_named problem words.cause) refl e

  wrong_member : (o : Option ℕ) → member_named problem words.member ≡ o
      → (with_member problem words o >>= with_denial problem words) ≡ Err code → IsWrongReason problem bytes code
  wrong_member None o e =
      subst (IsWrongReason problem bytes) (code_is Member code e) (
        form,
        λ m lt same. none_some (member_named problem words.member) m o (ap (member_named problem) (sym form_member ∙ same) ∙ member_back problem m lt),
      )
  wrong_member (Some m) o e =
      let h = member_found problem words.member m o in
      wrong_number m h.0 (sym h.1) (numbered (length (bids_of problem m)) words.number) refl e

pub reason_wrong : (problem : Problem) (bytes : List ℕ) (code : ReasonTextCode) → reason_at problem bytes ≡ Err code → IsWrongReason problem bytes code
unfolding reason_at denial_of
reason_wrong problem bytes code e = by (words_in bytes) refl e
  where
    by : (o : Option Words) → words_in bytes ≡ o → (or_fault Shape o >>= λ words. denial_of problem words >>= with_denial problem words) ≡ Err code
        → IsWrongReason problem bytes code
    by None o e = subst (IsWrongReason problem bytes) (code_is Shape code e) (λ form. none_some (words_in bytes) _ o (words_of_form bytes form))
    by (Some words) o e = wrong_member problem bytes code words o (member_named problem words.member) refl e

-- ---- and the other way round

module _ (problem : Problem) (bytes : List ℕ) (form : HasReasonForm bytes) where
  abbrev form_words : Words
  form_words = record { member = form.member; number = form.number; cause = form.cause; rest = 32 ∷ (form.bid ++ (10 ∷ form.rest)) }

  read_by : reason_at problem bytes ≡ (denial_of problem form_words >>= with_denial problem form_words)
  unfolding reason_at
  read_by = rw (words_of_form bytes form) refl

  no_member : ((m : ℕ) → m < length problem.base.members → form.member ≢ member_name problem m) → reason_at problem bytes ≡ Err Member
  unfolding denial_of
  no_member none = read_by ∙ by (member_named problem form.member) refl
    where
      by : (o : Option ℕ) → member_named problem form.member ≡ o → (with_member problem form_words o >>= with_denial problem form_words) ≡ Err Member
      by None o = refl
      by (Some m) o = let h = member_found problem form.member m o in absurd (none m h.0 (sym h.1))

  no_number : (m : ℕ) → m < length problem.base.members → form.member ≡ member_name problem m
      → ((k : ℕ) → k < length (bids_of problem m) → form.number ≢ number_text (k + 1)) → reason_at problem bytes ≡ Err Bid
  unfolding denial_of
  no_number m lt member none =
      read_by
      ∙ ap (λ (o : Option ℕ). with_member problem form_words o >>= with_denial problem form_words) (ap (member_named problem) member ∙ member_back problem m lt)
      ∙ by (numbered (length (bids_of problem m)) form.number) refl
    where
      by : (o : Option ℕ) → numbered (length (bids_of problem m)) form.number ≡ o
          → (with_number problem form_words m o >>= with_denial problem form_words) ≡ Err Bid
      by None o = refl
      by (Some k) o = let h = bid_found (length (bids_of problem m)) form.number k o in absurd (none k h.0 (sym h.1))

  no_cause : (m k : ℕ) → m < length problem.base.members → form.member ≡ member_name problem m → k < length (bids_of problem m) → form.number ≡ number_text (k + 1)
      → ((cause : Cause) → place_of cause ≤ length problem.base.members → form.cause ≢ cause_text problem cause) → reason_at problem bytes ≡ Err Place
  unfolding denial_of
  no_cause m k lt member few number none =
      read_by
      ∙ ap (λ (o : Option ℕ). with_member problem form_words o >>= with_denial problem form_words) (ap (member_named problem) member ∙ member_back problem m lt)
      ∙ ap (λ (o : Option ℕ). with_number problem form_words m o >>= with_denial problem form_words)
      (ap (numbered (length (bids_of problem m))) number ∙ bid_back (length (bids_of problem m)) k (omega (arith, few_bids problem m)) few)
      ∙ by (cause_named problem form.cause) refl
    where
      by : (o : Option Cause) → cause_named problem form.cause ≡ o → (with_cause m k o >>= with_denial problem form_words) ≡ Err Place
      by None o = refl
      by (Some c) o = let h = cause_found problem form.cause c o in absurd (none c h.within (sym h.text))

  no_text : (d : Denial) → IsReason problem d → form.member ≡ member_name problem d.bid.member → form.number ≡ number_text (d.bid.bid + 1)
      → form.cause ≡ cause_text problem d.cause → ((rest : List ℕ) → bytes ≢ reason_text problem d ++ rest) → reason_at problem bytes ≡ Err Text
  no_text d is member number cause none =
      read_by
      ∙ ap (λ (r : Result Denial ReasonTextCode). r >>= with_denial problem form_words) read
      ∙ by (word_at (bid_end problem d.bid) form_words.rest) refl
    where
      read : denial_of problem form_words ≡ Ok d
      read =
          ap (λ (t : List ℕ). denial_of problem (record { member = t; number = form.number; cause = form.cause; rest = form_words.rest })) member
          ∙ ap (λ (t : List ℕ). denial_of problem (record { member = member_name problem d.bid.member; number = t; cause = form.cause; rest = form_words.rest })) number
          ∙ ap (λ (t : List ℕ). denial_of problem (record { member = member_name problem d.bid.member; number = number_text (d.bid.bid + 1); cause = t; rest = form_words.rest })) cause
          ∙ denial_back problem d form_words.rest is

      by : (o : Option (List ℕ)) → word_at (bid_end problem d.bid) form_words.rest ≡ o → with_end d o ≡ Err Text
      by None o = refl
      by (Some rest) o =
          let end = word_takes (bid_end problem d.bid) form_words.rest rest o in
          let words = words_taken bytes form_words (words_of_form bytes form) in
          absurd (none rest (whole_line problem bytes rest form_words d words (record { reason = is; member = member; number = number; cause = cause }) end))

no_form : (problem : Problem) (bytes : List ℕ) → ¬ (HasReasonForm bytes) → reason_at problem bytes ≡ Err Shape
unfolding reason_at
no_form problem bytes none = by (words_in bytes) refl
  where
    by : (o : Option Words) → words_in bytes ≡ o → (or_fault Shape o >>= λ words. denial_of problem words >>= with_denial problem words) ≡ Err Shape
    by None o = refl
    by (Some words) o = absurd (none (form_of_words bytes words (words_taken bytes words o)).0)

pub reason_found : (problem : Problem) (bytes : List ℕ) (code : ReasonTextCode) → IsWrongReason problem bytes code → reason_at problem bytes ≡ Err code
reason_found problem bytes NoMemory w = absurd w
reason_found problem bytes Shape w = no_form problem bytes w
reason_found problem bytes Member w = no_member problem bytes w.0 w.1
reason_found problem bytes Bid w = no_number problem bytes w.0 w.1 w.2 w.3 w.4
reason_found problem bytes Place w =
    no_cause problem bytes w.1.form w.0.member w.0.bid w.1.known.member w.1.member w.1.known.number w.1.number w.2
reason_found problem bytes Text w =
    no_text problem bytes w.1.form w.0 (record { bid = w.1.known; place = w.2 }) w.1.member w.1.number w.3 w.4
