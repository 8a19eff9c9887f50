-- The pairings that a row names are read as the line that they spell, and as no other.
use Rattle.std.proofs.Common.{◌≡◌, ◌≢◌, ℕ, zero, suc, ◌+◌, ◌-◌, ◌<◌, ◌≤◌, Bool, true, false, cond, eqb, leb, List, [], ◌∷◌, ◌++◌, length, get_or, Option, Some, None, refl, sym, ap, subst, ◌∙◌, append_assoc, arith, inl, inr}
use Rattle.std.specs.Prelude.{All, slice_get, IsTrue}
use Rattle.std.specs.List.{list_all}
use Rattle.std.specs.Option.{option_map_or}
use Rattle.std.proofs.lemmas.Bool.{eqb-true, ne_eqb, false≢true, and_parts, leb-true, le-leb, cases_order}
use Rattle.std.proofs.lemmas.Option.{slice_get_cases, get_or_from_slice_get}
use Rattle.duty_calendar.specs.Forms.{is_name, is_name_byte}
use Rattle.duty_calendar.specs.Checks.{IsPairing}
use Rattle.duty_calendar.specs.declared.pairing.Pairing.{Pairing}
use Rattle.roster_model.specs.declared.problem.Problem.{Problem}
use Rattle.roster_model.specs.Ascending.{is_ascending, ascends_from}
use Rattle.roster_text.specs.RosterText.{pairing_name, names_text, IsLine}
use Rattle.roster_text.specs.NameReading.{◌>>=◌, word_at, after_separator, name_at, named, names_at, line_at, ordered, pairings_at}
use Rattle.roster_text.proofs.Several.{with_front, regroup}
use Rattle.roster_text.proofs.Words.{bind_some, some_if, some_is, word_takes, word_again, same_front}

-- the names of the month's pairings: made of name bytes, and distinct
pub record HasNames (problem : Problem) : Type 0 where
  pub form : (p : ℕ) → p < length problem.base.pairings → list_all is_name_byte (pairing_name problem p) ≡ true
  pub apart : (p q : ℕ) → p < q → q < length problem.base.pairings → pairing_name problem p ≢ pairing_name problem q
  pub some : (p : ℕ) → p < length problem.base.pairings → pairing_name problem p ≢ []

-- ---- names

-- what a separator is
record IsSeparated (bytes : List ℕ) (x : List ℕ × Bool) : Type 0 where
  byte : ℕ
  is : bytes ≡ byte ∷ x.0
  no_name : is_name_byte byte ≡ false
  last : x.1 ≡ true → byte ≡ 44
  more : x.1 ≡ false → byte ≡ 32

separated : (bytes : List ℕ) (x : List ℕ × Bool) → after_separator bytes ≡ Some x → IsSeparated bytes x
separated [] x e = absurd cc
separated (c ∷ cs) x e = by (eqb c 32) refl e
  where
    comma : (b : Bool) → eqb c 44 ≡ b → cond b (Some (cs, true)) None ≡ Some x → IsSeparated (c ∷ cs) x
    comma true t e =
        let is44 : c ≡ 44 = eqb-true c 44 t in
        subst (IsSeparated (c ∷ cs)) (some_is (cs, true) x e)
        (record { byte = c; is = refl; no_name = ap is_name_byte is44; last = λ _. is44; more = λ h. absurd (false≢true (sym h)) })
    comma false t e = absurd cc

    by : (b : Bool) → eqb c 32 ≡ b → cond b (Some (cs, false)) (cond (eqb c 44) (Some (cs, true)) None) ≡ Some x → IsSeparated (c ∷ cs) x
    by true t e =
        let is32 : c ≡ 32 = eqb-true c 32 t in
        subst (IsSeparated (c ∷ cs)) (some_is (cs, false) x e)
        (record { byte = c; is = refl; no_name = ap is_name_byte is32; last = λ h. absurd (false≢true h); more = λ _. is32 })
    by false t e = comma (eqb c 44) refl e

-- the name of a pairing that stands there
record IsNamed (problem : Problem) (p : ℕ) (bytes : List ℕ) (x : List ℕ × Bool) : Type 0 where
  byte : ℕ
  is : bytes ≡ pairing_name problem p ++ byte ∷ x.0
  no_name : is_name_byte byte ≡ false
  last : x.1 ≡ true → byte ≡ 44
  more : x.1 ≡ false → byte ≡ 32

name_takes : (problem : Problem) (p : ℕ) (bytes : List ℕ) (x : List ℕ × Bool) → name_at problem p bytes ≡ Some x → IsNamed problem p bytes x
unfolding name_at
name_takes problem p bytes x e =
    let a = bind_some (word_at (pairing_name problem p) bytes) after_separator x e in
    let w = word_takes (pairing_name problem p) bytes a.0 a.1 in
    let s = separated a.0 x a.2 in
    record { byte = s.byte; is = w ∙ ap (λ (t : List ℕ). pairing_name problem p ++ t) s.is; no_name = s.no_name; last = s.last; more = s.more }

name_again : (problem : Problem) (p : ℕ) (rest : List ℕ) → name_at problem p (pairing_name problem p ++ 32 ∷ rest) ≡ Some (rest, false)
unfolding name_at
name_again problem p rest = rw (word_again (pairing_name problem p) (32 ∷ rest)) refl

last_again : (problem : Problem) (p : ℕ) (rest : List ℕ) → name_at problem p (pairing_name problem p ++ 44 ∷ rest) ≡ Some (rest, true)
unfolding name_at
last_again problem p rest = rw (word_again (pairing_name problem p) (44 ∷ rest)) refl

-- ---- pairings

-- names that were read: what they spell, and where they lie
pub record AreNamed (problem : Problem) (p n : ℕ) (bytes : List ℕ) (x : List ℕ × List ℕ) : Type 0 where
  pub is : bytes ≡ names_text problem x.0 ++ 44 ∷ x.1
  pub some : x.0 ≢ []
  pub least : All (λ q. p ≤ q) x.0
  pub most : All (λ q. q < p + n) x.0

names_more : (problem : Problem) (p : ℕ) (line : List ℕ) → line ≢ [] → names_text problem (p ∷ line) ≡ pairing_name problem p ++ 32 ∷ names_text problem line
names_more problem p [] some = absurd (some refl)
names_more problem p (q ∷ line) some = refl

All_one : (P : ℕ → Type 0) (x : ℕ) → P x → All P (x ∷ [])
All_one P x h zero d lt = h
All_one P x h (suc k) d lt = absurd (omega arith)

All_more : (P : ℕ → Type 0) (x : ℕ) (xs : List ℕ) → P x → All P xs → All P (x ∷ xs)
All_more P x xs h hs zero d lt = h
All_more P x xs h hs (suc k) d lt = hs k d (omega arith)

pub All_weaker : {A : Type 0} (P Q : A → Type 0) (xs : List A) → ((x : A) → P x → Q x) → All P xs → All Q xs
All_weaker P Q xs f h k d lt = f (get_or xs k d) (h k d lt)

pub names_take : (problem : Problem) (p n : ℕ) (bytes : List ℕ) (x : List ℕ × List ℕ) → names_at problem p n bytes ≡ Some x → AreNamed problem p n bytes x
unfolding names_at
names_take problem p zero bytes x e = absurd cc
names_take problem p (suc n) bytes x e = by (name_at problem p bytes) refl e (λ b f. names_take problem (p + 1) n b x f) (λ b y f. names_take problem (p + 1) n b y f)
  where
    by : (o : Option (List ℕ × Bool)) → name_at problem p bytes ≡ o → named p bytes o (λ rest. names_at problem (p + 1) n rest) ≡ Some x
        → ((b : List ℕ) → names_at problem (p + 1) n b ≡ Some x → AreNamed problem (p + 1) n b x)
        → ((b : List ℕ) (y : List ℕ × List ℕ) → names_at problem (p + 1) n b ≡ Some y → AreNamed problem (p + 1) n b y)
        → AreNamed problem p (suc n) bytes x
    by None o e skip more =
        let h = skip bytes e in
        record {
          is = h.is;
          some = h.some;
          least = All_weaker (λ q. p + 1 ≤ q) (λ q. p ≤ q) x.0 (λ q le. omega (arith, le)) h.least;
          most = All_weaker (λ q. q < p + 1 + n) (λ q. q < p + suc n) x.0 (λ q lt. omega (arith, lt)) h.most;
        }
    by (Some (rest, true)) o e skip more =
        let named_here = name_takes problem p bytes (rest, true) o in
        subst (AreNamed problem p (suc n) bytes) (some_is (p ∷ [], rest) x e)
        (record {
          is = named_here.is ∙ ap (λ (c : ℕ). pairing_name problem p ++ c ∷ rest) (named_here.last refl);
          some = λ none. absurd (let n0 : p ∷ [] ≡ [] = none in cc);
          least = All_one (λ q. p ≤ q) p (omega arith);
          most = All_one (λ q. q < p + suc n) p (omega arith);
        })
    by (Some (rest, false)) o e skip more =
        let named_here = name_takes problem p bytes (rest, false) o in
        let a = bind_some (names_at problem (p + 1) n rest) (λ y. Some (p ∷ y.0, y.1)) x e in
        let h = more rest a.0 a.1 in
        subst (AreNamed problem p (suc n) bytes) (some_is (p ∷ a.0.0, a.0.1) x a.2)
        (record {
          is =
              named_here.is ∙ ap (λ (c : ℕ). pairing_name problem p ++ c ∷ rest) (named_here.more refl)
              ∙ ap (λ (t : List ℕ). pairing_name problem p ++ 32 ∷ t) h.is
              ∙ sym (append_assoc (pairing_name problem p) (32 ∷ names_text problem a.0.0) (44 ∷ a.0.1))
              ∙ ap (λ (t : List ℕ). t ++ 44 ∷ a.0.1) (sym (names_more problem p a.0.0 h.some));
          some = λ none. absurd (let n0 : p ∷ a.0.0 ≡ [] = none in cc);
          least = All_more (λ q. p ≤ q) p a.0.0 (omega arith) (All_weaker (λ q. p + 1 ≤ q) (λ q. p ≤ q) a.0.0 (λ q le. omega (arith, le)) h.least);
          most = All_more (λ q. q < p + suc n) p a.0.0 (omega arith) (All_weaker (λ q. q < p + 1 + n) (λ q. q < p + suc n) a.0.0 (λ q lt. omega (arith, lt)) h.most);
        })

-- another pairing's name is not found where a name and a separator stand
other_name : (problem : Problem) (names : HasNames problem) (p q c : ℕ) (rest : List ℕ) → p < q → q < length problem.base.pairings → is_name_byte c ≡ false
    → name_at problem p (pairing_name problem q ++ c ∷ rest) ≡ None
other_name problem names p q c rest lt known apart = by (name_at problem p (pairing_name problem q ++ c ∷ rest)) refl
  where
    by : (o : Option (List ℕ × Bool)) → name_at problem p (pairing_name problem q ++ c ∷ rest) ≡ o → o ≡ None
    by None e = refl
    by (Some x) e =
        let h = name_takes problem p (pairing_name problem q ++ c ∷ rest) x e in
        absurd (names.apart p q lt known
        (sym (same_front is_name_byte (pairing_name problem q) (pairing_name problem p) c h.byte rest x.0
        (names.form q known) (names.form p (omega arith)) apart h.no_name h.is).0))

-- what ascends from above a number ascends from the next one
ascends : (p q : ℕ) (qs : List ℕ) → p < q → ascends_from p (q ∷ qs) ≡ true → ascends_from (p + 1) (q ∷ qs) ≡ true
ascends p q qs lt up =
    let parts = and_parts (leb p q) (ascends_from (q + 1) qs) up in
    rw (le-leb (p + 1) q (omega arith)) parts.1

-- the names of an ascending line are read again
pub names_again : (problem : Problem) (names : HasNames problem) (n p : ℕ) (line rest : List ℕ)
    → p + n ≡ length problem.base.pairings → line ≢ [] → ascends_from p line ≡ true → All (λ q. q < length problem.base.pairings) line
    → names_at problem p n (names_text problem line ++ 44 ∷ rest) ≡ Some (line, rest)
unfolding names_at
names_again problem names n p [] rest whole some up known = absurd (some refl)
names_again problem names zero p (q ∷ line) rest whole some up known =
    let parts = and_parts (leb p q) _ up in
    let least : p ≤ q = leb-true p q parts.0 in
    let most : q < length problem.base.pairings = known 0 q (omega arith) in
    absurd (omega arith)
names_again problem names (suc n) p (q ∷ []) rest whole some up known =
    let parts = and_parts (leb p q) _ up in
    let least : p ≤ q = leb-true p q parts.0 in
    let most : q < length problem.base.pairings = known 0 q (omega arith) in
    elim (cases_order p q) [
      | inl same ↦
          rw same (ap (λ (o : Option (List ℕ × Bool)). named q (pairing_name problem q ++ 44 ∷ rest) o (λ r. names_at problem (q + 1) n r)) (last_again problem q rest))
      | inr other ↦
          let below : p < q = elim other [ inl h ↦ h | inr h ↦ absurd (omega arith) ] in
          ap (λ (o : Option (List ℕ × Bool)). named p (pairing_name problem q ++ 44 ∷ rest) o (λ r. names_at problem (p + 1) n r)) (other_name problem names p q 44 rest below most refl)
          ∙ names_again problem names n (p + 1) (q ∷ []) rest (omega arith) (λ none. absurd (let n0 : q ∷ [] ≡ [] = none in cc)) (ascends p q [] below up) known
    ]
names_again problem names (suc n) p (q ∷ (r ∷ line)) rest whole some up known =
    let parts = and_parts (leb p q) _ up in
    let least : p ≤ q = leb-true p q parts.0 in
    let most : q < length problem.base.pairings = known 0 q (omega arith) in
    let others : All (λ s. s < length problem.base.pairings) (r ∷ line) = λ k d lt. known (suc k) d (omega arith) in
    let tail_some : r ∷ line ≢ [] = λ none. absurd (let n0 : r ∷ line ≡ [] = none in cc) in
    let regrouped : names_text problem (q ∷ (r ∷ line)) ++ 44 ∷ rest ≡ pairing_name problem q ++ 32 ∷ (names_text problem (r ∷ line) ++ 44 ∷ rest) =
    append_assoc (pairing_name problem q) (32 ∷ names_text problem (r ∷ line)) (44 ∷ rest) in
    elim (cases_order p q) [
      | inl same ↦
          ap (names_at problem p (suc n)) regrouped
          ∙ rw same
          (ap (λ (o : Option (List ℕ × Bool)). named q (pairing_name problem q ++ 32 ∷ (names_text problem (r ∷ line) ++ 44 ∷ rest)) o (λ t. names_at problem (q + 1) n t)) (name_again problem q (names_text problem (r ∷ line) ++ 44 ∷ rest))
          ∙ ap (λ (o : Option (List ℕ × List ℕ)). o >>= λ x. Some (q ∷ x.0, x.1)) (names_again problem names n (q + 1) (r ∷ line) rest (omega arith) tail_some parts.1 others))
      | inr other ↦
          let below : p < q = elim other [ inl h ↦ h | inr h ↦ absurd (omega arith) ] in
          ap (names_at problem p (suc n)) regrouped
          ∙ ap (λ (o : Option (List ℕ × Bool)). named p (pairing_name problem q ++ 32 ∷ (names_text problem (r ∷ line) ++ 44 ∷ rest)) o (λ t. names_at problem (p + 1) n t)) (other_name problem names p q 32 (names_text problem (r ∷ line) ++ 44 ∷ rest) below most refl)
          ∙ ap (names_at problem (p + 1) n) (sym regrouped)
          ∙ names_again problem names n (p + 1) (q ∷ (r ∷ line)) rest (omega arith) some (ascends p q (r ∷ line) below up) known
    ]

-- ---- the loop over the pairings

pub names_skip : (problem : Problem) (front : List ℕ) (count i : ℕ) (bytes : List ℕ) (total : Option (List ℕ × List ℕ)) → i < count → name_at problem i bytes ≡ None
    → with_front front (names_at problem i (count - i) bytes) ≡ total → with_front front (names_at problem (i + 1) (count - (i + 1)) bytes) ≡ total
unfolding names_at
names_skip problem front count i bytes total lt h so_far =
    let k : count - i ≡ suc (count - (i + 1)) = omega arith in
    sym (ap (λ (m : ℕ). with_front front (names_at problem i m bytes)) k ∙ ap (λ (o : Option (List ℕ × Bool)). with_front front (named i bytes o (λ r. names_at problem (i + 1) (count - (i + 1)) r))) h) ∙ so_far

pub names_more_of : (problem : Problem) (front : List ℕ) (count i : ℕ) (bytes after : List ℕ) (total : Option (List ℕ × List ℕ)) → i < count → name_at problem i bytes ≡ Some (after, false)
    → with_front front (names_at problem i (count - i) bytes) ≡ total → with_front (front ++ i ∷ []) (names_at problem (i + 1) (count - (i + 1)) after) ≡ total
unfolding names_at
names_more_of problem front count i bytes after total lt h so_far =
    let k : count - i ≡ suc (count - (i + 1)) = omega arith in
    sym (ap (λ (m : ℕ). with_front front (names_at problem i m bytes)) k ∙ ap (λ (o : Option (List ℕ × Bool)). with_front front (named i bytes o (λ r. names_at problem (i + 1) (count - (i + 1)) r))) h ∙ regroup front i (names_at problem (i + 1) (count - (i + 1)) after)) ∙ so_far

pub names_last : (problem : Problem) (front : List ℕ) (count i : ℕ) (bytes after : List ℕ) (total : Option (List ℕ × List ℕ)) → i < count → name_at problem i bytes ≡ Some (after, true)
    → with_front front (names_at problem i (count - i) bytes) ≡ total → total ≡ Some (front ++ i ∷ [], after)
unfolding names_at
names_last problem front count i bytes after total lt h so_far =
    let k : count - i ≡ suc (count - (i + 1)) = omega arith in
    sym so_far ∙ ap (λ (m : ℕ). with_front front (names_at problem i m bytes)) k ∙ ap (λ (o : Option (List ℕ × Bool)). with_front front (named i bytes o (λ r. names_at problem (i + 1) (count - (i + 1)) r))) h

pub names_end : (problem : Problem) (front : List ℕ) (count i : ℕ) (bytes : List ℕ) (total : Option (List ℕ × List ℕ)) → count ≤ i
    → with_front front (names_at problem i (count - i) bytes) ≡ total → total ≡ None
unfolding names_at
names_end problem front count i bytes total le so_far =
    let k : count - i ≡ 0 = omega arith in
    sym so_far ∙ ap (λ (m : ℕ). with_front front (names_at problem i m bytes)) k

pub front_none : (x : Option (List ℕ × List ℕ)) → with_front [] x ≡ x
front_none (Some x) = refl
front_none None = refl

-- ---- lines

-- a line that was read
pub record IsLineTaken (problem : Problem) (bytes : List ℕ) (x : List ℕ × List ℕ) : Type 0 where
  pub is : bytes ≡ names_text problem x.0 ++ 44 ∷ x.1
  pub in_range : All (λ q. q < length problem.base.pairings) x.0

pub line_takes : (problem : Problem) (bytes : List ℕ) (x : List ℕ × List ℕ) → line_at problem bytes ≡ Some x → IsLineTaken problem bytes x
line_takes problem [] x e = absurd cc
line_takes problem (c ∷ cs) x e = by (eqb c 44) refl e
  where
    by : (b : Bool) → eqb c 44 ≡ b → cond b (Some ([], cs)) (names_at problem 0 (length problem.base.pairings) (c ∷ cs)) ≡ Some x → IsLineTaken problem (c ∷ cs) x
    by true t e =
        subst (IsLineTaken problem (c ∷ cs)) (some_is ([], cs) x e)
        (record { is = ap (λ (d : ℕ). d ∷ cs) (eqb-true c 44 t); in_range = λ k d lt. absurd (omega arith) })
    by false t e =
        let h = names_take problem 0 (length problem.base.pairings) (c ∷ cs) x e in
        record { is = h.is; in_range = All_weaker (λ q. q < 0 + length problem.base.pairings) (λ q. q < length problem.base.pairings) x.0 (λ q lt. omega (arith, lt)) h.most }

-- a text that begins with a name's byte begins with no comma
not_comma : (c : ℕ) → is_name_byte c ≡ true → eqb c 44 ≡ false
not_comma c h = ne_eqb c 44 (λ e. false≢true (ap is_name_byte (sym e) ∙ h))

names_first : (problem : Problem) (line rest : List ℕ) (p : ℕ) → pairing_name problem p ≢ [] → list_all is_name_byte (pairing_name problem p) ≡ true
    → (c : ℕ) × (cs : List ℕ) × (names_text problem (p ∷ line) ++ rest ≡ c ∷ cs) × (is_name_byte c ≡ true)
names_first problem line rest p some form = by line (pairing_name problem p) refl some form
  where
    by : (line : List ℕ) (name : List ℕ) → pairing_name problem p ≡ name → name ≢ [] → list_all is_name_byte name ≡ true
        → (c : ℕ) × (cs : List ℕ) × (names_text problem (p ∷ line) ++ rest ≡ c ∷ cs) × (is_name_byte c ≡ true)
    by line [] e some form = absurd (some refl)
    by [] (c ∷ name) e some form = (c, name ++ rest, ap (λ (t : List ℕ). t ++ rest) e, (and_parts (is_name_byte c) (list_all is_name_byte name) form).0)
    by (q ∷ line) (c ∷ name) e some form =
        (c, (name ++ 32 ∷ names_text problem (q ∷ line)) ++ rest, ap (λ (t : List ℕ). (t ++ 32 ∷ names_text problem (q ∷ line)) ++ rest) e, (and_parts (is_name_byte c) (list_all is_name_byte name) form).0)

line_else : (problem : Problem) (bytes : List ℕ) (c : ℕ) (cs : List ℕ) → bytes ≡ c ∷ cs → is_name_byte c ≡ true → line_at problem bytes ≡ names_at problem 0 (length problem.base.pairings) bytes
line_else problem [] c cs e form = absurd (let n : [] ≡ c ∷ cs = e in cc)
line_else problem (d ∷ ds) c cs e form =
    let same : d ≡ c = cc in
    rw (not_comma d (ap is_name_byte same ∙ form)) refl

pub line_again : (problem : Problem) (names : HasNames problem) (line rest : List ℕ) → is_ascending line ≡ true → All (λ q. q < length problem.base.pairings) line
    → line_at problem (names_text problem line ++ 44 ∷ rest) ≡ Some (line, rest)
line_again problem names [] rest up known = refl
line_again problem names (p ∷ line) rest up known =
    let lt : p < length problem.base.pairings = known 0 p (omega arith) in
    let first = names_first problem line (44 ∷ rest) p (names.some p lt) (names.form p lt) in
    line_else problem (names_text problem (p ∷ line) ++ 44 ∷ rest) first.0 first.1 first.2 first.3
    ∙ names_again problem names (length problem.base.pairings) 0 (p ∷ line) rest (omega arith) (λ none. absurd (let n0 : p ∷ line ≡ [] = none in cc)) up known

-- ---- what a problem's names are

pub names_of : (problem : Problem) → HasNames problem
names_of problem = record {
  form = λ p lt. (parts-of p lt).1;
  apart = λ p q lt known. apart-of p q lt known;
  some = λ p lt. (parts-of p lt).0;
}
  where
    forms : All (λ (p : Pairing). IsTrue (is_name p.name)) problem.base.pairings
    forms = All_weaker (IsPairing problem.base.rules.horizon) (λ (p : Pairing). IsTrue (is_name p.name)) problem.base.pairings (λ p good. good.named) problem.valid.month.pairings_form.each

    name-is : (p : ℕ) (q : Pairing) → slice_get problem.base.pairings p ≡ Some q → pairing_name problem p ≡ q.name
    name-is p q e = ap (λ (o : Option Pairing). option_map_or (λ (r : Pairing). r.name) o []) e

    named_so : (name : List ℕ) → is_name name ≡ true → (name ≢ []) × (list_all is_name_byte name ≡ true)
    named_so [] h = absurd (false≢true h)
    named_so (c ∷ cs) h = (λ none. absurd (let n0 : c ∷ cs ≡ [] = none in cc), (and_parts _ (list_all is_name_byte (c ∷ cs)) h).1)

    parts-of : (p : ℕ) → p < length problem.base.pairings → (pairing_name problem p ≢ []) × (list_all is_name_byte (pairing_name problem p) ≡ true)
    parts-of p lt =
        elim (slice_get_cases problem.base.pairings p).1 [
          | inl there ↦
              let good : is_name there.0.name ≡ true = subst (λ (r : Pairing). IsTrue (is_name r.name)) there.3 (forms p there.0 lt) in
              subst (λ (n : List ℕ). (n ≢ []) × (list_all is_name_byte n ≡ true)) (sym (name-is p there.0 there.2)) (named_so there.0.name good)
          | inr past ↦ absurd (omega (arith, past.0, lt))
        ]

    apart-of : (p q : ℕ) → p < q → q < length problem.base.pairings → pairing_name problem p ≢ pairing_name problem q
    apart-of p q lt known =
        elim (slice_get_cases problem.base.pairings p).1 [
          | inl a ↦
              elim (slice_get_cases problem.base.pairings q).1 [
                | inl b ↦
                    let other = problem.valid.month.pairings_form.names p q a.0 lt known in
                    let ga : get_or problem.base.pairings p a.0 ≡ a.0 = a.3 in
                    let gb : get_or problem.base.pairings q a.0 ≡ b.0 = get_or_from_slice_get problem.base.pairings q b.0 a.0 b.2 in
                    λ e. other (ap (λ (r : Pairing). r.name) ga ∙ sym (name-is p a.0 a.2) ∙ e ∙ name-is q b.0 b.2 ∙ sym (ap (λ (r : Pairing). r.name) gb))
                | inr past ↦ absurd (omega (arith, past.0, known))
              ]
          | inr past ↦ absurd (omega (arith, past.0, lt, known))
        ]

-- ---- ascending lines

pub record IsOrderedTaken (problem : Problem) (bytes : List ℕ) (x : List ℕ × List ℕ) : Type 0 where
  pub is : bytes ≡ names_text problem x.0 ++ 44 ∷ x.1
  pub line : IsLine problem x.0

pub pairings_take : (problem : Problem) (bytes : List ℕ) (x : List ℕ × List ℕ) → pairings_at problem bytes ≡ Some x → IsOrderedTaken problem bytes x
unfolding pairings_at
pairings_take problem bytes x e =
    let a = bind_some (line_at problem bytes) ordered x e in
    let up = some_if (is_ascending a.0.0) (a.0.0, a.0.1) x a.2 in
    let line = line_takes problem bytes a.0 a.1 in
    subst (IsOrderedTaken problem bytes) up.1
    (record { is = line.is; line = record { ascending = up.0; in_range = line.in_range } })

pub pairings_again : (problem : Problem) (line rest : List ℕ) → IsLine problem line → pairings_at problem (names_text problem line ++ 44 ∷ rest) ≡ Some (line, rest)
unfolding pairings_at
pairings_again problem line rest good =
    rw (line_again problem (names_of problem) line rest good.ascending good.in_range, good.ascending) refl
