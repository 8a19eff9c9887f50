-- Lens lines, one after the other, and the table that they give where none repeats another.
use Rattle.std.proofs.Common.{◌≡◌, ℕ, zero, suc, ◌+◌, ◌-◌, ◌<◌, ◌≤◌, true, false, List, [], ◌∷◌, ◌++◌, map, take, length, get_or, Option, Some, None, Bor, inl, inr, refl, sym, ap, subst, ◌∙◌, arith, length-append}
use Rattle.std.specs.Prelude.{Bool, not, ◌&&◌, Result, Ok, Err, MatchOption, IsErrAnd}
use Rattle.std.specs.List.{list_all}
use Rattle.std.proofs.lemmas.Bool.{cases_lt}
use Rattle.std.proofs.lemmas.List.{map-append, length-map, get_or-map}
use Rattle.roster_model.specs.declared.proof.Lens.{Lens}
use Rattle.cert_text.specs.declared.fault.CertCode.{CertCode}
use Rattle.cert_text.specs.declared.fault.CertCode.TheVariants as code
use Rattle.cert_text.specs.declared.fault.CertFault.{CertFault}
use Rattle.cert_text.specs.declared.wanted.Wanted.{Wanted}
use Rattle.cert_text.specs.declared.wanted.May.{May}
use Rattle.cert_text.specs.declared.flaw.Stop.{Stop}
use Rattle.cert_text.specs.declared.flaw.Stop.TheVariants as stop
use Rattle.cert_text.specs.Words.{words_of}
use Rattle.cert_text.specs.Lines.{Rest, Line, and_then, cut, line_of, next, says, stop_told, Reads, ReadsAs}
use Rattle.cert_text.specs.Forms.{kept_new}
use Rattle.cert_text.specs.Spelling.{lens_word, lens_words, lens_key, words_text, is_kept}
use Rattle.cert_text.specs.Limits.{is_plain_lens}
use Rattle.cert_text.specs.Reading.{lens_in, lens_with, may_in, added, lens_into, no_lens, lens_of, lens_at, table_from}
use Rattle.cert_text.specs.Places.{AreFresh, AreFreshTo}
use Rattle.cert_text.specs.LensLines.{texts, lenses_of, EndsAtRepeat}
use Rattle.cert_text.proofs.LineLaws.{read_as, ok_is, then_ok, words_takes}
use Rattle.cert_text.proofs.KeyLaws.{Key, length_more, get_last, fresh_there}
use Rattle.cert_text.proofs.Suits.{all_more}
use Rattle.cert_text.proofs.NumberedLaws.{keys_of, lens_in_takes, lens_with_takes}

abbrev Read : Type 0
Read = Result (List Lens × Rest) CertFault

abbrev failed : CertFault → Read
failed f = Err f

-- ---- one line

-- the lens of a line that has one
pub lens_is : (line : List ℕ) (l : Lens) → lens_in (words_of line) ≡ Ok l → lens_of line ≡ l
unfolding lens_of
lens_is line l e = rw e refl

pub key_is : (may : May) (line : List ℕ) (l : Lens) → lens_with may (words_of line) ≡ Ok l → lens_key (lens_of line) ≡ line
unfolding lens_key
key_is may line l w =
    let e = (lens_with_takes may (words_of line) l w).0 in
    let t = lens_in_takes (words_of line) l e in
    ap (λ (m : Lens). lens_word m.whole ++ words_text (lens_words m)) (lens_is line l e) ∙ sym (words_takes line (lens_word l.whole) (lens_words l) t.spelt)

pub line_reads : (may : May) (before mid : Rest) (n : ℕ) (line : List ℕ) (l : Lens) → next before ≡ Ok (record { number = n; words = words_of line }, mid) → lens_with may (words_of line) ≡ Ok l
    → lens_into may [] before ≡ Ok (lens_of line ∷ [], mid)
unfolding lens_into
line_reads may before mid n line l e f =
    ap (λ r. and_then r (λ x. added [] x.number (lens_with may x.words))) e ∙ ap (λ r. added [] n r mid) f
    ∙ ap (λ (m : Lens). read_as (m ∷ []) mid) (sym (lens_is line l (lens_with_takes may (words_of line) l f).0))

-- whether the lens of a line looks at whole lines
pub whole_is : (may : May) (line : List ℕ) (l : Lens) → lens_with may (words_of line) ≡ Ok l → (lens_of line).whole ≡ l.whole
whole_is may line l e = ap (λ (m : Lens). m.whole) (lens_is line l (lens_with_takes may (words_of line) l e).0)

pub line_fails : (may : May) (before mid : Rest) (n : ℕ) (line : List ℕ) (c : CertCode) → next before ≡ Ok (record { number = n; words = words_of line }, mid) → lens_with may (words_of line) ≡ Err c
    → lens_into may [] before ≡ Err (record { line = n; code = c })
unfolding lens_into
line_fails may before mid n line c e f = ap (λ r. and_then r (λ x. added [] x.number (lens_with may x.words))) e ∙ ap (λ r. added [] n r mid) f

pub next_fails : (may : May) (before : Rest) (f : CertFault) → next before ≡ Err f → lens_into may [] before ≡ Err f
unfolding lens_into
next_fails may before f e = ap (λ r. and_then r (λ x. added [] x.number (lens_with may x.words))) e

-- the numbers of the next line, and of the one behind it
pub next_lines : (before : Rest) (l : Line) (mid : Rest) → next before ≡ Ok (l, mid) → (l.number ≡ before.line) × (mid.line ≡ before.line + 1)
unfolding next
next_lines before l mid e = by_case (cut [] before.bytes) e
  where
    by_case : (o : Option (List ℕ × List ℕ)) → line_of before.line o ≡ Ok (l, mid) → (l.number ≡ before.line) × (mid.line ≡ before.line + 1)
    by_case None e = absurd cc
    by_case (Some x) e =
        let g = ok_is (record { number = before.line; words = words_of x.0 }) l (record { line = before.line + 1; bytes = x.1 }) mid e in
        (ap (λ (k : Line). k.number) (sym g.0), ap (λ (r : Rest). r.line) (sym g.1))

added_alone : (n : ℕ) (r : Result Lens CertCode) (mid : Rest) (l : Lens) (after : Rest) → added [] n r mid ≡ Ok (l ∷ [], after) → (r ≡ Ok l) × (mid ≡ after)
added_alone n (Err c) mid l after e = absurd cc
added_alone n (Ok m) mid l after e =
    let g = ok_is (m ∷ []) (l ∷ []) mid after e in
    (ap (λ (xs : List Lens). lens_found (get_or xs 0 m)) g.0, g.1)
  where
    lens_found : Lens → Result Lens CertCode
    lens_found x = Ok x

-- a line behind a table
pub record IsLine (may : May) (before : Rest) (l : Lens) (after : Rest) : Type 0 where
  pub down : after.line ≡ before.line + 1
  pub onto : (table : List Lens) → lens_into may table before ≡ says before.line (kept_new table l) after

pub line_is : (may : May) (before : Rest) (l : Lens) (after : Rest) → lens_into may [] before ≡ Ok (l ∷ [], after) → IsLine may before l after
unfolding lens_into
line_is may before l after e =
    let a = then_ok next (λ x. added [] x.number (lens_with may x.words)) before (l ∷ []) after e in
    let b = added_alone a.0.number (lens_with may a.0.words) a.1 l after a.3 in
    let n = next_lines before a.0 a.1 a.2 in
    record {
      down = ap (λ (r : Rest). r.line) (sym b.1) ∙ n.1;
      onto = λ table.
          ap (λ r. and_then r (λ x. added table x.number (lens_with may x.words))) a.2 ∙ ap (λ r. added table a.0.number r a.1) b.0
          ∙ ap (λ (k : ℕ). says k (kept_new table l) a.1) n.0 ∙ ap (λ (r : Rest). says before.line (kept_new table l) r) b.1;
    }

line_ends : (may : May) (before : Rest) (f : CertFault) (table : List Lens) → lens_into may [] before ≡ Err f → lens_into may table before ≡ Err f
unfolding lens_into
line_ends may before f table e = by_next (next before) refl e
  where
    by_said : (n : ℕ) (r : Result Lens CertCode) (mid : Rest) → added [] n r mid ≡ failed f → added table n r mid ≡ failed f
    by_said n (Ok l) mid e = absurd cc
    by_said n (Err c) mid e = e

    by_next : (r : Result (Line × Rest) CertFault) → next before ≡ r → and_then r (λ x. added [] x.number (lens_with may x.words)) ≡ failed f
        → and_then (next before) (λ x. added table x.number (lens_with may x.words)) ≡ failed f
    by_next (Err g) h e = ap (λ q. and_then q (λ x. added table x.number (lens_with may x.words))) h ∙ e
    by_next (Ok x) h e = ap (λ q. and_then q (λ x. added table x.number (lens_with may x.words))) h ∙ by_said x.0.number (lens_with may x.0.words) x.1 e

-- ---- several lines

-- what these lines gave of so many
pub record SoFar (wanted : Wanted) (count : ℕ) (lines : List Key) (start rest : Rest) : Type 0 where
  pub line : rest.line ≡ start.line + length lines
  pub keys : keys_of (map lens_of lines) ≡ lines
  pub fresh : AreFresh lines → table_from wanted count [] start ≡ table_from wanted (count - length lines) (map lens_of lines) rest
  pub repeats : (n : ℕ) → n < length lines → AreFreshTo lines n → table_from wanted count [] start ≡ Err (record { line = start.line + n; code = code.Number })

pub so_far_none : (wanted : Wanted) (count : ℕ) (start : Rest) → SoFar wanted count [] start start
so_far_none wanted count start = record {
  line = omega arith;
  keys = refl;
  fresh = λ h. let same : count ≡ count - 0 = omega arith in ap (λ (k : ℕ). table_from wanted k [] start) same;
  repeats = λ n lt h. absurd (omega arith);
}

take_all : (xs : List Key) → take (length xs) xs ≡ xs
take_all [] = refl
take_all (x ∷ xs) = ap (λ (ys : List Key). x ∷ ys) (take_all xs)

take_front : (i : ℕ) (xs : List Key) (x : Key) → i ≤ length xs → take i (xs ++ x ∷ []) ≡ take i xs
take_front zero xs x le = refl
take_front (suc i) [] x le = absurd (omega arith)
take_front (suc i) (y ∷ ys) x le = ap (λ (zs : List Key). y ∷ zs) (take_front i ys x (omega arith))

get_front : (xs : List Key) (x : Key) (i : ℕ) → i < length xs → get_or (xs ++ x ∷ []) i [] ≡ get_or xs i []
get_front [] x i lt = absurd (omega arith)
get_front (y ∷ ys) x zero lt = refl
get_front (y ∷ ys) x (suc i) lt = get_front ys x i (omega arith)

-- lines in front of another one
fresh_front : (xs : List Key) (x : Key) → AreFresh (xs ++ x ∷ []) → AreFresh xs
fresh_front xs x h i lt =
    let len = length_more xs x in
    ap (λ (ks : List Key). is_kept ks (get_or xs i [])) (sym (take_front i xs x (omega (arith, lt))))
    ∙ ap (is_kept (take i (xs ++ x ∷ []))) (sym (get_front xs x i lt)) ∙ h i (omega (arith, len, lt))

fresh_to_front : (xs : List Key) (x : Key) (n : ℕ) → n < length xs → AreFreshTo (xs ++ x ∷ []) n → AreFreshTo xs n
fresh_to_front xs x n lt h =
    let len = length_more xs x in
    let same = take_front n xs x (omega (arith, lt)) in
    record {
      within = omega (arith, lt);
      fresh = subst (λ (ks : List Key). AreFresh ks) same h.fresh;
      repeats = λ less.
          ap (λ (ks : List Key). is_kept ks (get_or xs n [])) (sym same) ∙ ap (is_kept (take n (xs ++ x ∷ []))) (sym (get_front xs x n lt)) ∙ h.repeats (omega (arith, len, lt));
    }

-- the table with a lens more, whose line is new or not
onto_new : (may : May) (lines : List Key) (line : Key) (before after : Rest) → IsLine may before (lens_of line) after → keys_of (map lens_of lines) ≡ lines → lens_key (lens_of line) ≡ line → is_kept lines line ≡ false
    → lens_into may (map lens_of lines) before ≡ Ok (map lens_of lines ++ lens_of line ∷ [], after)
onto_new may lines line before after is keys key new =
    let test : is_kept (keys_of (map lens_of lines)) (lens_key (lens_of line)) ≡ false =
    ap (λ (ks : List Key). is_kept ks (lens_key (lens_of line))) keys ∙ ap (is_kept lines) key ∙ new in
    is.onto (map lens_of lines) ∙ rw test refl

onto_old : (may : May) (lines : List Key) (line : Key) (before after : Rest) → IsLine may before (lens_of line) after → keys_of (map lens_of lines) ≡ lines → lens_key (lens_of line) ≡ line → is_kept lines line ≡ true
    → lens_into may (map lens_of lines) before ≡ Err (record { line = before.line; code = code.Number })
onto_old may lines line before after is keys key old =
    let test : is_kept (keys_of (map lens_of lines)) (lens_key (lens_of line)) ≡ true =
    ap (λ (ks : List Key). is_kept ks (lens_key (lens_of line))) keys ∙ ap (is_kept lines) key ∙ old in
    is.onto (map lens_of lines) ∙ rw test refl

table_more : (wanted : Wanted) (table new : List Lens) (k j : ℕ) (before after : Rest) → k ≡ suc j → lens_into (may_in wanted j table) table before ≡ Ok (new, after)
    → table_from wanted k table before ≡ table_from wanted j new after
table_more wanted table new k j before after at e =
    ap (λ (i : ℕ). table_from wanted i table before) at ∙ ap (λ r. and_then r (λ t. table_from wanted j t)) e

table_ends : (wanted : Wanted) (table : List Lens) (k j : ℕ) (before : Rest) (f : CertFault) → k ≡ suc j → lens_into (may_in wanted j table) table before ≡ Err f → table_from wanted k table before ≡ Err f
table_ends wanted table k j before f at e =
    ap (λ (i : ℕ). table_from wanted i table before) at ∙ ap (λ r. and_then r (λ t. table_from wanted j t)) e

more_map : (lines : List Key) (line : Key) → map lens_of lines ++ lens_of line ∷ [] ≡ map lens_of (lines ++ line ∷ [])
more_map lines line = sym (map-append lens_of lines (line ∷ []))

-- the words with which the line behind these may begin
abbrev pub may_behind : Wanted → ℕ → List Key → May
may_behind wanted count lines = may_in wanted (count - 1 - length lines) (map lens_of lines)

pub so_far_more : (wanted : Wanted) (count : ℕ) (lines : List Key) (line : Key) (start before after : Rest) → length lines < count
    → lens_into (may_behind wanted count lines) [] before ≡ Ok (lens_of line ∷ [], after) → lens_key (lens_of line) ≡ line
    → SoFar wanted count lines start before → SoFar wanted count (lines ++ line ∷ []) start after
so_far_more wanted count lines line start before after lt e key s =
    let may : May = may_behind wanted count lines in
    let is = line_is (may_behind wanted count lines) before (lens_of line) after e in
    let next_ : count - length lines ≡ suc (count - 1 - length lines) = omega (arith, lt) in
    let len = length_more lines line in
    let at = s.line in
    let down = is.down in
    record {
      line = omega (arith, at, down, len);
      keys =
          ap keys_of (sym (more_map lines line)) ∙ map-append lens_key (map lens_of lines) (lens_of line ∷ [])
          ∙ ap (λ (ks : List Key). ks ++ lens_key (lens_of line) ∷ []) s.keys ∙ ap (λ (k : Key). lines ++ k ∷ []) key;
      fresh = λ h.
          let new = fresh_there lines line [] h in
          let left : count - 1 - length lines ≡ count - length (lines ++ line ∷ []) = omega (arith, len, lt) in
          s.fresh (fresh_front lines line h)
          ∙ table_more wanted (map lens_of lines) (map lens_of lines ++ lens_of line ∷ []) (count - length lines) (count - 1 - length lines) before after next_
          (onto_new (may_behind wanted count lines) lines line before after is s.keys key new)
          ∙ ap (λ (k : ℕ). table_from wanted k (map lens_of lines ++ lens_of line ∷ []) after) left
          ∙ ap (λ (ls : List Lens). table_from wanted (count - length (lines ++ line ∷ [])) ls after) (more_map lines line);
      repeats = λ n less h. elim (cases_lt n (length lines)) [
        | inl front ↦ s.repeats n front (fresh_to_front lines line n front h)
        | inr behind ↦
            let here : n ≡ length lines = omega (arith, behind, less, len) in
            let all : take n (lines ++ line ∷ []) ≡ lines = take_front n lines line (omega (arith, here)) ∙ ap (λ (k : ℕ). take k lines) here ∙ take_all lines in
            let old : is_kept lines line ≡ true =
            ap (λ (ks : List Key). is_kept ks line) (sym all)
            ∙ ap (is_kept (take n (lines ++ line ∷ []))) (sym (ap (λ (k : ℕ). get_or (lines ++ line ∷ []) k []) here ∙ get_last lines line)) ∙ h.repeats less in
            let n_line : before.line ≡ start.line + n = omega (arith, at, here) in
            s.fresh (subst (λ (ks : List Key). AreFresh ks) all h.fresh)
            ∙ table_ends wanted (map lens_of lines) (count - length lines) (count - 1 - length lines) before (record { line = before.line; code = code.Number }) next_
            (onto_old (may_behind wanted count lines) lines line before after is s.keys key old)
            ∙ ap (λ (k : ℕ). failed (record { line = k; code = code.Number })) n_line
      ];
    }

pub so_far_done : (wanted : Wanted) (count : ℕ) (lines : List Key) (start after : Rest) → count ≤ length lines → SoFar wanted count lines start after → AreFresh lines
    → table_from wanted count [] start ≡ Ok (map lens_of lines, after)
so_far_done wanted count lines start after all s h =
    let none : count - length lines ≡ 0 = omega (arith, all) in
    s.fresh h ∙ ap (λ (k : ℕ). table_from wanted k (map lens_of lines) after) none

so_far_ends : (wanted : Wanted) (count : ℕ) (lines : List Key) (start before : Rest) (f : CertFault) → length lines < count → lens_into (may_behind wanted count lines) [] before ≡ Err f
    → SoFar wanted count lines start before → AreFresh lines → table_from wanted count [] start ≡ Err f
so_far_ends wanted count lines start before f lt e s h =
    let next_ : count - length lines ≡ suc (count - 1 - length lines) = omega (arith, lt) in
    s.fresh h
    ∙ table_ends wanted (map lens_of lines) (count - length lines) (count - 1 - length lines) before f next_ (line_ends (may_behind wanted count lines) before f (map lens_of lines) e)

-- what was read where these lines were read without a fault
abbrev Passes : Wanted → ℕ → List Lens → Result (Unit {0}) Stop → Rest → Rest → Type 0
Passes wanted count table r start after = ReadsAs {X = Unit {0}} {Y = List Lens} (λ u. table) r (table_from wanted count []) start after

abbrev stopped : Stop → Result (Unit {0}) Stop
stopped e = Err e

-- where reading a line stopped
pub so_far_stops : (r : Result (Unit {0}) Stop) (e : Stop) (wanted : Wanted) (count : ℕ) (lines : List Key) (table : List Lens) (start before after : Rest) (may : May) → IsErrAnd r (λ d. d ≡ e)
    → may ≡ may_behind wanted count lines → MatchOption (stop_told e) (Unit {0}) (λ f. lens_into may [] before ≡ Err f) → length lines < count → SoFar wanted count lines start before → AreFresh lines
    → Passes wanted count table r start after
so_far_stops (Ok u) e wanted count lines table start before after may is same given lt s h = absurd is
so_far_stops (Err d) e wanted count lines table start before after may is same given lt s h =
    by_stop d (subst (λ (x : Stop). MatchOption (stop_told x) (Unit {0}) (λ f. lens_into (may_behind wanted count lines) [] before ≡ Err f)) (sym is)
    (subst (λ (m : May). MatchOption (stop_told e) (Unit {0}) (λ f. lens_into m [] before ≡ Err f)) same given))
  where
    by_stop : (d : Stop) → MatchOption (stop_told d) (Unit {0}) (λ f. lens_into (may_behind wanted count lines) [] before ≡ Err f) → Passes wanted count table (stopped d) start after
    by_stop stop.NoMemory given = tt
    by_stop (stop.Fault f) given = so_far_ends wanted count lines start before f lt given s h

abbrev lost : Stop → Result (List Lens) Stop
lost e = Err e

-- a stop that is handed on
pub stop_again : (r : Result (List Lens) Stop) (e : Stop) (wanted : Wanted) (count : ℕ) (start after : Rest) → IsErrAnd r (λ d. d ≡ e)
    → MatchOption (stop_told e) (Unit {0}) (λ f. table_from wanted count [] start ≡ Err f) → Reads {X = List Lens} r (table_from wanted count []) start after
stop_again (Ok x) e wanted count start after is given = absurd is
stop_again (Err d) e wanted count start after is given = subst (λ (x : Stop). Reads {X = List Lens} (lost x) (table_from wanted count []) start after) (sym is) given

-- all lines are distinct
pub all_fresh : (lines : List Key) (n : ℕ) → AreFreshTo lines n → length lines ≤ n → AreFresh lines
all_fresh lines n h all =
    let within = h.within in
    let same : n ≡ length lines = omega (arith, within, all) in
    subst (λ (ks : List Key). AreFresh ks) (ap (λ (k : ℕ). take k lines) same ∙ take_all lines) h.fresh

pub texts_more : (lines : List (Bor (List ℕ))) (line : Bor (List ℕ)) → texts (lines ++ line ∷ []) ≡ texts lines ++ line.now ∷ []
texts_more lines line = map-append (λ l. l.now) lines (line ∷ [])

-- the lens of a number stands on its line
pub line_at : (lines : List (Bor (List ℕ))) (table : List Lens) (n : ℕ) (all : List (Bor (List ℕ))) (d : Bor (List ℕ)) → table ≡ lenses_of lines → all ≡ lines → 1 ≤ n → n ≤ length table
    → lens_at table n ≡ lens_of (get_or all (n - 1) d).now
line_at lines table n all d view at some within =
    let len : length (lenses_of lines) ≡ length lines = length-map (texts lines) lens_of ∙ length-map lines (λ (l : Bor (List ℕ)). l.now) in
    let same : length table ≡ length (lenses_of lines) = ap (λ (ls : List Lens). length ls) view in
    ap (λ (ls : List Lens). lens_at ls n) view
    ∙ get_or-map lens_of (texts lines) (n - 1) [] no_lens (omega (arith, some, within, same, len, length-map lines (λ (l : Bor (List ℕ)). l.now)))
    ∙ ap lens_of (get_or-map (λ (l : Bor (List ℕ)). l.now) lines (n - 1) d [] (omega (arith, some, within, same, len)))
    ∙ ap (λ (ls : List (Bor (List ℕ))). lens_of (get_or ls (n - 1) d).now) (sym at)

pub lens_none : (line : List ℕ) (c : CertCode) → lens_in (words_of line) ≡ Err c → lens_of line ≡ no_lens
unfolding lens_of
lens_none line c e = rw e refl

pub texts_length : (lines : List (Bor (List ℕ))) → length (texts lines) ≡ length lines
texts_length lines = length-map lines (λ (l : Bor (List ℕ)). l.now)

pub lines_longer : (lines new : List (Bor (List ℕ))) (line : Bor (List ℕ)) (i : ℕ) → length lines ≡ i → new ≡ lines ++ line ∷ [] → length new ≡ i + 1
lines_longer lines new line i len e = ap (λ (ls : List (Bor (List ℕ))). length ls) e ∙ length-append lines (line ∷ []) ∙ ap (λ (n : ℕ). n + 1) len

-- the words with which the next line may begin
pub may_is : (wanted : Wanted) (count i : ℕ) (lines : List (Bor (List ℕ))) (plain : Bool) (may : May) → length lines ≡ i → plain ≡ list_all is_plain_lens (lenses_of lines)
    → ((table : List Lens) → plain ≡ list_all is_plain_lens table → may ≡ may_in wanted (count - 1 - i) table) → may ≡ may_behind wanted count (texts lines)
may_is wanted count i lines plain may len at h =
    let same : count - 1 - i ≡ count - 1 - length (texts lines) = omega (arith, len, texts_length lines) in
    h (lenses_of lines) at ∙ ap (λ (n : ℕ). may_in wanted n (lenses_of lines)) same

-- whether the lenses are plain, with one more
pub plain_more : (lines new : List (Bor (List ℕ))) (line : Bor (List ℕ)) (plain looks now : Bool) → new ≡ lines ++ line ∷ [] → plain ≡ list_all is_plain_lens (lenses_of lines)
    → (lens_of line.now).whole ≡ looks → now ≡ (plain && not looks) → now ≡ list_all is_plain_lens (lenses_of new)
plain_more lines new line plain looks now at h g e =
    e ∙ ap (λ (b : Bool). b && not looks) h ∙ ap (λ (b : Bool). list_all is_plain_lens (lenses_of lines) && not b) (sym g)
    ∙ sym (ap (λ (ls : List (Bor (List ℕ))). list_all is_plain_lens (lenses_of ls)) at
    ∙ ap (λ (ks : List Key). list_all is_plain_lens (map lens_of ks)) (texts_more lines line)
    ∙ ap (list_all is_plain_lens) (sym (more_map (texts lines) line.now))
    ∙ all_more is_plain_lens (lenses_of lines) (lens_of line.now))

pub so_far_line : (wanted : Wanted) (count i : ℕ) (lines new : List (Bor (List ℕ))) (line : Bor (List ℕ)) (start before after : Rest) (may : May) → length lines ≡ i → i < count
    → may ≡ may_behind wanted count (texts lines)
    → lens_into may [] before ≡ Ok (lens_of line.now ∷ [], after) → lens_key (lens_of line.now) ≡ line.now → new ≡ lines ++ line ∷ [] → SoFar wanted count (texts lines) start before
    → SoFar wanted count (texts new) start after
so_far_line wanted count i lines new line start before after may len lt same e key at s =
    let long = texts_length lines in
    subst (λ (ks : List Key). SoFar wanted count ks start after) (sym (ap texts at ∙ texts_more lines line))
    (so_far_more wanted count (texts lines) line.now start before after (omega (arith, long, len, lt)) (subst (λ (m : May). lens_into m [] before ≡ Ok (lens_of line.now ∷ [], after)) same e) key s)

-- the least line that repeats another is the fault
pub so_far_repeats : (stop_ : Stop) (wanted : Wanted) (count n line : ℕ) (lines : List Key) (start after : Rest) → stop_ ≡ stop.Fault (record { line = line; code = code.Number }) → line ≡ start.line + n
    → EndsAtRepeat wanted count lines start → n < length lines → AreFreshTo lines n → Reads {X = List Lens} (Err stop_) (table_from wanted count []) start after
so_far_repeats stop_ wanted count n line lines start after e at ends lt h =
    subst (λ (x : Stop). Reads {X = List Lens} (Err x) (table_from wanted count []) start after) (sym e)
    (ends n lt h ∙ ap (λ (k : ℕ). failed (record { line = k; code = code.Number })) (sym at))

-- lines of which none repeats another
pub lines_fresh : (lines all : List (Bor (List ℕ))) (n len : ℕ) → all ≡ lines → AreFreshTo (texts all) n → len ≡ length lines → len ≤ n → AreFresh (texts lines)
lines_fresh lines all n len same h e le =
    let long = texts_length lines in
    all_fresh (texts lines) n (subst (λ (ls : List (Bor (List ℕ))). AreFreshTo (texts ls) n) same h) (omega (arith, long, e, le))
