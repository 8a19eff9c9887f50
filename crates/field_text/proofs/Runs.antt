-- The tokens of a line are its runs of graphic bytes.
use Rattle.std.proofs.Common.{◌≡◌, ℕ, suc, zero, ◌+◌, ◌<◌, ◌≤◌, List, [], ◌∷◌, ◌++◌, length, get_or, slice_get, inl, inr, Bool, true, false, ◌||◌, Option, Some, None, Result, Ok, Err, refl, ap, subst, sym, ◌∙◌, arith}
use Rattle.std.specs.Prelude.{unwrap_or, if◌then◌else◌}
use Rattle.std.proofs.lemmas.Bool.{cases_lt}
use Rattle.field_text.specs.declared.token.Token.{Token}
use Rattle.field_text.specs.declared.token.TokenFault.{TokenFault}
use Rattle.field_text.specs.declared.token.TokenFault.TheVariants.{Byte}
use Rattle.field_text.specs.Tokens.{is_blank, is_graphic, closed, ◌andthen◌, tokens_from, byte_at, IsRun, Lies, AreRuns, IsOther}
use Rattle.field_text.proofs.TokenLaws.{andthen_ok}

module _ (line : List ℕ) where
  -- the token that is begun at a place, if one is
  abbrev Begun : Option ℕ → ℕ → Type 0
  Begun None at = (k : ℕ) → k + 1 ≡ at → is_blank (byte_at line k) ≡ true
  Begun (Some s) at = (s < at) × ((k : ℕ) → s ≤ k → k < at → is_graphic (byte_at line k) ≡ true) × ((k : ℕ) → k + 1 ≡ s → is_blank (byte_at line k) ≡ true)

  abbrev low : Option ℕ → ℕ → ℕ
  low run at = unwrap_or run at

  -- what holds of the tokens from a place on
  record From (from : ℕ) (at : ℕ) (found : List Token) : Type 0 where
    run : (i : ℕ) (t : Token) → slice_get found i ≡ Some t → IsRun line t
    above : (i : ℕ) (t : Token) → slice_get found i ≡ Some t → from ≤ t.start
    ascend : (i : ℕ) (t u : Token) → slice_get found i ≡ Some t → slice_get found (suc i) ≡ Some u → t.end < u.start
    each : (k : ℕ) → from ≤ k → k < length line → is_graphic (byte_at line k) ≡ true → Lies k found
    other : (k : ℕ) → at ≤ k → k < length line → is_graphic (byte_at line k) ≡ false → is_blank (byte_at line k) ≡ true

  -- the bytes from a place on are these
  record Rest (at : ℕ) (rest : List ℕ) : Type 0 where
    size : at + length rest ≡ length line
    bytes : (k : ℕ) → byte_at line (at + k) ≡ get_or rest k 0

  rest-next : (at b : ℕ) (bs : List ℕ) → Rest at (b ∷ bs) → Rest (at + 1) bs
  rest-next at b bs r = record {
    size = omega (arith, r.size);
    bytes = λ k. let e : at + 1 + k ≡ at + suc k = omega arith in ap (byte_at line) e ∙ r.bytes (suc k);
  }

  all-left : Rest 0 line
  all-left = record { size = omega arith; bytes = λ k. let e : 0 + k ≡ k = omega arith in ap (byte_at line) e }

  rest-here : (at b : ℕ) (bs : List ℕ) → Rest at (b ∷ bs) → byte_at line at ≡ b
  rest-here at b bs r = let e : at ≡ at + 0 = omega arith in ap (byte_at line) e ∙ r.bytes 0

  later : (k : ℕ) (t : Token) (found : List Token) → Lies k found → Lies k (t ∷ found)
  later k t found l = record { i = suc l.i; token = l.token; there = l.there; from_start = l.from_start; to_end = l.to_end }

  -- the run that ends at a place
  run-of : (s at : ℕ) → Begun (Some s) at → at ≤ length line → (at < length line → is_blank (byte_at line at) ≡ true) → IsRun line (record { start = s; end = at })
  run-of s at begun w b = record { some = begun.0; within = w; graphic = begun.1; before = begun.2; behind = b }

  from-end : (run : Option ℕ) (at : ℕ) → Begun run at → Rest at [] → From (low run at) at (closed run at)
  from-end None at begun r = record {
    run = λ i t h. absurd (cc h);
    above = λ i t h. absurd (cc h);
    ascend = λ i t u h g. absurd (cc h);
    each = λ k l w g. absurd (omega (arith, r.size));
    other = λ k l w g. absurd (omega (arith, r.size));
  }
  from-end (Some s) at begun r = record {
    run = one-run;
    above = one-above;
    ascend = one-ascend;
    each = λ k l w g. record { i = 0; token = record { start = s; end = at }; there = refl; from_start = l; to_end = omega (arith, r.size) };
    other = λ k l w g. absurd (omega (arith, r.size));
  }
    where
      one-run : (i : ℕ) (t : Token) → slice_get (closed (Some s) at) i ≡ Some t → IsRun line t
      one-run zero t h = subst (IsRun line) (cc h) (run-of s at begun (omega (arith, r.size)) (λ w. absurd (omega (arith, r.size))))
      one-run (suc i) t h = absurd (cc h)

      one-above : (i : ℕ) (t : Token) → slice_get (closed (Some s) at) i ≡ Some t → s ≤ t.start
      one-above zero t h = let e : s ≡ t.start = cc h in omega arith
      one-above (suc i) t h = absurd (cc h)

      one-ascend : (i : ℕ) (t u : Token) → slice_get (closed (Some s) at) i ≡ Some t → slice_get (closed (Some s) at) (suc i) ≡ Some u → t.end < u.start
      one-ascend i t u h g = absurd (cc g)

  -- a graphic byte goes on with the begun token, or opens one
  opened-more : (run : Option ℕ) (at : ℕ) → Begun run at → is_graphic (byte_at line at) ≡ true → Begun (Some (unwrap_or run at)) (at + 1)
  opened-more None at begun g = (omega arith, λ k l w. let e : at ≡ k = omega arith in subst (λ (n : ℕ). is_graphic (byte_at line n) ≡ true) e g, begun)
  opened-more (Some s) at begun g = (omega (arith, begun.0), more, begun.2)
    where
      more : (k : ℕ) → s ≤ k → k < at + 1 → is_graphic (byte_at line k) ≡ true
      more k l w = elim (cases_lt k at) [
        | inl h ↦ begun.1 k l h
        | inr h ↦ let e : at ≡ k = omega arith in subst (λ (n : ℕ). is_graphic (byte_at line n) ≡ true) e g
      ]

  from-graphic : (run : Option ℕ) (at : ℕ) (found : List Token) → is_graphic (byte_at line at) ≡ true → From (unwrap_or run at) (at + 1) found → From (low run at) at found
  from-graphic run at found g f = record { run = f.run; above = f.above; ascend = f.ascend; each = f.each; other = others }
    where
      others : (k : ℕ) → at ≤ k → k < length line → is_graphic (byte_at line k) ≡ false → is_blank (byte_at line k) ≡ true
      others k l w h = elim (cases_lt at k) [
        | inl m ↦ f.other k (omega arith) w h
        | inr m ↦ let e : k ≡ at = omega arith in let t : is_graphic (byte_at line k) ≡ true = subst (λ (n : ℕ). is_graphic (byte_at line n) ≡ true) (sym e) g in absurd (cc (sym h ∙ t))
      ]

  -- a blank ends the begun token
  from-blank : (run : Option ℕ) (at : ℕ) (found more : List Token) → Begun run at → at < length line → is_graphic (byte_at line at) ≡ false → is_blank (byte_at line at) ≡ true
      → found ≡ closed run at ++ more → From (at + 1) (at + 1) more → From (low run at) at found
  from-blank run at found more begun w g b e f = subst (From (low run at) at) (sym e) (go run begun)
    where
      others : (k : ℕ) → at ≤ k → k < length line → is_graphic (byte_at line k) ≡ false → is_blank (byte_at line k) ≡ true
      others k l x h = elim (cases_lt at k) [
        | inl m ↦ f.other k (omega arith) x h
        | inr m ↦ let s : at ≡ k = omega arith in subst (λ (n : ℕ). is_blank (byte_at line n) ≡ true) s b
      ]

      apart : (k : ℕ) → is_graphic (byte_at line k) ≡ true → at ≤ k → at + 1 ≤ k
      apart k h l = elim (cases_lt at k) [
        | inl m ↦ omega arith
        | inr m ↦ let s : k ≡ at = omega arith in let t : is_graphic (byte_at line at) ≡ true = subst (λ (n : ℕ). is_graphic (byte_at line n) ≡ true) s h in absurd (cc (sym g ∙ t))
      ]

      go : (run : Option ℕ) → Begun run at → From (low run at) at (closed run at ++ more)
      go None o = record {
        run = f.run;
        above = λ i t h. let a = f.above i t h in omega arith;
        ascend = f.ascend;
        each = λ k l x h. f.each k (apart k h l) x h;
        other = others;
      }
      go (Some s) o = record { run = first-run; above = first-above; ascend = first-ascend; each = first-each; other = others }
        where
          first : Token
          first = record { start = s; end = at }

          first-run : (i : ℕ) (t : Token) → slice_get (first ∷ more) i ≡ Some t → IsRun line t
          first-run zero t h = subst (IsRun line) (cc h) (run-of s at o (omega arith) (λ x. b))
          first-run (suc i) t h = f.run i t h

          first-above : (i : ℕ) (t : Token) → slice_get (first ∷ more) i ≡ Some t → s ≤ t.start
          first-above zero t h = let q : s ≡ t.start = cc h in omega arith
          first-above (suc i) t h = let a = f.above i t h in let l = o.0 in omega arith

          first-ascend : (i : ℕ) (t u : Token) → slice_get (first ∷ more) i ≡ Some t → slice_get (first ∷ more) (suc i) ≡ Some u → t.end < u.start
          first-ascend zero t u h k = let q : at ≡ t.end = cc h in let a = f.above 0 u k in omega arith
          first-ascend (suc i) t u h k = f.ascend i t u h k

          first-each : (k : ℕ) → s ≤ k → k < length line → is_graphic (byte_at line k) ≡ true → Lies k (first ∷ more)
          first-each k l x h = elim (cases_lt k at) [
            | inl m ↦ record { i = 0; token = first; there = refl; from_start = l; to_end = m }
            | inr m ↦ later k first more (f.each k (apart k h m) x h)
          ]

  from-rest : (run : Option ℕ) (at : ℕ) (rest : List ℕ) (found : List Token) → Begun run at → Rest at rest → tokens_from run at rest ≡ Ok found → From (low run at) at found
  unfolding tokens_from
  from-rest run at [] found begun r h = subst (From (low run at) at) (cc h) (from-end run at begun r)
  from-rest run at (b ∷ bs) found begun r h =
      go (is_graphic b) refl (is_blank b) refl (λ o m p q. from-rest o (at + 1) bs m p (rest-next at b bs r) q) h
    where
      here : byte_at line at ≡ b
      here = rest-here at b bs r

      within : at < length line
      within = omega (arith, r.size)

      go : (g : Bool) → is_graphic b ≡ g → (k : Bool) → is_blank b ≡ k
          → ((o : Option ℕ) (m : List Token) → Begun o (at + 1) → tokens_from o (at + 1) bs ≡ Ok m → From (low o (at + 1)) (at + 1) m)
          → (if g then tokens_from (Some (unwrap_or run at)) (at + 1) bs else (if k then closed run at andthen tokens_from None (at + 1) bs else Err (Byte (at + 1)))) ≡ Ok found → From (low run at) at found
      go true e k f more q =
          let g : is_graphic (byte_at line at) ≡ true = ap is_graphic here ∙ e in
          from-graphic run at found g (more (Some (unwrap_or run at)) found (opened-more run at begun g) q)
      go false e true f more q =
          let g : is_graphic (byte_at line at) ≡ false = ap is_graphic here ∙ e in
          let z : is_blank (byte_at line at) ≡ true = ap is_blank here ∙ f in
          let o = andthen_ok (closed run at) found _ q in
          from-blank run at found o.0 begun within g z o.2
          (more None o.0 (λ k l. let s : at ≡ k = omega arith in subst (λ (n : ℕ). is_blank (byte_at line n) ≡ true) s z) o.1)
      go false e false f more q = absurd (cc q)

  pub tokens-runs : (found : List Token) → tokens_from None 0 line ≡ Ok found → AreRuns line found
  tokens-runs found h =
      let f = from-rest None 0 line found (λ k e. absurd (omega arith)) (all-left) h in
      record { run = f.run; ascend = f.ascend; each = λ k w g. f.each k (omega arith) w g; other = λ k w g. f.other k (omega arith) w g }

  -- the first byte that may stand nowhere
  record Stops (at column : ℕ) : Type 0 where
    above : at < column
    within : column ≤ length line
    here : (k : ℕ) → k + 1 ≡ column → (is_graphic (byte_at line k) || is_blank (byte_at line k)) ≡ false
    before : (k : ℕ) → at ≤ k → k + 1 < column → (is_graphic (byte_at line k) || is_blank (byte_at line k)) ≡ true

  andthen_err : (a : List Token) (r : Result (List Token) TokenFault) (e : TokenFault) → a andthen r ≡ Err e → r ≡ Err e
  andthen_err a (Ok more) e h = absurd (cc h)
  andthen_err a (Err f) e h = cc h

  stops-later : (at column : ℕ) → (is_graphic (byte_at line at) || is_blank (byte_at line at)) ≡ true → Stops (at + 1) column → Stops at column
  stops-later at column h s = record {
    above = omega (arith, s.above);
    within = s.within;
    here = s.here;
    before = λ k l w. elim (cases_lt at k) [
      | inl m ↦ s.before k (omega arith) w
      | inr m ↦ let e : at ≡ k = omega arith in subst (λ (n : ℕ). (is_graphic (byte_at line n) || is_blank (byte_at line n)) ≡ true) e h
    ];
  }

  stops-at : (run : Option ℕ) (at : ℕ) (rest : List ℕ) (column : ℕ) → Rest at rest → tokens_from run at rest ≡ Err (Byte column) → Stops at column
  unfolding tokens_from
  stops-at run at [] column r h = absurd (cc h)
  stops-at run at (b ∷ bs) column r h =
      go (is_graphic b) refl (is_blank b) refl (λ o q. stops-at o (at + 1) bs column (rest-next at b bs r) q) h
    where
      here : byte_at line at ≡ b
      here = rest-here at b bs r

      go : (g : Bool) → is_graphic b ≡ g → (k : Bool) → is_blank b ≡ k
          → ((o : Option ℕ) → tokens_from o (at + 1) bs ≡ Err (Byte column) → Stops (at + 1) column)
          → (if g then tokens_from (Some (unwrap_or run at)) (at + 1) bs else (if k then closed run at andthen tokens_from None (at + 1) bs else Err (Byte (at + 1)))) ≡ Err (Byte column) → Stops at column
      go true e k f more q = stops-later at column (ap (λ (n : ℕ). is_graphic n || is_blank n) here ∙ ap (λ (t : Bool). t || is_blank b) e) (more _ q)
      go false e true f more q =
          stops-later at column (ap (λ (n : ℕ). is_graphic n || is_blank n) here ∙ ap (λ (t : Bool). t || is_blank b) e ∙ f) (more None (andthen_err (closed run at) _ (Byte column) q))
      go false e false f more q =
          let s : at + 1 ≡ column = cc q in
          record {
            above = omega arith;
            within = omega (arith, r.size);
            here = λ k w. let z : at ≡ k = omega arith in
                subst (λ (n : ℕ). (is_graphic (byte_at line n) || is_blank (byte_at line n)) ≡ false) z (ap (λ (n : ℕ). is_graphic n || is_blank n) here ∙ ap (λ (t : Bool). t || is_blank b) e ∙ f);
            before = λ k l w. absurd (omega arith);
          }

  pub tokens-stop : (column : ℕ) → tokens_from None 0 line ≡ Err (Byte column) → IsOther line column
  tokens-stop column h =
      let s = stops-at None 0 line column (all-left) h in
      record { counted = omega (arith, s.above); within = s.within; here = s.here; before = λ k w. s.before k (omega arith) w }
