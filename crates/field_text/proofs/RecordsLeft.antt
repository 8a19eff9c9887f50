-- What a read leaves of a text's records.
use Rattle.std.proofs.Common.{◌≡◌, ℕ, zero, suc, ◌+◌, ◌<◌, ◌≤◌, List, [], ◌∷◌, ◌++◌, length, Bool, true, false, Option, Some, None, refl, arith, ap, sym, ◌∙◌, add-one, cond, inl, inr, ◌⊎◌, IsSomeAnd, length-append}
use Rattle.std.specs.Bool.{MatchBool}
use Rattle.std.specs.Borrow.{Bor}
use Rattle.std.specs.Option.{option_map_or}
use Rattle.csv.specs.declared.parser.Config.{Config}
use Rattle.csv.specs.declared.parser.Action.{Action}
use Rattle.csv.specs.declared.parser.Action.TheVariants as act
use Rattle.csv.specs.declared.parser.State.{State}
use Rattle.csv.specs.declared.parser.State.TheVariants as st
use Rattle.csv.specs.declared.reader.Reader.{Reader}
use Rattle.csv.specs.declared.reader.Trim.TheVariants as trim
use Rattle.csv.specs.Machine.{Read, next_record, step, is_end, fields_after, field_after, ends_at_end}
use Rattle.csv.specs.Reading.{default_config, records_from, records_next, NextIs, ReadsNext, ReadRecord, pending_of, reader_state, is_flexible, took_first, reader_trim, reader_config, Ready, strip_bom, is_bom, records}
use Rattle.field_text.specs.Sizes.{longest}
use Rattle.field_text.specs.Records.{records_left, source, unread, IsPlain, AreWithin}

-- a record takes bytes, or it was the last one
pub next_record-takes : (cfg : Config) (s : State) (fields : List (List ℕ)) (field xs : List ℕ) (p : Read) → next_record cfg s fields field xs ≡ Some p
    → (length p.2 < length xs) ⊎ ((p.1 ≡ st.StartRecord) × (p.2 ≡ []))
unfolding next_record
next_record-takes cfg s fields field [] p h = go (ends_at_end s) h
  where
    go : (b : Bool) → cond b (Some (fields ++ (field ∷ []), st.StartRecord, [])) None ≡ Some p → (length p.2 < 0) ⊎ ((p.1 ≡ st.StartRecord) × (p.2 ≡ []))
    go true e = inr (cc, cc)
    go false e = absurd (cc)
next_record-takes cfg s fields field (c ∷ rest) p h =
    go (is_end (step cfg s c).1) h (next_record-takes cfg (step cfg s c).0 (fields_after (step cfg s c).1 fields field) (field_after (step cfg s c).1 c field) rest p)
  where
    go : (b : Bool) → cond b (Some (fields_after (step cfg s c).1 fields field, (step cfg s c).0, rest)) (next_record cfg (step cfg s c).0 (fields_after (step cfg s c).1 fields field) (field_after (step cfg s c).1 c field) rest) ≡ Some p
        → (next_record cfg (step cfg s c).0 (fields_after (step cfg s c).1 fields field) (field_after (step cfg s c).1 c field) rest ≡ Some p → (length p.2 < length rest) ⊎ ((p.1 ≡ st.StartRecord) × (p.2 ≡ [])))
        → (length p.2 < length (c ∷ rest)) ⊎ ((p.1 ≡ st.StartRecord) × (p.2 ≡ []))
    go true e more = inl (let r : p.2 ≡ rest = cc in omega (arith, ap length r))
    go false e more = elim (more e) [ inl q ↦ inl (omega arith) | inr q ↦ inr q ]

nothing_left : (n : ℕ) → records_from default_config n st.StartRecord [] ≡ []
unfolding records_from next_record
nothing_left zero = refl
nothing_left (suc n) = refl

-- any count above the bytes gives all the records
pub records_from-enough : (n m : ℕ) (s : State) (xs : List ℕ) → length xs < n → length xs < m → records_from default_config n s xs ≡ records_from default_config m s xs
unfolding records_from
records_from-enough zero m s xs h k = absurd (omega arith)
records_from-enough (suc n) zero s xs h k = absurd (omega arith)
records_from-enough (suc n) (suc m) s xs h k =
    go (next_record default_config s [] [] xs) (λ p e. next_record-takes default_config s [] [] xs p e) (λ t ys. records_from-enough n m t ys)
  where
    go : (o : Option Read) → ((p : Read) → o ≡ Some p → (length p.2 < length xs) ⊎ ((p.1 ≡ st.StartRecord) × (p.2 ≡ [])))
        → ((t : State) (ys : List ℕ) → length ys < n → length ys < m → records_from default_config n t ys ≡ records_from default_config m t ys)
        → records_next (records_from default_config n) o ≡ records_next (records_from default_config m) o
    go None takes more = refl
    go (Some p) takes more =
        ap (λ r. p.0 ∷ r) (elim (takes p refl) [
          | inl q ↦ more p.1 p.2 (omega arith) (omega arith)
          | inr q ↦ rw (q.0, q.1) (nothing_left n ∙ sym (nothing_left m))
        ])

-- the records from a state are the next one and those after it
pub records_left-next : (s : State) (xs : List ℕ) (p : Read) → next_record default_config s [] [] xs ≡ Some p → records_left s xs ≡ p.0 ∷ records_left p.1 p.2
unfolding records_from
records_left-next s xs p e =
    rw (add-one (length xs), e) (ap (λ r. p.0 ∷ r) (elim (next_record-takes default_config s [] [] xs p e) [
      | inl q ↦ records_from-enough (length xs) (length p.2 + 1) p.1 p.2 q (omega arith)
      | inr q ↦ rw (q.0, q.1) (nothing_left (length xs) ∙ sym (nothing_left (length {A = ℕ} [] + 1)))
    ]))

pub records_left-none : (s : State) (xs : List ℕ) → next_record default_config s [] [] xs ≡ None → records_left s xs ≡ []
unfolding records_from
records_left-none s xs e = rw (add-one (length xs), e) refl

within-push : (n : ℕ) (fs : List (List ℕ)) (f : List ℕ) → AreWithin n fs → length f ≤ n → AreWithin n (fs ++ (f ∷ []))
within-push n [] f h k = (k, tt)
within-push n (g ∷ gs) f h k = (h.0, within-push n gs f h.1 k)

after-within : (n : ℕ) (a : Action) (c : ℕ) (fields : List (List ℕ)) (field : List ℕ) (m : ℕ) → AreWithin n fields → length field + (m + 1) ≤ n
    → AreWithin n (fields_after a fields field) × (length (field_after a c field) + m ≤ n)
after-within n act.Skip c fields field m h k = (h, omega arith)
after-within n act.Copy c fields field m h k = (h, omega (arith, length-append field (c ∷ [])))
after-within n act.EndField c fields field m h k = (within-push n fields field h (omega arith), omega arith)
after-within n act.EndRecord c fields field m h k = (within-push n fields field h (omega arith), omega arith)

-- no field is longer than the bytes that it was read from, and what is left is no longer either
pub next_record-within : (n : ℕ) (cfg : Config) (s : State) (fields : List (List ℕ)) (field xs : List ℕ) (p : Read) → next_record cfg s fields field xs ≡ Some p
    → AreWithin n fields → length field + length xs ≤ n → AreWithin n p.0 × (length p.2 ≤ n)
unfolding next_record
next_record-within n cfg s fields field [] p h w k = go (ends_at_end s) h
  where
    go : (b : Bool) → cond b (Some (fields ++ (field ∷ []), st.StartRecord, [])) None ≡ Some p → AreWithin n p.0 × (length p.2 ≤ n)
    go true e = let a : p.0 ≡ fields ++ (field ∷ []) = cc in let b : p.2 ≡ [] = cc in (rw a (within-push n fields field w (omega arith)), rw b (omega arith))
    go false e = absurd (cc)
next_record-within n cfg s fields field (c ∷ rest) p h w k =
    let after = after-within n (step cfg s c).1 c fields field (length rest) w (omega arith) in
    go (is_end (step cfg s c).1) h (λ e. next_record-within n cfg (step cfg s c).0 (fields_after (step cfg s c).1 fields field) (field_after (step cfg s c).1 c field) rest p e after.0 after.1) after
  where
    go : (b : Bool) → cond b (Some (fields_after (step cfg s c).1 fields field, (step cfg s c).0, rest)) (next_record cfg (step cfg s c).0 (fields_after (step cfg s c).1 fields field) (field_after (step cfg s c).1 c field) rest) ≡ Some p
        → (next_record cfg (step cfg s c).0 (fields_after (step cfg s c).1 fields field) (field_after (step cfg s c).1 c field) rest ≡ Some p → AreWithin n p.0 × (length p.2 ≤ n))
        → AreWithin n (fields_after (step cfg s c).1 fields field) × (length (field_after (step cfg s c).1 c field) + length rest ≤ n)
        → AreWithin n p.0 × (length p.2 ≤ n)
    go true e more after = let a : p.0 ≡ fields_after (step cfg s c).1 fields field = cc in let b : p.2 ≡ rest = cc in (rw a after.0, rw b (omega (arith, after.1)))
    go false e more after = more e

-- how many records there are
pub length-records_from : (cfg : Config) (n : ℕ) (s : State) (xs : List ℕ) → length (records_from cfg n s xs) ≤ n
unfolding records_from
length-records_from cfg zero s xs = omega arith
length-records_from cfg (suc n) s xs = go (next_record cfg s [] [] xs) (λ t ys. length-records_from cfg n t ys)
  where
    go : (o : Option Read) → ((t : State) (ys : List ℕ) → length (records_from cfg n t ys) ≤ n) → length (records_next (records_from cfg n) o) ≤ suc n
    go None more = omega arith
    go (Some p) more = omega (arith, more p.1 p.2)

pub length-strip_bom : (xs : List ℕ) → length (strip_bom xs) ≤ length xs
unfolding strip_bom
length-strip_bom [] = omega arith
length-strip_bom (a ∷ []) = omega arith
length-strip_bom (a ∷ b ∷ []) = omega arith
length-strip_bom (a ∷ b ∷ c ∷ rest) = go (is_bom a b c)
  where
    go : (t : Bool) → length (cond t rest (a ∷ b ∷ c ∷ rest)) ≤ length (a ∷ b ∷ c ∷ rest)
    go true = omega arith
    go false = omega arith

abbrev Gave : Bool → List (List (List ℕ)) → List (List ℕ) → List (List (List ℕ)) → Type 0
Gave found old fields new = MatchBool found ((old ≡ fields ∷ new) × AreWithin longest fields) (old ≡ [])

-- what a read does to the records that are left
left_after : (s s2 : State) (a b : Option (List ℕ)) (found : Bool) (fields : List (List ℕ)) → IsSomeAnd a (λ xs. length xs ≤ longest) → ReadsNext default_config s a b found fields s2
    → Gave found (option_map_or (records_left s) a []) fields (option_map_or (records_left s2) b []) × (found ≡ true → IsSomeAnd b (λ xs. length xs ≤ longest))
left_after s s2 None b found fields h r = absurd h
left_after s s2 (Some xs) None found fields h r = absurd r
left_after s s2 (Some xs) (Some ys) found fields h r = go (next_record default_config s [] [] xs) refl r
  where
    go : (o : Option Read) → next_record default_config s [] [] xs ≡ o → NextIs o found fields s2 ys
        → Gave found (records_left s xs) fields (records_left s2 ys) × (found ≡ true → length ys ≤ longest)
    go None e n = (rw n (records_left-none s xs e), λ t. absurd (let u : false ≡ true = sym n ∙ t in cc))
    go (Some p) e n =
        let w = next_record-within longest default_config s [] [] xs p e tt (omega arith) in
        (rw (n.0, n.1, n.2, n.3) (records_left-next s xs p e, w.0), λ t. rw n.3 w.1)

checked : (r : Reader (Bor (List ℕ))) → r.bom_checked ≡ true → source r ≡ pending_of (Some r.rdr.now) r
checked r h = rw h refl

pub unread-read : (old new : Reader (Bor (List ℕ))) (found : Bool) (fields : List (List ℕ)) → IsPlain old → ReadRecord (λ s. Some s.now) old new found fields
    → took_first new ≡ true → is_flexible new ≡ is_flexible old
    → Gave found (unread old) fields (unread new) × (found ≡ true → IsPlain new)
unread-read old new found fields p r first flexible =
    let left = left_after (reader_state old) (reader_state new) (source old) (pending_of (Some new.rdr.now) new) found fields p.known (rw p.config at r.0) in
    let same = checked new r.1 in (
      rw same left.0,
      λ t. record {
        config = r.2 ∙ p.config;
        trim = r.3 ∙ p.trim;
        flexible = flexible ∙ p.flexible;
        ready = inl first;
        known = rw same (left.1 t);
      },
    )

-- the reader as it begins
pub plain-start : (r : Reader (Bor (List ℕ))) (bytes : List ℕ) → reader_config r ≡ default_config → reader_trim r ≡ trim.None → is_flexible r ≡ true → Ready r
    → source r ≡ Some bytes → length bytes ≤ longest → IsPlain r
plain-start r bytes c t f y e h = record { config = c; trim = t; flexible = f; ready = y; known = rw e h }

pub unread-start : (r : Reader (Bor (List ℕ))) (bytes : List ℕ) → reader_state r ≡ st.StartRecord → source r ≡ Some bytes → unread r ≡ records default_config bytes
unread-start r bytes s e = rw (e, s) refl

pub length-records : (xs : List ℕ) → length (records default_config (strip_bom xs)) ≤ length xs + 1
length-records xs = omega (arith, length-records_from default_config (length (strip_bom xs) + 1) st.StartRecord (strip_bom xs), length-strip_bom xs)
