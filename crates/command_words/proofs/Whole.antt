-- What clap reads gives the command exactly.
use Rattle.std.proofs.Common.{◌≡◌, ◌∙◌, ◌++◌, ◌≤◌, ℕ, Bool, true, false, cond, List, [], ◌∷◌, Option, Some, None, Result, Ok, Err, refl, sym, ap, subst, codes, ◌&&◌, arith, map, take, drop, length}
use Rattle.std.specs.Prelude.{not, ◌==◌, nat_le, option_and_then, option_map, IfSome}
use Rattle.std.proofs.lemmas.Bool.{and_parts}
use Rattle.std.proofs.lemmas.Option.{option_and_then_some}
use Rattle.std.proofs.lemmas.Bool.Decides.{nat_tests}
use Rattle.clap.specs.Walk.{Text}
use Rattle.std.specs.Borrow.{Bor}
use Rattle.std.proofs.Math.ListN.{drop_of_length-le}
use Rattle.std.proofs.lemmas.List.{append-nil, take-append-drop}
use Rattle.clap.specs.Words.{Row, takes, subcommand_of, subcommand_rows_of, found_of, rows_of}
use Rattle.clap.specs.declared.parser.matches.ArgMatches.{ArgMatches}
use Rattle.clap.proofs.WalkLemmas.{first_value-rows}
use Rattle.command_words.specs.Found.{texts_found}
use Rattle.field_text.specs.Fields.{number_field}
use Rattle.field_text.specs.declared.field_fault.FieldFault.{FieldFault}
use Rattle.command_words.specs.Numbers.{within, number_in, long_in, nodes_in, sizes_in, lines_in, AreNodes, AreSizes}
use Rattle.command_words.specs.Words.{is_argument, command_in, HasLimits}
use Rattle.command_words.specs.Spelling.{Stands, Spells, IsSpelt}
use Rattle.command_words.specs.Spelling.Stands.{alone, two_words, one_word}
use Rattle.command_words.specs.Spelling.Spells.{check, award, show, make, trial, migrate, trade, calendar, whatif, opening, opencheck}
use Rattle.command_words.specs.Reading.{Texts, commands, texts_of, texts_in, named_read, sizes_read, lines_read}
use Rattle.command_words.proofs.Laws.{spelt_read, read_spelt, mapped, number_argument, sizes_plain}
use Rattle.command_words.proofs.Standing.{given_spelt, stands_is, bytes_same}
use Rattle.command_words.proofs.Steps.{now_of}
use Rattle.command_words.proofs.Forms as forms
use Rattle.command_words.proofs.Forms.{Reads, ReadsOne, IsPlain, no_texts, sized, asking, lining}
use Rattle.command_words.specs.declared.command.Sizes.{Sizes}
use Rattle.command_words.specs.declared.command.Command.{Command}
use Rattle.command_words.specs.declared.command.Command.TheVariants.{Award, Make, Trial, WhatIf, Open, OpenCheck}

no_dash : (b : ℕ) → not (b == 45) ≡ true → (b == 45) ≡ false
no_dash b h = grind (arith, nat_tests)

pub plain_word : (word : Text) → is_argument word ≡ true → IsPlain word
plain_word [] h = absurd cc
plain_word (b ∷ bs) h = record { trail = rw (no_dash b h) refl; flag = rw (no_dash b h) refl }

plain_nodes : (n : Text) (nodes : ℕ) → nodes_in (Some n) ≡ Some nodes → IsPlain n
plain_nodes n nodes h = plain_word n (number_argument 1 20000 n nodes h)

-- ---- the words of a command with an option

award_reads : (option : Option Text) (rest : List Text) (nodes : ℕ) → Stands [] option rest → nodes_in option ≡ Some nodes
    → Reads (codes "award" ∷ rest) (record no_texts { nodes = option })
award_reads option rest nodes (alone none same) h =
    subst (λ (o : Option Text). Reads (codes "award" ∷ rest) (record no_texts { nodes = o })) (sym none)
    (subst (λ (r : List Text). Reads (codes "award" ∷ r) no_texts) (sym same) forms.award_form)
award_reads option rest nodes (two_words [] [] n all some same) h =
    subst (λ (o : Option Text). Reads (codes "award" ∷ rest) (record no_texts { nodes = o })) (sym some)
    (subst (λ (r : List Text). Reads (codes "award" ∷ r) (record no_texts { nodes = Some n })) (sym same)
    (forms.award_two n (plain_nodes n nodes (ap nodes_in (sym some) ∙ h))))
award_reads option rest nodes (two_words [] (w ∷ ws) n all some same) h = absurd cc
award_reads option rest nodes (two_words (w ∷ ws) after n all some same) h = absurd cc
award_reads option rest nodes (one_word [] [] n all some same) h =
    subst (λ (o : Option Text). Reads (codes "award" ∷ rest) (record no_texts { nodes = o })) (sym some)
    (subst (λ (r : List Text). Reads (codes "award" ∷ r) (record no_texts { nodes = Some n })) (sym same) (forms.award_one n))
award_reads option rest nodes (one_word [] (w ∷ ws) n all some same) h = absurd cc
award_reads option rest nodes (one_word (w ∷ ws) after n all some same) h = absurd cc

-- one word in two parts
data Halved (a : Text) : List Text → List Text → Type 0 where
  at_front : Halved a [] (a ∷ [])
  at_back : Halved a (a ∷ []) []

-- three words in two parts
data Parted (a b c : Text) : List Text → List Text → Type 0 where
  first : Parted a b c [] (a ∷ b ∷ c ∷ [])
  second : Parted a b c (a ∷ []) (b ∷ c ∷ [])
  third : Parted a b c (a ∷ b ∷ []) (c ∷ [])
  last : Parted a b c (a ∷ b ∷ c ∷ []) []

head_same : (x y : Text) (xs ys : List Text) → x ∷ xs ≡ y ∷ ys → x ≡ y
head_same x y xs ys h = cc

tail_same : (x y : Text) (xs ys : List Text) → x ∷ xs ≡ y ∷ ys → xs ≡ ys
tail_same x y xs ys h = cc

parted : (a b c : Text) (before after : List Text) → (a ∷ b ∷ c ∷ []) ≡ before ++ after → Parted a b c before after
parted a b c [] after h = subst (Parted a b c []) h first
parted a b c (x ∷ []) after h =
    let e = head_same a x (b ∷ c ∷ []) after h in
    let t = tail_same a x (b ∷ c ∷ []) after h in
    subst (λ (y : Text). Parted a b c (y ∷ []) after) e (subst (Parted a b c (a ∷ [])) t second)
parted a b c (x ∷ (y ∷ [])) after h =
    let e = head_same a x (b ∷ c ∷ []) (y ∷ after) h in
    let t = tail_same a x (b ∷ c ∷ []) (y ∷ after) h in
    let f = head_same b y (c ∷ []) after t in
    let u = tail_same b y (c ∷ []) after t in
    subst (λ (z : Text). Parted a b c (z ∷ y ∷ []) after) e (subst (λ (z : Text). Parted a b c (a ∷ z ∷ []) after) f (subst (Parted a b c (a ∷ b ∷ [])) u third))
parted a b c (x ∷ (y ∷ (z ∷ []))) after h =
    let e = head_same a x (b ∷ c ∷ []) (y ∷ z ∷ after) h in
    let t = tail_same a x (b ∷ c ∷ []) (y ∷ z ∷ after) h in
    let f = head_same b y (c ∷ []) (z ∷ after) t in
    let u = tail_same b y (c ∷ []) (z ∷ after) t in
    let g = head_same c z [] after u in
    let v = tail_same c z [] after u in
    subst (λ (w : Text). Parted a b c (w ∷ y ∷ z ∷ []) after) e (subst (λ (w : Text). Parted a b c (a ∷ w ∷ z ∷ []) after) f
    (subst (λ (w : Text). Parted a b c (a ∷ b ∷ w ∷ []) after) g (subst (Parted a b c (a ∷ b ∷ c ∷ [])) v last)))
parted a b c (x ∷ (y ∷ (z ∷ (w ∷ ws)))) after h =
    let t = tail_same a x (b ∷ c ∷ []) (y ∷ z ∷ w ∷ (ws ++ after)) h in
    let u = tail_same b y (c ∷ []) (z ∷ w ∷ (ws ++ after)) t in
    let v = tail_same c z [] (w ∷ (ws ++ after)) u in
    absurd (no_more w (ws ++ after) v)
  where
    no_more : (w : Text) (ws : List Text) → [] ≡ w ∷ ws → ⊥
    no_more w ws h = cc

halved : (a : Text) (front after : List Text) → (a ∷ []) ≡ front ++ after → Halved a front after
halved a [] after h = subst (Halved a []) h at_front
halved a (x ∷ []) after h =
    let e = head_same a x [] after h in
    let t = tail_same a x [] after h in
    subst (λ (y : Text). Halved a (y ∷ []) after) e (subst (Halved a (a ∷ [])) t at_back)
halved a (x ∷ (y ∷ ws)) after h = absurd (no_more y (ws ++ after) (tail_same a x [] (y ∷ (ws ++ after)) h))
  where
    no_more : (w : Text) (ws : List Text) → [] ≡ w ∷ ws → ⊥
    no_more w ws h = cc

two_halved : (word : Text) (texts : Text → Option Text → Texts) → ReadsOne word texts → (a n : Text) (front after : List Text) → IsPlain a → IsPlain n
    → Halved a front after → Reads (word ∷ (front ++ (codes "--nodes" ∷ n ∷ after))) (texts a (Some n))
two_halved word texts forms a n _ _ p s at_front = forms.two_first a n p s
two_halved word texts forms a n _ _ p s at_back = forms.two_last a n p s

one_halved : (word : Text) (texts : Text → Option Text → Texts) → ReadsOne word texts → (a n : Text) (front after : List Text) → IsPlain a
    → Halved a front after → Reads (word ∷ (front ++ ((codes "--nodes=" ++ n) ∷ after))) (texts a (Some n))
one_halved word texts forms a n _ _ p at_front = forms.one_first a n p
one_halved word texts forms a n _ _ p at_back = forms.one_last a n p

one_reads : (word : Text) (texts : Text → Option Text → Texts) → ReadsOne word texts → (a : Text) (option : Option Text) (rest : List Text) (nodes : ℕ)
    → IsPlain a → Stands (a ∷ []) option rest → nodes_in option ≡ Some nodes → Reads (word ∷ rest) (texts a option)
one_reads word texts forms a option rest nodes p (alone none same) h =
    subst (λ (o : Option Text). Reads (word ∷ rest) (texts a o)) (sym none)
    (subst (λ (l : List Text). Reads (word ∷ l) (texts a None)) (sym same) (forms.alone a p))
one_reads word texts forms a option rest nodes p (two_words front after n all some same) h =
    subst (λ (o : Option Text). Reads (word ∷ rest) (texts a o)) (sym some)
    (subst (λ (l : List Text). Reads (word ∷ l) (texts a (Some n))) (sym same)
    (two_halved word texts forms a n front after p (plain_nodes n nodes (ap nodes_in (sym some) ∙ h)) (halved a front after all)))
one_reads word texts forms a option rest nodes p (one_word front after n all some same) h =
    subst (λ (o : Option Text). Reads (word ∷ rest) (texts a o)) (sym some)
    (subst (λ (l : List Text). Reads (word ∷ l) (texts a (Some n))) (sym same)
    (one_halved word texts forms a n front after p (halved a front after all)))

two_parted : (a b c n : Text) (before after : List Text) → IsPlain a → IsPlain b → IsPlain c → IsPlain n → Parted a b c before after
    → Reads (codes "trial" ∷ (before ++ (codes "--nodes" ∷ n ∷ after))) (sized a b c (Some n))
two_parted a b c n _ _ p q r s first = forms.two_first a b c n p q r s
two_parted a b c n _ _ p q r s second = forms.two_second a b c n p q r s
two_parted a b c n _ _ p q r s third = forms.two_third a b c n p q r s
two_parted a b c n _ _ p q r s last = forms.two_last a b c n p q r s

one_parted : (a b c n : Text) (before after : List Text) → IsPlain a → IsPlain b → IsPlain c → Parted a b c before after
    → Reads (codes "trial" ∷ (before ++ ((codes "--nodes=" ++ n) ∷ after))) (sized a b c (Some n))
one_parted a b c n _ _ p q r first = forms.one_first a b c n p q r
one_parted a b c n _ _ p q r second = forms.one_second a b c n p q r
one_parted a b c n _ _ p q r third = forms.one_third a b c n p q r
one_parted a b c n _ _ p q r last = forms.one_last a b c n p q r

trial_reads : (a b c : Text) (option : Option Text) (rest : List Text) (nodes : ℕ) → IsPlain a → IsPlain b → IsPlain c
    → Stands (a ∷ b ∷ c ∷ []) option rest → nodes_in option ≡ Some nodes → Reads (codes "trial" ∷ rest) (sized a b c option)
trial_reads a b c option rest nodes p q r (alone none same) h =
    subst (λ (o : Option Text). Reads (codes "trial" ∷ rest) (sized a b c o)) (sym none)
    (subst (λ (l : List Text). Reads (codes "trial" ∷ l) (sized a b c None)) (sym same) (forms.trial_form a b c p q r))
trial_reads a b c option rest nodes p q r (two_words before after n all some same) h =
    subst (λ (o : Option Text). Reads (codes "trial" ∷ rest) (sized a b c o)) (sym some)
    (subst (λ (l : List Text). Reads (codes "trial" ∷ l) (sized a b c (Some n))) (sym same)
    (two_parted a b c n before after p q r (plain_nodes n nodes (ap nodes_in (sym some) ∙ h)) (parted a b c before after all)))
trial_reads a b c option rest nodes p q r (one_word before after n all some same) h =
    subst (λ (o : Option Text). Reads (codes "trial" ∷ rest) (sized a b c o)) (sym some)
    (subst (λ (l : List Text). Reads (codes "trial" ∷ l) (sized a b c (Some n))) (sym same)
    (one_parted a b c n before after p q r (parted a b c before after all)))

-- ---- words that spell a command are taken, and give it

abbrev pub reads_as : List Text → Texts → Option Command
reads_as [] t = None
reads_as (word ∷ rest) t = named_read word rest t

pub record Understood (words : List Text) (command : Command) : Type 0 where
  texts : Texts
  reads : Reads words texts
  means : reads_as words texts ≡ Some command

sizes_stand : (rest : List Text) (option : Option Text) (a b c : Text) → Stands (a ∷ b ∷ c ∷ []) option rest
    → sizes_read rest option (Some a) (Some b) (Some c) ≡ sizes_in a b c
sizes_stand rest option a b c s = rw (stands_is (a ∷ b ∷ c ∷ []) option rest s) refl

lines_stand : (rest : List Text) (option : Option Text) (number : Text) → is_argument number ≡ true → Stands (number ∷ []) option rest
    → lines_read rest option (Some number) ≡ lines_in number
lines_stand rest option number plain s = rw (plain, stands_is (number ∷ []) option rest s) refl

pub understood : (words : List Text) (command : Command) → Spells words command → Understood words command
understood _ _ check = record { texts = no_texts; reads = forms.check_form; means = refl }
understood _ _ (award rest option nodes s h) = record {
  texts = record no_texts { nodes = option };
  reads = award_reads option rest nodes s h;
  means = rw (stands_is [] option rest s) (ap (option_map (λ (n : ℕ). Award n)) h);
}
understood _ _ (show name plain) = record {
  texts = record no_texts { member = Some name };
  reads = forms.show_form name (plain_word name plain);
  means = rw (plain, bytes_same name) refl;
}
understood _ _ (make a b c sizes h) = let p = sizes_plain a b c sizes h in record {
  texts = sized a b c None;
  reads = forms.make_form a b c (plain_word a p.first) (plain_word b p.second) (plain_word c p.third);
  means = ap (option_map (λ (s : Sizes). Make s)) (sizes_stand (a ∷ b ∷ c ∷ []) None a b c (alone refl refl) ∙ h);
}
understood _ _ (trial rest a b c option sizes nodes s h k) = let p = sizes_plain a b c sizes h in record {
  texts = sized a b c option;
  reads = trial_reads a b c option rest nodes (plain_word a p.first) (plain_word b p.second) (plain_word c p.third) s k;
  means = ap (option_and_then (λ (z : Sizes). option_map (λ (n : ℕ). Trial z n) (nodes_in option))) (sizes_stand rest option a b c s ∙ h)
      ∙ ap (option_map (λ (n : ℕ). Trial sizes n)) k;
}
understood _ _ migrate = record { texts = no_texts; reads = forms.migrate_form; means = refl }
understood _ _ trade = record { texts = no_texts; reads = forms.trade_form; means = refl }
understood _ _ (calendar name plain) = record {
  texts = record no_texts { member = Some name };
  reads = forms.calendar_form name (plain_word name plain);
  means = rw (plain, bytes_same name) refl;
}
understood _ _ (whatif rest name option nodes s plain h) = record {
  texts = asking name option;
  reads = one_reads (codes "whatif") asking forms.whatif_forms name option rest nodes (plain_word name plain) s h;
  means = rw (plain, stands_is (name ∷ []) option rest s) (ap (option_map (λ (n : ℕ). WhatIf name n)) h);
}
understood _ _ (opening rest number option lines nodes s h k) = let plain = number_argument 0 50 number lines h in record {
  texts = lining number option;
  reads = one_reads (codes "open") lining forms.open_forms number option rest nodes (plain_word number plain) s k;
  means = ap (option_and_then (λ (v : ℕ). option_map (λ (n : ℕ). Open v n) (nodes_in option))) (lines_stand rest option number plain s ∙ h)
      ∙ ap (option_map (λ (n : ℕ). Open lines n)) k;
}
understood _ _ (opencheck number lines h) = let plain = number_argument 0 50 number lines h in record {
  texts = lining number None;
  reads = forms.opencheck_form number (plain_word number plain);
  means = ap (option_map (λ (v : ℕ). OpenCheck v)) (lines_stand (number ∷ []) None number plain (alone refl refl) ∙ h);
}

-- ---- the three ends of the reader

none_or : {A : Type 0} (o : Option A) → ((x : A) → o ≡ Some x → ⊥) → o ≡ None
none_or None h = refl
none_or (Some x) h = absurd (h x refl)

-- clap refused the words
pub refused_none : (words : List Text) → (takes commands (codes "pbs" ∷ words) ≡ true → ⊥) → command_in words ≡ None
refused_none words h = none_or (command_in words) (λ c e. h (understood words c (read_spelt words c e)).reads.taken)

not_some : {A : Type 0} (o : Option A) (x : A) → o ≡ Some x → o ≡ None → ⊥
not_some o x e f = cc

-- clap went to no command
pub nothing_none : (words : List Text) → texts_of words ≡ None → command_in words ≡ None
nothing_none words h = none_or (command_in words) (λ c e.
    let u = understood words c (read_spelt words c e) in not_some (texts_of words) u.texts u.reads.found h)

some_texts : (a b : Texts) → Some a ≡ Some b → a ≡ b
some_texts a b h = cc

given : (words : List Text) (t : Texts) (c : Command) → reads_as words t ≡ Some c → Spells words c
given [] t c k = absurd cc
given (word ∷ rest) t c k = given_spelt word rest t c k

-- clap found these texts
pub found_command : (words : List Text) (t : Texts) → texts_of words ≡ Some t → reads_as words t ≡ command_in words
found_command words t h = by (command_in words) refl
  where
    by : (o : Option Command) → command_in words ≡ o → reads_as words t ≡ command_in words
    by (Some c) e =
        let u = understood words c (read_spelt words c e) in
        let same = some_texts u.texts t (sym u.reads.found ∙ h) in
        ap (reads_as words) (sym same) ∙ u.means ∙ sym e
    by None e = none_or (reads_as words t) (λ c k. not_some (command_in words) c (spelt_read words c (given words t c k)) e) ∙ sym e

-- ---- the same of the texts that are handed to clap

pub end_refused : (texts words : List Text) → texts ≡ codes "pbs" ∷ words → (takes commands texts ≡ true → ⊥) → None ≡ command_in words
end_refused texts words e h = sym (refused_none words (subst (λ (t : List Text). takes commands t ≡ true → ⊥) e h))

no_rows : (o : Option (Text × List Row)) → o ≡ None → option_map (λ p. texts_in p.1) o ≡ None
no_rows None h = refl
no_rows (Some p) h = absurd cc

pub end_nothing : (texts words : List Text) → texts ≡ codes "pbs" ∷ words → subcommand_of commands texts ≡ None → None ≡ command_in words
end_nothing texts words e h =
    sym (nothing_none words (no_rows (subcommand_of commands (codes "pbs" ∷ words)) (ap (subcommand_of commands) (sym e) ∙ h)))

some_rows : (o : Option (Text × List Row)) (rows : List Row) → option_map (λ p. p.1) o ≡ Some rows → option_map (λ p. texts_in p.1) o ≡ Some (texts_in rows)
some_rows None rows h = absurd cc
some_rows (Some p) rows h = ap (option_map texts_in) h

pub found_same : (m : ArgMatches) → texts_found m ≡ texts_in (rows_of (found_of m))
found_same m =
    rw (
      first_value-rows (found_of m) (codes "nodes"),
      first_value-rows (found_of m) (codes "member"),
      first_value-rows (found_of m) (codes "number"),
      first_value-rows (found_of m) (codes "members"),
      first_value-rows (found_of m) (codes "pairings"),
      first_value-rows (found_of m) (codes "lines"),
    ) refl

pub end_found : (texts words : List Text) (name head : Text) (rest : List Text) (rows : List Row) (read : Option Command)
    → texts ≡ codes "pbs" ∷ words → texts ≡ name ∷ head ∷ rest
    → option_map (λ p. p.1) (subcommand_of commands texts) ≡ Some rows → read ≡ named_read head rest (texts_in rows) → read ≡ command_in words
end_found texts words name head rest rows read e f h r =
    let same : words ≡ head ∷ rest = tail_same (codes "pbs") name words (head ∷ rest) (sym e ∙ f) in
    r ∙ ap (λ (l : List Text). reads_as l (texts_in rows)) (sym same)
    ∙ found_command words (texts_in rows) (some_rows (subcommand_of commands (codes "pbs" ∷ words)) rows (ap (λ (t : List Text). option_map (λ p. p.1) (subcommand_of commands t)) (sym e) ∙ h))

-- ---- the two other clauses

pub read_is_spelt : (words : List Text) (read : Option Command) → read ≡ command_in words → IsSpelt words read
read_is_spelt words read e command = (λ h. read_spelt words command (sym e ∙ h), λ s. e ∙ spelt_read words command s)

within_limits : (least most : ℕ) (r : Result ℕ FieldFault) (k : ℕ) → within least most r ≡ Some k → (least ≤ k) × (k ≤ most)
within_limits least most (Err fault) k h = absurd cc
within_limits least most (Ok n) k h = by (nat_le least n && nat_le n most) refl h
  where
    bounds : (a b : ℕ) → nat_le a b ≡ true → a ≤ b
    bounds a b h = grind (arith, nat_tests)

    same : (a b : ℕ) → Some a ≡ Some b → a ≡ b
    same a b h = cc

    by : (t : Bool) → (nat_le least n && nat_le n most) ≡ t → cond t (Some n) None ≡ Some k → (least ≤ k) × (k ≤ most)
    by true e h =
        let p = and_parts (nat_le least n) (nat_le n most) e in
        (subst (λ (x : ℕ). least ≤ x) (same n k h) (bounds least n p.0), subst (λ (x : ℕ). x ≤ most) (same n k h) (bounds n most p.1))
    by false e h = absurd cc

nodes_limits : (option : Option Text) (nodes : ℕ) → nodes_in option ≡ Some nodes → AreNodes nodes
nodes_limits None nodes h = let same : 20000 ≡ nodes = same_number 20000 nodes h in record { some = omega (arith, same); few = omega (arith, same) }
  where
    same_number : (a b : ℕ) → Some a ≡ Some b → a ≡ b
    same_number a b h = cc
nodes_limits (Some word) nodes h = let l = within_limits 1 20000 (number_field word) nodes h in record { some = l.0; few = l.1 }

abbrev sizes_made : ℕ → ℕ → ℕ → Sizes
sizes_made n m p = record { number = n; members = m; pairings = p }

sizes_limits : (a b c : Text) (sizes : Sizes) → sizes_in a b c ≡ Some sizes → AreSizes sizes
sizes_limits a b c sizes h =
    option_and_then_some (λ (n : ℕ). option_and_then (λ (m : ℕ). option_map (λ (p : ℕ). sizes_made n m p) (number_in 0 600 c)) (number_in 1 200 b)) (long_in a) sizes h
    (λ n en hn. option_and_then_some (λ (m : ℕ). option_map (λ (p : ℕ). sizes_made n m p) (number_in 0 600 c)) (number_in 1 200 b) sizes hn
    (λ m em hm.
    let last = mapped (λ (p : ℕ). sizes_made n m p) (number_in 0 600 c) sizes hm in
    let l = within_limits 1 200 (number_field b) m em in
    let k = within_limits 0 600 (number_field c) last.0 last.1 in
    subst AreSizes last.2 (record { some = l.0; few = l.1; short = k.1 })))

limits_of : (words : List Text) (command : Command) → Spells words command → HasLimits command
limits_of _ _ check = tt
limits_of _ _ (award rest option nodes s h) = nodes_limits option nodes h
limits_of _ _ (show name plain) = tt
limits_of _ _ (make a b c sizes h) = sizes_limits a b c sizes h
limits_of _ _ (trial rest a b c option sizes nodes s h k) = (sizes_limits a b c sizes h, nodes_limits option nodes k)
limits_of _ _ migrate = tt
limits_of _ _ trade = tt
limits_of _ _ (calendar name plain) = tt
limits_of _ _ (whatif rest name option nodes s plain h) = nodes_limits option nodes h
limits_of _ _ (opening rest number option lines nodes s h k) =
    ((within_limits 0 50 (number_field number) lines h).1, nodes_limits option nodes k)
limits_of _ _ (opencheck number lines h) = (within_limits 0 50 (number_field number) lines h).1

pub read_has_limits : (words : List Text) (read : Option Command) → read ≡ command_in words → IfSome read HasLimits
read_has_limits words None e = tt
read_has_limits words (Some command) e = limits_of words command (read_spelt words command (sym e))

-- ---- the three ends over what the calls answered

rows_given : (texts : List Text) (given : Option ArgMatches) (m : ArgMatches) → given ≡ Some m
    → IfSome given (λ (x : ArgMatches). subcommand_rows_of x ≡ subcommand_of commands texts) → subcommand_rows_of m ≡ subcommand_of commands texts
rows_given texts given m e h = subst (λ (o : Option ArgMatches). IfSome o (λ (x : ArgMatches). subcommand_rows_of x ≡ subcommand_of commands texts)) e h

no_pair : (o : Option (Text × List Row)) → None ≡ option_map (λ p. p.1) o → o ≡ None
no_pair None h = refl
no_pair (Some p) h = absurd cc

pub ends_nothing : (texts words : List Text) (given : Option ArgMatches) (m : ArgMatches) → texts ≡ codes "pbs" ∷ words → given ≡ Some m
    → IfSome given (λ (x : ArgMatches). subcommand_rows_of x ≡ subcommand_of commands texts)
    → None ≡ option_map (λ p. p.1) (subcommand_rows_of m) → None ≡ command_in words
ends_nothing texts words given m e some h none = end_nothing texts words e (sym (rows_given texts given m some h) ∙ no_pair (subcommand_rows_of m) none)

pub ends_found : (texts behind rest : List (Bor Text)) (words : List Text) (program head : Bor Text) (given : Option ArgMatches) (m found : ArgMatches) (read : Option Command)
    → now_of texts ≡ codes "pbs" ∷ words → texts ≡ program ∷ behind → behind ≡ head ∷ rest → given ≡ Some m
    → IfSome given (λ (x : ArgMatches). subcommand_rows_of x ≡ subcommand_of commands (now_of texts))
    → Some (rows_of (found_of found)) ≡ option_map (λ p. p.1) (subcommand_rows_of m)
    → read ≡ named_read head.now (now_of rest) (texts_found found) → read ≡ command_in words
ends_found texts behind rest words program head given m found read e f g some h rows r =
    end_found (now_of texts) words program.now head.now (now_of rest) (rows_of (found_of found)) read e
    (ap now_of f ∙ ap (λ (l : List (Bor Text)). program.now ∷ now_of l) g)
    (ap (λ (o : Option (Text × List Row)). option_map (λ p. p.1) o) (sym (rows_given (now_of texts) given m some h)) ∙ sym rows)
    (r ∙ ap (named_read head.now (now_of rest)) (found_same found))

take_whole : {A : Type 0} (xs : List A) (i : ℕ) → length xs ≤ i → take i xs ≡ xs
take_whole {A} xs i h =
    let none : drop i xs ≡ [] = drop_of_length-le xs h in
    sym (append-nil (take i xs)) ∙ ap (λ (l : List A). take i xs ++ l) (sym none) ∙ take-append-drop i xs

-- every word was copied
pub whole_words : {A : Type 0} (f : A → Text) (xs : List A) (i : ℕ) (texts : List Text) → texts ≡ codes "pbs" ∷ map f (take i xs) → length xs ≤ i
    → texts ≡ codes "pbs" ∷ map f xs
whole_words {A} f xs i texts e h = e ∙ ap (λ (l : List A). codes "pbs" ∷ map f l) (take_whole xs i h)
