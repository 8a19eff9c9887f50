-- The test of words against what was read, and what was read against the words.
use Rattle.std.proofs.Common.{◌≡◌, ◌∙◌, ◌++◌, ℕ, Bool, true, false, cond, List, [], ◌∷◌, take, drop, Option, Some, None, refl, sym, ap, subst, codes, inl, inr, ◌&&◌, ◌||◌}
use Rattle.std.specs.Prelude.{if◌then◌else◌, option_map}
use Rattle.std.proofs.lemmas.Bool.{and_parts, or_cases}
use Rattle.std.proofs.lemmas.List.{take-append-drop}
use Rattle.std.proofs.lemmas.Option.{option_and_then_some}
use Rattle.std.proofs.lemmas.Slice.Eq.{bytes_eq-Decides}
use Rattle.std.specs.Str.{bytes_eq}
use Rattle.clap.specs.Walk.{Text}
use Rattle.command_words.specs.Numbers.{nodes_in, sizes_in, lines_in}
use Rattle.command_words.specs.Words.{is_argument, alone_in}
use Rattle.command_words.specs.Spelling.{Stands, Spells}
use Rattle.command_words.specs.Spelling.Stands.{alone, two_words, one_word}
use Rattle.command_words.specs.Spelling.Spells.{check, award, show, make, trial, migrate, trade, calendar, whatif, opening, opencheck}
use Rattle.command_words.specs.Reading.{Texts, joins, same_words, begins_apart, begins, heads, has_option, stands, award_read, one_read, name_read, sizes_read, make_read, trial_read, whatif_read, lines_read, open_read, opencheck_read, named_read}
use Rattle.command_words.proofs.Laws.{by_word, alone_spelt, mapped, moved}
use Rattle.command_words.specs.declared.command.Sizes.{Sizes}
use Rattle.command_words.specs.declared.command.Command.{Command}
use Rattle.command_words.specs.declared.command.Command.TheVariants.{Check, Award, Show, Make, Trial, Migrate, Trade, Calendar, WhatIf, Open, OpenCheck}

-- ---- words that pass the test stand so

pub same_eq : (words arguments : List Text) → same_words words arguments ≡ true → words ≡ arguments
same_eq [] [] h = refl
same_eq [] (a ∷ rest) h = absurd cc
same_eq (w ∷ ws) [] h = absurd cc
same_eq (w ∷ ws) (a ∷ rest) h =
    let p = and_parts (bytes_eq w a) (same_words ws rest) h in
    ap (λ (x : Text). x ∷ ws) ((bytes_eq-Decides w a).0 p.0) ∙ ap (λ (l : List Text). a ∷ l) (same_eq ws rest p.1)

joins_is : (word n : Text) → joins word n ≡ true → word ≡ codes "--nodes=" ++ n
joins_is word n h =
    let p = and_parts (bytes_eq (take 8 word) (codes "--nodes=")) (bytes_eq (drop 8 word) n) h in
    sym (take-append-drop 8 word) ∙ ap (λ (x : Text). x ++ drop 8 word) ((bytes_eq-Decides (take 8 word) (codes "--nodes=")).0 p.0)
    ∙ ap (λ (x : Text). codes "--nodes=" ++ x) ((bytes_eq-Decides (drop 8 word) n).0 p.1)

apart_true : (word : Text) (after : List Text) (n : Text) (arguments : List Text) → word ≡ codes "--nodes" → begins_apart after n arguments ≡ true
    → Stands arguments (Some n) (word ∷ after)
apart_true word [] n arguments e h = absurd cc
apart_true word (m ∷ after) n arguments e h =
    let p = and_parts (bytes_eq m n) (same_words after arguments) h in
    two_words [] arguments n refl refl (ap (λ (x : Text). x ∷ m ∷ after) e ∙ ap (λ (x : Text). codes "--nodes" ∷ x ∷ after) ((bytes_eq-Decides m n).0 p.0)
    ∙ ap (λ (l : List Text). codes "--nodes" ∷ n ∷ l) (same_eq after arguments p.1))

begins_true : (words : List Text) (n : Text) (arguments : List Text) → begins words n arguments ≡ true → Stands arguments (Some n) words
begins_true [] n arguments h = absurd cc
begins_true (word ∷ after) n arguments h = by (joins word n) refl h
  where
    by : (t : Bool) → joins word n ≡ t → cond t (same_words after arguments) (bytes_eq word (codes "--nodes") && begins_apart after n arguments) ≡ true
        → Stands arguments (Some n) (word ∷ after)
    by true e h = one_word [] arguments n refl refl (ap (λ (x : Text). x ∷ after) (joins_is word n e)
        ∙ ap (λ (l : List Text). (codes "--nodes=" ++ n) ∷ l) (same_eq after arguments h))
    by false e h =
        let p = and_parts (bytes_eq word (codes "--nodes")) (begins_apart after n arguments) h in
        apart_true word after n arguments ((bytes_eq-Decides word (codes "--nodes")).0 p.0) p.1

head_moved : (a : Text) (rest : List Text) (words : List Text) (n : Text) → heads a words ≡ true → Stands rest (Some n) (drop 1 words) → Stands (a ∷ rest) (Some n) words
head_moved a rest [] n h s = absurd cc
head_moved a rest (w ∷ ws) n h s = subst (λ (x : Text). Stands (x ∷ rest) (Some n) (w ∷ ws)) ((bytes_eq-Decides w a).0 h) (moved w rest (Some n) ws s)

option_true : (arguments : List Text) (words : List Text) (n : Text) → has_option words n arguments ≡ true → Stands arguments (Some n) words
option_true [] words n h = begins_true words n [] h
option_true (a ∷ rest) words n h = elim (or_cases (begins words n (a ∷ rest)) (heads a words && has_option (drop 1 words) n rest) h) [
  | inl here ↦ begins_true words n (a ∷ rest) here
  | inr later ↦
      let p = and_parts (heads a words) (has_option (drop 1 words) n rest) later in
      head_moved a rest words n p.0 (option_true rest (drop 1 words) n p.1)
]

pub stands_true : (words arguments : List Text) (option : Option Text) → stands words arguments option ≡ true → Stands arguments option words
stands_true words arguments None h = alone refl (same_eq words arguments h)
stands_true words arguments (Some n) h = option_true arguments words n h

-- ---- words that stand so pass the test

pub bytes_same : (w : Text) → bytes_eq w w ≡ true
bytes_same w = (bytes_eq-Decides w w).1 refl

pub both_true : (a b : Bool) → a ≡ true → b ≡ true → (a && b) ≡ true
both_true a b h k = rw (h, k) refl

second_true : (a b : Bool) → b ≡ true → (a || b) ≡ true
second_true true b h = refl
second_true false b h = h

first_true : (a b : Bool) → a ≡ true → (a || b) ≡ true
first_true a b h = rw h refl

pub same_refl : (words : List Text) → same_words words words ≡ true
same_refl [] = refl
same_refl (w ∷ ws) = both_true (bytes_eq w w) (same_words ws ws) (bytes_same w) (same_refl ws)

two_begins : (after : List Text) (n : Text) → begins (codes "--nodes" ∷ n ∷ after) n after ≡ true
two_begins after n = both_true (bytes_eq n n) (same_words after after) (bytes_same n) (same_refl after)

one_begins : (after : List Text) (n : Text) → begins ((codes "--nodes=" ++ n) ∷ after) n after ≡ true
one_begins after n = rw (bytes_same n) (same_refl after)

begins_option : (words : List Text) (n : Text) (arguments : List Text) → begins words n arguments ≡ true → has_option words n arguments ≡ true
begins_option words n [] h = h
begins_option words n (a ∷ rest) h = first_true (begins words n (a ∷ rest)) (heads a words && has_option (drop 1 words) n rest) h

two_true : (before after : List Text) (n : Text) → has_option (before ++ (codes "--nodes" ∷ n ∷ after)) n (before ++ after) ≡ true
two_true [] after n = begins_option (codes "--nodes" ∷ n ∷ after) n after (two_begins after n)
two_true (w ∷ ws) after n =
    second_true (begins (w ∷ (ws ++ (codes "--nodes" ∷ n ∷ after))) n (w ∷ (ws ++ after))) (bytes_eq w w && has_option (ws ++ (codes "--nodes" ∷ n ∷ after)) n (ws ++ after))
    (both_true (bytes_eq w w) (has_option (ws ++ (codes "--nodes" ∷ n ∷ after)) n (ws ++ after)) (bytes_same w) (two_true ws after n))

one_true : (before after : List Text) (n : Text) → has_option (before ++ ((codes "--nodes=" ++ n) ∷ after)) n (before ++ after) ≡ true
one_true [] after n = begins_option ((codes "--nodes=" ++ n) ∷ after) n after (one_begins after n)
one_true (w ∷ ws) after n =
    second_true (begins (w ∷ (ws ++ ((codes "--nodes=" ++ n) ∷ after))) n (w ∷ (ws ++ after))) (bytes_eq w w && has_option (ws ++ ((codes "--nodes=" ++ n) ∷ after)) n (ws ++ after))
    (both_true (bytes_eq w w) (has_option (ws ++ ((codes "--nodes=" ++ n) ∷ after)) n (ws ++ after)) (bytes_same w) (one_true ws after n))

pub stands_is : (arguments : List Text) (option : Option Text) (words : List Text) → Stands arguments option words → stands words arguments option ≡ true
stands_is arguments option words (alone none same) =
    ap (λ (o : Option Text). stands words arguments o) none ∙ ap (λ (w : List Text). same_words w arguments) same ∙ same_refl arguments
stands_is arguments option words (two_words before after n all some same) =
    ap (λ (o : Option Text). stands words arguments o) some ∙ ap (λ (w : List Text). has_option w n arguments) same
    ∙ ap (λ (a : List Text). has_option (before ++ (codes "--nodes" ∷ n ∷ after)) n a) all ∙ two_true before after n
stands_is arguments option words (one_word before after n all some same) =
    ap (λ (o : Option Text). stands words arguments o) some ∙ ap (λ (w : List Text). has_option w n arguments) same
    ∙ ap (λ (a : List Text). has_option (before ++ ((codes "--nodes=" ++ n) ∷ after)) n a) all ∙ one_true before after n

-- ---- what the texts give is spelt by the words

award_given : (words : List Text) (option : Option Text) (command : Command) → award_read words option ≡ Some command → Spells (codes "award" ∷ words) command
award_given words option command h = by (stands words [] option) refl h
  where
    by : (t : Bool) → stands words [] option ≡ t → cond t (option_map (λ (n : ℕ). Award n) (nodes_in option)) None ≡ Some command → Spells (codes "award" ∷ words) command
    by true e h =
        let m = mapped (λ (n : ℕ). Award n) (nodes_in option) command h in
        subst (Spells (codes "award" ∷ words)) m.2 (award words option m.0 (stands_true words [] option e) m.1)
    by false e h = absurd cc

some_text : (a b : Text) → Some a ≡ Some b → a ≡ b
some_text a b h = cc

no_option : (arguments : List Text) (option : Option Text) (words : List Text) → Stands arguments option words → option ≡ None → words ≡ arguments
no_option arguments option words (alone none same) e = same
no_option arguments option words (two_words before after n all some same) e = absurd cc
no_option arguments option words (one_word before after n all some same) e = absurd cc

-- the words are this argument, with the option where there is one
record IsOneOf (words : List Text) (option : Option Text) (word : Text) : Type 0 where
  standing : Stands (word ∷ []) option words
  plain : is_argument word ≡ true

one_tested : (words : List Text) (option : Option Text) (text word : Text) → (if is_argument text && stands words (text ∷ []) option then Some text else None) ≡ Some word
    → IsOneOf words option word
one_tested words option text word h = by (is_argument text && stands words (text ∷ []) option) refl h
  where
    by : (t : Bool) → (is_argument text && stands words (text ∷ []) option) ≡ t → cond t (Some text) None ≡ Some word → IsOneOf words option word
    by true e h =
        let p = and_parts (is_argument text) (stands words (text ∷ []) option) e in
        subst (IsOneOf words option) (some_text text word h) (record { standing = stands_true words (text ∷ []) option p.1; plain = p.0 })
    by false e h = absurd cc

one_given : (words : List Text) (option argument : Option Text) (word : Text) → one_read words option argument ≡ Some word → IsOneOf words option word
one_given words option argument word h =
    option_and_then_some (λ (text : Text). if is_argument text && stands words (text ∷ []) option then Some text else None) argument word h
    (λ text e k. one_tested words option text word k)

-- the words are this name
abbrev IsNameOf : List Text → Text → Type 0
IsNameOf words name = (words ≡ name ∷ []) × (is_argument name ≡ true)

name_given : (words : List Text) (member : Option Text) (name : Text) → name_read words member ≡ Some name → IsNameOf words name
name_given words member name h =
    let g = one_given words None member name h in
    (no_option (name ∷ []) None words g.standing refl, g.plain)

show_given : (words : List Text) (member : Option Text) (command : Command) → option_map (λ (n : Text). Show n) (name_read words member) ≡ Some command
    → Spells (codes "show" ∷ words) command
show_given words member command h =
    let m = mapped (λ (n : Text). Show n) (name_read words member) command h in
    let p = name_given words member m.0 m.1 in
    subst (Spells (codes "show" ∷ words)) m.2 (subst (λ (w : List Text). Spells (codes "show" ∷ w) (Show m.0)) (sym p.0) (show m.0 p.1))

calendar_given : (words : List Text) (member : Option Text) (command : Command) → option_map (λ (n : Text). Calendar n) (name_read words member) ≡ Some command
    → Spells (codes "calendar" ∷ words) command
calendar_given words member command h =
    let m = mapped (λ (n : Text). Calendar n) (name_read words member) command h in
    let p = name_given words member m.0 m.1 in
    subst (Spells (codes "calendar" ∷ words)) m.2 (subst (λ (w : List Text). Spells (codes "calendar" ∷ w) (Calendar m.0)) (sym p.0) (calendar m.0 p.1))

record SizesGiven (words : List Text) (option : Option Text) (sizes : Sizes) : Type 0 where
  a : Text
  b : Text
  c : Text
  standing : Stands (a ∷ b ∷ c ∷ []) option words
  written : sizes_in a b c ≡ Some sizes

sizes_tested : (words : List Text) (option : Option Text) (a b c : Text) (sizes : Sizes)
    → (if stands words (a ∷ b ∷ c ∷ []) option then sizes_in a b c else None) ≡ Some sizes → SizesGiven words option sizes
sizes_tested words option a b c sizes h = by (stands words (a ∷ b ∷ c ∷ []) option) refl h
  where
    by : (t : Bool) → stands words (a ∷ b ∷ c ∷ []) option ≡ t → cond t (sizes_in a b c) None ≡ Some sizes → SizesGiven words option sizes
    by true e h = record { a = a; b = b; c = c; standing = stands_true words (a ∷ b ∷ c ∷ []) option e; written = h }
    by false e h = absurd cc

sizes_given : (words : List Text) (option number members pairings : Option Text) (sizes : Sizes) → sizes_read words option number members pairings ≡ Some sizes
    → SizesGiven words option sizes
sizes_given words option None members pairings sizes h = absurd cc
sizes_given words option (Some a) None pairings sizes h = absurd cc
sizes_given words option (Some a) (Some b) None sizes h = absurd cc
sizes_given words option (Some a) (Some b) (Some c) sizes h = sizes_tested words option a b c sizes h

make_given : (words : List Text) (number members pairings : Option Text) (command : Command) → make_read words number members pairings ≡ Some command
    → Spells (codes "make" ∷ words) command
make_given words number members pairings command h =
    let m = mapped (λ (s : Sizes). Make s) (sizes_read words None number members pairings) command h in
    let g = sizes_given words None number members pairings m.0 m.1 in
    subst (Spells (codes "make" ∷ words)) m.2
    (subst (λ (w : List Text). Spells (codes "make" ∷ w) (Make m.0)) (sym (no_option (g.a ∷ g.b ∷ g.c ∷ []) None words g.standing refl)) (make g.a g.b g.c m.0 g.written))

trial_given : (words : List Text) (option number members pairings : Option Text) (command : Command) → trial_read words option number members pairings ≡ Some command
    → Spells (codes "trial" ∷ words) command
trial_given words option number members pairings command h =
    option_and_then_some (λ (sizes : Sizes). option_map (λ (n : ℕ). Trial sizes n) (nodes_in option)) (sizes_read words option number members pairings) command h
    (λ sizes e k.
    let m = mapped (λ (n : ℕ). Trial sizes n) (nodes_in option) command k in
    let g = sizes_given words option number members pairings sizes e in
    subst (Spells (codes "trial" ∷ words)) m.2 (trial words g.a g.b g.c option sizes m.0 g.standing g.written m.1))

whatif_given : (words : List Text) (option member : Option Text) (command : Command) → whatif_read words option member ≡ Some command
    → Spells (codes "whatif" ∷ words) command
whatif_given words option member command h =
    option_and_then_some (λ (name : Text). option_map (λ (n : ℕ). WhatIf name n) (nodes_in option)) (one_read words option member) command h
    (λ name e k.
    let m = mapped (λ (n : ℕ). WhatIf name n) (nodes_in option) command k in
    let g = one_given words option member name e in
    subst (Spells (codes "whatif" ∷ words)) m.2 (whatif words name option m.0 g.standing g.plain m.1))

-- the words are a number of vacant lines, with the option where there is one
record LinesGiven (words : List Text) (option : Option Text) (lines : ℕ) : Type 0 where
  number : Text
  standing : Stands (number ∷ []) option words
  written : lines_in number ≡ Some lines

lines_given : (words : List Text) (option argument : Option Text) (lines : ℕ) → lines_read words option argument ≡ Some lines → LinesGiven words option lines
lines_given words option argument lines h =
    option_and_then_some lines_in (one_read words option argument) lines h
    (λ number e k.
    let g = one_given words option argument number e in
    let all : LinesGiven words option lines = record { number = number; standing = g.standing; written = k } in
    all)

open_given : (words : List Text) (option argument : Option Text) (command : Command) → open_read words option argument ≡ Some command
    → Spells (codes "open" ∷ words) command
open_given words option argument command h =
    option_and_then_some (λ (v : ℕ). option_map (λ (n : ℕ). Open v n) (nodes_in option)) (lines_read words option argument) command h
    (λ v e k.
    let m = mapped (λ (n : ℕ). Open v n) (nodes_in option) command k in
    let g = lines_given words option argument v e in
    subst (Spells (codes "open" ∷ words)) m.2 (opening words g.number option v m.0 g.standing g.written m.1))

opencheck_given : (words : List Text) (argument : Option Text) (command : Command) → opencheck_read words argument ≡ Some command
    → Spells (codes "opencheck" ∷ words) command
opencheck_given words argument command h =
    let m = mapped (λ (v : ℕ). OpenCheck v) (lines_read words None argument) command h in
    let g = lines_given words None argument m.0 m.1 in
    subst (Spells (codes "opencheck" ∷ words)) m.2
    (subst (λ (w : List Text). Spells (codes "opencheck" ∷ w) (OpenCheck m.0)) (sym (no_option (g.number ∷ []) None words g.standing refl)) (opencheck g.number m.0 g.written))

pub given_spelt : (word : Text) (rest : List Text) (t : Texts) (command : Command) → named_read word rest t ≡ Some command → Spells (word ∷ rest) command
given_spelt word rest t command h =
    by_word word rest command (alone_in Check rest) (award_read rest t.nodes) (option_map (λ (n : Text). Show n) (name_read rest t.member))
    (make_read rest t.number t.members t.pairings) (trial_read rest t.nodes t.number t.members t.pairings)
    (alone_in Migrate rest) (alone_in Trade rest) (option_map (λ (n : Text). Calendar n) (name_read rest t.member))
    (whatif_read rest t.nodes t.member) (open_read rest t.nodes t.lines) (opencheck_read rest t.lines)
    (alone_spelt (codes "check") Check check rest command) (award_given rest t.nodes command) (show_given rest t.member command)
    (make_given rest t.number t.members t.pairings command) (trial_given rest t.nodes t.number t.members t.pairings command)
    (alone_spelt (codes "migrate") Migrate migrate rest command) (alone_spelt (codes "trade") Trade trade rest command)
    (calendar_given rest t.member command) (whatif_given rest t.nodes t.member command)
    (open_given rest t.nodes t.lines command) (opencheck_given rest t.lines command) h
