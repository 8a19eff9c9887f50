-- The two definitions of commands say the same.
use Rattle.std.proofs.Common.{◌≡◌, ◌∙◌, ◌++◌, ◌^◌, ℕ, Bool, true, false, cond, List, [], ◌∷◌, take, drop, Option, Some, None, Result, Ok, Err, refl, sym, ap, subst, codes, arith, inl, inr}
use Rattle.std.specs.Prelude.{not, ◌==◌, if◌then◌else◌, option_and_then, option_map}
use Rattle.std.proofs.lemmas.Bool.{cases_eq}
use Rattle.std.proofs.lemmas.Bool.Decides.{nat_tests}
use Rattle.std.proofs.lemmas.List.{take-append-drop}
use Rattle.std.proofs.lemmas.Option.{option_and_then_some}
use Rattle.std.proofs.lemmas.Slice.Eq.{bytes_eq-Decides}
use Rattle.std.specs.Str.{bytes_eq}
use Rattle.std.specs.Str.Parse.{digits_value}
use Rattle.field_text.specs.Fields.{field, number, number_field, below, shaped}
use Rattle.field_text.specs.Steps.{or_fault}
use Rattle.field_text.specs.declared.field_fault.FieldFault.TheVariants.{Range}
use Rattle.field_text.specs.Form.{fault_from}
use Rattle.field_text.specs.declared.field_fault.FieldFault.{FieldFault}
use Rattle.field_text.proofs.Numbers.{number-other}
use Rattle.command_words.specs.Numbers.{within, number_in, if_read, long_in, long_field, nodes_in, sizes_in, lines_in}
use Rattle.command_words.specs.Words.{Parts, is_argument, is_joined, apart, behind, option_out, alone_in, name_in, award_in, show_in, make_in, trial_in, calendar_in, whatif_in, lines_of, open_in, opencheck_in, command_in}
use Rattle.command_words.specs.Spelling.{Stands, Spells}
use Rattle.command_words.specs.Spelling.Stands.{alone, two_words, one_word}
use Rattle.command_words.specs.Spelling.Spells.{check, award, show, make, trial, migrate, trade, calendar, whatif, opening, opencheck}
use Rattle.command_words.specs.declared.command.Sizes.{Sizes}
use Rattle.command_words.specs.declared.command.Command.{Command}
use Rattle.command_words.specs.declared.command.Command.TheVariants.{Check, Award, Show, Make, Trial, Migrate, Trade, Calendar, WhatIf, Open, OpenCheck}

-- ---- what a read number tells of its word

pub mapped : {A B : Type 0} (f : A → B) (o : Option A) (y : B) → option_map f o ≡ Some y → (x : A) × (o ≡ Some x) × (f x ≡ y)
mapped f None y h = absurd cc
mapped f (Some x) y h = (x, refl, some_same (f x) y h)
  where
    some_same : {B : Type 0} (a b : B) → Some a ≡ Some b → a ≡ b
    some_same a b h = cc

not_ok : (f : Option ℕ) (value : Result ℕ FieldFault) (n : ℕ) → f ≡ Some 1 → shaped f value ≡ Ok n → ⊥
not_ok None value n e h = cc
not_ok (Some k) value n e h = cc

pub field_argument : (value : List ℕ → Result ℕ FieldFault) (word : List ℕ) (n : ℕ) → field number value word ≡ Ok n → is_argument word ≡ true
field_argument value [] n h = absurd cc
field_argument value (b ∷ bs) n h = elim (cases_eq b 45) [
  | inl same ↦ absurd (not_ok (fault_from 1 number (b ∷ bs)) (value (b ∷ bs)) n (number-other b bs (λ e. omega (arith, same, e)) (λ k. absurd (omega (arith, same, k)))) h)
  | inr other ↦ grind (arith, nat_tests)
]

within_ok : (least most : ℕ) (r : Result ℕ FieldFault) (k : ℕ) → within least most r ≡ Some k → (n : ℕ) × (r ≡ Ok n)
within_ok least most (Ok n) k h = (n, refl)
within_ok least most (Err fault) k h = absurd cc

if_read_ok : (r : Result ℕ FieldFault) (k : ℕ) → if_read r ≡ Some k → (n : ℕ) × (r ≡ Ok n)
if_read_ok (Ok n) k h = (n, refl)
if_read_ok (Err fault) k h = absurd cc

pub number_argument : (least most : ℕ) (word : List ℕ) (k : ℕ) → number_in least most word ≡ Some k → is_argument word ≡ true
number_argument least most word k h = let r = within_ok least most (number_field word) k h in
    field_argument (λ text. or_fault Range (below (2 ^ 32) (digits_value 10 text))) word r.0 r.1

pub long_argument : (word : List ℕ) (k : ℕ) → long_in word ≡ Some k → is_argument word ≡ true
long_argument word k h = let r = if_read_ok (long_field word) k h in
    field_argument (λ text. or_fault Range (below (2 ^ 64) (digits_value 10 text))) word r.0 r.1

pub record ArePlain (a b c : List ℕ) : Type 0 where
  pub first : is_argument a ≡ true
  pub second : is_argument b ≡ true
  pub third : is_argument c ≡ true

pub sizes_plain : (a b c : List ℕ) (sizes : Sizes) → sizes_in a b c ≡ Some sizes → ArePlain a b c
sizes_plain a b c sizes h =
    option_and_then_some (λ (n : ℕ). option_and_then (λ (m : ℕ). option_map (λ (p : ℕ). let s : Sizes = record { number = n; members = m; pairings = p } in s) (number_in 0 600 c)) (number_in 1 200 b)) (long_in a) sizes h
    (λ n en hn. option_and_then_some (λ (m : ℕ). option_map (λ (p : ℕ). let s : Sizes = record { number = n; members = m; pairings = p } in s) (number_in 0 600 c)) (number_in 1 200 b) sizes hn
    (λ m em hm.
    let last = mapped (λ (p : ℕ). let s : Sizes = record { number = n; members = m; pairings = p } in s) (number_in 0 600 c) sizes hm in
    let plain : ArePlain a b c = record { first = long_argument a n en; second = number_argument 1 200 b m em; third = number_argument 0 600 c last.0 last.1 } in
    plain))

-- ---- the option taken out of arguments

abbrev pub AllPlain : List (List ℕ) → Type 0
AllPlain [] = Unit {0}
AllPlain (w ∷ ws) = (is_argument w ≡ true) × AllPlain ws

abbrev parts : List (List ℕ) → Option (List ℕ) → Parts
parts arguments nodes = record { arguments = arguments; nodes = nodes }

no_dash : (b : ℕ) → not (b == 45) ≡ true → (b == 45) ≡ false
no_dash b h = grind (arith, nat_tests)

skipped : (w : List ℕ) (ws : List (List ℕ)) → is_argument w ≡ true → option_out (w ∷ ws) ≡ behind w (option_out ws)
skipped [] ws h = absurd cc
skipped (b ∷ bs) ws h = rw (no_dash b h) refl

plain_out : (ws : List (List ℕ)) → AllPlain ws → option_out ws ≡ parts ws None
plain_out [] h = refl
plain_out (w ∷ ws) h = skipped w ws h.0 ∙ ap (behind w) (plain_out ws h.1)

two_out : (before after : List (List ℕ)) (n : List ℕ) → AllPlain (before ++ after)
    → option_out (before ++ (codes "--nodes" ∷ n ∷ after)) ≡ parts (before ++ after) (Some n)
two_out [] after n h = refl
two_out (w ∷ ws) after n h = skipped w (ws ++ (codes "--nodes" ∷ n ∷ after)) h.0 ∙ ap (behind w) (two_out ws after n h.1)

one_out : (before after : List (List ℕ)) (n : List ℕ) → AllPlain (before ++ after)
    → option_out (before ++ ((codes "--nodes=" ++ n) ∷ after)) ≡ parts (before ++ after) (Some n)
one_out [] after n h = refl
one_out (w ∷ ws) after n h = skipped w (ws ++ ((codes "--nodes=" ++ n) ∷ after)) h.0 ∙ ap (behind w) (one_out ws after n h.1)

pub stands_out : (arguments : List (List ℕ)) (option : Option (List ℕ)) (words : List (List ℕ)) → AllPlain arguments
    → Stands arguments option words → option_out words ≡ parts arguments option
stands_out arguments option words h (alone none same) =
    ap option_out same ∙ plain_out arguments h ∙ ap (λ (o : Option (List ℕ)). parts arguments o) (sym none)
stands_out arguments option words h (two_words before after n all some same) =
    ap option_out same ∙ two_out before after n (subst AllPlain all h)
    ∙ ap (λ (a : List (List ℕ)). parts a (Some n)) (sym all) ∙ ap (λ (o : Option (List ℕ)). parts arguments o) (sym some)
stands_out arguments option words h (one_word before after n all some same) =
    ap option_out same ∙ one_out before after n (subst AllPlain all h)
    ∙ ap (λ (a : List (List ℕ)). parts a (Some n)) (sym all) ∙ ap (λ (o : Option (List ℕ)). parts arguments o) (sym some)

-- ---- and put back

pub moved : (w : List ℕ) (arguments : List (List ℕ)) (option : Option (List ℕ)) (words : List (List ℕ))
    → Stands arguments option words → Stands (w ∷ arguments) option (w ∷ words)
moved w arguments option words (alone none same) = alone none (ap (λ (l : List (List ℕ)). w ∷ l) same)
moved w arguments option words (two_words before after n all some same) =
    two_words (w ∷ before) after n (ap (λ (l : List (List ℕ)). w ∷ l) all) some (ap (λ (l : List (List ℕ)). w ∷ l) same)
moved w arguments option words (one_word before after n all some same) =
    one_word (w ∷ before) after n (ap (λ (l : List (List ℕ)). w ∷ l) all) some (ap (λ (l : List (List ℕ)). w ∷ l) same)

apart_stands : (w : List ℕ) (ws : List (List ℕ)) → w ≡ codes "--nodes" → Stands (apart w ws).arguments (apart w ws).nodes (w ∷ ws)
apart_stands w [] e = alone refl refl
apart_stands w (n ∷ ws) e = two_words [] ws n refl refl (ap (λ (x : List ℕ). x ∷ n ∷ ws) e)

joined_is : (w : List ℕ) → is_joined w ≡ true → w ≡ codes "--nodes=" ++ drop 8 w
joined_is w h = sym (take-append-drop 8 w) ∙ ap (λ (x : List ℕ). x ++ drop 8 w) ((bytes_eq-Decides (take 8 w) (codes "--nodes=")).0 h)

pub out_stands : (words : List (List ℕ)) → Stands (option_out words).arguments (option_out words).nodes words
out_stands [] = alone refl refl
out_stands (w ∷ ws) = by (is_joined w) (bytes_eq w (codes "--nodes")) refl refl (out_stands ws)
  where
    by : (t u : Bool) → is_joined w ≡ t → bytes_eq w (codes "--nodes") ≡ u → Stands (option_out ws).arguments (option_out ws).nodes ws
        → Stands (cond t (parts ws (Some (drop 8 w))) (cond u (apart w ws) (behind w (option_out ws)))).arguments
        (cond t (parts ws (Some (drop 8 w))) (cond u (apart w ws) (behind w (option_out ws)))).nodes (w ∷ ws)
    by true u e f later = one_word [] ws (drop 8 w) refl refl (ap (λ (x : List ℕ). x ∷ ws) (joined_is w e))
    by false true e f later = apart_stands w ws ((bytes_eq-Decides w (codes "--nodes")).0 f)
    by false false e f later = moved w (option_out ws).arguments (option_out ws).nodes ws later

-- ---- a command that is spelt is read

pub spelt_read : (words : List (List ℕ)) (command : Command) → Spells words command → command_in words ≡ Some command
spelt_read _ _ check = refl
spelt_read _ _ (award rest option nodes stands allowed) =
    ap (λ (p : Parts). award_in p.arguments p.nodes) (stands_out [] option rest tt stands) ∙ ap (option_map (λ (n : ℕ). Award n)) allowed
spelt_read _ _ (show name plain) = rw plain refl
spelt_read _ _ (make a b c sizes written) = ap (option_map (λ (s : Sizes). Make s)) written
spelt_read _ _ (trial rest a b c option sizes nodes stands written allowed) =
    let plain = sizes_plain a b c sizes written in
    ap (λ (p : Parts). trial_in p.arguments p.nodes) (stands_out (a ∷ b ∷ c ∷ []) option rest (plain.first, (plain.second, (plain.third, tt))) stands)
    ∙ rw (written, allowed) refl
spelt_read _ _ migrate = refl
spelt_read _ _ trade = refl
spelt_read _ _ (calendar name plain) = rw plain refl
spelt_read _ _ (whatif rest name option nodes stands plain allowed) =
    ap (λ (p : Parts). whatif_in p.arguments p.nodes) (stands_out (name ∷ []) option rest (plain, tt) stands) ∙ rw (plain, allowed) refl
spelt_read _ _ (opening rest digits option lines nodes stands written allowed) =
    let plain = number_argument 0 50 digits lines written in
    ap (λ (p : Parts). open_in p.arguments p.nodes) (stands_out (digits ∷ []) option rest (plain, tt) stands)
    ∙ ap (option_and_then (λ (v : ℕ). option_map (λ (n : ℕ). Open v n) (nodes_in option))) written
    ∙ ap (option_map (λ (n : ℕ). Open lines n)) allowed
spelt_read _ _ (opencheck digits lines written) = ap (option_map (λ (v : ℕ). OpenCheck v)) written

-- ---- a command that is read is spelt

some_is : (a b : Command) → Some a ≡ Some b → a ≡ b
some_is a b h = cc

pub alone_spelt : (word : List ℕ) (named : Command) → Spells (word ∷ []) named → (rest : List (List ℕ)) (command : Command) → alone_in named rest ≡ Some command
    → Spells (word ∷ rest) command
alone_spelt word named spelt [] command h = subst (Spells (word ∷ [])) (some_is named command h) spelt
alone_spelt word named spelt (w ∷ ws) command h = absurd cc

award_spelt : (arguments : List (List ℕ)) (option : Option (List ℕ)) (rest : List (List ℕ)) (command : Command) → Stands arguments option rest
    → award_in arguments option ≡ Some command → Spells (codes "award" ∷ rest) command
award_spelt [] option rest command s h =
    let m = mapped (λ (n : ℕ). Award n) (nodes_in option) command h in
    subst (Spells (codes "award" ∷ rest)) m.2 (award rest option m.0 s m.1)
award_spelt (w ∷ ws) option rest command s h = absurd cc

some_word : (a b : List ℕ) → Some a ≡ Some b → a ≡ b
some_word a b h = cc

-- the one word behind the first is a name
pub name_alone : (rest : List (List ℕ)) (name : List ℕ) → name_in rest ≡ Some name → (rest ≡ name ∷ []) × (is_argument name ≡ true)
name_alone [] name h = absurd cc
name_alone (text ∷ []) name h = by (is_argument text) refl h
  where
    by : (t : Bool) → is_argument text ≡ t → cond t (Some text) None ≡ Some name → (text ∷ [] ≡ name ∷ []) × (is_argument name ≡ true)
    by true e h = let same = some_word text name h in (ap (λ (x : List ℕ). x ∷ []) same, ap is_argument (sym same) ∙ e)
    by false e h = absurd cc
name_alone (text ∷ (w ∷ ws)) name h = absurd cc

pub show_spelt : (rest : List (List ℕ)) (command : Command) → show_in rest ≡ Some command → Spells (codes "show" ∷ rest) command
show_spelt rest command h =
    let m = mapped (λ (n : List ℕ). Show n) (name_in rest) command h in
    let p = name_alone rest m.0 m.1 in
    subst (Spells (codes "show" ∷ rest)) m.2 (subst (λ (w : List (List ℕ)). Spells (codes "show" ∷ w) (Show m.0)) (sym p.0) (show m.0 p.1))

pub calendar_spelt : (rest : List (List ℕ)) (command : Command) → calendar_in rest ≡ Some command → Spells (codes "calendar" ∷ rest) command
calendar_spelt rest command h =
    let m = mapped (λ (n : List ℕ). Calendar n) (name_in rest) command h in
    let p = name_alone rest m.0 m.1 in
    subst (Spells (codes "calendar" ∷ rest)) m.2 (subst (λ (w : List (List ℕ)). Spells (codes "calendar" ∷ w) (Calendar m.0)) (sym p.0) (calendar m.0 p.1))

make_spelt : (rest : List (List ℕ)) (command : Command) → make_in rest ≡ Some command → Spells (codes "make" ∷ rest) command
make_spelt [] command h = absurd cc
make_spelt (a ∷ []) command h = absurd cc
make_spelt (a ∷ (b ∷ [])) command h = absurd cc
make_spelt (a ∷ (b ∷ (c ∷ []))) command h =
    let m = mapped (λ (s : Sizes). Make s) (sizes_in a b c) command h in
    subst (Spells (codes "make" ∷ a ∷ b ∷ c ∷ [])) m.2 (make a b c m.0 m.1)
make_spelt (a ∷ (b ∷ (c ∷ (w ∷ ws)))) command h = absurd cc

pub trial_spelt : (arguments : List (List ℕ)) (option : Option (List ℕ)) (rest : List (List ℕ)) (command : Command) → Stands arguments option rest
    → trial_in arguments option ≡ Some command → Spells (codes "trial" ∷ rest) command
trial_spelt [] option rest command s h = absurd cc
trial_spelt (a ∷ []) option rest command s h = absurd cc
trial_spelt (a ∷ (b ∷ [])) option rest command s h = absurd cc
trial_spelt (a ∷ (b ∷ (c ∷ []))) option rest command s h =
    option_and_then_some (λ (sizes : Sizes). option_map (λ (n : ℕ). Trial sizes n) (nodes_in option)) (sizes_in a b c) command h
    (λ sizes e k. let m = mapped (λ (n : ℕ). Trial sizes n) (nodes_in option) command k in
    subst (Spells (codes "trial" ∷ rest)) m.2 (trial rest a b c option sizes m.0 s e m.1))
trial_spelt (a ∷ (b ∷ (c ∷ (w ∷ ws)))) option rest command s h = absurd cc

pub whatif_spelt : (arguments : List (List ℕ)) (option : Option (List ℕ)) (rest : List (List ℕ)) (command : Command) → Stands arguments option rest
    → whatif_in arguments option ≡ Some command → Spells (codes "whatif" ∷ rest) command
whatif_spelt arguments option rest command s h =
    option_and_then_some (λ (name : List ℕ). option_map (λ (n : ℕ). WhatIf name n) (nodes_in option)) (name_in arguments) command h
    (λ name e k.
    let m = mapped (λ (n : ℕ). WhatIf name n) (nodes_in option) command k in
    let p = name_alone arguments name e in
    subst (Spells (codes "whatif" ∷ rest)) m.2 (whatif rest name option m.0 (subst (λ (a : List (List ℕ)). Stands a option rest) p.0 s) p.1 m.1))

-- the one word behind the first is a number of vacant lines
lines_alone : (rest : List (List ℕ)) (lines : ℕ) → lines_of rest ≡ Some lines → (digits : List ℕ) × (rest ≡ digits ∷ []) × (lines_in digits ≡ Some lines)
lines_alone [] lines h = absurd cc
lines_alone (digits ∷ []) lines h = (digits, refl, h)
lines_alone (digits ∷ (w ∷ ws)) lines h = absurd cc

pub open_spelt : (arguments : List (List ℕ)) (option : Option (List ℕ)) (rest : List (List ℕ)) (command : Command) → Stands arguments option rest
    → open_in arguments option ≡ Some command → Spells (codes "open" ∷ rest) command
open_spelt arguments option rest command s h =
    option_and_then_some (λ (lines : ℕ). option_map (λ (n : ℕ). Open lines n) (nodes_in option)) (lines_of arguments) command h
    (λ lines e k.
    let m = mapped (λ (n : ℕ). Open lines n) (nodes_in option) command k in
    let p = lines_alone arguments lines e in
    subst (Spells (codes "open" ∷ rest)) m.2 (opening rest p.0 option lines m.0 (subst (λ (a : List (List ℕ)). Stands a option rest) p.1 s) p.2 m.1))

pub opencheck_spelt : (rest : List (List ℕ)) (command : Command) → opencheck_in rest ≡ Some command → Spells (codes "opencheck" ∷ rest) command
opencheck_spelt rest command h =
    let m = mapped (λ (v : ℕ). OpenCheck v) (lines_of rest) command h in
    let p = lines_alone rest m.0 m.1 in
    subst (Spells (codes "opencheck" ∷ rest)) m.2
    (subst (λ (w : List (List ℕ)). Spells (codes "opencheck" ∷ w) (OpenCheck m.0)) (sym p.1) (opencheck p.0 m.0 p.2))

is_word : (word text : List ℕ) → bytes_eq word text ≡ true → text ≡ word
is_word word text h = sym ((bytes_eq-Decides word text).0 h)

renamed : (text word : List ℕ) (rest : List (List ℕ)) (command : Command) → bytes_eq word text ≡ true → Spells (text ∷ rest) command → Spells (word ∷ rest) command
renamed text word rest command e s = subst (λ (w : List ℕ). Spells (w ∷ rest) command) (is_word word text e) s

-- by the first word: where it is this text, by the reading of this command
by_text : (text word : List ℕ) (rest : List (List ℕ)) (command : Command) (here later : Option Command)
    → (here ≡ Some command → Spells (text ∷ rest) command) → (later ≡ Some command → Spells (word ∷ rest) command)
    → (if bytes_eq word text then here else later) ≡ Some command → Spells (word ∷ rest) command
by_text text word rest command here later f g = go (bytes_eq word text) refl
  where
    go : (t : Bool) → bytes_eq word text ≡ t → cond t here later ≡ Some command → Spells (word ∷ rest) command
    go true e h = renamed text word rest command e (f h)
    go false e h = g h

-- each of the readings has its spelling
pub by_word : (word : List ℕ) (rest : List (List ℕ)) (command : Command) (c a s m t g d k w o q : Option Command)
    → (c ≡ Some command → Spells (codes "check" ∷ rest) command) → (a ≡ Some command → Spells (codes "award" ∷ rest) command)
    → (s ≡ Some command → Spells (codes "show" ∷ rest) command) → (m ≡ Some command → Spells (codes "make" ∷ rest) command)
    → (t ≡ Some command → Spells (codes "trial" ∷ rest) command) → (g ≡ Some command → Spells (codes "migrate" ∷ rest) command)
    → (d ≡ Some command → Spells (codes "trade" ∷ rest) command) → (k ≡ Some command → Spells (codes "calendar" ∷ rest) command)
    → (w ≡ Some command → Spells (codes "whatif" ∷ rest) command) → (o ≡ Some command → Spells (codes "open" ∷ rest) command)
    → (q ≡ Some command → Spells (codes "opencheck" ∷ rest) command)
    → (if bytes_eq word (codes "check") then c else (if bytes_eq word (codes "award") then a
    else (if bytes_eq word (codes "show") then s else (if bytes_eq word (codes "make") then m
    else (if bytes_eq word (codes "trial") then t else (if bytes_eq word (codes "migrate") then g
    else (if bytes_eq word (codes "trade") then d else (if bytes_eq word (codes "calendar") then k
    else (if bytes_eq word (codes "whatif") then w else (if bytes_eq word (codes "open") then o
    else (if bytes_eq word (codes "opencheck") then q else None))))))))))) ≡ Some command
    → Spells (word ∷ rest) command
by_word word rest command c a s m t g d k w o q fc fa fs fm ft fg fd fk fw fo fq =
    by_text (codes "check") word rest command c _ fc (by_text (codes "award") word rest command a _ fa
    (by_text (codes "show") word rest command s _ fs (by_text (codes "make") word rest command m _ fm
    (by_text (codes "trial") word rest command t _ ft (by_text (codes "migrate") word rest command g _ fg
    (by_text (codes "trade") word rest command d _ fd (by_text (codes "calendar") word rest command k _ fk
    (by_text (codes "whatif") word rest command w _ fw (by_text (codes "open") word rest command o _ fo
    (by_text (codes "opencheck") word rest command q None fq (λ h. absurd cc)))))))))))

pub read_spelt : (words : List (List ℕ)) (command : Command) → command_in words ≡ Some command → Spells words command
read_spelt [] command h = absurd cc
read_spelt (word ∷ rest) command h =
    let arguments = (option_out rest).arguments in
    let option = (option_out rest).nodes in
    by_word word rest command (alone_in Check rest) (award_in arguments option) (show_in rest) (make_in rest)
    (trial_in arguments option) (alone_in Migrate rest) (alone_in Trade rest) (calendar_in rest)
    (whatif_in arguments option) (open_in arguments option) (opencheck_in rest)
    (alone_spelt (codes "check") Check check rest command) (award_spelt arguments option rest command (out_stands rest))
    (show_spelt rest command) (make_spelt rest command) (trial_spelt arguments option rest command (out_stands rest))
    (alone_spelt (codes "migrate") Migrate migrate rest command) (alone_spelt (codes "trade") Trade trade rest command) (calendar_spelt rest command)
    (whatif_spelt arguments option rest command (out_stands rest)) (open_spelt arguments option rest command (out_stands rest))
    (opencheck_spelt rest command) h
