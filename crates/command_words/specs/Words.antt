-- The command that words are, as a function.
use Rattle.std.specs.Prelude.{ℕ, ◌≤◌, Bool, false, not, ◌==◌, List, [], ◌∷◌, take, drop, codes, Option, Some, None, if◌then◌else◌}
use Rattle.std.specs.Option.{option_map}
use Rattle.std.specs.Prelude.{option_and_then}
use Rattle.std.specs.Str.{bytes_eq}
use Rattle.command_words.specs.Numbers.{nodes_in, sizes_in, lines_in, AreNodes, AreSizes}
use Rattle.command_words.specs.declared.command.Sizes.{Sizes}
use Rattle.command_words.specs.declared.command.Command.{Command}
use Rattle.command_words.specs.declared.command.Command.TheVariants.{Check, Award, Show, Make, Trial, Migrate, Trade, Calendar, WhatIf, Open, OpenCheck}

-- a word that may stand for a name: it is not empty, and no dash begins it
abbrev pub is_argument : List ℕ → Bool
is_argument [] = false
is_argument (b ∷ bs) = not (b == 45)

-- what stands behind the first word of a command: the arguments, and N where an option stands among them
pub record Parts : Type 0 where
  pub arguments : List (List ℕ)
  pub nodes : Option (List ℕ)

abbrev pub is_joined : List ℕ → Bool
is_joined word = bytes_eq (take 8 word) (codes "--nodes=")

-- N is the word behind `--nodes`
abbrev pub apart : List ℕ → List (List ℕ) → Parts
apart option [] = record { arguments = option ∷ []; nodes = None }
apart option (n ∷ rest) = record { arguments = rest; nodes = Some n }

abbrev pub behind : List ℕ → Parts → Parts
behind word parts = record parts { arguments = word ∷ parts.arguments }

-- the first option taken out: a second one stays among the arguments
abbrev pub option_out : List (List ℕ) → Parts
option_out [] = record { arguments = []; nodes = None }
option_out (word ∷ rest) =
    if is_joined word then record { arguments = rest; nodes = Some (drop 8 word) }
    else (if bytes_eq word (codes "--nodes") then apart word rest else behind word (option_out rest))

-- a command that no words stand behind
abbrev pub alone_in : Command → List (List ℕ) → Option Command
alone_in command [] = Some command
alone_in command (word ∷ rest) = None

abbrev pub award_in : List (List ℕ) → Option (List ℕ) → Option Command
award_in [] nodes = option_map (λ n. Award n) (nodes_in nodes)
award_in (word ∷ rest) nodes = None

-- a name, and nothing behind it
abbrev pub name_in : List (List ℕ) → Option (List ℕ)
name_in [] = None
name_in (name ∷ []) = if is_argument name then Some name else None
name_in (name ∷ (word ∷ rest)) = None

abbrev pub show_in : List (List ℕ) → Option Command
show_in arguments = option_map (λ name. Show name) (name_in arguments)

abbrev pub calendar_in : List (List ℕ) → Option Command
calendar_in arguments = option_map (λ name. Calendar name) (name_in arguments)

abbrev pub sizes_of : List (List ℕ) → Option Sizes
sizes_of [] = None
sizes_of (number ∷ []) = None
sizes_of (number ∷ (members ∷ [])) = None
sizes_of (number ∷ (members ∷ (pairings ∷ []))) = sizes_in number members pairings
sizes_of (number ∷ (members ∷ (pairings ∷ (word ∷ rest)))) = None

abbrev pub make_in : List (List ℕ) → Option Command
make_in arguments = option_map (λ sizes. Make sizes) (sizes_of arguments)

abbrev pub trial_in : List (List ℕ) → Option (List ℕ) → Option Command
trial_in arguments nodes =
    option_and_then (λ sizes. option_map (λ n. Trial sizes n) (nodes_in nodes)) (sizes_of arguments)

abbrev pub whatif_in : List (List ℕ) → Option (List ℕ) → Option Command
whatif_in arguments nodes =
    option_and_then (λ name. option_map (λ n. WhatIf name n) (nodes_in nodes)) (name_in arguments)

-- a number of vacant lines, and nothing behind it
abbrev pub lines_of : List (List ℕ) → Option ℕ
lines_of [] = None
lines_of (number ∷ []) = lines_in number
lines_of (number ∷ (word ∷ rest)) = None

abbrev pub open_in : List (List ℕ) → Option (List ℕ) → Option Command
open_in arguments nodes =
    option_and_then (λ lines. option_map (λ n. Open lines n) (nodes_in nodes)) (lines_of arguments)

abbrev pub opencheck_in : List (List ℕ) → Option Command
opencheck_in arguments = option_map (λ lines. OpenCheck lines) (lines_of arguments)

abbrev pub named : List ℕ → List (List ℕ) → Option Command
named word rest =
    if bytes_eq word (codes "check") then alone_in Check rest
    else (if bytes_eq word (codes "award") then award_in (option_out rest).arguments (option_out rest).nodes
    else (if bytes_eq word (codes "show") then show_in rest
    else (if bytes_eq word (codes "make") then make_in rest
    else (if bytes_eq word (codes "trial") then trial_in (option_out rest).arguments (option_out rest).nodes
    else (if bytes_eq word (codes "migrate") then alone_in Migrate rest
    else (if bytes_eq word (codes "trade") then alone_in Trade rest
    else (if bytes_eq word (codes "calendar") then calendar_in rest
    else (if bytes_eq word (codes "whatif") then whatif_in (option_out rest).arguments (option_out rest).nodes
    else (if bytes_eq word (codes "open") then open_in (option_out rest).arguments (option_out rest).nodes
    else (if bytes_eq word (codes "opencheck") then opencheck_in rest
    else None))))))))))

-- the command that these words are, if they are one
abbrev pub command_in : List (List ℕ) → Option Command
command_in [] = None
command_in (word ∷ rest) = named word rest

-- the command's numbers lie within their limits
abbrev pub HasLimits : Command → Type 0
HasLimits Check = Unit {0}
HasLimits (Award nodes) = AreNodes nodes
HasLimits (Show name) = Unit {0}
HasLimits (Make sizes) = AreSizes sizes
HasLimits (Trial sizes nodes) = AreSizes sizes × AreNodes nodes
HasLimits Migrate = Unit {0}
HasLimits Trade = Unit {0}
HasLimits (Calendar name) = Unit {0}
HasLimits (WhatIf name nodes) = AreNodes nodes
HasLimits (Open lines nodes) = (lines ≤ 50) × AreNodes nodes
HasLimits (OpenCheck lines) = lines ≤ 50
