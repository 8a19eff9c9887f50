-- What the parts of the reader answer, step by step. No public contract cites this.
use Rattle.std.specs.Prelude.{ℕ, Bool, true, false, ◌&&◌, ◌||◌, List, [], ◌∷◌, take, drop, codes, Option, Some, None, if◌then◌else◌, option_and_then, option_map}
use Rattle.std.specs.Str.{bytes_eq}
use Rattle.clap.specs.Words.{App, Row, Rule, Text, first_of, new_app, new_rule, with_rule, with_subcommand, subcommand_of}
use Rattle.command_words.specs.Numbers.{nodes_in, sizes_in, lines_in}
use Rattle.command_words.specs.Words.{is_argument, alone_in}
use Rattle.command_words.specs.declared.command.Sizes.{Sizes}
use Rattle.command_words.specs.declared.command.Command.{Command}
use Rattle.command_words.specs.declared.command.Command.TheVariants.{Check, Award, Show, Make, Trial, Migrate, Trade, Calendar, WhatIf, Open, OpenCheck}

-- ---- what clap is told

abbrev pub nodes_rule : Rule
nodes_rule = record (new_rule (codes "nodes")) { long = Some (codes "nodes") }

abbrev pub needed_rule : Text → Rule
needed_rule id = record (new_rule id) { required = true }

abbrev pub one_app : Text → Text → App
one_app name id = with_rule (new_app name) (needed_rule id)

abbrev pub sized_app : Text → App
sized_app name = with_rule (with_rule (with_rule (new_app name) (needed_rule (codes "number")))
    (needed_rule (codes "members"))) (needed_rule (codes "pairings"))

-- the commands for a month that is there, these and those for a made one, these and those for an award that stands, and
-- all of them
abbrev pub month_commands : App
month_commands = with_subcommand (with_subcommand (with_subcommand (new_app (codes "pbs"))
    (new_app (codes "check")).top)
    (with_rule (new_app (codes "award")) nodes_rule).top)
    (with_rule (new_app (codes "show")) (needed_rule (codes "member"))).top

abbrev pub made_commands : App
made_commands = with_subcommand (with_subcommand month_commands (sized_app (codes "make")).top)
    (with_rule (sized_app (codes "trial")) nodes_rule).top

abbrev pub desk_commands : App
desk_commands = with_subcommand (with_subcommand (with_subcommand made_commands
    (new_app (codes "migrate")).top)
    (new_app (codes "trade")).top)
    (with_rule (new_app (codes "calendar")) (needed_rule (codes "member"))).top

abbrev pub commands : App
commands = with_subcommand (with_subcommand (with_subcommand desk_commands
    (with_rule (one_app (codes "whatif") (codes "member")) nodes_rule).top)
    (with_rule (one_app (codes "open") (codes "lines")) nodes_rule).top)
    (one_app (codes "opencheck") (codes "lines")).top

-- ---- the test of words against what was read

abbrev pub same_words : List Text → List Text → Bool
same_words [] [] = true
same_words [] (a ∷ as') = false
same_words (w ∷ ws) [] = false
same_words (w ∷ ws) (a ∷ as') = bytes_eq w a && same_words ws as'

abbrev pub joins : Text → Text → Bool
joins word nodes = bytes_eq (take 8 word) (codes "--nodes=") && bytes_eq (drop 8 word) nodes

abbrev pub begins_apart : List Text → Text → List Text → Bool
begins_apart [] nodes arguments = false
begins_apart (n ∷ after) nodes arguments = bytes_eq n nodes && same_words after arguments

abbrev pub begins : List Text → Text → List Text → Bool
begins [] nodes arguments = false
begins (option ∷ after) nodes arguments =
    if joins option nodes then same_words after arguments
    else (bytes_eq option (codes "--nodes") && begins_apart after nodes arguments)

abbrev pub heads : Text → List Text → Bool
heads a [] = false
heads a (w ∷ ws) = bytes_eq w a

abbrev pub has_option : List Text → Text → List Text → Bool
has_option words nodes [] = begins words nodes []
has_option words nodes (a ∷ as') =
    begins words nodes (a ∷ as') || (heads a words && has_option (drop 1 words) nodes as')

abbrev pub stands : List Text → List Text → Option Text → Bool
stands words arguments None = same_words words arguments
stands words arguments (Some nodes) = has_option words nodes arguments

-- ---- the commands by the texts that clap found

abbrev pub award_read : List Text → Option Text → Option Command
award_read words option =
    if stands words [] option then option_map (λ n. Award n) (nodes_in option) else None

-- the one argument, with an option among the words where there is one
abbrev pub one_read : List Text → Option Text → Option Text → Option Text
one_read words option argument = option_and_then (λ word.
    if is_argument word && stands words (word ∷ []) option then Some word else None) argument

abbrev pub name_read : List Text → Option Text → Option Text
name_read words member = one_read words None member

abbrev pub sizes_read : List Text → Option Text → Option Text → Option Text → Option Text → Option Sizes
sizes_read words option number members pairings = option_and_then (λ a. option_and_then (λ b. option_and_then (λ c.
    if stands words (a ∷ b ∷ c ∷ []) option then sizes_in a b c else None) pairings) members) number

abbrev pub make_read : List Text → Option Text → Option Text → Option Text → Option Command
make_read words number members pairings =
    option_map (λ sizes. Make sizes) (sizes_read words None number members pairings)

abbrev pub trial_read : List Text → Option Text → Option Text → Option Text → Option Text → Option Command
trial_read words option number members pairings = option_and_then (λ sizes. option_map (λ n. Trial sizes n)
    (nodes_in option)) (sizes_read words option number members pairings)

abbrev pub whatif_read : List Text → Option Text → Option Text → Option Command
whatif_read words option member = option_and_then (λ name. option_map (λ n. WhatIf name n) (nodes_in option))
    (one_read words option member)

abbrev pub lines_read : List Text → Option Text → Option Text → Option ℕ
lines_read words option lines = option_and_then lines_in (one_read words option lines)

abbrev pub open_read : List Text → Option Text → Option Text → Option Command
open_read words option lines =
    option_and_then (λ v. option_map (λ n. Open v n) (nodes_in option)) (lines_read words option lines)

abbrev pub opencheck_read : List Text → Option Text → Option Command
opencheck_read words lines = option_map (λ v. OpenCheck v) (lines_read words None lines)

-- what clap found of each argument
pub record Texts : Type 0 where
  pub nodes : Option Text
  pub member : Option Text
  pub number : Option Text
  pub members : Option Text
  pub pairings : Option Text
  pub lines : Option Text

abbrev pub texts_in : List Row → Texts
texts_in rows = record {
  nodes = first_of (codes "nodes") rows;
  member = first_of (codes "member") rows;
  number = first_of (codes "number") rows;
  members = first_of (codes "members") rows;
  pairings = first_of (codes "pairings") rows;
  lines = first_of (codes "lines") rows;
}

abbrev pub named_read : Text → List Text → Texts → Option Command
named_read word rest t =
    if bytes_eq word (codes "check") then alone_in Check rest
    else (if bytes_eq word (codes "award") then award_read rest t.nodes
    else (if bytes_eq word (codes "show") then option_map (λ n. Show n) (name_read rest t.member)
    else (if bytes_eq word (codes "make") then make_read rest t.number t.members t.pairings
    else (if bytes_eq word (codes "trial") then trial_read rest t.nodes t.number t.members t.pairings
    else (if bytes_eq word (codes "migrate") then alone_in Migrate rest
    else (if bytes_eq word (codes "trade") then alone_in Trade rest
    else (if bytes_eq word (codes "calendar") then option_map (λ n. Calendar n) (name_read rest t.member)
    else (if bytes_eq word (codes "whatif") then whatif_read rest t.nodes t.member
    else (if bytes_eq word (codes "open") then open_read rest t.nodes t.lines
    else (if bytes_eq word (codes "opencheck") then opencheck_read rest t.lines
    else None))))))))))

-- the texts that clap reads of the words behind the program's name, where it goes to a command
abbrev pub texts_of : List Text → Option Texts
texts_of words = option_map (λ p. texts_in p.1) (subcommand_of commands (codes "pbs" ∷ words))
