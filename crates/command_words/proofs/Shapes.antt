-- What clap was told, one argument and one command at a time.
use Rattle.std.proofs.Common.{List, Some, None, ◌≡◌, ◌∙◌, ◌&&◌, Bool, true, false, refl, ap, ap₂}
use Rattle.std.specs.Prelude.{not, Result, Ok, Err, IfOk, IsOkAnd}
use Rattle.clap.specs.declared.builder.arg.Arg.{Arg}
use Rattle.clap.specs.declared.builder.command.Command.{Command as Grammar}
use Rattle.clap.specs.declared.parser.matches.ArgMatches.{ArgMatches}
use Rattle.clap.specs.Words.{AddsArg, AddsSubcommand, App, HasMatchesOf, Rule, Text, app_of, is_simple, subcommand_of, subcommand_rows_of, takes, new_app, rule_of, with_rule, with_subcommand}
use Rattle.clap.proofs.OnLiterals.{clap_on_literals}
use Rattle.command_words.specs.Reading.{commands}

pub told_rule : (a : App) (r : Rule) (old new : Grammar) (arg : Arg) → app_of old ≡ a → AddsArg old arg new → rule_of arg ≡ r
    → arg.global ≡ false → app_of new ≡ with_rule a r
told_rule a r old new arg e adds rule here = adds.shape here ∙ ap₂ with_rule e rule

third_is : (a b c rest : Bool) → (a && (not b && (not c && rest))) ≡ true → c ≡ false
third_is true false false rest h = refl
third_is true false true rest h = absurd cc
third_is true true c rest h = absurd cc
third_is false b c rest h = absurd cc

pub told_command : (a s : App) (old sub new : Grammar) → app_of old ≡ a → app_of sub ≡ s → s.top.is_plain ≡ true → AddsSubcommand old sub new
    → app_of new ≡ with_subcommand a s.top
told_command a s old sub new e f plain adds =
    adds.shape (third_is _ _ _ _ (ap (λ (x : App). x.top.is_plain) f ∙ plain)) ∙ ap₂ with_subcommand e (ap (λ (x : App). x.top) f)

pub commands_simple : is_simple commands ≡ true
unfolding clap_on_literals
commands_simple = refl

pub told_more : {E : Type 0} (a s : App) (old new : Grammar) (sub : Result Grammar E) → app_of old ≡ a → IfOk sub (λ c. app_of c ≡ s)
    → s.top.is_plain ≡ true → IsOkAnd sub (λ c. AddsSubcommand old c new) → app_of new ≡ with_subcommand a s.top
told_more a s old new (Ok c) e f plain adds = told_command a s old c new e f plain adds
told_more a s old new (Err fault) e f plain adds = absurd adds

pub told_one : {E : Type 0} (n name : Text) (given r : Rule) (told : Result Grammar E) → n ≡ name → given ≡ r
    → IfOk told (λ c. app_of c ≡ with_rule (new_app n) given) → IfOk told (λ c. app_of c ≡ with_rule (new_app name) r)
told_one n name given r (Ok c) e f h = h ∙ ap₂ with_rule (ap new_app e) f
told_one n name given r (Err fault) e f h = tt

pub parsed_rows : (a : App) (words : List Text) (m : ArgMatches) → a ≡ commands → HasMatchesOf a words m → subcommand_rows_of m ≡ subcommand_of commands words
parsed_rows a words m e h = (h (ap is_simple e ∙ commands_simple)).1 ∙ ap (λ (x : App). subcommand_of x words) e

pub refused_words : {K : Type 0} (a : App) (words : List Text) (kind memory : K) → a ≡ commands → (takes a words ≡ true → kind ≡ memory) → (kind ≡ memory → ⊥)
    → takes commands words ≡ true → ⊥
refused_words a words kind memory e h other t = other (h (ap (λ (x : App). takes x words) e ∙ t))

pub some_none : {A : Type 0} (x : A) → Some x ≡ None → ⊥
some_none x h = cc
