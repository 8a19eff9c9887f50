use Rattle.std.proofs.Common.{rules, map, List, ℕ, Bor}
use Rattle.clap.specs.Words.{app_of, kind_of}
use Rattle.command_words.proofs.Shapes.{parsed_rows, refused_words, some_none}
use Rattle.command_words.proofs.grammar.parse.Goals as goal

pub returns-in-Ok : goal.returns-in-Ok
returns-in-Ok c = record {
  refused = λ e t. some_none c.in-Ok.matches e;
  found = parsed_rows (app_of c.in_ok-commands.commands) (map (λ (w : Bor (List ℕ)). w.now) c.args.words.now) c.in-Ok.matches c.in_ok-commands.ensures.shape c.in-Ok.ensures.matches;
}

pub returns-clause-refused : goal.returns-clause-refused
returns-clause-refused c =
    λ e. refused_words (app_of c.in_ok-commands.commands) (map (λ (w : Bor (List ℕ)). w.now) c.args.words.now) (kind_of c.in-Err.error) _
    c.in_ok-commands.ensures.shape c.in-Err.ensures.passes (λ k. search rules)
