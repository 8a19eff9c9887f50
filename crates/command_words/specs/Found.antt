-- The words that the reader is lent, and the texts that it takes out of clap's matches. No public
-- contract cites this.
use Rattle.std.specs.Prelude.{List, Option, codes, map, option_map}
use Rattle.std.specs.Borrow.{Bor}
use Rattle.clap.specs.Words.{Text, first_value, found_of}
use Rattle.clap.specs.declared.parser.matches.ArgMatches.{ArgMatches}
use Rattle.command_words.specs.Reading.{Texts}

abbrev pub texts_found : ArgMatches → Texts
texts_found m = record {
  nodes = first_value (found_of m) (codes "nodes");
  member = first_value (found_of m) (codes "member");
  number = first_value (found_of m) (codes "number");
  members = first_value (found_of m) (codes "members");
  pairings = first_value (found_of m) (codes "pairings");
  lines = first_value (found_of m) (codes "lines");
}

-- the texts of words, and that of an option
abbrev pub words_of : List (Bor Text) → List Text
words_of words = map (λ w. w.now) words

abbrev pub option_word : Option (Bor Text) → Option Text
option_word word = option_map (λ w. w.now) word
