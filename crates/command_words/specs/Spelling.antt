-- The words of each command, as a list of forms.
use Rattle.std.specs.Prelude.{◌≡◌, ◌↔◌, ℕ, true, List, [], ◌∷◌, ◌++◌, codes, Option, Some, None}
use Rattle.command_words.specs.Numbers.{nodes_in, sizes_in, lines_in}
use Rattle.command_words.specs.Words.{is_argument}
use Rattle.command_words.specs.declared.command.Sizes.{Sizes}
use Rattle.command_words.specs.declared.command.Command.{Command}
use Rattle.command_words.specs.declared.command.Command.TheVariants.{Check, Award, Show, Make, Trial, Migrate, Trade, Calendar, WhatIf, Open, OpenCheck}

-- the words are these arguments in order, with at most one option before, between or after them
pub data Stands (arguments : List (List ℕ)) (nodes : Option (List ℕ)) (words : List (List ℕ)) : Type 0 where
  alone : nodes ≡ None → words ≡ arguments → Stands arguments nodes words
  two_words : (before after : List (List ℕ)) (n : List ℕ) → arguments ≡ before ++ after → nodes ≡ Some n
      → words ≡ before ++ (codes "--nodes" ∷ n ∷ after) → Stands arguments nodes words
  one_word : (before after : List (List ℕ)) (n : List ℕ) → arguments ≡ before ++ after → nodes ≡ Some n
      → words ≡ before ++ ((codes "--nodes=" ++ n) ∷ after) → Stands arguments nodes words

-- the words spell the command
pub data Spells : List (List ℕ) → Command → Type 0 where
  check : Spells (codes "check" ∷ []) Check
  award : (rest : List (List ℕ)) (option : Option (List ℕ)) (nodes : ℕ) → Stands [] option rest
      → nodes_in option ≡ Some nodes → Spells (codes "award" ∷ rest) (Award nodes)
  show : (name : List ℕ) → is_argument name ≡ true → Spells (codes "show" ∷ name ∷ []) (Show name)
  make : (number members pairings : List ℕ) (sizes : Sizes) → sizes_in number members pairings ≡ Some sizes
      → Spells (codes "make" ∷ number ∷ members ∷ pairings ∷ []) (Make sizes)
  trial : (rest : List (List ℕ)) (number members pairings : List ℕ) (option : Option (List ℕ))
      (sizes : Sizes) (nodes : ℕ) → Stands (number ∷ members ∷ pairings ∷ []) option rest
      → sizes_in number members pairings ≡ Some sizes → nodes_in option ≡ Some nodes
      → Spells (codes "trial" ∷ rest) (Trial sizes nodes)
  migrate : Spells (codes "migrate" ∷ []) Migrate
  trade : Spells (codes "trade" ∷ []) Trade
  calendar : (name : List ℕ) → is_argument name ≡ true → Spells (codes "calendar" ∷ name ∷ []) (Calendar name)
  whatif : (rest : List (List ℕ)) (name : List ℕ) (option : Option (List ℕ)) (nodes : ℕ) → Stands (name ∷ []) option rest
      → is_argument name ≡ true → nodes_in option ≡ Some nodes → Spells (codes "whatif" ∷ rest) (WhatIf name nodes)
  opening : (rest : List (List ℕ)) (number : List ℕ) (option : Option (List ℕ)) (lines nodes : ℕ)
      → Stands (number ∷ []) option rest → lines_in number ≡ Some lines → nodes_in option ≡ Some nodes
      → Spells (codes "open" ∷ rest) (Open lines nodes)
  opencheck : (number : List ℕ) (lines : ℕ) → lines_in number ≡ Some lines
      → Spells (codes "opencheck" ∷ number ∷ []) (OpenCheck lines)

-- what is read is a command exactly where the words spell it
abbrev pub IsSpelt : List (List ℕ) → Option Command → Type 0
IsSpelt words read = (command : Command) → (read ≡ Some command) ↔ Spells words command
