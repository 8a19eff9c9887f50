use Rattle.std.proofs.Common.{◌≡◌, ◌∷◌, take, map, codes}
use Rattle.std.specs.Prelude.{string_bytes}
use Rattle.command_words.proofs.command.Command.from_words.Given as goal

abbrev pub invariant-loop-word : goal.invariant-loop-word
invariant-loop-word l = record {
  same : map (λ w. w.now) l.texts.items ≡ codes "pbs" ∷ map string_bytes (take l.word-index l.words);
}
