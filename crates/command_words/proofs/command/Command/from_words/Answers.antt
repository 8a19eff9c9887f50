use Rattle.std.proofs.Common.{rules, ◌≡◌, ◌≤◌, ◌∙◌, map, ap, length}
use Rattle.std.specs.Prelude.{string_bytes}
use Rattle.std.proofs.lemmas.Result.{IfOk-weaker}
use Rattle.command_words.proofs.Steps.{now_of}
use Rattle.command_words.proofs.Whole.{whole_words, read_is_spelt, read_has_limits}
use Rattle.command_words.proofs.command.Command.from_words.Goals as goal

pub returns-clause-value : goal.returns-clause-value
returns-clause-value c =
    let handed : c.deref.result.now ≡ c.loop-word.texts.items = search rules in
    let ended : length c.args.words.now ≤ c.loop-word.word-index = search rules in
    c.command_of.ensures.value (map string_bytes c.args.words.now)
    (ap now_of handed ∙ whole_words string_bytes c.args.words.now c.loop-word.word-index _ c.loop-word.invariant.same ended)

pub returns-clause-spelt : goal.returns-clause-spelt
returns-clause-spelt c = IfOk-weaker c.command_of.result _ _ (λ read h. read_is_spelt (map string_bytes c.args.words.now) read h) (returns-clause-value c)

pub returns-clause-in_range : goal.returns-clause-in_range
returns-clause-in_range c = IfOk-weaker c.command_of.result _ _ (λ read h. read_has_limits (map string_bytes c.args.words.now) read h) (returns-clause-value c)
