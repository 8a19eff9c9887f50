use Rattle.std.proofs.Common.{rules, ◌≡◌, None}
use Rattle.std.proofs.lemmas.Result.{IfOk-weaker}
use Rattle.command_words.proofs.Steps.{now_of}
use Rattle.command_words.proofs.Whole.{end_refused, ends_nothing, ends_found}
use Rattle.command_words.proofs.command.command_of.Goals as goal

pub returns-in_default-2 : goal.returns-in_default-2
returns-in_default-2 c =
    let none : c.in_ok-matches.field-0 ≡ None = search rules in
    record { value = λ words e. end_refused (now_of c.args.texts.now) words e (c.in_ok-matches.ensures.refused none) }

pub returns-in_default-subcommand : goal.returns-in_default-subcommand
returns-in_default-subcommand c = record {
  value = λ words e. ends_nothing (now_of c.args.texts.now) words c.in_ok-matches.field-0 c.in-Some-2.matches e c.in-Some-2.is c.in_ok-matches.ensures.found
      c.in_default-subcommand.ensures.rows;
}

pub returns : goal.returns
returns c = record {
  value = λ words e. IfOk-weaker c.named.result _ _
      (λ read h. ends_found c.args.texts.now c.in-Some.words.now c.in-Some-split_first.rest.now words c.in-Some.field-0-0.now c.in-Some-split_first.first.now
      c.in_ok-matches.field-0 c.in-Some-2.matches c.in-Some-subcommand.found.now read e c.in-Some.ensures.cases.0 c.in-Some-split_first.ensures.cases.0
      c.in-Some-2.is c.in_ok-matches.ensures.found c.in-Some-subcommand.ensures.rows h) c.named.ensures.value;
}
