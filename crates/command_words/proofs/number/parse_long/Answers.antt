use Rattle.command_words.proofs.Numbers.{parsed_ok, parsed_err}
use Rattle.command_words.proofs.number.parse_long.Goals as goal

pub returns-in-Ok : goal.returns-in-Ok
returns-in-Ok c = record { value = parsed_ok c.args.word.now c.parse.result c.in-Ok.value c.in-Ok.is c.requires.spelt c.parse.ensures.value.0 }

pub returns-in-Err : goal.returns-in-Err
returns-in-Err c = record { value = parsed_err c.args.word.now c.parse.result c.in-Err.field-0 c.in-Err.is c.requires.spelt c.parse.ensures.value.0 }
