use Rattle.std.proofs.Common.{◌∙◌, ap}
use Rattle.bid_language.specs.Words.{rest_of}
use Rattle.bid_language.specs.Sheets.{read_of}
use Rattle.bid_language.proofs.ReadSteps.{line-ok, line-stop, line-token}
use Rattle.bid_language.proofs.reading.read_line.Goals as goal

pub returns-in-Err-clause-value : goal.returns-in-Err-clause-value
returns-in-Err-clause-value c =
    let g = c.in-Err.ensures.value in
    line-token c.args.base.now c.args.number (read_of c.args.sheet.now) c.args.text.now c.before_comment-line.result.now c.in-Err.fault g.0 c.before_comment-line.ensures.value g.1 g.2

pub returns-in-Ok-entry_of-clause-value : goal.returns-in-Ok-entry_of-clause-value
returns-in-Ok-entry_of-clause-value c =
    let line = c.before_comment-line.result.now in
    line-ok c.args.base.now c.args.number (read_of c.args.sheet.now) c.args.text.now line c.in-Ok.tokens _ c.new-words.result _
    c.before_comment-line.ensures.value c.in-Ok.ensures.value (c.new-words.ensures.value ∙ ap (rest_of line) c.as_slice.ensures) c.in-Ok-entry_of.ensures.reads

pub returns-clause-value : goal.returns-clause-value
returns-clause-value c =
    let line = c.before_comment-line.result.now in
    line-stop c.args.base.now c.args.number (read_of c.args.sheet.now) c.args.text.now line c.in-Ok.tokens c.in-Err-entry_of.stop c.at_line.result c.new-words.result c.new-words.result
    c.before_comment-line.ensures.value c.in-Ok.ensures.value (c.new-words.ensures.value ∙ ap (rest_of line) c.as_slice.ensures) c.in-Err-entry_of.ensures.reads c.at_line.ensures.value
