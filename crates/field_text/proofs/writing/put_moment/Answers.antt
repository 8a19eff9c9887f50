use Rattle.std.proofs.lemmas.Result.{on_err_weaker, on_ok_weaker}
use Rattle.field_text.specs.Spelling.{date_text, moment_end}
use Rattle.field_text.proofs.Prefixes.{partly_front, partly_back, on_err_is, whole-back}
use Rattle.field_text.proofs.MomentAgain.{moment-read}
use Rattle.field_text.proofs.Utc.{utc-of, utc-year, moment-spelt}
use Rattle.field_text.proofs.writing.put_moment.Goals as goal

pub put_day-requires : goal.put_day-requires
put_day-requires c =
    let u = utc-of c.args.horizon.now c.args.minute c.moment_of-date.result.0 c.moment_of-date.result.1 c.moment_of-date.ensures.minute c.requires.in_range c.moment_of-date.ensures.inverse in
    record { in_range = utc-year c.args.horizon.now c.args.minute c.moment_of-date.result.0 c.moment_of-date.result.1 u }

pub returns-in_err-put_day-clause-partly : goal.returns-in_err-put_day-clause-partly
returns-in_err-put_day-clause-partly c =
    let u = utc-of c.args.horizon.now c.args.minute c.moment_of-date.result.0 c.moment_of-date.result.1 c.moment_of-date.ensures.minute c.requires.in_range c.moment_of-date.ensures.inverse in
    rw (moment-spelt c.args.horizon.now c.args.minute c.moment_of-date.result.0 c.moment_of-date.result.1 c.moment_of-date.ensures.minute u)
    (on_err_is c.from_residual.result (partly_front c.args.out.now (date_text c.moment_of-date.result.0) (moment_end c.moment_of-date.result.1) c.put_day.new.out c.in_err-put_day.ensures.partly))

pub returns-in_err-put_day-clause-again : goal.returns-in_err-put_day-clause-again
returns-in_err-put_day-clause-again c = moment-read c.args.horizon.now c.args.minute c.requires.in_range

pub returns-clause-whole : goal.returns-clause-whole
returns-clause-whole c =
    let u = utc-of c.args.horizon.now c.args.minute c.moment_of-date.result.0 c.moment_of-date.result.1 c.moment_of-date.ensures.minute c.requires.in_range c.moment_of-date.ensures.inverse in
    rw (moment-spelt c.args.horizon.now c.args.minute c.moment_of-date.result.0 c.moment_of-date.result.1 c.moment_of-date.ensures.minute u)
    (on_ok_weaker c.put_bytes.result
    (λ h. whole-back c.args.out.now (date_text c.moment_of-date.result.0) (moment_end c.moment_of-date.result.1) c.moment_end.result c.put_day.new.out c.put_bytes.new.out c.moment_end.ensures.value c.in_ok-put_day.ensures.whole h)
    c.put_bytes.ensures.whole)

pub returns-clause-partly : goal.returns-clause-partly
returns-clause-partly c =
    let u = utc-of c.args.horizon.now c.args.minute c.moment_of-date.result.0 c.moment_of-date.result.1 c.moment_of-date.ensures.minute c.requires.in_range c.moment_of-date.ensures.inverse in
    rw (moment-spelt c.args.horizon.now c.args.minute c.moment_of-date.result.0 c.moment_of-date.result.1 c.moment_of-date.ensures.minute u)
    (on_err_weaker c.put_bytes.result
    (λ h. partly_back c.args.out.now (date_text c.moment_of-date.result.0) (moment_end c.moment_of-date.result.1) c.moment_end.result c.put_day.new.out c.put_bytes.new.out c.moment_end.ensures.value c.in_ok-put_day.ensures.whole h)
    c.put_bytes.ensures.partly)

pub returns-clause-again : goal.returns-clause-again
returns-clause-again c = moment-read c.args.horizon.now c.args.minute c.requires.in_range
