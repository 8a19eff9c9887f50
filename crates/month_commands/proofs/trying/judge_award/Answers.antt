use Rattle.month_commands.proofs.Limits.{small_parts, countable_parts}
use Rattle.month_commands.proofs.trying.judge_award.Goals as goal

pub judge-requires-clause-small_shown : goal.judge-requires-clause-small_shown
judge-requires-clause-small_shown c = small_parts c.args.awarded.now c.requires.limits

pub judge-requires-clause-countable_shown : goal.judge-requires-clause-countable_shown
judge-requires-clause-countable_shown c = countable_parts c.args.awarded.now c.requires.limits
