use Rattle.std.proofs.Common.{sym, ◌∙◌}
use Rattle.next_folder.proofs.Found.{there_same}
use Rattle.next_folder.proofs.planning.spared.Goals as goal

pub returns-then-not-is_forced-clause-cause : goal.returns-then-not-is_forced-clause-cause
returns-then-not-is_forced-clause-cause c = λ ours problem roster rules next. record {
  problem = problem;
  roster = roster;
  rules = rules;
  next = next;
  there = sym (there_same c.args.theirs.now.history) ∙ sym c.is_some.ensures ∙ c.if-is_some.true;
  unforced = c.if-not-is_forced.true;
}
