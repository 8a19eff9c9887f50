use Rattle.part117_limits.proofs.LightEvents.{IsBehind}
use Rattle.part117_limits.proofs.light.is_light.Given as goal

abbrev pub invariant-loop-index : goal.invariant-loop-index
invariant-loop-index l = IsBehind l.minutes l.events l.width l.limit l.index
