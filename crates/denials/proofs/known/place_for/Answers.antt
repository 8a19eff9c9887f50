use Rattle.denials.proofs.known.place_for.Goals as goal

pub is_granted-requires-clause-complete : goal.is_granted-requires-clause-complete
is_granted-requires-clause-complete c = c.requires.found.complete
