use Rattle.graph_climbs.proofs.Credits.{credit_meter}
use Rattle.graph_climbs.proofs.search.best_chain.Goals as goal

pub meter_rest-requires : goal.meter_rest-requires
meter_rest-requires g c = record { meter = credit_meter g.B.Resource.extend c.args.graph.now.arcs c.args.cap c.requires.caps }
