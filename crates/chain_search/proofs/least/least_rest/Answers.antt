use Rattle.chain_search.proofs.RestLemmas.{least_is_bound}
use Rattle.chain_search.proofs.least.least_rest.Goals as goal

pub returns-clause-rest : goal.returns-clause-rest
returns-clause-rest g c =
    least_is_bound g.R.Resource.extend g.R.Resource.done c.args._graph.now (g.A.Rest.rest c.args.first) (g.B.Rest.rest c.args.second) c.requires.first c.requires.second
