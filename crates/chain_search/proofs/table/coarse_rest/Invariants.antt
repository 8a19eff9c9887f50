use Rattle.std.proofs.Common.{◌≡◌, ◌+◌, ◌-◌, ◌*◌, ◌<◌, ℕ, get_or, length, pos}
use Rattle.chain_search.proofs.TableRows.{Filled}
use Rattle.chain_search.proofs.table.coarse_rest.Given as goal

abbrev pub invariant-loop-back : goal.invariant-loop-back
invariant-loop-back g l = record {
  wide : length l.row.items ≡ g.C.Coarse.count l.coarse;
  last : (state : ℕ) → state < g.C.Coarse.count l.coarse → get_or l.row.items state (pos 0) ≡ get_or l.table.items ((l.back - 1) * g.C.Coarse.count l.coarse + state) (pos 0);
  filled : Filled (λ step. g.C.Coarse.moves (g.C.Coarse.move_of l.coarse step)) (g.C.Coarse.ends l.coarse) (g.C.Coarse.count l.coarse) l.graph.places l.graph.arcs l.table.items l.back;
}
