use Rattle.std.proofs.Common.{◌-◌, ◌<◌, ℕ, get_or, pos}
use Rattle.label_setter.specs.Meters.{IsBetween}
use Rattle.chain_search.specs.Rows.{IsLowOrBack}
use Rattle.chain_search.proofs.TableRows.{CoversFirst}
use Rattle.chain_search.proofs.table.place_row.Given as goal

abbrev pub invariant-loop-k : goal.invariant-loop-k
invariant-loop-k g l = record {
  between : IsBetween (l.graph.places - l.place) l.row;
  from : (state : ℕ) → state < g.C.Coarse.count l.coarse → IsLowOrBack (λ step. g.C.Coarse.moves (g.C.Coarse.move_of l.coarse step)) (g.C.Coarse.count l.coarse) (l.graph.places - 1) l.graph.arcs l.place l.table state (get_or l.row state (pos 0));
  covers : CoversFirst (λ step. g.C.Coarse.moves (g.C.Coarse.move_of l.coarse step)) (g.C.Coarse.count l.coarse) (l.graph.places - 1) l.graph.arcs l.leaving l.table l.row l.k;
}
