use Rattle.std.proofs.Common.{refl, arith}
use Rattle.label_setter.proofs.RoomLemmas.{reserved_from, serves_here, serves_buckets}
use Rattle.label_setter.proofs.reserve.Setter.set.Goals as goal

pub invariant_of-self : goal.invariant_of-self
invariant_of-self g c =
    let i = c.self.invariant in
    let room = c.self.inside.room in
    let old = reserved_from room c.self.inside.places c.self.inside.arcs c.self.inside.desk i.0 i.1 i.2 i.3 i.4 i.5 i.6 in
    let new = c.best_in.ensures.reserved c.self.inside.places c.self.inside.arcs old in
    let long = c.best_in.ensures.capacity in
    let fits = i.7 in
    (serves_here room c.best_in.new.desk.spot new.serves, serves_buckets room c.best_in.new.desk.spot new.serves, new.serves.finds, new.serves.some, new.labels room refl, new.rows, new.order, omega (arith, long, fits))

pub returns-clause-room : goal.returns-clause-room
returns-clause-room g c = λ n is. rw (← c.self.view_is) (c.best_in.ensures.room n is)

pub returns-clause-crowd : goal.returns-clause-crowd
returns-clause-crowd g c = λ fails. rw (← c.self.view_is) (c.best_in.ensures.crowd fails)
