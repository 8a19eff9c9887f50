use Rattle.std.proofs.Common.{◌≤◌, ◌++◌, length, take, vec_capacity}
use Rattle.label_setter.specs.Buckets.{Bucketed}
use Rattle.label_setter.specs.Labels.{Apart, Thins}
use Rattle.label_setter.specs.Rooms.{IsWithin}
use Rattle.label_setter.proofs.spots.keep_all.Given as goal

abbrev pub invariant-loop-label : goal.invariant-loop-label
invariant-loop-label g l = record {
  thins : Thins g.R.Lattice.below (l.initial.here.items ++ take l.label-index l.found) l.here.items;
  bucketed : Bucketed g.R.Lattice.below g.R.Lattice.rank l.here.items l.buckets.items;
  apart : Apart g.R.Lattice.below l.here.items;
  within : IsWithin (length l.here.items) l.left;
  labels : vec_capacity l.initial.here ≤ vec_capacity l.here;
  groups : vec_capacity l.initial.buckets ≤ vec_capacity l.buckets;
}
