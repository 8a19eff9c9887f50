-- The counts of shelves whose files may be missing.
use Rattle.std.proofs.Common.{◌≡◌, ◌≤◌, ℕ, Bool, List, Result, Ok, Err, refl, sym, ap, subst, ◌∙◌, arith}
use Rattle.std.specs.Prelude.{IfErr}
use Rattle.shelf.specs.declared.tally.Tally.{Tally}
use Rattle.shelf.specs.Tallies.{Misses}
use Rattle.month_files.specs.FileNames.{name_of}
use Rattle.month_files.specs.Reading.{UnreadCause}
use Rattle.month_files.specs.Writes.{StopCause}
use Rattle.month_files.specs.declared.unread.Unread.{Unread}
use Rattle.next_folder.specs.Barred.{Bars}
use Rattle.next_folder.specs.Counts.{AfterMisses, BarCause, IsWritten, MayMiss, PlanCause, RollCause}
use Rattle.next_folder.specs.declared.rolled.RolledOver.{RolledOver}
use Rattle.next_folder.specs.declared.barrier.Barrier.{Barrier}
use Rattle.next_folder.specs.declared.barrier.Barrier.TheVariants as bar
use Rattle.next_folder.specs.declared.stop.HistoryStop.{HistoryStop}
use Rattle.next_folder.specs.declared.stop.HistoryStop.TheVariants as stop
use Rattle.next_folder.specs.Texts.{Ours, Theirs}

pub miss_none : (old new : Tally) → new ≡ old → MayMiss old new
miss_none old new e = subst (λ (t : Tally). MayMiss old t) (sym e) (record { later = omega arith; rest = refl })

pub miss_one : (name : List ℕ) (old new : Tally) → Misses name old new → MayMiss old new
miss_one name old new m = record {
  later = m.later;
  rest = m.rest ∙ ap (λ (t : Tally). record old { misses = new.misses; last = t.last }) (sym m.rest);
}

pub miss_more : (a b c : Tally) → MayMiss a b → MayMiss b c → MayMiss a c
miss_more a b c h k =
    let before = h.later in
    let behind = k.later in
    record { later = omega (arith, before, behind); rest = subst (λ (t : Tally). c ≡ record t { misses = c.misses; last = c.last }) h.rest k.rest }

pub after_more : (a b : Tally) (P : Tally → Type 0) → MayMiss a b → AfterMisses b P → AfterMisses a P
after_more a b P h k = record { between = k.between; missed = miss_more a b k.between h k.missed; came = k.came }

pub after_none : (a : Tally) (P : Tally → Type 0) → P a → AfterMisses a P
after_none a P p = record { between = a; missed = miss_none a a refl; came = p }

module _ (old new others_old others_new : Tally) (same : new ≡ old) (missed : MayMiss others_old others_new) where
  barred_cause : (ours : Ours) (theirs : Theirs) (force : Bool) (why : Barrier) → Bars ours theirs force why → BarCause old new others_old others_new why
  barred_cause ours theirs force (bar.Unread why) h = absurd h
  barred_cause ours theirs force (bar.BadInput why) h = (same, missed)
  barred_cause ours theirs force (bar.Roster fault) h = (same, missed)
  barred_cause ours theirs force (bar.Incomplete why) h = (same, missed)
  barred_cause ours theirs force bar.LastMonth h = (same, missed)
  barred_cause ours theirs force (bar.NextUnread why) h = absurd h
  barred_cause ours theirs force (bar.NextRules fault) h = (same, missed)
  barred_cause ours theirs force bar.OtherMonth h = (same, missed)
  barred_cause ours theirs force (bar.NextMembers fault) h = (same, missed)
  barred_cause ours theirs force bar.IsThere h = (same, missed)
  barred_cause ours theirs force (bar.Heir why) h = (same, missed)
  barred_cause ours theirs force (bar.TooLong f) h = (same, missed)
  barred_cause ours theirs force bar.NoMemory h = (same, missed)

  pub planned_cause : (ours : Ours) (theirs : Theirs) (force : Bool) (r : Result RolledOver Barrier) → IfErr r (Bars ours theirs force) → PlanCause old new others_old others_new r
  planned_cause ours theirs force (Ok made) h = (same, missed)
  planned_cause ours theirs force (Err why) h = barred_cause ours theirs force why h

  pub written_cause : (last : Tally) (rolled : RolledOver) (r : Result RolledOver HistoryStop) → IsWritten rolled others_new last r → RollCause old new others_old last r
  written_cause last rolled (Ok made) w = (same, subst (λ (t : Tally). MayMiss others_old t) (sym w.1) missed)
  written_cause last rolled (Err (stop.Unwritten made u)) w = (same, record { between = others_new; missed = missed; came = w.2 })
  written_cause last rolled (Err (stop.Barred why)) w = absurd w
