-- What a call that answers a fault leaves in a shelf's tally.
use Rattle.std.specs.Prelude.{ℕ, ◌≡◌, ◌+◌, ◌-◌, ◌^◌, ◌≤◌, min, List, []}
use Rattle.shelf.specs.declared.tally.Tally.{Tally}

-- the count is greater than before, or stands at the greatest u64
abbrev pub Rose : ℕ → ℕ → Type 0
Rose before now = min (before + 1) (2 ^ 64 - 1) ≤ now

-- before the first fault
abbrev pub no_faults : Tally
no_faults = record { faults = 0; fails = 0; misses = 0; longs = 0; wants = 0; last = record { items = [] } }

-- a read failed: its count rose, the name was kept, and the rest of the tally is as before
pub record ReadFails (name : List ℕ) (old new : Tally) : Type 0 where
  pub later : old.faults ≤ new.faults
  pub rose : Rose old.faults new.faults
  pub rest : new ≡ record old { faults = new.faults; last = record { items = name } }

-- a write failed
pub record WriteFails (name : List ℕ) (old new : Tally) : Type 0 where
  pub later : old.fails ≤ new.fails
  pub rose : Rose old.fails new.fails
  pub rest : new ≡ record old { fails = new.fails; last = record { items = name } }

-- no file of the name was found
pub record Misses (name : List ℕ) (old new : Tally) : Type 0 where
  pub later : old.misses ≤ new.misses
  pub rose : Rose old.misses new.misses
  pub rest : new ≡ record old { misses = new.misses; last = record { items = name } }

-- a file was longer than a read may give
pub record FindsLong (name : List ℕ) (old new : Tally) : Type 0 where
  pub later : old.longs ≤ new.longs
  pub rose : Rose old.longs new.longs
  pub rest : new ≡ record old { longs = new.longs; last = record { items = name } }

-- an allocation of the call failed
pub record Wants (name : List ℕ) (old new : Tally) : Type 0 where
  pub later : old.wants ≤ new.wants
  pub rose : Rose old.wants new.wants
  pub rest : new ≡ record old { wants = new.wants; last = record { items = name } }
