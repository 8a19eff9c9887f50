-- What a put does to a sink.
use Rattle.std.specs.Prelude.{ℕ, ◌≡◌, ◌≤◌, List, ◌++◌, Option, Result, Ok, Err}
use Rattle.std.specs.Option.{option_map}
use Rattle.shelf.specs.declared.fault.SinkFault.{SinkFault}
use Rattle.shelf.specs.declared.fault.SinkFault.TheVariants.{PutFailed, NoMemory}
use Rattle.shelf.specs.Tallies.{Rose}

-- a count rose
pub record Rises (before now : ℕ) : Type 0 where
  pub later : before ≤ now
  pub rose : Rose before now

-- the count of failed puts
abbrev pub PutCause : {T : Type 0} → ℕ → ℕ → Result T SinkFault → Type 0
PutCause before now (Ok _) = now ≡ before
PutCause before now (Err PutFailed) = Rises before now
PutCause before now (Err NoMemory) = now ≡ before

-- the count of puts that found no memory
abbrev pub PutWants : {T : Type 0} → ℕ → ℕ → Result T SinkFault → Type 0
PutWants before now (Ok _) = now ≡ before
PutWants before now (Err PutFailed) = now ≡ before
PutWants before now (Err NoMemory) = Rises before now

-- the bytes and then a piece, where bytes are told
abbrev pub with_piece : Option (List ℕ) → List ℕ → Option (List ℕ)
with_piece told piece = option_map (λ bytes. bytes ++ piece) told

-- a front of the piece was added
pub record AddsFront (piece : List ℕ) (old new : Option (List ℕ)) : Type 0 where
  pub front : List ℕ
  pub back : List ℕ
  pub parts : piece ≡ front ++ back
  pub added : new ≡ with_piece old front

-- the whole piece was added, or where the put did not succeed a front of it
abbrev pub Puts : {T : Type 0} → Option (List ℕ) → Option (List ℕ) → List ℕ → Result T SinkFault → Type 0
Puts old new piece (Ok _) = new ≡ with_piece old piece
Puts old new piece (Err _) = AddsFront piece old new
