-- What whole readings and whole writings do to the bytes that a reader has left and a writer holds,
-- where those are known.
use Rattle.std.specs.Prelude.{ℕ, ◌≡◌, ◌<◌, List, ◌++◌, length, Option}
use Rattle.std.specs.Io.KnownBytes.{Consumes, Appends}

-- the reader gave more than limit bytes
pub record GivesMore (limit : ℕ) (old new : Option (List ℕ)) : Type 0 where
  pub bytes : List ℕ
  pub gave : Consumes old new bytes
  pub more : limit < length bytes

-- the writer took a front of the bytes
pub record TakesFront (bytes : List ℕ) (old new : Option (List ℕ)) : Type 0 where
  pub front : List ℕ
  pub back : List ℕ
  pub parts : bytes ≡ front ++ back
  pub took : Appends old new front
