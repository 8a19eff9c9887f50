-- What the loops over a reader and a writer keep.
use Rattle.std.proofs.Common.{◌≡◌, ℕ, ◌≤◌, ◌<◌, ◌-◌, List, ◌+◌, ◌++◌, length, take, drop, Option, sym, ap, ◌∙◌, arith, length-append, append_assoc, take-append-drop}
use Rattle.std.proofs.lemmas.List.{take_rest}
use Rattle.std.proofs.KnownBytes.{Consumes-trans, Appends-trans}
use Rattle.std.specs.Io.KnownBytes.{Consumes, Appends}
use Rattle.shelf.specs.Streams.{GivesMore}

-- the bytes so far came from the reader, and are not too many
pub record Gathered (bytes : List ℕ) (limit : ℕ) (old new : Option (List ℕ)) : Type 0 where
  pub within : length bytes ≤ limit
  pub gave : Consumes old new bytes

-- the writer took what stands before the rest
pub record Handed (bytes rest : List ℕ) (old new : Option (List ℕ)) : Type 0 where
  pub front : List ℕ
  pub parts : bytes ≡ front ++ rest
  pub took : Appends old new front

-- a piece with no room left for it is too much
pub gives_more : (limit count room : ℕ) (bytes piece : List ℕ) (old mid new : Option (List ℕ)) → Gathered bytes limit old mid
    → Consumes mid new (take count piece) → count ≡ length (take count piece) → room ≡ length bytes → limit - room < count → GivesMore limit old new
gives_more limit count room bytes piece old mid new gathered gave all len over =
    let within = gathered.within in
    let both : length (bytes ++ take count piece) ≡ length bytes + length (take count piece) = length-append bytes (take count piece) in
    record {
      bytes = bytes ++ take count piece;
      gave = Consumes-trans old mid new bytes (take count piece) gathered.gave gave;
      more = omega (arith, within, both, all, len, over);
    }

-- what a write took moves to the front
pub handed_more : (bytes rest : List ℕ) (count : ℕ) (old mid new : Option (List ℕ)) → Handed bytes rest old mid
    → Appends mid new (take count rest) → Handed bytes (take (length rest - count) (drop count rest)) old new
handed_more bytes rest count old mid new handed took = record {
  front = handed.front ++ take count rest;
  parts = handed.parts ∙ ap (λ (l : List ℕ). handed.front ++ l) (sym (take-append-drop count rest)) ∙ sym (append_assoc handed.front (take count rest) (drop count rest))
      ∙ ap (λ (l : List ℕ). (handed.front ++ take count rest) ++ l) (sym (take_rest rest count));
  took = Appends-trans old mid new handed.front (take count rest) handed.took took;
}
