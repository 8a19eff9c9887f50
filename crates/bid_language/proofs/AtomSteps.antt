-- Steps of the reading of atoms.
use Rattle.std.proofs.Common.{◌≡◌, ℕ, suc, List, [], ◌∷◌, ◌++◌, Bool, true, false, Result, Ok, Err, refl, ap, sym, ◌∙◌, append_assoc}
use Rattle.duty_calendar.specs.declared.pairing.Pairing.{Pairing}
use Rattle.roster_model.specs.declared.bid.Atom.{Atom}
use Rattle.bid_language.specs.declared.fault.LineFault.{LineFault}
use Rattle.std.specs.Prelude.{if◌then◌else◌}
use Rattle.bid_language.specs.declared.fault.Stop.{Stop}
use Rattle.bid_language.specs.declared.fault.Stop.TheVariants as stop
use Rattle.bid_language.specs.declared.fault.BidCode.TheVariants as code
use Rattle.bid_language.specs.declared.fault.Word.TheVariants as word
use Rattle.bid_language.specs.Words.{Rest, Spot, and_then, next, wrong, Reads}
use Rattle.bid_language.specs.Grammar.{joined, atoms, too_many, begins_atom}

-- the atoms found so far in front of the others
abbrev pub with_front : List Atom → Result (List Atom × Rest) LineFault → Result (List Atom × Rest) LineFault
with_front front (Ok x) = Ok (front ++ x.0, x.1)
with_front front (Err e) = Err e

with_front-more : (front : List Atom) (a : Atom) (r : Result (List Atom × Rest) LineFault) → with_front front (and_then r (λ others rest. Ok (a ∷ others, rest))) ≡ with_front (front ++ a ∷ []) r
with_front-more front a (Ok x) = ap (λ xs. Ok (xs, x.1)) (sym (append_assoc front (a ∷ []) x.0))
with_front-more front a (Err e) = refl

-- an atom with another one to follow it, and the last one
pub atoms-more : (ps : List Pairing) (m n : ℕ) (front longer : List Atom) (a : Atom × Bool) (before after : Rest) → m ≡ suc n
    → joined ps before ≡ Ok (a, after) → a.1 ≡ true → longer ≡ front ++ a.0 ∷ [] → with_front longer (atoms ps n after) ≡ with_front front (atoms ps m before)
unfolding atoms
atoms-more ps m n front longer a before after s e t l = sym (rw (s, e, t, l) (with_front-more front a.0 (atoms ps n after)))

pub atoms-last : (ps : List Pairing) (m n : ℕ) (front longer : List Atom) (a : Atom × Bool) (before after : Rest) → m ≡ suc n
    → joined ps before ≡ Ok (a, after) → a.1 ≡ false → longer ≡ front ++ a.0 ∷ [] → with_front front (atoms ps m before) ≡ Ok (longer, after)
unfolding atoms
atoms-last ps m n front longer a before after s e t l = rw (s, e, t, l) refl

-- the faults
pub atoms-fault : (ps : List Pairing) (m n : ℕ) (front : List Atom) (before : Rest) (fault : LineFault) → m ≡ suc n
    → joined ps before ≡ Err fault → with_front front (atoms ps m before) ≡ Err fault
unfolding atoms
atoms-fault ps m n front before fault s e = rw (s, e) refl

pub atoms-none : (ps : List Pairing) (m : ℕ) (front : List Atom) (before : Rest) (fault : LineFault) → m ≡ 0
    → too_many before ≡ Err fault → with_front front (atoms ps m before) ≡ Err fault
unfolding atoms
atoms-none ps m front before fault s e = rw (s, e) refl

-- no filter has more than that
too_many-fails : (before : Rest) (x : List Atom × Rest) → too_many before ≡ Ok x → ⊥
unfolding too_many
too_many-fails before x e = go (next word.Filter before) refl e
  where
    go : (r : Result (Spot × Rest) LineFault) → r ≡ next word.Filter before → and_then r (λ s. wrong s (if begins_atom s.text then code.TooMany else code.Expected word.Filter)) ≡ Ok x → ⊥
    go (Ok s) f h = cc
    go (Err e) f h = cc

pub reads-none : (ps : List Pairing) (m : ℕ) (front : List Atom) (start before after : Rest) (result : Result (List Atom) Stop) → m ≡ 0
    → with_front front (atoms ps m before) ≡ atoms ps 8 start → Reads result too_many before after → Reads result (atoms ps 8) start after
reads-none ps m front start before after (Ok x) s i h = absurd (too_many-fails before _ h)
reads-none ps m front start before after (Err stop.NoMemory) s i h = tt
reads-none ps m front start before after (Err (stop.Fault f)) s i h = sym i ∙ atoms-none ps m front before f s h

pub reads-fault : (ps : List Pairing) (m n : ℕ) (front : List Atom) (start before after : Rest) (e : Stop) → m ≡ suc n
    → with_front front (atoms ps m before) ≡ atoms ps 8 start → Reads (Err e) (joined ps) before after → Reads (Err e) (atoms ps 8) start after
reads-fault ps m n front start before after stop.NoMemory s i h = tt
reads-fault ps m n front start before after (stop.Fault f) s i h = sym i ∙ atoms-fault ps m n front before f s h
