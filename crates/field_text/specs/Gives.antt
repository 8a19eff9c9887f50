-- What a call answered, beside what reading gives: the same, unless memory ran out.
use Rattle.std.specs.Prelude.{◌≡◌, ◌≢◌, Option, Result, Ok, Err, MatchOption}

-- The value, seen by `view`, is the one that reading gives, and a fault is reading's fault.
-- What an error tells is the fault that it names, or nothing where memory ran out: then `Lost`
-- holds of it.
abbrev pub GivesOr : {X Y E F : Type 0} → (E → Option F) → (E → Type 0) → (X → Y) → Result X E
    → Result Y F → Type 0
GivesOr told Lost view (Ok x) read = read ≡ Ok (view x)
GivesOr told Lost view (Err e) read = MatchOption (told e) (Lost e) (λ fault. read ≡ Err fault)

-- the same, where nothing is said of an error that tells no fault
abbrev pub Gives : {X Y E F : Type 0} → (E → Option F) → (X → Y) → Result X E → Result Y F → Type 0
Gives told view result read = GivesOr told (λ e. Unit {0}) view result read

-- the same, where want of memory is one value of the errors
abbrev pub GivesUnless : {X Y E : Type 0} → E → (X → Y) → Result X E → Result Y E → Type 0
GivesUnless lost view (Ok x) read = read ≡ Ok (view x)
GivesUnless lost view (Err e) read = e ≢ lost → read ≡ Err e
