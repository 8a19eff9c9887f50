-- What the files of a shelf say, read in order up to the first that cannot be read.
use Rattle.std.specs.Prelude.{◌≡◌, ◌≤◌, ℕ, List, length, Option, Some, None, Result, Ok, Err, nat_lt, if◌then◌else◌}
use Rattle.shelf.specs.Files.{Files, file}
use Rattle.shelf.specs.declared.tally.Tally.{Tally}
use Rattle.shelf.specs.Tallies.{ReadFails, Misses, FindsLong, Wants}
use Rattle.month_files.specs.FileNames.{name_of, limit_of}
use Rattle.month_files.specs.declared.file.File.{File}
use Rattle.month_files.specs.declared.file.File.TheVariants.{Rules, Pairings, Duties, Legs, Crew, History, Fixed, Bids}
use Rattle.month_files.specs.declared.reading.Texts.{Texts as Read}
use Rattle.month_files.specs.declared.unread.Unread.{Unread}
use Rattle.month_files.specs.declared.unread.Unread.TheVariants as unread

infixl 10 ◌>>=◌
abbrev pub ◌>>=◌ : {A B : Type 0} → Result A Unread → (A → Result B Unread) → Result B Unread
(Ok x) >>= f = f x
(Err why) >>= f = Err why

-- the shelf found no memory for one of the files
pub record Lacks (old new : Tally) : Type 0 where
  pub file : File
  pub wants : Wants (name_of file) old new

-- which change of the shelf's counts it comes with that a file was not read
abbrev pub UnreadCause : Tally → Tally → Unread → Type 0
UnreadCause old new (unread.Missing f) = Misses (name_of f) old new
UnreadCause old new (unread.ReadFault f) = ReadFails (name_of f) old new
UnreadCause old new (unread.TooLong f) = FindsLong (name_of f) old new
UnreadCause old new unread.NoMemory = Lacks old new

-- without such an end the counts are as before
abbrev pub HasCause : {T : Type 0} → Tally → Tally → Result T Unread → Type 0
HasCause old new (Ok _) = new ≡ old
HasCause old new (Err why) = UnreadCause old new why

-- the end is what is due; a failed read and want of memory are no matter of what files hold
abbrev pub UnreadIs : {Y : Type 0} → Unread → Result Y Unread → Type 0
UnreadIs (unread.Missing f) due = due ≡ Err (unread.Missing f)
UnreadIs (unread.ReadFault f) due = Unit {0}
UnreadIs (unread.TooLong f) due = due ≡ Err (unread.TooLong f)
UnreadIs unread.NoMemory due = Unit {0}

-- what a function returned, seen by `view`, is what is due
abbrev pub Finds : {X Y : Type 0} → (X → Y) → Result X Unread → Result Y Unread → Type 0
Finds view (Ok x) due = due ≡ Ok (view x)
Finds view (Err why) due = UnreadIs why due

-- the bytes of one file: it is there, and no longer than its limit
abbrev pub within : File → Option (List ℕ) → Result (List ℕ) Unread
within f None = Err (unread.Missing f)
within f (Some bytes) = if nat_lt (limit_of f) (length bytes) then Err (unread.TooLong f) else Ok bytes

abbrev pub text_in : Files → File → Result (List ℕ) Unread
text_in files f = within f (file files (name_of f))

-- the eight inputs as lists of bytes
pub record Inputs : Type 0 where
  pub rules : List ℕ
  pub pairings : List ℕ
  pub duties : List ℕ
  pub legs : List ℕ
  pub crew : List ℕ
  pub history : List ℕ
  pub fixed : List ℕ
  pub bids : List ℕ

abbrev pub view_texts : Read → Inputs
view_texts t = record {
  rules = t.rules.items;
  pairings = t.pairings.items;
  duties = t.duties.items;
  legs = t.legs.items;
  crew = t.crew.items;
  history = t.history.items;
  fixed = t.fixed.items;
  bids = t.bids.items;
}

-- no input is longer than its limit
pub record AreShort (t : Inputs) : Type 0 where
  pub rules : length t.rules ≤ 67108864
  pub pairings : length t.pairings ≤ 67108864
  pub duties : length t.duties ≤ 67108864
  pub legs : length t.legs ≤ 67108864
  pub crew : length t.crew ≤ 67108864
  pub history : length t.history ≤ 67108864
  pub fixed : length t.fixed ≤ 67108864
  pub bids : length t.bids ≤ 67108864

-- the inputs of a folder, in the order in which they are read
unfoldable pub texts_in : Files → Result Inputs Unread
texts_in files = do
  rules ← text_in files Rules
  pairings ← text_in files Pairings
  duties ← text_in files Duties
  legs ← text_in files Legs
  crew ← text_in files Crew
  history ← text_in files History
  fixed ← text_in files Fixed
  bids ← text_in files Bids
  Ok (record {
    rules = rules;
    pairings = pairings;
    duties = duties;
    legs = legs;
    crew = crew;
    history = history;
    fixed = fixed;
    bids = bids;
  })
