-- The lines of a text, and what they say of bids.
use Rattle.std.specs.Prelude.{ℕ, ◌+◌, Bool, true, false, List, [], ◌∷◌, ◌++◌, length, map, position, codes, slice_set, slice_index_or, Option, Some, None, Result, Ok, Err, ◌==◌, if◌then◌else◌}
use Rattle.duty_calendar.specs.declared.member.Base.{Base}
use Rattle.duty_calendar.specs.declared.member.Member.{Member}
use Rattle.duty_calendar.specs.Forms.{is_name}
use Rattle.field_text.specs.Tokens.{read_tokens}
use Rattle.field_text.specs.declared.token.Token.{Token}
use Rattle.field_text.specs.declared.token.TokenFault.{TokenFault}
use Rattle.field_text.specs.declared.token.TokenFault.TheVariants.{Byte, NoMemory}
use Rattle.roster_model.specs.declared.bid.Bid.{Bid}
use Rattle.bid_language.specs.declared.fault.Word.TheVariants as word
use Rattle.bid_language.specs.declared.fault.BidCode.TheVariants as code
use Rattle.bid_language.specs.declared.fault.LineFault.{LineFault}
use Rattle.bid_language.specs.declared.fault.BidFault.{BidFault}
use Rattle.bid_language.specs.declared.sheet.Entry.{Entry}
use Rattle.bid_language.specs.declared.sheet.Entry.TheVariants as entry
use Rattle.bid_language.specs.Keywords.{is_text}
use Rattle.bid_language.specs.Words.{Spot, Rest, Reader, ◌>>=◌, done, wrong, or_wrong, next, optional, finished, rest_of}
use Rattle.bid_language.specs.Grammar.{bid}

-- a line without the carriage return at its end
unfoldable pub without_return : List ℕ → List ℕ
without_return [] = []
without_return (b ∷ []) = if b == 13 then [] else b ∷ []
without_return (b ∷ (c ∷ cs)) = b ∷ without_return (c ∷ cs)

-- the last line, which no line feed ends: it may be empty, and is then none
abbrev pub last_line : List ℕ → List (List ℕ)
last_line [] = []
last_line (b ∷ bs) = (b ∷ bs) ∷ []

-- The lines of a text whose first line begins with these bytes, without their ends:
-- a line feed, or a carriage return and a line feed.
unfoldable pub lines_with : List ℕ → List ℕ → List (List ℕ)
lines_with front [] = last_line front
lines_with front (b ∷ bs) =
    if b == 10 then without_return front ∷ lines_with [] bs else lines_with (front ++ b ∷ []) bs

abbrev pub lines_of : List ℕ → List (List ℕ)
lines_of text = lines_with [] text

-- a line without its comment
unfoldable pub before_comment : List ℕ → List ℕ
before_comment [] = []
before_comment (b ∷ bs) = if b == 35 then [] else b ∷ before_comment bs

-- What was read so far: whose bids the next line has, which members had their line, and the bids of
-- each.
pub record Read : Type 0 where
  pub current : Option ℕ
  pub seen : List Bool
  pub lists : List (List Bid)

abbrev pub member_named : List Member → List ℕ → Option ℕ
member_named members text = position (λ m. is_text m.name text) members

abbrev pub known : Spot → Option ℕ → Reader ℕ
known s found = if is_name s.text then or_wrong s code.UnknownMember found
    else wrong s (code.Expected word.Name)

-- the member of this number, unless it had its line
abbrev pub unseen : Spot → List Bool → ℕ → Reader Entry
unseen s seen m = if slice_index_or seen m false then wrong s code.MemberTwice else (do
  _ ← finished
  done (entry.Member m))

unfoldable pub member_line : Base → Read → Reader Entry
member_line base read = do
  s ← next word.Name
  m ← known s (member_named base.members s.text)
  unseen s read.seen m

abbrev pub bid_line : Base → Read → Spot → Option ℕ → Reader Entry
bid_line base read s None = wrong s (code.Expected word.MemberLine)
bid_line base read s (Some m) = do
  b ← bid base (length (slice_index_or read.lists m [])) s
  done (entry.Bid m b)

abbrev pub entry_from : Base → Read → Option Spot → Reader Entry
entry_from base read None = done entry.Nothing
entry_from base read (Some s) = if is_text s.text (codes "member") then member_line base read
    else bid_line base read s read.current

-- what a line says: nothing, whose bids follow, or a bid
unfoldable pub entry_of : Base → Read → Reader Entry
entry_of base read = do
  s ← optional
  entry_from base read s

-- the value, without what is left of the line
abbrev pub value_of : {A : Type 0} → Result (A × Rest) LineFault → Result A LineFault
value_of (Ok x) = Ok x.0
value_of (Err e) = Err e

abbrev pub entry_in : Base → Read → List ℕ → Result (List Token) TokenFault → Result Entry LineFault
entry_in base read line (Ok tokens) = value_of (entry_of base read (rest_of line tokens))
entry_in base read line (Err (Byte column)) = Err (record { column = column; code = code.Token })
entry_in base read line (Err NoMemory) = Err (record { column = 0; code = code.NoMemory })

-- what was read, with an entry
abbrev pub with_entry : Read → Entry → Read
with_entry read entry.Nothing = read
with_entry read (entry.Member m) =
    record { current = Some m; seen = slice_set read.seen m true; lists = read.lists }
with_entry read (entry.Bid m b) =
    record read { lists = slice_set read.lists m (slice_index_or read.lists m [] ++ b ∷ []) }

abbrev pub at_line : ℕ → Result Entry LineFault → Result Entry BidFault
at_line n (Ok x) = Ok x
at_line n (Err e) = Err (record { line = n; column = e.column; code = e.code })

-- a line, with its number
unfoldable pub line_of : Base → ℕ → Read → List ℕ → Result Entry BidFault
line_of base n read text =
    let line = before_comment text in at_line n (entry_in base read line (read_tokens line))

abbrev pub bind : {A B : Type 0} → Result A BidFault → (A → Result B BidFault) → Result B BidFault
bind (Ok x) f = f x
bind (Err e) f = Err e

-- the lines from number n on
unfoldable pub lines_from : Base → ℕ → Read → List (List ℕ) → Result Read BidFault
lines_from base n read [] = Ok read
lines_from base n read (l ∷ ls) =
    bind (line_of base n read l) (λ e. lines_from base (n + 1) (with_entry read e) ls)

-- no member has bids yet
abbrev pub empty_read : List Member → Read
empty_read members =
    record { current = None; seen = map (λ m. false) members; lists = map (λ m. []) members }

abbrev pub bids_in : Base → List ℕ → Result (List (List Bid)) BidFault
bids_in base text =
    bind (lines_from base 1 (empty_read base.members) (lines_of text)) (λ read. Ok read.lists)
