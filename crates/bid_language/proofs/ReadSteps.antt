-- What a line gives, from what its parts give.
use Rattle.std.proofs.Common.{◌≡◌, ◌≢◌, ℕ, ◌+◌, List, [], ◌∷◌, length, Result, Ok, Err, refl, sym, ◌∙◌, arith}
use Rattle.field_text.specs.declared.token.Token.{Token}
use Rattle.field_text.specs.declared.token.TokenFault.{TokenFault}
use Rattle.field_text.specs.declared.token.TokenFault.TheVariants as token
use Rattle.field_text.specs.Gives.{Gives}
use Rattle.field_text.specs.Tokens.{read_tokens}
use Rattle.field_text.specs.Tokens as tokens
use Rattle.duty_calendar.specs.declared.member.Base.{Base}
use Rattle.bid_language.specs.declared.fault.BidCode.{BidCode}
use Rattle.bid_language.specs.declared.fault.BidCode.TheVariants as code
use Rattle.bid_language.specs.declared.fault.BidFault.{BidFault}
use Rattle.bid_language.specs.declared.fault.Stop.{Stop}
use Rattle.bid_language.specs.declared.fault.Stop.TheVariants as stop
use Rattle.bid_language.specs.declared.sheet.Entry.{Entry}
use Rattle.bid_language.specs.Words.{Rest, rest_of, Reads}
use Rattle.bid_language.specs.Lines.{Read, before_comment, entry_of, line_of, lines_from, lines_of, lines_with, with_entry}
use Rattle.bid_language.specs.Sheets.{FailsBy, fault_at, token_fault_at}
use Rattle.bid_language.proofs.RealFaults.{faults-entry_of}

-- a fault of a line, with its places
pub fails-at : {Y : Type 0} (line column : ℕ) (c : BidCode) (read : Result Y BidFault) → c ≢ code.NoMemory → read ≡ Err (record { line = line; column = column; code = c }) → FailsBy c (record { line = line; column = column; code = c }) read
fails-at line column code.NoMemory read real h = absurd (real refl)
fails-at line column code.Token read real h = h
fails-at line column (code.Expected w) read real h = h
fails-at line column code.Number read real h = h
fails-at line column code.Date read real h = h
fails-at line column code.UnknownMember read real h = h
fails-at line column code.UnknownPairing read real h = h
fails-at line column code.Weight read real h = h
fails-at line column code.TooMany read real h = h
fails-at line column code.MemberTwice read real h = h

-- the line says what its tokens say
pub line-ok : (base : Base) (n : ℕ) (read : Read) (text line : List ℕ) (tokens : List Token) (e : Entry) (before after : Rest)
    → line ≡ before_comment text → read_tokens line ≡ Ok tokens → before ≡ rest_of line tokens → entry_of base read before ≡ Ok (e, after) → line_of base n read text ≡ Ok e
unfolding line_of
line-ok base n read text line tokens e before after b t w h = rw (← b, t, ← w, h) refl

pub line-stop : (base : Base) (n : ℕ) (read : Read) (text line : List ℕ) (tokens : List Token) (s : Stop) (fault : BidFault) (before after : Rest)
    → line ≡ before_comment text → read_tokens line ≡ Ok tokens → before ≡ rest_of line tokens → Reads (Err s) (entry_of base read) before after → fault ≡ fault_at n s
    → FailsBy fault.code fault (line_of base n read text)
unfolding line_of
line-stop base n read text line tokens stop.NoMemory fault before after b t w h e = rw e (refl, refl)
line-stop base n read text line tokens (stop.Fault f) fault before after b t w h e =
    rw (e, ← b, t, ← w, h) (fails-at n f.column f.code _ (faults-entry_of base read before f h) refl)

pub line-token : (base : Base) (n : ℕ) (read : Read) (text line : List ℕ) (fault : BidFault) (t : TokenFault)
    → line ≡ before_comment text → fault ≡ token_fault_at n t → Gives tokens.told (λ (found : List Token). found) (Err t) (read_tokens line)
    → FailsBy fault.code fault (line_of base n read text)
unfolding line_of
line-token base n read text line fault token.NoMemory b e h = rw e (refl, refl)
line-token base n read text line fault (token.Byte column) b e h = rw (e, ← b, h) refl

-- the lines of a text, whose first line and rest are these
pub lines-end : (base : Base) (n : ℕ) (read : Read) (text : List ℕ) → length text ≡ 0 → lines_from base n read (lines_of text) ≡ Ok read
unfolding lines_from lines_with
lines-end base n read [] h = refl
lines-end base n read (b ∷ bs) h = absurd (omega arith)

pub lines-next : (base : Base) (n : ℕ) (read after : Read) (text line rest : List ℕ) (e : Entry)
    → lines_of text ≡ line ∷ lines_of rest → line_of base n read line ≡ Ok e → after ≡ with_entry read e
    → lines_from base (n + 1) after (lines_of rest) ≡ lines_from base n read (lines_of text)
unfolding lines_from
lines-next base n read after text line rest e h k a = rw (h, k, a) refl

pub lines-fault : (base : Base) (n : ℕ) (read : Read) (text line rest : List ℕ) (fault : BidFault) (all : Result Read BidFault)
    → lines_of text ≡ line ∷ lines_of rest → lines_from base n read (lines_of text) ≡ all → FailsBy fault.code fault (line_of base n read line)
    → FailsBy fault.code fault all
unfolding lines_from
lines-fault base n read text line rest fault all h i f =
    along fault.code refl all (λ e. sym i ∙ rw (h, e) refl) f
  where
    along : (c : BidCode) → c ≡ fault.code → (r : Result Read BidFault) → (line_of base n read line ≡ Err fault → r ≡ Err fault) → FailsBy c fault (line_of base n read line) → FailsBy c fault r
    along code.NoMemory q r g h = h
    along code.Token q r g h = g h
    along (code.Expected w) q r g h = g h
    along code.Number q r g h = g h
    along code.Date q r g h = g h
    along code.UnknownMember q r g h = g h
    along code.UnknownPairing q r g h = g h
    along code.Weight q r g h = g h
    along code.TooMany q r g h = g h
    along code.MemberTwice q r g h = g h
