-- The bids that a text gives keep the checks of a problem.
use Rattle.std.proofs.Common.{◌≡◌, ℕ, zero, suc, ◌+◌, ◌≤◌, List, [], ◌∷◌, ◌++◌, length, false, Option, Some, None, Result, Ok, Err, refl, subst, ◌∙◌, arith, length-append}
use Rattle.std.specs.Prelude.{All, IfOk, slice_index_or}
use Rattle.std.proofs.lemmas.List.{length-map, length-set}
use Rattle.std.proofs.lemmas.List.Elements.{All-set, All-push, All-map}
use Rattle.duty_calendar.specs.declared.member.Base.{Base}
use Rattle.duty_calendar.specs.declared.member.Member.{Member}
use Rattle.duty_calendar.specs.Checks.{IsBase}
use Rattle.field_text.specs.declared.token.Token.{Token}
use Rattle.field_text.specs.declared.token.TokenFault.{TokenFault}
use Rattle.field_text.specs.declared.token.TokenFault.TheVariants as token
use Rattle.field_text.specs.Tokens.{read_tokens}
use Rattle.roster_model.specs.declared.bid.Bid.{Bid}
use Rattle.roster_model.specs.Valid.{IsBid, IsValid}
use Rattle.bid_language.specs.declared.fault.BidCode.TheVariants as code
use Rattle.bid_language.specs.declared.fault.BidFault.{BidFault}
use Rattle.bid_language.specs.declared.fault.LineFault.{LineFault}
use Rattle.bid_language.specs.declared.fault.Word.TheVariants as word
use Rattle.bid_language.specs.declared.sheet.Entry.{Entry}
use Rattle.bid_language.specs.declared.sheet.Entry.TheVariants as entry
use Rattle.bid_language.specs.Keywords.{is_text}
use Rattle.bid_language.specs.Words.{Spot, Rest, optional, finished, rest_of}
use Rattle.bid_language.specs.Lines.{Read, known, member_named, member_line, bid_line, entry_from, entry_of, value_of, entry_in, with_entry, at_line, before_comment, line_of, bind, lines_from, lines_of, empty_read, bids_in}
use Rattle.field_text.specs.Gives.{GivesOr}
use Rattle.bid_language.specs.Sheets.{told, IsNowhere}
use Rattle.bid_language.specs.Grammar.{bid}
use Rattle.bid_language.proofs.OnlyGives.{Only, Known, only-known, only-then, only-next, only-done, only-wrong, only-if, IsNext, only-bid}

-- an entry adds such a bid alone
abbrev pub IsFit : Base → Read → Entry → Type 0
IsFit base read entry.Nothing = Unit {0}
IsFit base read (entry.Member m) = Unit {0}
IsFit base read (entry.Bid m b) = IsNext base (length (slice_index_or read.lists m [])) b

only-member_line : (base : Base) (read : Read) → Only (member_line base read) (IsFit base read)
unfolding member_line
only-member_line base read = only-next word.Name _ _ (λ s. only-then (known s (member_named base.members s.text)) _ Known _ (only-known (known s (member_named base.members s.text))) (λ m k.
    only-if (slice_index_or read.seen m false) _ _ _ (λ t. only-wrong s code.MemberTwice _)
    (λ t. only-then finished _ Known _ (only-known finished) (λ u v. only-done (entry.Member m) (IsFit base read) tt))))

only-bid_line : (base : Base) (read : Read) (s : Spot) (o : Option ℕ) → Only (bid_line base read s o) (IsFit base read)
only-bid_line base read s None = only-wrong s (code.Expected word.MemberLine) _
only-bid_line base read s (Some m) = only-then (bid base (length (slice_index_or read.lists m [])) s) _ _ _ (only-bid base (length (slice_index_or read.lists m [])) s) (λ b h. only-done (entry.Bid m b) (IsFit base read) h)

only-entry_of : (base : Base) (read : Read) → Only (entry_of base read) (IsFit base read)
unfolding entry_of
only-entry_of base read = only-then optional _ Known _ (only-known optional) (λ o k. by_spot o)
  where
    by_spot : (o : Option Spot) → Only (entry_from base read o) (IsFit base read)
    by_spot None = only-done entry.Nothing (IsFit base read) tt
    by_spot (Some s) = only-if (is_text s.text _) _ _ _ (λ t. only-member_line base read) (λ t. only-bid_line base read s read.current)

-- what a line gives
value-fits : (base : Base) (read : Read) (n : ℕ) (e : Entry) (r : Result (Entry × Rest) LineFault) → ((x : Entry) (rest : Rest) → r ≡ Ok (x, rest) → IsFit base read x)
    → at_line n (value_of r) ≡ Ok e → IsFit base read e
value-fits base read n e (Ok x) h f = let same : x.0 ≡ e = cc in subst (IsFit base read) same (h x.0 x.1 refl)
value-fits base read n e (Err fault) h f = cc

tokens-fit : (base : Base) (read : Read) (n : ℕ) (line : List ℕ) (e : Entry) (r : Result (List Token) TokenFault) → at_line n (entry_in base read line r) ≡ Ok e → IsFit base read e
tokens-fit base read n line e (Ok tokens) f = value-fits base read n e (entry_of base read (rest_of line tokens)) (λ x rest s. only-entry_of base read (rest_of line tokens) rest x s) f
tokens-fit base read n line e (Err (token.Byte column)) f = cc
tokens-fit base read n line e (Err token.NoMemory) f = cc

line-fits : (base : Base) (read : Read) (n : ℕ) (text : List ℕ) (e : Entry) → line_of base n read text ≡ Ok e → IsFit base read e
unfolding line_of
line-fits base read n text e f = tokens-fit base read n (before_comment text) e (read_tokens (before_comment text)) f

-- what was read so far
pub record IsKept (base : Base) (read : Read) : Type 0 where
  pub lists : length read.lists ≡ length base.members
  pub few : All (λ list. length list ≤ 64) read.lists
  pub each : All (All (IsBid base.rules.horizon (length base.pairings))) read.lists

-- an element, or what stands for none
all-or : {X : Type 0} (P : X → Type 0) (xs : List X) (i : ℕ) (d : X) → All P xs → P d → P (slice_index_or xs i d)
all-or P [] i d h q = q
all-or P (x ∷ xs) zero d h q = h 0 d (omega arith)
all-or P (x ∷ xs) (suc i) d h q = all-or P xs i d (λ k e lt. h (suc k) e (omega arith)) q

with_entry-kept : (base : Base) (read : Read) (e : Entry) → IsKept base read → IsFit base read e → IsKept base (with_entry read e)
with_entry-kept base read entry.Nothing k f = k
with_entry-kept base read (entry.Member m) k f = record { lists = k.lists; few = k.few; each = k.each }
with_entry-kept base read (entry.Bid m b) k f =
    let had : List Bid = slice_index_or read.lists m [] in
    let room : length (had ++ b ∷ []) ≤ 64 = omega (arith, length-append had (b ∷ []), f.room) in
    let all_bids : All (IsBid base.rules.horizon (length base.pairings)) (had ++ b ∷ []) =
    All-push (IsBid base.rules.horizon (length base.pairings)) had b (all-or (All (IsBid base.rules.horizon (length base.pairings))) read.lists m [] k.each (λ i d lt. absurd (omega arith))) f.form in
    record {
      lists = length-set read.lists m (had ++ b ∷ []) ∙ k.lists;
      few = All-set (λ (list : List Bid). length list ≤ 64) read.lists m (had ++ b ∷ []) room k.few;
      each = All-set (All (IsBid base.rules.horizon (length base.pairings))) read.lists m (had ++ b ∷ []) all_bids k.each;
    }

lines-keep : (base : Base) (n : ℕ) (read last : Read) (lines : List (List ℕ)) → IsKept base read → lines_from base n read lines ≡ Ok last → IsKept base last
unfolding lines_from
lines-keep base n read last [] k f = let same : read ≡ last = cc in subst (IsKept base) same k
lines-keep base n read last (l ∷ ls) k f = by_line (line_of base n read l) (λ e g. line-fits base read n l e g) f (λ e m g. lines-keep base (n + 1) (with_entry read e) last ls m g)
  where
    by_line : (r : Result Entry BidFault) → ((e : Entry) → r ≡ Ok e → IsFit base read e) → bind r (λ e. lines_from base (n + 1) (with_entry read e) ls) ≡ Ok last
        → ((e : Entry) → IsKept base (with_entry read e) → lines_from base (n + 1) (with_entry read e) ls ≡ Ok last → IsKept base last) → IsKept base last
    by_line (Ok e) g h next_lines = next_lines e (with_entry-kept base read e k (g e refl)) h
    by_line (Err fault) g h next_lines = cc

empty-kept : (base : Base) → IsKept base (empty_read base.members)
empty-kept base = record {
  lists = length-map base.members (λ (m : Member). []);
  few = All-map (λ (list : List Bid). length list ≤ 64) (λ (m : Member). []) base.members (λ k d lt. omega arith);
  each = All-map (All (IsBid base.rules.horizon (length base.pairings))) (λ (m : Member). []) base.members (λ k d lt i e low. absurd (omega arith));
}

pub bids-valid : (base : Base) (text : List ℕ) (bids : List (List Bid)) → IsBase base → bids_in base text ≡ Ok bids → IsValid base bids
bids-valid base text bids month f = by_read (lines_from base 1 (empty_read base.members) (lines_of text)) (λ read g. lines-keep base 1 (empty_read base.members) read (lines_of text) (empty-kept base) g) f
  where
    by_read : (r : Result Read BidFault) → ((read : Read) → r ≡ Ok read → IsKept base read) → bind r (λ read. Ok read.lists) ≡ Ok bids → IsValid base bids
    by_read (Ok read) g h =
        let k = g read refl in
        let same : read.lists ≡ bids = cc in
        let valid : IsValid base read.lists = record { month = month; lists = k.lists; few_bids = k.few; each_bid = k.each } in
        subst (IsValid base) same valid
    by_read (Err fault) g h = cc

-- what a reader returned that gives them
pub gives-valid : (base : Base) (text : List ℕ) (result : Result (List (List Bid)) BidFault) → IsBase base → GivesOr told IsNowhere (λ bids. bids) result (bids_in base text) → IfOk result (IsValid base)
gives-valid base text (Ok bids) month g = bids-valid base text bids month g
gives-valid base text (Err fault) month g = tt
