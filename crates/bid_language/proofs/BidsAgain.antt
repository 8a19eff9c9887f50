-- Reading the text of a problem's bids gives its bids again.
use Rattle.std.proofs.Common.{◌≡◌, ◌≢◌, ℕ, zero, suc, ◌+◌, ◌^◌, ◌<◌, ◌≤◌, List, [], ◌∷◌, ◌++◌, length, map, Bool, true, false, Some, Ok, refl, ap, sym, ◌∙◌, arith, append_assoc, length-append, get_or}
use Rattle.std.specs.Prelude.{◌&&◌, ◌==◌, nat_lt, All, AllPairs, codes, position, slice_index_or, slice_set}
use Rattle.std.specs.List.{list_all, position_or_len}
use Rattle.std.specs.Str.Parse.{AllDigits}
use Rattle.std.proofs.lemmas.Bool.{and_parts, and_from}
use Rattle.std.proofs.lemmas.Bool.Decides.{nat_tests}
use Rattle.std.proofs.lemmas.Fmt.{decimal_is_IsNumeral}
use Rattle.std.proofs.lemmas.List.{append-nil, get_or-set_other}
use Rattle.std.proofs.lemmas.List.Elements.{All-head, All-tail}
use Rattle.std.proofs.lemmas.List.Sums.{position_or_len_is}
use Rattle.duty_calendar.specs.declared.member.Base.{Base}
use Rattle.duty_calendar.specs.declared.member.Member.{Member}
use Rattle.duty_calendar.specs.declared.pairing.Pairing.{Pairing}
use Rattle.duty_calendar.specs.Forms.{is_name}
use Rattle.field_text.specs.Spelling.{number_text}
use Rattle.field_text.proofs.Numbers.{digit_of}
use Rattle.roster_model.specs.declared.bid.Bid.{Bid}
use Rattle.roster_model.specs.Valid.{IsBid, IsValid}
use Rattle.bid_language.specs.declared.sheet.Entry.{Entry}
use Rattle.bid_language.specs.declared.sheet.Entry.TheVariants as entry
use Rattle.bid_language.specs.Keywords.{is_text}
use Rattle.bid_language.specs.Words.{next, optional, finished}
use Rattle.bid_language.specs.Values.{pairing_named}
use Rattle.bid_language.specs.Lines.{Read, member_named, member_line, entry_of, line_of, with_entry, lines_from, lines_with, lines_of, empty_read, bids_in}
use Rattle.bid_language.specs.Spelling.{name_of, bid_text, bid_lines, member_text, all_lines}
use Rattle.bid_language.proofs.Spelt.{is_spelt_wish, are_spelt}
use Rattle.bid_language.proofs.BidWords.{wish_words, bid-spelt}
use Rattle.bid_language.proofs.Rereading.{texts, Again, AreNamed, AreDays, again-bid, text-same, text-other}
use Rattle.bid_language.proofs.TextAgain.{is_word, is_quiet, joined_words, joined-quiet, first-line, line-says}
use Rattle.bid_language.proofs.PlainWords.{words-bid, word-name}

-- the place of a name among names that differ
place-back : {X : Type 0} (name : X → List ℕ) (xs : List X) (i : ℕ) (d : X) → i < length xs → AllPairs (λ a b. name a ≢ name b) xs
    → position (λ x. is_text (name x) (name (get_or xs i d))) xs ≡ Some i
place-back name xs i d lt pairs =
    let w : List ℕ = name (get_or xs i d) in
    let place : position_or_len (λ x. is_text (name x) w) xs ≡ i =
    position_or_len_is (λ x. is_text (name x) w) xs i d (omega arith)
    (λ k below. text-other (name (get_or xs k d)) w (λ e. pairs k i d below lt e))
    (λ within. text-same w) in
    let inside : nat_lt i (length xs) ≡ true = grind (arith, nat_tests) in
    rw (place, inside) refl

name_of-at : (ps : List Pairing) (p : ℕ) (d : Pairing) → p < length ps → name_of ps p ≡ (get_or ps p d).name
name_of-at [] p d lt = absurd (omega arith)
name_of-at (x ∷ xs) zero d lt = refl
name_of-at (x ∷ xs) (suc p) d lt = name_of-at xs p d (omega arith)

pub pairings-named : (ps : List Pairing) → AllPairs (λ a b. a.name ≢ b.name) ps → AreNamed ps
pairings-named [] pairs p lt = absurd (omega arith)
pairings-named (x ∷ xs) pairs p lt =
    ap (pairing_named (x ∷ xs)) (name_of-at (x ∷ xs) p x lt) ∙ place-back (λ (q : Pairing). q.name) (x ∷ xs) p x lt pairs

-- the line of a bid
digit-other : (w : List ℕ) → AllDigits 10 w → is_text w (codes "member") ≡ false
unfolding is_text
digit-other [] h = refl
digit-other (b ∷ bs) h =
    let d = digit_of b h.0 in
    let ne : (b == 109) ≡ false = grind (arith, nat_tests) in
    rw ne refl

number-other : (n : ℕ) → n < 2 ^ 64 → is_text (number_text n) (codes "member") ≡ false
number-other n h = let d = decimal_is_IsNumeral n h in digit-other (number_text n) d.0.1

again-line : (base : Base) (read : Read) (m : ℕ) (b : Bid) → AreNamed base.pairings → AreDays base.rules.horizon → IsBid base.rules.horizon (length base.pairings) b → is_spelt_wish base b.wish ≡ true
    → read.current ≡ Some m → length (slice_index_or read.lists m []) < 64 → Again (entry_of base read) (entry.Bid m b) (number_text b.weight ∷ wish_words base b.wish) []
unfolding entry_of optional
again-line base read m b named days form spelt current few [] stop e = cc
again-line base read m b named days form spelt current few (s ∷ ss) stop e =
    let first : s.text ≡ number_text b.weight = cc in
    let rest : texts ss ≡ wish_words base b.wish ++ [] = cc in
    let other : is_text s.text (codes "member") ≡ false = ap (λ (v : List ℕ). is_text v (codes "member")) first ∙ number-other b.weight (omega (arith, form.few_weight)) in
    let u = again-bid base (length (slice_index_or read.lists m [])) s b named days form spelt few first ss stop rest in
    (u.0, u.1, rw (other, current, u.2) refl)

pub bid-says : (base : Base) (n : ℕ) (read : Read) (m : ℕ) (b : Bid) → AreNamed base.pairings → AreDays base.rules.horizon → IsBid base.rules.horizon (length base.pairings) b → is_spelt_wish base b.wish ≡ true
    → read.current ≡ Some m → length (slice_index_or read.lists m []) < 64 → line_of base n read (bid_text base b) ≡ Ok (entry.Bid m b)
bid-says base n read m b named days form spelt current few =
    ap (line_of base n read) (bid-spelt base b form.wish_form)
    ∙ line-says base n read (entry.Bid m b) (number_text b.weight) (wish_words base b.wish) (words-bid base b form spelt)
    (again-line base read m b named days form spelt current few)

bid-quiet : (base : Base) (b : Bid) → IsBid base.rules.horizon (length base.pairings) b → is_spelt_wish base b.wish ≡ true → list_all is_quiet (bid_text base b) ≡ true
bid-quiet base b form spelt =
    ap (list_all is_quiet) (bid-spelt base b form.wish_form) ∙ joined-quiet (number_text b.weight) (wish_words base b.wish) (words-bid base b form spelt)

-- the line of a member
again-member : (base : Base) (read : Read) (m : ℕ) (name : List ℕ) → is_name name ≡ true → member_named base.members name ≡ Some m → slice_index_or read.seen m false ≡ false
    → Again (entry_of base read) (entry.Member m) (codes "member" ∷ name ∷ []) []
unfolding entry_of member_line optional next finished
again-member base read m name form found unseen' [] stop e = cc
again-member base read m name form found unseen' (s ∷ []) stop e = cc
again-member base read m name form found unseen' (s ∷ (t ∷ (u ∷ us))) stop e = cc
again-member base read m name form found unseen' (s ∷ (t ∷ [])) stop e =
    let first : s.text ≡ codes "member" = cc in
    let second : t.text ≡ name = cc in
    let begins : is_text s.text (codes "member") ≡ true = ap (λ (v : List ℕ). is_text v (codes "member")) first ∙ text-same (codes "member") in
    let named : is_name t.text ≡ true = ap is_name second ∙ form in
    let place : member_named base.members t.text ≡ Some m = ap (member_named base.members) second ∙ found in
    ([], refl, rw (begins, named, place, unseen') refl)

member-says : (base : Base) (n : ℕ) (read : Read) (m : ℕ) (x : Member) → is_name x.name ≡ true → member_named base.members x.name ≡ Some m → slice_index_or read.seen m false ≡ false
    → line_of base n read (member_text x) ≡ Ok (entry.Member m)
member-says base n read m x form found unseen' =
    let words : list_all is_word (codes "member" ∷ x.name ∷ []) ≡ true = and_from (is_word x.name) true (word-name x.name form) refl in
    let same : member_text x ≡ joined_words (codes "member") (x.name ∷ []) = ap (λ (v : List ℕ). codes "member " ++ v) (sym (append-nil x.name)) in
    ap (line_of base n read) same ∙ line-says base n read (entry.Member m) (codes "member") (x.name ∷ []) words (again-member base read m x.name form found unseen')

member-quiet : (x : Member) → is_name x.name ≡ true → list_all is_quiet (member_text x) ≡ true
member-quiet x form =
    let words : list_all is_word (codes "member" ∷ x.name ∷ []) ≡ true = and_from (is_word x.name) true (word-name x.name form) refl in
    let same : member_text x ≡ joined_words (codes "member") (x.name ∷ []) = ap (λ (v : List ℕ). codes "member " ++ v) (sym (append-nil x.name)) in
    ap (list_all is_quiet) same ∙ joined-quiet (codes "member") (x.name ∷ []) words

-- one line more
step : (base : Base) (n : ℕ) (read : Read) (line rest : List ℕ) (e : Entry) → list_all is_quiet line ≡ true → line_of base n read line ≡ Ok e
    → lines_from base n read (lines_of (line ++ (10 ∷ rest))) ≡ lines_from base (n + 1) (with_entry read e) (lines_of rest)
unfolding lines_from
step base n read line rest e quiet says = rw (first-line line rest quiet, says) refl

-- what was read, with the bids of a member
abbrev with_bids : Read → ℕ → List Bid → Read
with_bids read m [] = read
with_bids read m (b ∷ bs) = with_bids (with_entry read (entry.Bid m b)) m bs

-- a list among lists
get-seam : {X : Type 0} (front : List X) (x : X) (back : List X) (m : ℕ) (d : X) → length front ≡ m → slice_index_or (front ++ (x ∷ back)) m d ≡ x
get-seam [] x back zero d e = refl
get-seam [] x back (suc m) d e = absurd (omega arith)
get-seam (y ∷ ys) x back zero d e = absurd (omega arith)
get-seam (y ∷ ys) x back (suc m) d e = get-seam ys x back m d (omega arith)

set-seam : {X : Type 0} (front : List X) (x y : X) (back : List X) (m : ℕ) → length front ≡ m → slice_set (front ++ (x ∷ back)) m y ≡ front ++ (y ∷ back)
set-seam [] x y back zero e = refl
set-seam [] x y back (suc m) e = absurd (omega arith)
set-seam (z ∷ zs) x y back zero e = absurd (omega arith)
set-seam (z ∷ zs) x y back (suc m) e = ap (λ (t : List _). z ∷ t) (set-seam zs x y back m (omega arith))

with_bids-lists : (read : Read) (m : ℕ) (bs : List Bid) (front : List (List Bid)) (had : List Bid) (back : List (List Bid)) → length front ≡ m → read.lists ≡ front ++ (had ∷ back)
    → (with_bids read m bs).lists ≡ front ++ ((had ++ bs) ∷ back)
with_bids-lists read m [] front had back size e = e ∙ ap (λ (t : List Bid). front ++ (t ∷ back)) (sym (append-nil had))
with_bids-lists read m (b ∷ bs) front had back size e =
    let now : slice_set read.lists m (slice_index_or read.lists m [] ++ b ∷ []) ≡ front ++ ((had ++ b ∷ []) ∷ back) =
    rw (e, get-seam front had back m [] size) (set-seam front had (had ++ b ∷ []) back m size) in
    with_bids-lists (with_entry read (entry.Bid m b)) m bs front (had ++ b ∷ []) back size now
    ∙ ap (λ (t : List Bid). front ++ (t ∷ back)) (append_assoc had (b ∷ []) bs)

with_bids-seen : (read : Read) (m : ℕ) (bs : List Bid) → (with_bids read m bs).seen ≡ read.seen
with_bids-seen read m [] = refl
with_bids-seen read m (b ∷ bs) = with_bids-seen (with_entry read (entry.Bid m b)) m bs

-- the lines of a member's bids
bids-say : (base : Base) (n : ℕ) (read : Read) (m : ℕ) (bs : List Bid) (front : List (List Bid)) (had : List Bid) (back : List (List Bid)) (more : List ℕ)
    → AreNamed base.pairings → AreDays base.rules.horizon → All (IsBid base.rules.horizon (length base.pairings)) bs → list_all (λ b. is_spelt_wish base b.wish) bs ≡ true
    → read.current ≡ Some m → length front ≡ m → read.lists ≡ front ++ (had ∷ back) → length had + length bs ≤ 64
    → lines_from base n read (lines_of (bid_lines base bs ++ more)) ≡ lines_from base (n + length bs) (with_bids read m bs) (lines_of more)
bids-say base n read m [] front had back more named days forms spelt current size e few =
    let same : n + 0 ≡ n = omega arith in ap (λ (k : ℕ). lines_from base k read (lines_of more)) (sym same)
bids-say base n read m (b ∷ bs) front had back more named days forms spelt current size e few =
    let p = and_parts (is_spelt_wish base b.wish) (list_all (λ x. is_spelt_wish base x.wish) bs) spelt in
    let form : IsBid base.rules.horizon (length base.pairings) b = All-head (IsBid base.rules.horizon (length base.pairings)) b bs forms in
    let mine : slice_index_or read.lists m [] ≡ had = rw e (get-seam front had back m [] size) in
    let room : length (slice_index_or read.lists m []) < 64 = omega (arith, ap length mine, few) in
    let says = bid-says base n read m b named days form p.0 current room in
    let now : slice_set read.lists m (slice_index_or read.lists m [] ++ b ∷ []) ≡ front ++ ((had ++ b ∷ []) ∷ back) =
    rw (e, get-seam front had back m [] size) (set-seam front had (had ++ b ∷ []) back m size) in
    let shape : bid_lines base (b ∷ bs) ++ more ≡ bid_text base b ++ (10 ∷ (bid_lines base bs ++ more)) =
    append_assoc (bid_text base b ++ 10 ∷ []) (bid_lines base bs) more ∙ append_assoc (bid_text base b) (10 ∷ []) (bid_lines base bs ++ more) in
    let count : (n + 1) + length bs ≡ n + length (b ∷ bs) = omega arith in
    let longer : length (had ++ b ∷ []) + length bs ≤ 64 = omega (arith, length-append had (b ∷ []), few) in
    ap (λ (t : List ℕ). lines_from base n read (lines_of t)) shape
    ∙ (step base n read (bid_text base b) (bid_lines base bs ++ more) (entry.Bid m b) (bid-quiet base b form p.0) says
    ∙ bids-say base (n + 1) (with_entry read (entry.Bid m b)) m bs front (had ++ b ∷ []) back more named days
    (All-tail (IsBid base.rules.horizon (length base.pairings)) b bs forms) p.1 current size now longer
    ∙ ap (λ (k : ℕ). lines_from base k (with_bids read m (b ∷ bs)) (lines_of more)) count)

-- what is read of lines, and the lists that it leaves
pub record GivesLists (base : Base) (n : ℕ) (read : Read) (text : List ℕ) (lists : List (List Bid)) : Type 0 where
  pub last : Read
  pub reads : lines_from base n read (lines_of text) ≡ Ok last
  pub same : last.lists ≡ lists

no_lines : (base : Base) (n : ℕ) (read : Read) → lines_from base n read (lines_of []) ≡ Ok read
unfolding lines_from lines_with
no_lines base n read = refl

-- the facts that the members' lines need
module _ (base : Base) (named : AreNamed base.pairings) (days : AreDays base.rules.horizon) (names : AllPairs (λ a b. a.name ≢ b.name) base.members) where
  member-place : (past : List Member) (m : Member) (ms : List Member) → past ++ (m ∷ ms) ≡ base.members → member_named base.members m.name ≡ Some (length past)
  member-place past m ms e =
      let inside : length past < length base.members = omega (arith, ap length e, length-append past (m ∷ ms)) in
      let here : get_or base.members (length past) m ≡ m = rw (← e) (get-seam past m ms (length past) m refl) in
      ap (λ (x : Member). position (λ q. is_text q.name x.name) base.members) (sym here) ∙ place-back (λ (q : Member). q.name) base.members (length past) m inside names

  members-say : (n : ℕ) (read : Read) (past ms : List Member) (front lists : List (List Bid))
      → past ++ ms ≡ base.members → length front ≡ length past → length lists ≡ length ms → read.lists ≡ front ++ map (λ m. []) ms
      → ((k : ℕ) → length front ≤ k → slice_index_or read.seen k false ≡ false)
      → All (All (IsBid base.rules.horizon (length base.pairings))) lists → All (λ list. length list ≤ 64) lists → are_spelt base ms lists ≡ true
      → GivesLists base n read (all_lines base ms lists) (front ++ lists)
  members-say n read past [] front [] all size lengths e unseen' forms few spelt = record { last = read; reads = no_lines base n read; same = e }
  members-say n read past [] front (l ∷ ls) all size lengths e unseen' forms few spelt = absurd (omega arith)
  members-say n read past (m ∷ ms) front [] all size lengths e unseen' forms few spelt = absurd (omega arith)
  members-say n read past (m ∷ ms) front ([] ∷ ls) all size lengths e unseen' forms few spelt =
      let rest = members-say n read (past ++ m ∷ []) ms (front ++ [] ∷ []) ls
      (append_assoc past (m ∷ []) ms ∙ all)
      (omega (arith, length-append front ([] ∷ []), length-append past (m ∷ []), size))
      (omega (arith, lengths))
      (e ∙ sym (append_assoc front ([] ∷ []) (map (λ x. []) ms)))
      (λ k le. unseen' k (omega (arith, length-append front ([] ∷ []))))
      (All-tail (All (IsBid base.rules.horizon (length base.pairings))) [] ls forms)
      (All-tail (λ (list : List Bid). length list ≤ 64) [] ls few)
      spelt in
      record { last = rest.last; reads = rest.reads; same = rest.same ∙ append_assoc front ([] ∷ []) ls }
  members-say n read past (m ∷ ms) front ((b ∷ bs) ∷ ls) all size lengths e unseen' forms few spelt =
      let p = and_parts (is_name m.name && list_all (λ x. is_spelt_wish base x.wish) (b ∷ bs)) (are_spelt base ms ls) spelt in
      let q = and_parts (is_name m.name) (list_all (λ x. is_spelt_wish base x.wish) (b ∷ bs)) p.0 in
      let i : ℕ = length front in
      let place : member_named base.members m.name ≡ Some i = member-place past m ms all ∙ ap Some (sym size) in
      let says = member-says base n read i m q.0 place (unseen' i (omega arith)) in
      let begun : Read = with_entry read (entry.Member i) in
      let after : Read = with_bids begun i (b ∷ bs) in
      let more : List ℕ = all_lines base ms ls in
      let shape : all_lines base (m ∷ ms) ((b ∷ bs) ∷ ls) ≡ member_text m ++ (10 ∷ (bid_lines base (b ∷ bs) ++ more)) =
      append_assoc (member_text m ++ 10 ∷ []) (bid_lines base (b ∷ bs)) more ∙ append_assoc (member_text m) (10 ∷ []) (bid_lines base (b ∷ bs) ++ more) in
      let fits : length {A = Bid} [] + length (b ∷ bs) ≤ 64 = let h : length (b ∷ bs) ≤ 64 = All-head (λ (list : List Bid). length list ≤ 64) (b ∷ bs) ls few in omega (arith, h) in
      let lines : lines_from base n read (lines_of (all_lines base (m ∷ ms) ((b ∷ bs) ∷ ls))) ≡ lines_from base (n + 1 + length (b ∷ bs)) after (lines_of more) =
      ap (λ (t : List ℕ). lines_from base n read (lines_of t)) shape
      ∙ (step base n read (member_text m) (bid_lines base (b ∷ bs) ++ more) (entry.Member i) (member-quiet m q.0) says
      ∙ bids-say base (n + 1) begun i (b ∷ bs) front [] (map (λ x. []) ms) more named days
      (All-head (All (IsBid base.rules.horizon (length base.pairings))) (b ∷ bs) ls forms) q.1 refl refl e fits) in
      let lists : after.lists ≡ front ++ ((b ∷ bs) ∷ map (λ x. []) ms) = with_bids-lists begun i (b ∷ bs) front [] (map (λ x. []) ms) refl e in
      let rest = members-say (n + 1 + length (b ∷ bs)) after (past ++ m ∷ []) ms (front ++ (b ∷ bs) ∷ []) ls
      (append_assoc past (m ∷ []) ms ∙ all)
      (omega (arith, length-append front ((b ∷ bs) ∷ []), length-append past (m ∷ []), size))
      (omega (arith, lengths))
      (lists ∙ sym (append_assoc front ((b ∷ bs) ∷ []) (map (λ x. []) ms)))
      (λ k le.
      let later : i + 1 ≤ k = omega (arith, length-append front ((b ∷ bs) ∷ []), le) in
      ap (λ (s : List Bool). slice_index_or s k false) (with_bids-seen begun i (b ∷ bs))
      ∙ get_or-set_other read.seen i k true false (λ same. omega arith)
      ∙ unseen' k (omega arith))
      (All-tail (All (IsBid base.rules.horizon (length base.pairings))) (b ∷ bs) ls forms)
      (All-tail (λ (list : List Bid). length list ≤ 64) (b ∷ bs) ls few)
      p.1 in
      record { last = rest.last; reads = lines ∙ rest.reads; same = rest.same ∙ append_assoc front ((b ∷ bs) ∷ []) ls }

none-seen : (members : List Member) (k : ℕ) → slice_index_or (map (λ m. false) members) k false ≡ false
none-seen [] k = refl
none-seen (m ∷ ms) zero = refl
none-seen (m ∷ ms) (suc k) = none-seen ms k

gives-bids : (base : Base) (text : List ℕ) (lists : List (List Bid)) → GivesLists base 1 (empty_read base.members) text lists → bids_in base text ≡ Ok lists
gives-bids base text lists g = rw (g.reads) (ap Ok g.same)

pub bids-again : (base : Base) (lists : List (List Bid)) → IsValid base lists → AreDays base.rules.horizon → are_spelt base base.members lists ≡ true
    → bids_in base (all_lines base base.members lists) ≡ Ok lists
bids-again base lists valid days spelt =
    gives-bids base (all_lines base base.members lists) lists
    (members-say base (pairings-named base.pairings valid.month.pairings_form.names) days valid.month.members_form.names
    1 (empty_read base.members) [] base.members [] lists refl refl valid.lists refl (λ k le. none-seen base.members k) valid.each_bid valid.few_bids spelt)
