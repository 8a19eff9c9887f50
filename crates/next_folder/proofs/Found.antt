-- What a read of a file that may be missing says of it, and the files that are to be written, one by one.
use Rattle.std.proofs.Common.{◌≡◌, ℕ, Bool, true, false, cond, List, [], ◌∷◌, ◌++◌, length, Option, Some, None, Result, Ok, Err, refl, sym, ap, subst, ◌∙◌, append_assoc}
use Rattle.std.specs.Prelude.{is_some, nat_lt, Vec}
use Rattle.std.specs.Option.{option_map}
use Rattle.std.specs.declared.alloc.Global.{Global}
use Rattle.crew_files.specs.Texts.{crew_text}
use Rattle.duty_calendar.specs.declared.member.Member.{Member}
use Rattle.duty_calendar.specs.declared.member.Rules.{Rules as MonthRules}
use Rattle.month_files.specs.FileNames.{limit_of}
use Rattle.month_files.specs.Reading.{within}
use Rattle.month_files.specs.declared.file.File.{File}
use Rattle.month_files.specs.declared.file.File.TheVariants.{Rules, Crew, History, Fixed}
use Rattle.month_files.specs.declared.unread.Unread.{Unread}
use Rattle.month_files.specs.declared.unread.Unread.TheVariants as unread
use Rattle.month_files.specs.declared.writing.Draft.{Draft}
use Rattle.rules_file.specs.Rules.{rules_file, values}
use Rattle.shelf.specs.Logs.{Entries}
use Rattle.rules_file.specs.Spelling.{rules_text}
use Rattle.next_folder.specs.Rolled.{AreTaken, Says, coming_text, leavers, newcomers, next_drafts, past_text, unless_there}
use Rattle.next_folder.specs.declared.rolled.RolledOver.{RolledOver}
use Rattle.next_folder.specs.Texts.{Theirs, if_there}
use Rattle.crew_files.specs.Files.{members_of}
use Rattle.roster_model.specs.declared.problem.Problem.{Problem}

-- a read that found the file, found none, or found it too long
pub there_ok : (f : File) (o : Option (List ℕ)) (bytes : List ℕ) → within f o ≡ Ok bytes → if_there f o ≡ Ok (Some bytes)
there_ok f None bytes h = absurd cc
there_ok f (Some b) bytes h = by_test (nat_lt (limit_of f) (length b)) h
  where
    by_test : (t : Bool) → cond {A = Result (List ℕ) Unread} t (Err (unread.TooLong f)) (Ok b) ≡ Ok bytes → cond {A = Result (Option (List ℕ)) Unread} t (Err (unread.TooLong f)) (Ok (Some b)) ≡ Ok (Some bytes)
    by_test true e = absurd cc
    by_test false e = cc

pub there_missing : (f g : File) (o : Option (List ℕ)) → within f o ≡ Err (unread.Missing g) → if_there f o ≡ Ok None
there_missing f g None h = refl
there_missing f g (Some b) h = by_test (nat_lt (limit_of f) (length b)) h
  where
    by_test : (t : Bool) → cond {A = Result (List ℕ) Unread} t (Err (unread.TooLong f)) (Ok b) ≡ Err (unread.Missing g) → cond {A = Result (Option (List ℕ)) Unread} t (Err (unread.TooLong f)) (Ok (Some b)) ≡ Ok None
    by_test true e = absurd cc
    by_test false e = absurd cc

pub there_long : (f g : File) (o : Option (List ℕ)) → within f o ≡ Err (unread.TooLong g) → if_there f o ≡ Err (unread.TooLong g)
there_long f g None h = absurd cc
there_long f g (Some b) h = by_test (nat_lt (limit_of f) (length b)) h
  where
    by_test : (t : Bool) → cond {A = Result (List ℕ) Unread} t (Err (unread.TooLong f)) (Ok b) ≡ Err (unread.TooLong g) → cond {A = Result (Option (List ℕ)) Unread} t (Err (unread.TooLong f)) (Ok (Some b)) ≡ Err (unread.TooLong g)
    by_test true e = cc
    by_test false e = absurd cc

-- logs that grew, one read after another
pub logged-more : (old mid new xs ys : Entries) → mid ≡ old ++ xs → new ≡ mid ++ ys → new ≡ old ++ (xs ++ ys)
logged-more old mid new xs ys a b = b ∙ ap (λ (es : Entries). es ++ ys) a ∙ append_assoc old xs ys

pub logged-four : (old one two three new ws xs ys zs : Entries) → one ≡ old ++ ws → two ≡ one ++ xs → three ≡ two ++ ys → new ≡ three ++ zs → new ≡ old ++ (((ws ++ xs) ++ ys) ++ zs)
logged-four old one two three new ws xs ys zs a b c d = logged-more old three new ((ws ++ xs) ++ ys) zs (logged-more old two three (ws ++ xs) ys (logged-more old one two ws xs a b) c) d

pub there_same : (o : Option (Vec ℕ Global)) → is_some o ≡ is_some (option_map (λ v. v.items) o)
there_same None = refl
there_same (Some v) = refl

there_as : (t : Option (List ℕ)) (o : Option (Vec ℕ Global)) (a : Bool) → t ≡ option_map (λ v. v.items) o → a ≡ is_some o → a ≡ is_some t
there_as t o a has is = is ∙ there_same o ∙ ap (λ (s : Option (List ℕ)). is_some s) (sym has)

module _ (theirs : Theirs) (rules : MonthRules) (members : List Member) where
  pub all_drafts : (r c f : Option (Vec ℕ Global)) (none one two three four : List Draft) (a b d : Bool) (w x y z : List ℕ)
      → theirs.rules ≡ option_map (λ v. v.items) r → theirs.crew ≡ option_map (λ v. v.items) c → theirs.fixed ≡ option_map (λ v. v.items) f
      → none ≡ [] → one ≡ none ++ unless_there a Rules w → two ≡ one ++ unless_there b Crew x → three ≡ two ++ unless_there false History y → four ≡ three ++ unless_there d Fixed z
      → a ≡ is_some r → b ≡ is_some c → d ≡ is_some f → w ≡ rules_text (values rules) → x ≡ crew_text members → y ≡ past_text rules members → z ≡ coming_text rules members
      → four ≡ next_drafts theirs rules members
  unfolding next_drafts
  all_drafts r c f none one two three four a b d w x y z has_rules has_crew has_fixed e0 e1 e2 e3 e4 is_a is_b is_d is_w is_x is_y is_z =
      let aa : a ≡ is_some theirs.rules = there_as theirs.rules r a has_rules is_a in
      let bb : b ≡ is_some theirs.crew = there_as theirs.crew c b has_crew is_b in
      let dd : d ≡ is_some theirs.fixed = there_as theirs.fixed f d has_fixed is_d in
      let first : one ≡ unless_there (is_some theirs.rules) Rules (rules_text (values rules)) =
      e1 ∙ ap (λ (ds : List Draft). ds ++ unless_there a Rules w) e0 ∙ ap (λ (t : Bool). unless_there t Rules w) aa ∙ ap (λ (t : List ℕ). unless_there (is_some theirs.rules) Rules t) is_w in
      let second : two ≡ unless_there (is_some theirs.rules) Rules (rules_text (values rules)) ++ unless_there (is_some theirs.crew) Crew (crew_text members) =
      e2 ∙ ap (λ (ds : List Draft). ds ++ unless_there b Crew x) first ∙ ap (λ (t : Bool). unless_there (is_some theirs.rules) Rules (rules_text (values rules)) ++ unless_there t Crew x) bb
      ∙ ap (λ (t : List ℕ). unless_there (is_some theirs.rules) Rules (rules_text (values rules)) ++ unless_there (is_some theirs.crew) Crew t) is_x in
      e4 ∙ ap (λ (ds : List Draft). ds ++ unless_there d Fixed z) (e3 ∙ ap (λ (ds : List Draft). ds ++ unless_there false History y) second)
      ∙ append_assoc (unless_there (is_some theirs.rules) Rules (rules_text (values rules)) ++ unless_there (is_some theirs.crew) Crew (crew_text members)) (unless_there false History y) (unless_there d Fixed z)
      ∙ ap (λ (t : List ℕ). (unless_there (is_some theirs.rules) Rules (rules_text (values rules)) ++ unless_there (is_some theirs.crew) Crew (crew_text members)) ++ record { file = History; bytes = t } ∷ unless_there d Fixed z) is_y
      ∙ ap (λ (t : Bool). (unless_there (is_some theirs.rules) Rules (rules_text (values rules)) ++ unless_there (is_some theirs.crew) Crew (crew_text members)) ++ record { file = History; bytes = past_text rules members } ∷ unless_there t Fixed z) dd
      ∙ ap (λ (t : List ℕ). (unless_there (is_some theirs.rules) Rules (rules_text (values rules)) ++ unless_there (is_some theirs.crew) Crew (crew_text members)) ++ record { file = History; bytes = past_text rules members } ∷ unless_there (is_some theirs.fixed) Fixed t) is_z

-- what is said of members that a slice lends, and of their texts
pub says_of : (problem : Problem) (theirs : Theirs) (made : RolledOver) (one two three : List Member) (crew history fixed : List ℕ) → one ≡ made.members → two ≡ made.members → three ≡ made.members
    → crew ≡ crew_text one → history ≡ past_text made.rules one → fixed ≡ coming_text made.rules one → members_of made.rules.horizon crew history fixed ≡ Ok one
    → AreTaken theirs made.rules.horizon crew history fixed made.taken → rules_file (rules_text (values made.rules)) ≡ Ok (values made.rules)
    → made.drafts ≡ next_drafts theirs made.rules one → made.newcomers ≡ newcomers problem two → made.leavers ≡ leavers problem three → Says problem theirs made
says_of problem theirs made one two three crew history fixed a b c is_crew is_past is_coming again taken rules drafts new gone = record {
  new = new ∙ ap (λ (ms : List Member). newcomers problem ms) b;
  left = gone ∙ ap (λ (ms : List Member). leavers problem ms) c;
  files = drafts ∙ ap (λ (ms : List Member). next_drafts theirs made.rules ms) a;
  rules_again = rules;
  again =
      ap (λ (t : List ℕ). members_of made.rules.horizon t (past_text made.rules made.members) (coming_text made.rules made.members)) (sym spelt.0)
      ∙ ap (λ (t : List ℕ). members_of made.rules.horizon crew t (coming_text made.rules made.members)) (sym spelt.1)
      ∙ ap (λ (t : List ℕ). members_of made.rules.horizon crew history t) (sym spelt.2) ∙ again ∙ ap (λ (ms : List Member). Ok ms) a;
  taken =
      subst (λ (t : List ℕ). AreTaken theirs made.rules.horizon t (past_text made.rules made.members) (coming_text made.rules made.members) made.taken) spelt.0
      (subst (λ (t : List ℕ). AreTaken theirs made.rules.horizon crew t (coming_text made.rules made.members) made.taken) spelt.1
      (subst (λ (t : List ℕ). AreTaken theirs made.rules.horizon crew history t made.taken) spelt.2 taken));
}
  where
    spelt : (crew ≡ crew_text made.members) × (history ≡ past_text made.rules made.members) × (fixed ≡ coming_text made.rules made.members)
    spelt = (is_crew ∙ ap (λ (ms : List Member). crew_text ms) a, is_past ∙ ap (λ (ms : List Member). past_text made.rules ms) a, is_coming ∙ ap (λ (ms : List Member). coming_text made.rules ms) a)

-- the reader takes members again from texts of a slice that lends them
pub again_of : (rules : MonthRules) (members one : List Member) (crew history fixed : List ℕ) → one ≡ members → crew ≡ crew_text one → history ≡ past_text rules one → fixed ≡ coming_text rules one
    → members_of rules.horizon crew history fixed ≡ Ok one → members_of rules.horizon (crew_text members) (past_text rules members) (coming_text rules members) ≡ Ok members
again_of rules members one crew history fixed is a b c again =
    subst (λ (ms : List Member). members_of rules.horizon (crew_text ms) (past_text rules ms) (coming_text rules ms) ≡ Ok ms) is
    (subst (λ (t : List ℕ). members_of rules.horizon t (past_text rules one) (coming_text rules one) ≡ Ok one) a
    (subst (λ (t : List ℕ). members_of rules.horizon crew t (coming_text rules one) ≡ Ok one) b
    (subst (λ (t : List ℕ). members_of rules.horizon crew history t ≡ Ok one) c again)))
