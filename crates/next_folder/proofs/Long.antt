-- What stands against the files of members, as they would stand.
use Rattle.std.proofs.Common.{◌≡◌, ℕ, ◌<◌, ◌≤◌, inr, Bool, true, false, cond, List, [], ◌∷◌, length, Option, Some, None, Ok, Err, refl, sym, ap, subst, ◌∙◌, arith}
use Rattle.std.specs.Prelude.{MatchOption, find, nat_lt, unwrap_or}
use Rattle.std.specs.Option.{option_map}
use Rattle.std.proofs.lemmas.Bool.Decides.{nat_tests}
use Rattle.crew_files.specs.Files.{members_of}
use Rattle.crew_files.specs.Texts.{crew_text}
use Rattle.duty_calendar.specs.declared.member.Member.{Member}
use Rattle.duty_calendar.specs.declared.member.Rules.{Rules as MonthRules}
use Rattle.field_text.specs.Rows.{told_by}
use Rattle.field_text.specs.declared.file_fault.FileFault.{FileFault}
use Rattle.month_files.specs.FileNames.{limit_of}
use Rattle.month_files.specs.declared.file.File.{File}
use Rattle.month_files.specs.declared.file.File.TheVariants.{Crew, History, Fixed}
use Rattle.month_files.specs.declared.writing.Draft.{Draft}
use Rattle.roster_model.specs.declared.problem.Problem.{Problem}
use Rattle.next_folder.specs.declared.barrier.Barrier.TheVariants as bar
use Rattle.next_folder.specs.Barred.{AreDue, Bars, first_long, member_files}
use Rattle.next_folder.specs.Ends.{member_bar}
use Rattle.next_folder.specs.Rolled.{coming_text, past_text}
use Rattle.next_folder.specs.Texts.{Ours, Theirs}
use Rattle.next_folder.proofs.Bars.{bars_members}

is_over : (limit n : ℕ) → limit < n → nat_lt limit n ≡ true
is_over limit n h = grind (arith, nat_tests)

is_under : (limit n : ℕ) → n ≤ limit → nat_lt limit n ≡ false
is_under limit n h = grind (arith, nat_tests)

abbrev files : List ℕ → List ℕ → List ℕ → List Draft
files a b c = record { file = Crew; bytes = a } ∷ record { file = History; bytes = b } ∷ record { file = Fixed; bytes = c } ∷ []

first_over : (f : File) (bytes : List ℕ) (rest : List Draft) → limit_of f < length bytes → first_long (record { file = f; bytes = bytes } ∷ rest) ≡ Some f
unfolding first_long
first_over f bytes rest h =
    ap (λ (t : Bool). option_map (λ (d : Draft). d.file) (cond t (Some (record { file = f; bytes = bytes })) (find (λ (d : Draft). nat_lt (limit_of d.file) (length d.bytes)) rest))) (is_over (limit_of f) (length bytes) h)

first_under : (f : File) (bytes : List ℕ) (rest : List Draft) → length bytes ≤ limit_of f → first_long (record { file = f; bytes = bytes } ∷ rest) ≡ first_long rest
unfolding first_long
first_under f bytes rest h =
    ap (λ (t : Bool). option_map (λ (d : Draft). d.file) (cond t (Some (record { file = f; bytes = bytes })) (find (λ (d : Draft). nat_lt (limit_of d.file) (length d.bytes)) rest))) (is_under (limit_of f) (length bytes) h)

first_none : first_long [] ≡ None
unfolding first_long
first_none = refl

module _ (ours : Ours) (theirs : Theirs) (force : Bool) (problem : Problem) (roster : List (List ℕ)) (rules : MonthRules) (members : List Member) (due : AreDue ours theirs force problem roster rules members)
    (crew history fixed draft_crew draft_fixed : List ℕ) (is_crew : crew ≡ unwrap_or theirs.crew draft_crew) (is_draft : draft_crew ≡ crew_text members) (is_history : history ≡ past_text rules members)
    (is_fixed : fixed ≡ unwrap_or theirs.fixed draft_fixed) (is_coming : draft_fixed ≡ coming_text rules members) where
  the_crew : crew ≡ unwrap_or theirs.crew (crew_text members)
  the_crew = is_crew ∙ ap (λ (t : List ℕ). unwrap_or theirs.crew t) is_draft

  the_fixed : fixed ≡ unwrap_or theirs.fixed (coming_text rules members)
  the_fixed = is_fixed ∙ ap (λ (t : List ℕ). unwrap_or theirs.fixed t) is_coming

  the_files : (P : List Draft → Type 0) → P (files crew history fixed) → P (member_files theirs rules members)
  the_files P h =
      subst (λ (a : List ℕ). P (files a (past_text rules members) (unwrap_or theirs.fixed (coming_text rules members)))) the_crew
      (subst (λ (b : List ℕ). P (files crew b (unwrap_or theirs.fixed (coming_text rules members)))) is_history
      (subst (λ (c : List ℕ). P (files crew history c)) the_fixed h))

  too_long : (f : File) → first_long (files crew history fixed) ≡ Some f → Bars ours theirs force (bar.TooLong f)
  too_long f h = record { problem = problem; roster = roster; rules = rules; members = members; due = due; long = the_files (λ (ds : List Draft). first_long ds ≡ Some f) h }

  pub long_crew : limit_of Crew < length crew → Bars ours theirs force (bar.TooLong Crew)
  long_crew h = too_long Crew (first_over Crew crew (record { file = History; bytes = history } ∷ record { file = Fixed; bytes = fixed } ∷ []) h)

  module _ (short_crew : length crew ≤ limit_of Crew) where
    after_crew : first_long (files crew history fixed) ≡ first_long (record { file = History; bytes = history } ∷ record { file = Fixed; bytes = fixed } ∷ [])
    after_crew = first_under Crew crew (record { file = History; bytes = history } ∷ record { file = Fixed; bytes = fixed } ∷ []) short_crew

    pub long_history : limit_of History < length history → Bars ours theirs force (bar.TooLong History)
    long_history h = too_long History (after_crew ∙ first_over History history (record { file = Fixed; bytes = fixed } ∷ []) h)

    module _ (short_history : length history ≤ limit_of History) where
      after_history : first_long (files crew history fixed) ≡ first_long (record { file = Fixed; bytes = fixed } ∷ [])
      after_history = after_crew ∙ first_under History history (record { file = Fixed; bytes = fixed } ∷ []) short_history

      pub long_fixed : limit_of Fixed < length fixed → Bars ours theirs force (bar.TooLong Fixed)
      long_fixed h = too_long Fixed (after_history ∙ first_over Fixed fixed [] h)

      pub bad_members : length fixed ≤ limit_of Fixed → (why : FileFault) → MatchOption (told_by why.code why) (Unit {0}) (λ fault. members_of rules.horizon crew history fixed ≡ Err fault)
          → Bars ours theirs force (member_bar why why.code)
      bad_members short why h =
          bars_members ours theirs force why (members_of rules.horizon crew history fixed) why.code h
          (λ (e : members_of rules.horizon crew history fixed ≡ Err why).
          inr (record {
            problem = problem;
            roster = roster;
            rules = rules;
            members = members;
            due = due;
            short = the_files (λ (ds : List Draft). first_long ds ≡ None) (after_history ∙ first_under Fixed fixed [] short ∙ first_none);
            fails =
                subst (λ (a : List ℕ). members_of rules.horizon a (past_text rules members) (unwrap_or theirs.fixed (coming_text rules members)) ≡ Err why) the_crew
                (subst (λ (b : List ℕ). members_of rules.horizon crew b (unwrap_or theirs.fixed (coming_text rules members)) ≡ Err why) is_history
                (subst (λ (c : List ℕ). members_of rules.horizon crew history c ≡ Err why) the_fixed e));
          }))
