-- The three files, one after another.
use Rattle.std.proofs.Common.{◌≡◌, ◌≢◌, ℕ, List, [], ◌∷◌, length, Ok, Err, refl, sym, ap, subst, ◌∙◌, arith}
use Rattle.duty_calendar.specs.declared.horizon.Horizon.{Horizon}
use Rattle.duty_calendar.specs.declared.member.Member.{Member}
use Rattle.field_text.specs.declared.file_fault.FileCode.TheVariants as code
use Rattle.field_text.specs.declared.file_fault.FileFault.{FileFault}
use Rattle.field_text.specs.declared.file_fault.FileName.TheVariants as name
use Rattle.field_text.specs.Rows.{Fails}
use Rattle.field_text.specs.Steps.{◌>>=◌}
use Rattle.crew_files.specs.declared.part.Part.TheVariants.{History, Fixed}
use Rattle.crew_files.specs.Files.{crew_file, event_file, members_of, some_members, Reaches}
use Rattle.crew_files.proofs.RowsFrom.{fails-on}

module _ (h : Horizon) (crew history fixed : List ℕ) where
  pub crew-fails : (s : List Member) (e : FileFault) → s ≡ [] → Fails e.code e (crew_file crew s) → Fails e.code e (members_of h crew history fixed)
  unfolding members_of
  crew-fails s e z f = fails-on e.code e (crew_file crew []) (λ (named : List Member). event_file h History history named >>= (λ (past : List Member). event_file h Fixed fixed past >>= some_members)) (subst (λ (s : List Member). Fails e.code e (crew_file crew s)) z f)

  pub reach-crew : (e : FileFault) → e.file ≡ name.Crew → Reaches h crew history e.file
  reach-crew e f = rw f tt

  module _ (s named : List Member) (z : s ≡ []) (a : crew_file crew s ≡ Ok named) where
    named-first : crew_file crew [] ≡ Ok named
    named-first = ap (λ (s : List Member). crew_file crew s) (sym z) ∙ a

    pub history-fails : (e : FileFault) → Fails e.code e (event_file h History history named) → Fails e.code e (members_of h crew history fixed)
    unfolding members_of
    history-fails e f = rw named-first (fails-on e.code e (event_file h History history named) (λ (past : List Member). event_file h Fixed fixed past >>= some_members) f)

    pub reach-history : (e : FileFault) → e.file ≡ name.History → Reaches h crew history e.file
    reach-history e f = rw (f, named-first) refl

    module _ (past : List Member) (b : event_file h History history named ≡ Ok past) where
      pub fixed-fails : (e : FileFault) → Fails e.code e (event_file h Fixed fixed past) → Fails e.code e (members_of h crew history fixed)
      unfolding members_of
      fixed-fails e f = rw (named-first, b) (fails-on e.code e (event_file h Fixed fixed past) some_members f)

      pub reach-fixed : (e : FileFault) → e.file ≡ name.Fixed → Reaches h crew history e.file
      reach-fixed e f = rw (f, named-first, b) refl

      pub no-member : (all : List Member) → event_file h Fixed fixed past ≡ Ok all → length all ≡ 0 → members_of h crew history fixed ≡ Err (record { file = name.Crew; row = 1; code = code.Empty })
      unfolding members_of
      no-member [] c l = rw (named-first, b, c) refl
      no-member (m ∷ ms) c l = absurd (omega arith)

      pub all-members : (all : List Member) → event_file h Fixed fixed past ≡ Ok all → length all ≢ 0 → members_of h crew history fixed ≡ Ok all
      unfolding members_of
      all-members [] c l = absurd (l refl)
      all-members (m ∷ ms) c l = rw (named-first, b, c) refl
