-- Which files of the next month's folder stay.
use Rattle.std.proofs.Common.{◌≡◌, inl, inr, ℕ, zero, suc, Bool, true, false, cond, List, [], ◌∷◌, ◌++◌, length, map, take, Option, Some, None, Result, Ok, Err, refl, sym, ap, subst, ◌∙◌}
use Rattle.std.specs.Prelude.{IfOk, is_some, nat_lt, slice_get}
use Rattle.std.specs.Option.{ForSome}
use Rattle.duty_calendar.specs.declared.member.Member.{Member}
use Rattle.duty_calendar.specs.declared.member.Rules.{Rules as MonthRules}
use Rattle.shelf.specs.Files.{Files, SameButAt, file, told_file, with_file}
use Rattle.shelf.proofs.Others.{same_but_at}
use Rattle.month_files.specs.FileNames.{limit_of, name_of}
use Rattle.month_files.specs.Reading.{◌>>=◌}
use Rattle.month_files.specs.Writes.{IsStop, Leaves, named_bytes, with_files, written}
use Rattle.month_files.specs.declared.file.File.{File}
use Rattle.month_files.specs.declared.file.File.TheVariants.{Rules, Crew, History, Fixed}
use Rattle.month_files.specs.declared.writing.Draft.{Draft}
use Rattle.month_files.specs.declared.writing.Unwritten.{Unwritten}
use Rattle.month_files.specs.declared.unread.Unread.{Unread}
use Rattle.month_files.specs.declared.unread.Unread.TheVariants as unread
use Rattle.shelf.specs.declared.tally.Tally.{Tally}
use Rattle.next_folder.specs.Counts.{IsWritten}
use Rattle.next_folder.specs.Ends.{history_written}
use Rattle.next_folder.specs.Rolled.{HasRolled, next_drafts, unless_there}
use Rattle.next_folder.specs.Spared.{MayAll, MayWrite, Spares}
use Rattle.next_folder.specs.Texts.{Ours, Theirs, if_there, theirs_in, there_in}
use Rattle.next_folder.specs.declared.barrier.Barrier.{Barrier}
use Rattle.next_folder.specs.declared.rolled.RolledOver.{RolledOver}
use Rattle.next_folder.specs.declared.stop.HistoryStop.{HistoryStop}
use Rattle.next_folder.specs.declared.stop.HistoryStop.TheVariants as stop

-- ---- what is written changes no other file

spares_same : (force : Bool) (old new : Option Files) → new ≡ old → Spares force old new
spares_same force old new e = subst (λ (o : Option Files). Spares force old o) (sym e) (record { tells = refl; others = λ name spared. refl })

-- a file that may be written is given something
spares_at : (force : Bool) (old between new : Option Files) (name : List ℕ) → MayWrite force old name → Spares force old between → SameButAt name between new → Spares force old new
spares_at force old between new name may before here = record {
  tells = here.tells ∙ before.tells;
  others = λ other spared. here.others other (λ e. spared (subst (λ (n : List ℕ). MayWrite force old n) (sym e) may)) ∙ before.others other spared;
}

put_at : (old : Option Files) (name bytes : List ℕ) → SameButAt name old (with_file old name bytes)
put_at None name bytes = record { tells = refl; others = λ other e. refl }
put_at (Some files) name bytes = same_but_at {T = Unit {0}} {E = Unit {0}} (Ok tt) files files _ name bytes refl refl tt

spares_all : (force : Bool) (old between : Option Files) (drafts : List Draft) → MayAll force old drafts → Spares force old between → Spares force old (with_files between (map named_bytes drafts))
spares_all force old between [] may h = h
spares_all force old between (d ∷ ds) may h =
    spares_all force old (with_file between (name_of d.file) d.bytes) ds may.1
    (spares_at force old between (with_file between (name_of d.file) d.bytes) (name_of d.file) may.0 h (put_at between (name_of d.file) d.bytes))

may_take : (force : Bool) (old : Option Files) (k : ℕ) (drafts : List Draft) → MayAll force old drafts → MayAll force old (take k drafts)
may_take force old zero drafts h = tt
may_take force old (suc k) [] h = tt
may_take force old (suc k) (d ∷ ds) h = (h.0, may_take force old k ds h.1)

may_get : (force : Bool) (old : Option Files) (k : ℕ) (drafts : List Draft) (d : Draft) → MayAll force old drafts → slice_get drafts k ≡ Some d → MayWrite force old (name_of d.file)
may_get force old k [] d h e = absurd cc
may_get force old zero (x ∷ xs) d h e = let same : x ≡ d = cc in subst (λ (y : Draft). MayWrite force old (name_of y.file)) same h.0
may_get force old (suc k) (x ∷ xs) d h e = may_get force old k xs d h.1 e

module _ (force : Bool) (old new : Option Files) (drafts : List Draft) (may : MayAll force old drafts) where
  spares_written : Leaves old new (written drafts (Ok tt)) → Spares force old new
  spares_written left = subst (λ (o : Option Files). Spares force old o) (sym left) (spares_all force old old drafts may (spares_same force old old refl))

  spares_stopped : (u : Unwritten) → IsStop drafts u → Leaves old new (written drafts (Err u)) → Spares force old new
  spares_stopped u at left =
      spares_at force old (with_files old (map named_bytes (take u.before drafts))) new (name_of u.file)
      (subst (λ (f : File). MayWrite force old (name_of f)) (sym at.its_file) (may_get force old u.before drafts at.draft may at.there))
      (spares_all force old old (take u.before drafts) (may_take force old u.before drafts may) (spares_same force old old refl)) left

pub spares_ended : (force : Bool) (old between new : Option Files) (rolled : RolledOver) (a b : Tally) (r : Result RolledOver HistoryStop) → MayAll force old rolled.drafts → between ≡ old → Leaves between new (history_written r)
    → IsWritten rolled a b r → Spares force old new
spares_ended force old between new rolled a b (Ok made) may same left w =
    spares_written force old new made.drafts (subst (λ (m : RolledOver). MayAll force old m.drafts) (sym w.0) may) (subst (λ (o : Option Files). Leaves o new (written made.drafts (Ok tt))) same left)
spares_ended force old between new rolled a b (Err (stop.Unwritten made u)) may same left w =
    spares_stopped force old new made.drafts (subst (λ (m : RolledOver). MayAll force old m.drafts) (sym w.0) may) u w.1
    (subst (λ (o : Option Files). Leaves o new (written made.drafts (Err u))) same left)
spares_ended force old between new rolled a b (Err (stop.Barred why)) may same left w = absurd w

pub spares_barred : (force : Bool) (old between new : Option Files) → between ≡ old → new ≡ between → Spares force old new
spares_barred force old between new same e = spares_same force old new (e ∙ same)

-- ---- what is written may be

ok_parts : {A B : Type 0} (r : Result A Unread) (f : A → Result B Unread) (y : B) → (r >>= f) ≡ Ok y → (x : A) × (r ≡ Ok x) × (f x ≡ Ok y)
ok_parts (Ok x) f y h = (x, refl, h)
ok_parts (Err why) f y h = absurd cc

none_there : (f : File) (o : Option (List ℕ)) → if_there f o ≡ Ok None → o ≡ None
none_there f None h = refl
none_there f (Some b) h = by_test (nat_lt (limit_of f) (length b)) h
  where
    by_test : (t : Bool) → cond {A = Result (Option (List ℕ)) Unread} t (Err (unread.TooLong f)) (Ok (Some b)) ≡ Ok None → Some b ≡ None
    by_test true e = absurd cc
    by_test false e = absurd cc

-- the files of which nothing was read are not there
record AreMissing (old : Option Files) (theirs : Theirs) : Type 0 where
  rules : theirs.rules ≡ None → told_file old (name_of Rules) ≡ None
  crew : theirs.crew ≡ None → told_file old (name_of Crew) ≡ None
  history : theirs.history ≡ None → told_file old (name_of History) ≡ None
  fixed : theirs.fixed ≡ None → told_file old (name_of Fixed) ≡ None

missing_in : (files : Files) (f : File) (found given : Option (List ℕ)) → there_in files f ≡ Ok found → found ≡ given → given ≡ None → told_file (Some files) (name_of f) ≡ None
missing_in files f found given read is none = none_there f (file files (name_of f)) (read ∙ ap (λ (o : Option (List ℕ)). Ok o) (is ∙ none))

missing : (old : Option Files) (theirs : Theirs) → ForSome old (λ files. theirs_in files ≡ Ok theirs) → AreMissing old theirs
unfolding theirs_in
missing None theirs h = record { rules = λ e. refl; crew = λ e. refl; history = λ e. refl; fixed = λ e. refl }
missing (Some files) theirs h =
    let a = ok_parts (there_in files Rules) (λ (r : Option (List ℕ)). there_in files Crew >>= (λ (c : Option (List ℕ)). there_in files History >>= (λ (p : Option (List ℕ)). there_in files Fixed >>= (λ (f : Option (List ℕ)). Ok (record { rules = r; crew = c; history = p; fixed = f }))))) theirs (h files refl) in
    let b = ok_parts (there_in files Crew) (λ (c : Option (List ℕ)). there_in files History >>= (λ (p : Option (List ℕ)). there_in files Fixed >>= (λ (f : Option (List ℕ)). Ok (record { rules = a.0; crew = c; history = p; fixed = f })))) theirs a.2 in
    let d = ok_parts (there_in files History) (λ (p : Option (List ℕ)). there_in files Fixed >>= (λ (f : Option (List ℕ)). Ok (record { rules = a.0; crew = b.0; history = p; fixed = f }))) theirs b.2 in
    let e = ok_parts (there_in files Fixed) (λ (f : Option (List ℕ)). Ok (record { rules = a.0; crew = b.0; history = d.0; fixed = f })) theirs d.2 in
    let is : record { rules = a.0; crew = b.0; history = d.0; fixed = e.0 } ≡ theirs = cc (e.2) in
    record {
      rules = missing_in files Rules a.0 theirs.rules a.1 (ap (λ (t : Theirs). t.rules) is);
      crew = missing_in files Crew b.0 theirs.crew b.1 (ap (λ (t : Theirs). t.crew) is);
      history = missing_in files History d.0 theirs.history d.1 (ap (λ (t : Theirs). t.history) is);
      fixed = missing_in files Fixed e.0 theirs.fixed e.1 (ap (λ (t : Theirs). t.fixed) is);
    }

none_of : (o : Option (List ℕ)) → is_some o ≡ false → o ≡ None
none_of None e = refl
none_of (Some x) e = absurd cc

module _ (force : Bool) (old : Option Files) where
  may_append : (xs ys : List Draft) → MayAll force old xs → MayAll force old ys → MayAll force old (xs ++ ys)
  may_append [] ys h k = k
  may_append (x ∷ xs) ys h k = (h.0, may_append xs ys h.1 k)

  may_unless : (there : Bool) (f : File) (bytes : List ℕ) → (there ≡ false → MayWrite force old (name_of f)) → MayAll force old (unless_there there f bytes)
  may_unless true f bytes may = tt
  may_unless false f bytes may = (may refl, tt)

  module _ (theirs : Theirs) (gone : AreMissing old theirs) (spared : is_some theirs.history ≡ true → force ≡ true) where
    history_may : MayWrite force old (name_of History)
    history_may = by (is_some theirs.history) refl
      where
        by : (t : Bool) → is_some theirs.history ≡ t → MayWrite force old (name_of History)
        by true e = inl (refl, inr (spared e))
        by false e = inl (refl, inl (gone.history (none_of theirs.history e)))

    drafts_may : (rules : MonthRules) (members : List Member) → MayAll force old (next_drafts theirs rules members)
    unfolding next_drafts
    drafts_may rules members =
        may_append _ _
        (may_append _ _ (may_unless (is_some theirs.rules) Rules _ (λ e. inr (inl refl, gone.rules (none_of theirs.rules e))))
        (may_unless (is_some theirs.crew) Crew _ (λ e. inr (inr (inl refl), gone.crew (none_of theirs.crew e)))))
        (history_may, may_unless (is_some theirs.fixed) Fixed _ (λ e. inr (inr (inr refl), gone.fixed (none_of theirs.fixed e))))

pub plan_may : (force : Bool) (old : Option Files) (ours : Ours) (theirs : Theirs) (r : Result RolledOver Barrier) → ForSome old (λ files. theirs_in files ≡ Ok theirs) → IfOk r (HasRolled ours theirs force)
    → IfOk r (λ made. MayAll force old made.drafts)
plan_may force old ours theirs (Ok made) read h =
    subst (λ (ds : List Draft). MayAll force old ds) (sym h.said.files) (drafts_may force old theirs (missing old theirs read) h.spared made.rules made.members)
plan_may force old ours theirs (Err why) read h = tt
