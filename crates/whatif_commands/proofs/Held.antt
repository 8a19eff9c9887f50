-- What reads handed in, as files that hold it.
use Rattle.std.proofs.Common.{◌≡◌, ℕ, ◌≤◌, Bool, true, false, cond, ltb, List, ◌++◌, length, Some, Result, Ok, Err, refl, sym, ap, subst, ◌∙◌, nat_cmp, arith}
use Rattle.std.proofs.lemmas.Bool.Decides.{nat_tests}
use Rattle.std.proofs.lemmas.Cmp.{nat_list_cmp_total}
use Rattle.std.specs.Cmp.Lexicographic.{slice_cmp}
use Rattle.std.specs.FinMap.{find, get-from_entries}
use Rattle.shelf.specs.Files.{file}
use Rattle.shelf.specs.Logs.{Entries, holding}
use Rattle.month_files.specs.declared.file.File.{File}
use Rattle.month_files.specs.declared.file.File.TheVariants.{Rules, Pairings, Duties, Legs, Crew, History, Fixed, Bids}
use Rattle.month_files.specs.declared.unread.Unread.{Unread}
use Rattle.month_files.specs.declared.unread.Unread.TheVariants as unread
use Rattle.month_files.specs.FileNames.{name_of, limit_of}
use Rattle.month_files.specs.Handing.{input_texts}
use Rattle.month_files.specs.Reading.{◌>>=◌, Inputs, AreShort, within, text_in, texts_in}

-- ---- one text

within_limit : (f : File) (bytes : List ℕ) → length bytes ≤ limit_of f → within f (Some bytes) ≡ Ok bytes
within_limit f bytes le = by (ltb (limit_of f) (length bytes)) (not_over (limit_of f) (length bytes) le)
  where
    not_over : (limit n : ℕ) → n ≤ limit → ltb limit n ≡ false
    not_over limit n le = grind (arith, nat_tests)

    by : (b : Bool) → b ≡ false → cond b (Err (unread.TooLong f)) (Ok bytes) ≡ Ok bytes
    by true e = absurd cc
    by false e = refl

pub held : (texts : Entries) (f : File) (bytes : List ℕ) → find (slice_cmp nat_cmp) (name_of f) texts ≡ Some bytes → length bytes ≤ limit_of f → text_in (holding texts) f ≡ Ok bytes
held texts f bytes e le =
    let found : file (holding texts) (name_of f) ≡ Some bytes = get-from_entries nat_list_cmp_total _ _ ∙ e in
    ap (within f) found ∙ within_limit f bytes le

-- ---- texts that are read one after the other

pub then_ok : {A B : Type 0} (r : Result A Unread) (f : A → Result B Unread) (x : A) (y : Result B Unread) → r ≡ Ok x → f x ≡ y → (r >>= f) ≡ y
then_ok r f x y e h = subst (λ q. (q >>= f) ≡ y) (sym e) h

-- the eight inputs, whatever is read behind them
module _ (inputs : Inputs) (rest : Entries) (short : AreShort inputs) where
  pub inputs_held : texts_in (holding (input_texts inputs ++ rest)) ≡ Ok inputs
  unfolding texts_in
  inputs_held =
      then_ok _ _ inputs.rules _ (held (input_texts inputs ++ rest) Rules inputs.rules refl short.rules)
      (then_ok _ _ inputs.pairings _ (held (input_texts inputs ++ rest) Pairings inputs.pairings refl short.pairings)
      (then_ok _ _ inputs.duties _ (held (input_texts inputs ++ rest) Duties inputs.duties refl short.duties)
      (then_ok _ _ inputs.legs _ (held (input_texts inputs ++ rest) Legs inputs.legs refl short.legs)
      (then_ok _ _ inputs.crew _ (held (input_texts inputs ++ rest) Crew inputs.crew refl short.crew)
      (then_ok _ _ inputs.history _ (held (input_texts inputs ++ rest) History inputs.history refl short.history)
      (then_ok _ _ inputs.fixed _ (held (input_texts inputs ++ rest) Fixed inputs.fixed refl short.fixed)
      (then_ok _ _ inputs.bids _ (held (input_texts inputs ++ rest) Bids inputs.bids refl short.bids) refl)))))))
