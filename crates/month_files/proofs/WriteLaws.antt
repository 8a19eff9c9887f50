-- Files that are written one after the other.
use Rattle.std.proofs.Common.{◌≡◌, ℕ, ◌+◌, ◌<◌, List, [], ◌∷◌, ◌++◌, length, take, map, get_or, Option, Some, Ok, Err, refl, sym, ap, subst, ◌∙◌}
use Rattle.std.proofs.lemmas.List.{take_more, map-append}
use Rattle.std.proofs.lemmas.Option.{slice_get_read}
use Rattle.std.specs.List.{slice_get}
use Rattle.std.proofs.Math.Seq.{take-length}
use Rattle.shelf.specs.Files.{Files, SameButAt, with_file}
use Rattle.month_files.specs.FileNames.{name_of}
use Rattle.month_files.specs.declared.writing.Draft.{Draft}
use Rattle.month_files.specs.declared.writing.Unwritten.{Unwritten}
use Rattle.month_files.specs.Writes.{Leaves, IsStop, named_bytes, with_files, written}

with_files_more : (told : Option Files) (xs : List (List ℕ × List ℕ)) (y : List ℕ × List ℕ) → with_files told (xs ++ y ∷ []) ≡ with_file (with_files told xs) y.0 y.1
with_files_more told [] y = refl
with_files_more told (x ∷ xs) y = with_files_more (with_file told x.0 x.1) xs y

module _ (told : Option Files) (drafts : List Draft) (i : ℕ) (d : Draft) (lt : i < length drafts) (is : d ≡ get_or drafts i d) (before : Option Files)
    (held : before ≡ with_files told (map named_bytes (take i drafts))) where
  pub written_more : (after : Option Files) → after ≡ with_file before (name_of d.file) d.bytes → after ≡ with_files told (map named_bytes (take (i + 1) drafts))
  written_more after step =
      let more : take (i + 1) drafts ≡ take i drafts ++ d ∷ [] = take_more drafts i d lt ∙ ap (λ (x : Draft). take i drafts ++ x ∷ []) (sym is) in
      let whole : map named_bytes (take (i + 1) drafts) ≡ map named_bytes (take i drafts) ++ named_bytes d ∷ [] = ap (map named_bytes) more ∙ map-append named_bytes (take i drafts) (d ∷ []) in
      step ∙ ap (λ (o : Option Files). with_file o (name_of d.file) d.bytes) held
      ∙ sym (with_files_more told (map named_bytes (take i drafts)) (named_bytes d)) ∙ ap (with_files told) (sym whole)

  pub stopped : (after : Option Files) (u : Unwritten) → u.before ≡ i → u.file ≡ d.file → SameButAt (name_of d.file) before after → Leaves told after (written drafts (Err u))
  stopped after u at its_file h =
      let due : before ≡ with_files told (map named_bytes (take u.before drafts)) = held ∙ ap (λ (k : ℕ). with_files told (map named_bytes (take k drafts))) (sym at) in
      let named : SameButAt (name_of u.file) before after = subst (λ f. SameButAt (name_of f) before after) (sym its_file) h in
      subst (λ (o : Option Files). SameButAt (name_of u.file) o after) due named

  pub is_stop : (u : Unwritten) → u.before ≡ i → u.file ≡ d.file → IsStop drafts u
  is_stop u at its_file =
      record { draft = d; there = subst (λ (k : ℕ). slice_get drafts k ≡ Some d) (sym at) (slice_get_read drafts (length drafts) i d refl lt is); its_file = its_file }

pub all_written : (told : Option Files) (drafts : List Draft) (n : ℕ) (new : Option Files) → n ≡ length drafts → new ≡ with_files told (map named_bytes (take n drafts)) → Leaves told new (written drafts (Ok tt))
all_written told drafts n new all held = held ∙ ap (λ (k : ℕ). with_files told (map named_bytes (take k drafts))) all ∙ ap (λ (ds : List Draft). with_files told (map named_bytes ds)) (take-length drafts)
