-- Reading row by row.
use Rattle.std.proofs.Common.{◌≡◌, ◌≢◌, ℕ, ◌+◌, List, [], ◌∷◌, Result, Ok, Err, refl, sym, ap, subst, ◌∙◌}
use Rattle.field_text.specs.declared.file_fault.FileCode.{FileCode}
use Rattle.field_text.specs.declared.file_fault.FileCode.TheVariants as code
use Rattle.field_text.specs.declared.file_fault.FileFault.{FileFault}
use Rattle.field_text.specs.declared.file_fault.FileName.{FileName}
use Rattle.field_text.specs.Rows.{rows_from, file, Fails, told}
use Rattle.field_text.specs.Gives.{Gives}
use Rattle.pairing_files.specs.Steps.{BeginsWith, LacksHeader, IsHeaderFault}

module _ {S : Type 0} (name : FileName) (row : S → List (List ℕ) → Result S FileCode) (n : ℕ) (s : S) where
  pub rows-end : (rs : List (List (List ℕ))) → rs ≡ [] → rows_from name row n s rs ≡ Ok s
  unfolding rows_from
  rows-end rs e = rw e refl

  pub rows-next : (rs more : List (List (List ℕ))) (r : List (List ℕ)) (t : S) → rs ≡ r ∷ more → row s r ≡ Ok t → rows_from name row n s rs ≡ rows_from name row (n + 1) t more
  unfolding rows_from
  rows-next rs more r t e h = rw (e, h) refl

  pub rows-fault : (rs more : List (List (List ℕ))) (r : List (List ℕ)) (c : FileCode) → rs ≡ r ∷ more → row s r ≡ Err c → rows_from name row n s rs ≡ Err (record { file = name; row = n; code = c })
  unfolding rows_from
  rows-fault rs more r c e h = rw (e, h) refl

module _ {S : Type 0} (name : FileName) (header : List (List ℕ)) (row : S → List (List ℕ) → Result S FileCode) (s : S) where
  pub file-begins : (rs rest : List (List (List ℕ))) → BeginsWith header rs rest → file name header row s rs ≡ rows_from name row 2 s rest
  file-begins [] rest b = absurd b
  file-begins (h ∷ rows) rest b = rw (b.0, b.1) refl

  pub file-lacks : (rs : List (List (List ℕ))) → LacksHeader header rs → file name header row s rs ≡ Err (record { file = name; row = 1; code = code.Header })
  file-lacks [] l = refl
  file-lacks (h ∷ rows) l = rw l refl

-- a fault is none of memory, or memory ran out
pub fails-so : {Y : Type 0} (c : FileCode) (e : FileFault) (read : Result Y FileFault) → (c ≢ code.NoMemory → read ≡ Err e) → Fails c e read
fails-so code.NoMemory e read h = tt
fails-so code.Header e read h = h (λ k. cc)
fails-so code.Utf8 e read h = h (λ k. cc)
fails-so code.Width e read h = h (λ k. cc)
fails-so (code.Field c f) e read h = h (λ k. cc)
fails-so code.Duplicate e read h = h (λ k. cc)
fails-so code.Unknown e read h = h (λ k. cc)
fails-so code.Order e read h = h (λ k. cc)
fails-so code.OutsideMonth e read h = h (λ k. cc)
fails-so code.InnerRest e read h = h (λ k. cc)
fails-so (code.Limit k) e read h = h (λ k. cc)
fails-so code.Empty e read h = h (λ k. cc)

-- and back
pub so-fails : {Y : Type 0} (c : FileCode) (e : FileFault) (read : Result Y FileFault) → Fails c e read → c ≢ code.NoMemory → read ≡ Err e
so-fails code.NoMemory e read h k = absurd (k refl)
so-fails code.Header e read h k = h
so-fails code.Utf8 e read h k = h
so-fails code.Width e read h k = h
so-fails (code.Field c f) e read h k = h
so-fails code.Duplicate e read h k = h
so-fails code.Unknown e read h k = h
so-fails code.Order e read h k = h
so-fails code.OutsideMonth e read h k = h
so-fails code.InnerRest e read h k = h
so-fails (code.Limit n) e read h k = h
so-fails code.Empty e read h k = h

pub fails-same : {Y : Type 0} (c : FileCode) (e : FileFault) (read read' : Result Y FileFault) → read' ≡ read → Fails c e read → Fails c e read'
fails-same c e read read' s f = rw s f

-- a row that fails in a loop
pub row-fails : {S : Type 0} (name : FileName) (row : S → List (List ℕ) → Result S FileCode) (n : ℕ) (s : S) (rs more : List (List (List ℕ))) (r : List (List ℕ)) (c : FileCode) (e : FileFault) (read : Result S FileFault)
    → rows_from name row n s rs ≡ read → rs ≡ r ∷ more → (c ≢ code.NoMemory → row s r ≡ Err c) → e.code ≡ c → (c ≢ code.NoMemory → e ≡ record { file = name; row = n; code = c }) → Fails e.code e read
row-fails name row n s rs more r c e read same split step of_code of_value =
    fails-so e.code e read (λ k. let some : c ≢ code.NoMemory = λ z. k (of_code ∙ z) in
    sym same ∙ rows-fault name row n s rs more r c split (step some) ∙ ap Err (sym (of_value some)))

-- the header stands first, and the rows after it are read
pub gives-begins : {S X : Type 0} (view : X → S) (r : Result X FileFault) (name : FileName) (header : List (List ℕ)) (row : S → List (List ℕ) → Result S FileCode) (s : S) (rs rest : List (List (List ℕ)))
    → BeginsWith header rs rest → Gives told view r (rows_from name row 2 s rest) → Gives told view r (file name header row s rs)
gives-begins {S} view r name header row s rs rest b g =
    let P : Result S FileFault → Type 0 = λ q. Gives told view r q in
    subst P (sym (file-begins name header row s rs rest b)) g

-- the header does not stand first
pub header-fails : {S : Type 0} (name : FileName) (header : List (List ℕ)) (row : S → List (List ℕ) → Result S FileCode) (s : S) (rs : List (List (List ℕ))) (e : FileFault)
    → (e.code ≢ code.NoMemory → IsHeaderFault name header rs e) → Fails e.code e (file name header row s rs)
header-fails name header row s rs e h = fails-so e.code e _ (λ k. file-lacks name header row s rs (h k).lacks ∙ ap Err (sym (h k).fault))
