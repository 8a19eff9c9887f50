-- The members of a crew, one by one.
use Rattle.std.proofs.Common.{◌≡◌, false, Result, Ok, Err, ℕ, ◌+◌, ◌<◌, List, [], ◌∷◌, ◌++◌, length, get_or, take, sym, subst, ◌∙◌, arith, All}
use Rattle.std.specs.Prelude.{OnOk, is_err}
use Rattle.std.proofs.lemmas.List.Elements.{AllZip-get_or, length_all_zip, all_zip_more, All-push}
use Rattle.duty_calendar.specs.Checks.{IsMember, AreMembers}
use Rattle.duty_calendar.specs.declared.horizon.Horizon.{Horizon}
use Rattle.duty_calendar.specs.declared.member.Member.{Member}
use Rattle.roster_model.specs.declared.problem.Problem.{Problem}
use Rattle.next_month.specs.Heirs.{IsHeir, AreHeirs}

-- what holds where a call succeeded
pub from_ok : {A B : Type 0} (r : Result A B) (P : Type 0) → is_err r ≡ false → OnOk r P → P
from_ok (Ok x) P good h = h
from_ok (Err e) P good h = absurd cc

-- one member more
pub heirs_more : (problem : Problem) (roster : List (List ℕ)) (d : ℕ) (crew : List Member) (k : ℕ) (person heir : Member) (before now : List Member) → k < length crew → person ≡ get_or crew k person
    → AreHeirs problem roster d (take k crew) before → IsHeir problem roster d person heir → now ≡ before ++ heir ∷ [] → AreHeirs problem roster d (take (k + 1) crew) now
heirs_more problem roster d crew k person heir before now inside is was one more =
    subst (λ (es : List Member). AreHeirs problem roster d (take (k + 1) crew) es) (sym more) (all_zip_more (IsHeir problem roster d) crew before k person heir inside is was one)

pub each_more : (next : Horizon) (crew : List Member) (k : ℕ) (person heir : Member) (before now : List Member) → k < length crew → person ≡ get_or crew k person → All (IsMember next) crew
    → All (IsMember next) before → (IsMember next person → IsMember next heir) → now ≡ before ++ heir ∷ [] → All (IsMember next) now
each_more next crew k person heir before now inside is all was one more =
    subst (λ (es : List Member). All (IsMember next) es) (sym more)
    (All-push (IsMember next) before heir was (one (subst (λ (m : Member). IsMember next m) (sym is) (all k person inside))))

pub heirs_valid : (problem : Problem) (roster : List (List ℕ)) (d : ℕ) (crew heirs : List Member) → AreHeirs problem roster d crew heirs
    → (next : Horizon) → AreMembers next crew → All (IsMember next) heirs → AreMembers next heirs
heirs_valid problem roster d crew heirs zip next form each =
    let same : length crew ≡ length heirs = length_all_zip (IsHeir problem roster d) crew heirs zip in
    let some = form.some in
    let few = form.few in
    record {
      some = omega (arith, some, same);
      few = omega (arith, few, same);
      each = each;
      names = λ i j m lt inside. λ equal.
          let a = AllZip-get_or (IsHeir problem roster d) crew heirs i m m zip (omega (arith, lt, inside, same)) in
          let b = AllZip-get_or (IsHeir problem roster d) crew heirs j m m zip (omega (arith, inside, same)) in
          form.names i j m lt (omega (arith, inside, same)) (sym a.name ∙ equal ∙ b.name);
    }
