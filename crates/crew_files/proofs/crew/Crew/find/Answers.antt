use Rattle.std.proofs.Common.{◌≡◌, ◌∙◌, ap, sym, List, ℕ, position, false, is_some, Option, Some, None, refl}
use Rattle.std.specs.Prelude.{IfNone}
use Rattle.std.specs.List.{list_any}
use Rattle.std.specs.Str.{bytes_eq}
use Rattle.duty_calendar.specs.declared.member.Member.{Member}
use Rattle.crew_files.specs.Crew.{has_name, is_named}
use Rattle.crew_files.proofs.Names.{any-map, position-map}
use Rattle.crew_files.proofs.crew.Crew.find.Goals as goal

if-none : (r : Option ℕ) (P : Type 0) → (is_some r ≡ false → P) → IfNone r P
if-none None P h = h refl
if-none (Some n) P h = tt

pub returns-clause-value : goal.returns-clause-value
returns-clause-value c =
    let seen : c.self.inside.members.items ≡ c.args.self.now = cc in
    c.get_index_of.ensures.index ∙ ap (λ (names : List (List ℕ)). position (bytes_eq c.args.name.now) names) c.self.invariant ∙ position-map (bytes_eq c.args.name.now) (λ (m : Member). m.name) c.self.inside.members.items
    ∙ ap (λ (ms : List Member). position (has_name c.args.name.now) ms) seen

pub returns-clause-none : goal.returns-clause-none
returns-clause-none c =
    let seen : c.self.inside.members.items ≡ c.args.self.now = cc in
    if-none c.get_index_of.result (is_named c.args.name.now c.args.self.now ≡ false) (λ n. sym (ap (λ (names : List (List ℕ)). list_any (bytes_eq c.args.name.now) names) c.self.invariant ∙ any-map (bytes_eq c.args.name.now) (λ (m : Member). m.name) c.self.inside.members.items ∙ ap (λ (ms : List Member). is_named c.args.name.now ms) seen) ∙ sym c.get_index_of.ensures.found ∙ n)
