use Rattle.std.proofs.Common.{◌≡◌, ◌∙◌, ap, List, ℕ}
use Rattle.std.specs.List.{list_any}
use Rattle.std.specs.Str.{bytes_eq}
use Rattle.duty_calendar.specs.declared.member.Member.{Member}
use Rattle.crew_files.specs.Crew.{is_named}
use Rattle.crew_files.proofs.Names.{any-map}
use Rattle.crew_files.proofs.crew.Crew.is_named.Goals as goal

pub returns : goal.returns
returns c =
    let seen : c.self.inside.members.items ≡ c.args.self.now = cc in
    record { value = c.contains.ensures ∙ ap (λ (names : List (List ℕ)). list_any (bytes_eq c.args.name.now) names) c.self.invariant ∙ any-map (bytes_eq c.args.name.now) (λ (m : Member). m.name) c.self.inside.members.items ∙ ap (λ (ms : List Member). is_named c.args.name.now ms) seen }
