use Rattle.std.proofs.Common.{◌∙◌, ◌++◌, ◌∷◌, [], List, ℕ, ap, flat_map}
use Rattle.std.proofs.lemmas.Result.{on_ok_weaker}
use Rattle.field_text.specs.Spelling.{minutes_text, kind_text}
use Rattle.crew_files.specs.Texts.{times_fields, flights_text}
use Rattle.crew_files.proofs.Puts.{line-split}
use Rattle.crew_files.proofs.writing.put_event.Goals as goal

pub returns : goal.returns
returns c = record {
  whole = on_ok_weaker c.put_end.result
      (λ h. h ∙ ap (λ (t : List ℕ). t ++ (flat_map (λ (g : List ℕ). 44 ∷ g) (flights_text c.args.horizon.now c.args.event.now.flights ∷ minutes_text c.args.event.now.credit ∷ []) ++ 10 ∷ [])) c.in_ok-put_begin.ensures.whole
      ∙ line-split c.args.out.now c.args.name.now (kind_text c.args.event.now.kind ∷ times_fields c.args.horizon.now c.args.event.now) (flights_text c.args.horizon.now c.args.event.now.flights ∷ minutes_text c.args.event.now.credit ∷ []))
      c.put_end.ensures.whole;
}
