use Rattle.std.proofs.Common.{◌≡◌, ◌∙◌, ◌++◌, ℕ, List, length, true, ap, subst, arith, w16, FitsSigned}
use Rattle.std.specs.Prelude.{decimal}
use Rattle.std.specs.Fmt.{signed_decimal}
use Rattle.std.proofs.lemmas.Int.{to_z-of_z}
use Rattle.std.proofs.lemmas.Result.{on_ok_weaker, on_err_weaker}
use Rattle.jiff_core.proofs.SignedLemmas.{signed_arith}
use Rattle.field_text.specs.Spelling.{HasPartly}
use Rattle.duty_calendar.specs.Forms.{is_station_code}
use Rattle.rules_file.specs.Rules.{values}
use Rattle.rules_file.proofs.Again.{rules-again, pieces-are, station-of}
use Rattle.rules_file.proofs.writing.put_rules.Goals as goal

pub returns-clause-again : goal.returns-clause-again
returns-clause-again c = λ h.
    let long : length c.bytes-base.result ≡ 3 = omega arith in
    let base : is_station_code c.args.rules.now.base ≡ true = subst (λ (t : List ℕ). is_station_code t ≡ true) c.bytes-base.ensures.value (station-of c.bytes-base.result long c.bytes-base.ensures.form) in
    rules-again (values c.args.rules.now) (record {
      base = base;
      seat = h.seat;
      year = c.args.rules.now.horizon.year_in;
      month = c.args.rules.now.horizon.month_in;
      offset = c.args.rules.now.horizon.offset_in;
      days_off = h.days_off;
    })

pub returns-clause-whole : goal.returns-clause-whole
returns-clause-whole c =
    let year : FitsSigned w16 c.year.result = omega (arith, signed_arith, c.year.ensures.given, c.args.rules.now.horizon.year_in.0, c.args.rules.now.horizon.year_in.1) in
    let offset : FitsSigned w16 c.offset.result = omega (arith, signed_arith, c.offset.ensures.given, c.args.rules.now.horizon.offset_in.0, c.args.rules.now.horizon.offset_in.1) in
    let text = pieces-are c.as_slice.result.now c.as_slice-2.result.now c.as_slice-3.result.now c.bytes.result.now c.as_slice-4.result.now c.as_bytes.result.now c.as_slice-5.result.now c.as_bytes-2.result.now
    c.as_slice-6.result.now c.as_bytes-3.result.now c.as_slice-7.result.now c.as_bytes-4.result.now c.as_slice-8.result.now
    c.args.rules.now.base c.args.rules.now.seat c.args.rules.now.horizon.year c.args.rules.now.horizon.offset c.args.rules.now.horizon.month c.args.rules.now.days_off
    c.as_slice.ensures (c.as_slice-2.ensures ∙ c.bytes-base.ensures.value) c.as_slice-3.ensures c.bytes.ensures.value c.as_slice-4.ensures
    (c.as_bytes.ensures.value ∙ c.format.ensures.text ∙ ap signed_decimal (to_z-of_z w16 c.year.result year ∙ c.year.ensures.given)) c.as_slice-5.ensures
    (c.as_bytes-2.ensures.value ∙ c.format-2.ensures.text ∙ ap decimal c.month.ensures.given) c.as_slice-6.ensures
    (c.as_bytes-3.ensures.value ∙ c.format-3.ensures.text ∙ ap signed_decimal (to_z-of_z w16 c.offset.result offset ∙ c.offset.ensures.given)) c.as_slice-7.ensures
    (c.as_bytes-4.ensures.value ∙ c.format-4.ensures.text) c.as_slice-8.ensures in
    on_ok_weaker c.put_all.result (λ h. h ∙ ap (λ (t : List ℕ). c.args.out.now ++ t) text) c.put_all.ensures.whole

pub returns-clause-partly : goal.returns-clause-partly
returns-clause-partly c =
    let year : FitsSigned w16 c.year.result = omega (arith, signed_arith, c.year.ensures.given, c.args.rules.now.horizon.year_in.0, c.args.rules.now.horizon.year_in.1) in
    let offset : FitsSigned w16 c.offset.result = omega (arith, signed_arith, c.offset.ensures.given, c.args.rules.now.horizon.offset_in.0, c.args.rules.now.horizon.offset_in.1) in
    let text = pieces-are c.as_slice.result.now c.as_slice-2.result.now c.as_slice-3.result.now c.bytes.result.now c.as_slice-4.result.now c.as_bytes.result.now c.as_slice-5.result.now c.as_bytes-2.result.now
    c.as_slice-6.result.now c.as_bytes-3.result.now c.as_slice-7.result.now c.as_bytes-4.result.now c.as_slice-8.result.now
    c.args.rules.now.base c.args.rules.now.seat c.args.rules.now.horizon.year c.args.rules.now.horizon.offset c.args.rules.now.horizon.month c.args.rules.now.days_off
    c.as_slice.ensures (c.as_slice-2.ensures ∙ c.bytes-base.ensures.value) c.as_slice-3.ensures c.bytes.ensures.value c.as_slice-4.ensures
    (c.as_bytes.ensures.value ∙ c.format.ensures.text ∙ ap signed_decimal (to_z-of_z w16 c.year.result year ∙ c.year.ensures.given)) c.as_slice-5.ensures
    (c.as_bytes-2.ensures.value ∙ c.format-2.ensures.text ∙ ap decimal c.month.ensures.given) c.as_slice-6.ensures
    (c.as_bytes-3.ensures.value ∙ c.format-3.ensures.text ∙ ap signed_decimal (to_z-of_z w16 c.offset.result offset ∙ c.offset.ensures.given)) c.as_slice-7.ensures
    (c.as_bytes-4.ensures.value ∙ c.format-4.ensures.text) c.as_slice-8.ensures in
    on_err_weaker c.put_all.result (λ h. subst (λ (t : List ℕ). HasPartly c.args.out.now t c.put_all.new.out) text h) c.put_all.ensures.partly
