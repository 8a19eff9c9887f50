use Rattle.std.proofs.Common.{◌∙◌, ◌+◌, sym, arith, ap, Ok, Err, None, length, ◌≡◌}
use Rattle.field_text.specs.Tokens.{read_tokens}
use Rattle.field_text.proofs.TokenSteps.{tokens-graphic, tokens-blank, tokens-other, tokens-end, andthen_at}
use Rattle.field_text.proofs.TokenLaws.{tokens-within, tokens-ascii}
use Rattle.field_text.proofs.Runs.{tokens-runs, tokens-stop}
use Rattle.field_text.specs.declared.token.TokenFault.TheVariants.{Byte}
use Rattle.field_text.proofs.token.tokens.Goals as goal
use Rattle.field_text.proofs.token.tokens.Goals.{then-is_graphic, else-is_graphic+then-is_blank+in_ok-close}

pub returns-else-is_blank : goal.returns-else-is_blank
returns-else-is_blank c =
    let read : read_tokens c.args.line.now ≡ Err (Byte (c.loop-i.i + 1)) =
    sym c.loop-i.invariant ∙ tokens-other c.loop-i.found c.loop-i.run c.loop-i.i c.args.line.now (omega arith) (sym c.if-is_graphic.ensures.value) (sym c.if-is_blank.ensures.value) in
    record { value = read; runs = tt; fault = tokens-stop c.args.line.now (c.loop-i.i + 1) read; within = tt; ascii = tt }

pub loop-i-preserved : goal.loop-i-preserved
loop-i-preserved c =
    elim c.if-is_graphic.branch [
      | then-is_graphic w ↦
          andthen_at _ _ w.found-is (cc w.unwrap_or.ensures) (sym (tokens-graphic c.loop-i.found c.loop-i.run c.loop-i.i c.args.line.now (omega arith) (sym w.if-is_graphic.ensures.value)) ∙ c.loop-i.invariant)
      | else-is_graphic+then-is_blank+in_ok-close w ↦
          andthen_at _ _ (w.found-is ∙ w.in_ok-close.ensures.ok) w.run-is (sym (tokens-blank c.loop-i.found c.loop-i.run c.loop-i.i c.args.line.now (omega arith) (sym w.if-is_graphic.ensures.value) (sym w.if-is_blank.ensures.value)) ∙ c.loop-i.invariant)
    ]

pub returns : goal.returns
returns c =
    let read : read_tokens c.args.line.now ≡ Ok c.close-2.new.found =
    sym c.loop-i.invariant ∙ tokens-end c.loop-i.found c.loop-i.run c.loop-i.i c.args.line.now (omega arith) ∙ ap Ok (let e : c.loop-i.i ≡ length c.args.line.now = omega arith in cc (c.in_ok-close-2.ensures.ok)) in
    record {
      value = read;
      runs = tokens-runs c.args.line.now c.close-2.new.found read;
      fault = tt;
      within = tokens-within (length c.args.line.now) None 0 c.args.line.now c.close-2.new.found (λ s q. cc) (omega arith) read;
      ascii = tokens-ascii None 0 c.args.line.now c.close-2.new.found read;
    }
