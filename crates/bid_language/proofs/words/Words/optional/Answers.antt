use Rattle.bid_language.proofs.WordSteps.{optional-none, optional-some}
use Rattle.bid_language.proofs.words.Words.optional.Goals as goal

pub returns-in_default : goal.returns-in_default
returns-in_default c = record { reads = optional-none c.self.inside.line.now c.self.inside.tokens.now c.args.self.now c.self.view_is c.in_default.ensures.cases }

pub returns : goal.returns
returns c = record { reads = optional-some c.self.inside.line.now c.self.inside.tokens.now c.in-Some.rest.now c.in-Some.token.now c.args.self.now c.self.view_is c.in-Some.ensures.cases.0 }
