use Rattle.bid_language.proofs.WordSteps.{next-none, next-some}
use Rattle.bid_language.proofs.words.Words.next.Goals as goal

pub returns-in_default : goal.returns-in_default
returns-in_default c = record { reads = next-none c.args.word c.self.inside.line.now c.self.inside.tokens.now c.args.self.now c.self.view_is c.in_default.ensures.cases }

pub returns : goal.returns
returns c = record { reads = next-some c.args.word c.self.inside.line.now c.self.inside.tokens.now c.in-Some.rest.now c.in-Some.token.now c.args.self.now c.self.view_is c.in-Some.ensures.cases.0 }
