use Rattle.bid_language.proofs.WordSteps.{finished-none, finished-some}
use Rattle.bid_language.proofs.words.Words.finish.Goals as goal

pub returns-in-Some : goal.returns-in-Some
returns-in-Some c = record { reads = finished-some c.self.inside.line.now c.self.inside.tokens.now _ c.in-Some.token.now c.args.self.now c.self.view_is c.in-Some.ensures.cases.0 }

pub returns : goal.returns
returns c = record { reads = finished-none c.self.inside.line.now c.self.inside.tokens.now c.args.self.now c.self.view_is c.in_default.ensures.cases }
