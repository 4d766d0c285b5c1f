use Rattle.std.proofs.Common.{ap}
use Rattle.simulation.specs.Grammar.{local_word, listed}
use Rattle.simulation.specs.declared.command.Arguments.TheVariants as arguments
use Rattle.simulation.proofs.Words.{is_local}
use Rattle.simulation.proofs.command.local_of.Goals as goal

pub returns-in_err-word-clause-read : goal.returns-in_err-word-clause-read
returns-in_err-word-clause-read c = λ places small e.
    absurd (c.in_err-word.ensures.read local_word (arguments.One places) is_local (small, tt) e)

pub returns-clause-read : goal.returns-clause-read
returns-clause-read c = λ places small e.
    let parts = c.in_ok-word.ensures.read local_word (arguments.One places) is_local (small, tt) e in
    c.places_of.ensures.read places parts.0 (ap listed parts.1)
