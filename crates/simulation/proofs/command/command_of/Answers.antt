use Rattle.std.proofs.Common.{◌∙◌, ap}
use Rattle.simulation.specs.Grammar.{word_of, listed}
use Rattle.simulation.proofs.Words.{is_word, arguments_for}
use Rattle.simulation.proofs.command.command_of.Goals as goal

pub returns-in_err-word-clause-read : goal.returns-in_err-word-clause-read
returns-in_err-word-clause-read c = λ command small e.
    let a = arguments_for command in
    absurd (c.in_err-word.ensures.read (word_of command) a.0 (is_word command) (rw a.1 small) (rw a.1 e))

pub returns-clause-read : goal.returns-clause-read
returns-clause-read c = λ command small e.
    let a = arguments_for command in
    let parts = c.in_ok-word.ensures.read (word_of command) a.0 (is_word command) (rw a.1 small) (rw a.1 e) in
    c.command_from.ensures.read command (parts.0, ap listed parts.1 ∙ a.1)
