use Rattle.std.proofs.Common.{◌≡◌, Some, None}
use Rattle.simulation.specs.declared.command.Arguments.TheVariants.{One, Two}
use Rattle.simulation.proofs.Words.{one_number, two_numbers}
use Rattle.simulation.proofs.command.arguments_of.Goals as goal

pub returns-in_err-number_of-in-None-clause-read :
    goal.returns-in_err-number_of-in-None-clause-read
returns-in_err-number_of-in-None-clause-read c = λ a small e.
    let one = one_number c.args.text.now a c.in-None.ensures.cases small e in
    let read : c.number_of.result ≡ Some one.0 = c.number_of.ensures.read one.0 one.1 one.2 in
    let was : c.number_of.result ≡ None = c.in_err-number_of-in-None.was in
    absurd cc

pub returns-in_ok-number_of-in-None-clause-read : goal.returns-in_ok-number_of-in-None-clause-read
returns-in_ok-number_of-in-None-clause-read c = λ a small e.
    let one = one_number c.args.text.now a c.in-None.ensures.cases small e in
    let read : c.number_of.result ≡ Some one.0 = c.number_of.ensures.read one.0 one.1 one.2 in
    let was : c.number_of.result ≡ Some c.in_ok-number_of-in-None.field-0 = c.in_ok-number_of-in-None.was in
    let is : a ≡ One one.0 = one.3 in
    cc

pub returns-in-Some-clause-read : goal.returns-in-Some-clause-read
returns-in-Some-clause-read c = λ a small e.
    let two = two_numbers c.args.text.now a (c.in-Some.first, c.in-Some.second) c.in-Some.ensures.cases small e in
    let read : c.two_arguments.result ≡ Some (Two two.0 two.1) = c.two_arguments.ensures.read two.0 two.1 two.2 two.3 two.4 two.5 in
    let is : a ≡ Two two.0 two.1 = two.6 in
    cc
