use Rattle.std.proofs.Common.{◌≡◌, sym, ◌∙◌, Some, None}
use Rattle.simulation.proofs.Words.{is_text, refused, accepted, alone, not_alone}
use Rattle.simulation.proofs.command.split_line.Goals as goal

pub returns-in_err-text-clause-read : goal.returns-in_err-text-clause-read
returns-in_err-text-clause-read c = λ word a whole small e.
    absurd (refused c.args.line.now c.from_utf8.result _ _ c.from_utf8.ensures.cases (sym c.ok.ensures.value ∙ c.in_err-text.was) (rw e (is_text word a whole small)))

pub returns-in_err-arguments_of-in-Some-clause-read :
    goal.returns-in_err-arguments_of-in-Some-clause-read
returns-in_err-arguments_of-in-Some-clause-read c = λ word a whole small e.
    let text = accepted c.args.line.now c.in_ok-text.text c.from_utf8.result _ c.from_utf8.ensures.cases (sym c.ok.ensures.value ∙ c.in_ok-text.was) in
    let parts = not_alone c.in_ok-text.text.now word a (c.in-Some.word, c.in-Some.numbers) whole c.in-Some.ensures.cases (text ∙ e) in
    let read : c.arguments_of.result ≡ Some a = c.arguments_of.ensures.read a small parts.1 in
    let was : c.arguments_of.result ≡ None = c.in_err-arguments_of-in-Some.was in
    absurd cc

pub returns-in-None-clause-read : goal.returns-in-None-clause-read
returns-in-None-clause-read c = λ word a whole small e.
    let text = accepted c.args.line.now c.in_ok-text.text c.from_utf8.result _ c.from_utf8.ensures.cases (sym c.ok.ensures.value ∙ c.in_ok-text.was) in
    alone c.in_ok-text.text.now word a whole c.in-None.ensures.cases (text ∙ e)

pub returns-in_ok-arguments_of-in-Some-clause-read :
    goal.returns-in_ok-arguments_of-in-Some-clause-read
returns-in_ok-arguments_of-in-Some-clause-read c = λ word a whole small e.
    let text = accepted c.args.line.now c.in_ok-text.text c.from_utf8.result _ c.from_utf8.ensures.cases (sym c.ok.ensures.value ∙ c.in_ok-text.was) in
    let parts = not_alone c.in_ok-text.text.now word a (c.in-Some.word, c.in-Some.numbers) whole c.in-Some.ensures.cases (text ∙ e) in
    let read : c.arguments_of.result ≡ Some a = c.arguments_of.ensures.read a small parts.1 in
    let was : c.arguments_of.result ≡ Some c.in_ok-arguments_of-in-Some.field-0 = c.in_ok-arguments_of-in-Some.was in
    (parts.0, cc)
