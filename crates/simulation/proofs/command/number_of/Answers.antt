use Rattle.std.proofs.Common.{sym, ◌≡◌, ◌∙◌, true}
use Rattle.simulation.specs.Grammar.{IsPlain}
use Rattle.simulation.proofs.Numbers.{plain_decimal, parsed, parses}
use Rattle.simulation.proofs.command.number_of.Goals as goal

pub returns-then-is_plain-clause-found : goal.returns-then-is_plain-clause-found
returns-then-is_plain-clause-found c =
    let plain : IsPlain c.args.text.now = rw (sym c.as_bytes.ensures.value) (c.is_plain.ensures.0 c.if-is_plain.true) in
    rw c.ok.ensures.value (parsed c.args.text.now c.parse.result c.parse.ensures.value.0 plain)

pub returns-then-is_plain-clause-read : goal.returns-then-is_plain-clause-read
returns-then-is_plain-clause-read c = λ n small e. c.ok.ensures.value ∙ parses c.args.text.now c.parse.result c.parse.ensures.value.0 n small e

pub returns-else-is_plain-clause-read : goal.returns-else-is_plain-clause-read
returns-else-is_plain-clause-read c = λ n small e. let plain : c.is_plain.result ≡ true = c.is_plain.ensures.1 (rw c.as_bytes.ensures.value (plain_decimal n c.args.text.now small e)) in absurd cc
