use Rattle.std.proofs.Common.{◌≡◌, ◌++◌, take}
use Rattle.digests.specs.Lines.{escaped}
use Rattle.digests.proofs.lines.push_escaped.Given as goal

abbrev pub invariant-loop-byte : goal.invariant-loop-byte
invariant-loop-byte l = l.line.items ≡ l.initial.line.items ++ escaped (take l.byte-index l.name)
