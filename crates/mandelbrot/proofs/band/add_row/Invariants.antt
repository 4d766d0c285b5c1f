use Rattle.std.proofs.Common.{◌≡◌, ◌+◌, ◌*◌, vec_len}
use Rattle.std.specs.Vec.{vec_capacity}
use Rattle.mandelbrot.proofs.band.add_row.Given as goal

abbrev pub invariant-columns : goal.invariant-columns
invariant-columns l = (vec_len l.bytes ≡ vec_len l.fn.bytes + 3 * l.column) × (vec_capacity l.bytes ≡ vec_capacity l.fn.bytes)
