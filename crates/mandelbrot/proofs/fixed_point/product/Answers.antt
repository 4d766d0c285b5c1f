use Rattle.std.proofs.Common.{arith}
use Rattle.mandelbrot.proofs.Products.{product_abs, product_fits, wide-narrow}
use Rattle.std.proofs.lemmas.Int.{to_z-of_z}
use Rattle.mandelbrot.proofs.fixed_point.product.Goals as goal

pub overflow_mul-result : goal.overflow_mul-result
overflow_mul-result c = grind (arith, product_fits, wide-narrow, c.from.ensures, c.from-2.ensures, c.ranges.first, c.ranges.second)

pub returns : goal.returns
returns c = grind (arith, product_abs, product_fits, wide-narrow, to_z-of_z, c.from.ensures, c.from-2.ensures, c.ranges.first, c.ranges.second)
