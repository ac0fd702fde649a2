-- A header has at most 11 bytes, and the pairs behind it are at most 255.
use native.Mathlib.Omega.{arith}
use Rattle.release.proofs.Versions.{end_of, few_pairs, header_near, first_is}
use Rattle.release.proofs.number.Version.first_place.Goals as goal

pub overflow_mul-result : goal.overflow_mul-result
overflow_mul-result c = omega (arith, c.pair_count.ensures, few_pairs c.args.file.now (omega (arith, c.type_inv.file 10)))

pub overflow_add-result : goal.overflow_add-result
overflow_add-result c = omega (arith, c.pair_count.ensures, few_pairs c.args.file.now (omega (arith, c.type_inv.file 10)), c.header_length.ensures, end_of _ _ c.requires, header_near c.args.file.now)

pub returns : goal.returns
returns c = omega (arith, c.pair_count.ensures, c.header_length.ensures, end_of _ _ c.requires, first_is c.args.file.now)
