use Rattle.std.proofs.Common.{arith, ◌*◌, ◌%◌, ◌^◌}
use Rattle.std.proofs.lemmas.Bool.{ltb-true}
use Rattle.capnp_arena.proofs.ZeroWords.{shifted, zeros_behind}
use Rattle.capnp_arena.proofs.in_order.has_zeros_behind.Goals as goal

pub returns : goal.returns
returns c h = zeros_behind c.args.bytes.now c.args.w c.args.over c.requires.within c.requires.inside (omega (arith, ltb-true c.get_inner_word.result (1 * 2 ^ (8 * c.args.over) % 18446744073709551616) h, c.get_inner_word.ensures, shifted c.args.over c.requires.within))
