use Rattle.std.proofs.Common.{arith, refl}
use Rattle.capnp_arena.proofs.Copying.{pointer_spared}
use Rattle.capnp_arena.proofs.copy.fill_null.Goals as goal

pub returns-clause-kept : goal.returns-clause-kept
returns-clause-kept c = pointer_spared c.args.at 0 _ _ _ (omega (arith, c.requires.inside)) c.put_word.ensures.put (record { longer = omega arith; stays = λ k l o. refl })
