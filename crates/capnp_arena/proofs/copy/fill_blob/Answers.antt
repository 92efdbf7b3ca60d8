use Rattle.std.proofs.Common.{arith}
use Rattle.capnp_arena.proofs.Copying.{added_kept, pointer_spared}
use Rattle.capnp_arena.proofs.copy.fill_blob.Goals as goal

pub returns-clause-kept : goal.returns-clause-kept
returns-clause-kept c = pointer_spared c.args.at _ _ _ _ (omega (arith, c.requires.inside)) c.put_word.ensures.put (added_kept c.append_bytes.result _ _ _ c.append_bytes.ensures.longer c.append_bytes.ensures.refused)
