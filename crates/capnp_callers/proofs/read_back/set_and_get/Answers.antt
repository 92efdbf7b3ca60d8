-- What the set left is what is read.
use Rattle.std.proofs.Common.{◌∙◌}
use Rattle.capnp_callers.proofs.SetAndGet.{set_is_got}
use Rattle.capnp_callers.proofs.read_back.set_and_get.Goals as goal

pub returns : goal.returns
returns c =
    set_is_got c.args.field c.args.value _ _ _ _ c.get.result c.sets_are_got.ensures.value
    (record { belongs = c.requires.belongs; slot = c.requires.slot; room = c.requires.ready.room; set = c.in_ok-set.ensures.set })
    (record { schema_same = c.into_reader.ensures.schema ∙ c.in_ok-set.ensures.schema; levels = c.into_reader.ensures.levels; cut = c.into_reader.ensures.cut; value = c.get.ensures.value })
