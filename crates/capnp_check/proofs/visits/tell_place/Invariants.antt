use Rattle.std.proofs.Common.{◌≡◌, ◌++◌, drop, string_bytes}
use Rattle.capnp_schema.specs.Schema.{Schemas}
use Rattle.capnp_check.specs.Steps.Frames.{AreOpenIn}
use Rattle.capnp_check.proofs.FramesTold.{steps_of, words_of}
use Rattle.capnp_check.proofs.visits.tell_place.Given as goal

abbrev pub invariant-loop-index : goal.invariant-loop-index
invariant-loop-index l = record {
  path : l.path.items ++ steps_of (drop l.index l.frames.items) ≡ steps_of l.frames.items;
  words : (set : Schemas) → AreOpenIn set l.frames.items → string_bytes l.words ++ words_of set (drop l.index l.frames.items) ≡ words_of set l.frames.items;
}
