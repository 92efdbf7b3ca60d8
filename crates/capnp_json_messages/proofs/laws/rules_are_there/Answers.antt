-- The floats are those that words have; the set and what is said of unknown names are given.
use Rattle.std.proofs.Common.{refl}
use Rattle.capnp_json_messages.proofs.laws.rules_are_there.Goals as goal

pub returns : goal.returns
returns c = λ set strict. let floats = c.words_have_floats.ensures in
    (record { set = set; floats = floats.0; strict = strict }, record { of_set = refl; is_strict = refl; floats = floats.1 })
