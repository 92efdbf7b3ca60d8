use Rattle.std.proofs.Common.{◌≡◌, length}
use Rattle.capnp_json_text.specs.Texts.{after_part, after_value}
use Rattle.capnp_json_text.proofs.Nesting.{finished}
use Rattle.capnp_json_text.proofs.values.skip_value.Given as goal

-- What is left is read as all would be.
abbrev pub invariant-parts : goal.invariant-parts
invariant-parts l = finished l.brackets.items (after_part l.part l.rest) ≡ after_value l.fn.bytes

abbrev pub decreases-parts : goal.decreases-parts
decreases-parts l = length l.rest
