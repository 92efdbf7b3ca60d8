use Rattle.std.proofs.Common.{◌≡◌, ◌++◌, ◌∷◌, [], drop, flat_map}
use Rattle.capnp_json_text.specs.Writing.{byte_written, string_written}
use Rattle.capnp_json_text.proofs.writing.put_string.Given as goal

-- what was put, before what is written of the rest
abbrev pub invariant-loop-index : goal.invariant-loop-index
invariant-loop-index l = l.out.items ++ (flat_map byte_written (drop l.index l.text) ++ 34 ∷ []) ≡ l.fn.out.items ++ string_written l.text
