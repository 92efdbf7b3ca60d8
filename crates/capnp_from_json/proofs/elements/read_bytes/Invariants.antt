use Rattle.std.proofs.Common.{ℕ, ◌≡◌, Some, suc}
use Rattle.std.specs.Option.{option_map}
use Rattle.capnp_json_text.specs.Values.{elements_within, json_at}
use Rattle.capnp_from_json.specs.ElementReads.{behind, bytes_read, element_bytes}
use Rattle.capnp_from_json.specs.Records.{Rules, byte_target, elements_of_json}
use Rattle.capnp_from_json.proofs.elements.read_bytes.Given as goal

abbrev pub invariant-elements : goal.invariant-elements
invariant-elements l = (rules : Rules) (levels : ℕ) →
    element_bytes rules l.whole (option_map (λ x. x.now) l.fn.first) levels
    ≡ behind l.out.items (bytes_read (elements_of_json rules (elements_within (json_at l.whole) (suc l.left) (Some l.rest)) levels byte_target))

abbrev pub decreases-elements : goal.decreases-elements
decreases-elements l = l.left
