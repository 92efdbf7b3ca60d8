-- Reading index 0 of the segments, with no bytes for none, is the first segment, whether or not there is one.
use Rattle.std.proofs.Common.{◌∙◌, ap, []}
use Rattle.std.specs.Prelude.{unwrap_or}
use Rattle.std.proofs.lemmas.Option.{unwrap_or-slice_get}
use Rattle.capnp_wire.specs.Backing.{segment_list}
use Rattle.capnp_wire.proofs.parts.segments.get_first_segment.Goals as goal

pub returns-in-Some : goal.returns-in-Some
returns-in-Some c = ap (λ o. unwrap_or o []) c.in-Some.ensures ∙ unwrap_or-slice_get (segment_list c.args.segments) 0 []

pub returns-in-None : goal.returns-in-None
returns-in-None c = ap (λ o. unwrap_or o []) c.in-None.ensures ∙ unwrap_or-slice_get (segment_list c.args.segments) 0 []
