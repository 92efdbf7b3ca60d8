use Rattle.capnp_schema.specs.Entries.{lists_seen}
use Rattle.capnp_schema.specs.Types.{seen_type}
use Rattle.capnp_compatible.proofs.ByLayer.{by_layers, related_through}
use Rattle.capnp_compatible.proofs.types.are_related.Goals as goal

pub returns : goal.returns
returns c = related_through c.args.lists (lists_seen c.args.schemas.now) c.are_related_layers.result (seen_type c.args.older) (seen_type c.args.newer) _ _ c.inside_lists-one.ensures.older c.inside_lists-one.ensures.newer (by_layers c.args.lists (lists_seen c.args.schemas.now) c.are_related_layers.result c.inside_lists-one.result.0 c.inside_lists-one.result.1 c.inside_lists-one.ensures.all c.are_related_layers.ensures)
