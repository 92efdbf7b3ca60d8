-- Two lists change, and name a pair, just as what is inside them does; so peeling both keeps change and pair.
-- Where not both are lists, the layers answer.
use Rattle.std.proofs.Common.{rules}
use Rattle.capnp_base.specs.declared.introspect.TypeVariant.TheVariants as variant
use Rattle.capnp_schema.specs.Entries.{lists_seen}
use Rattle.capnp_differences.proofs.Layers.{change_ends, pair_ends}
use Rattle.capnp_differences.proofs.types.inside_lists.Goals as goal

pub returns-in_default : goal.returns-in_default
returns-in_default c = record {
  change = change_ends (lists_seen c.args.schemas.now) c.loop-x.one c.loop-x.other c.which-s.result c.which-t.result c.which-s.ensures c.which-t.ensures c.loop-x.became _ c.loop-x.invariant.0;
  pair = pair_ends (lists_seen c.args.schemas.now) c.loop-x.one c.loop-x.other c.which-s.result c.which-t.result c.which-s.ensures c.which-t.ensures _ c.loop-x.invariant.1;
  all = search rules;
}

pub returns-in_default-t : goal.returns-in_default-t
returns-in_default-t c = record {
  change = change_ends (lists_seen c.args.schemas.now) c.loop-x.one c.loop-x.other (variant.List c.in-List.x) c.which-t.result c.in-List.ensures c.which-t.ensures c.loop-x.became _ c.loop-x.invariant.0;
  pair = pair_ends (lists_seen c.args.schemas.now) c.loop-x.one c.loop-x.other (variant.List c.in-List.x) c.which-t.result c.in-List.ensures c.which-t.ensures _ c.loop-x.invariant.1;
  all = search rules;
}
