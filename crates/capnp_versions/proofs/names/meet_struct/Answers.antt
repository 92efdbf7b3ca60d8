-- A group is passed over, and the name of a struct is met.
use Rattle.std.proofs.Common.{ℕ, List, true, false, ◌≡◌, ◌∙◌, ap, subst, sym}
use Rattle.capnp_schema.specs.Entries.{lists_seen}
use Rattle.capnp_schema.specs.Schema.{Node, Schemas, node_of, seen_node}
use Rattle.capnp_structs.specs.Steps.Names.{IsNameMet}
use Rattle.capnp_structs.proofs.NamesMet.{group_met, struct_met}
use Rattle.capnp_versions.proofs.Indexed.{node_here}
use Rattle.capnp_versions.proofs.names.meet_struct.Goals as goal

pub returns-then-node-clause-met : goal.returns-then-node-clause-met
returns-then-node-clause-met c =
    let set : Schemas = lists_seen c.args.schemas.now in
    let here : node_of set c.args.brand ≡ seen_node c.get_proto-node.result.now = node_here set c.struct_schema.result c.args.brand _ c.get_proto-node.ensures c.struct_schema.ensures.set c.struct_schema.ensures.number in
    let group : (node_of set c.args.brand).is_group ≡ true = ap (λ (n : Node). n.is_group) here ∙ c.if-node.true in
    group_met set c.args.brand c.args.index.now c.requires.inside group c.requires.met

pub returns-clause-met : goal.returns-clause-met
returns-clause-met c =
    let set : Schemas = lists_seen c.args.schemas.now in
    let here : node_of set c.args.brand ≡ seen_node c.get_proto-node.result.now = node_here set c.struct_schema.result c.args.brand _ c.get_proto-node.ensures c.struct_schema.ensures.set c.struct_schema.ensures.number in
    let struct : (node_of set c.args.brand).is_group ≡ false = ap (λ (n : Node). n.is_group) here ∙ c.if-node.false in
    let name : c.as_str.result.now ≡ (node_of set c.args.brand).display_name = c.as_str.ensures.value ∙ sym (ap (λ (n : Node). n.display_name) here) in
    struct_met set c.args.brand c.args.index.now c.meet.new.index c.requires.inside struct c.requires.met (subst (λ (xs : List ℕ). IsNameMet c.args.brand xs c.args.index.now c.meet.new.index) name c.in_ok-meet.ensures.met)
