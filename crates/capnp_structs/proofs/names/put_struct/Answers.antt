-- A group has no line, and a struct has one where its name was not met before.
use Rattle.std.proofs.Common.{ℕ, List, [], ◌∷◌, ◌++◌, Some, true, false, ◌≡◌, ◌<◌, ◌^◌, ◌∙◌, append-nil, append_assoc, ap, arith, rules, string_bytes, subst, sym}
use Rattle.std.specs.Option.{is_none}
use Rattle.capnp_schema.specs.Entries.{lists_seen}
use Rattle.capnp_schema.specs.Schema.{Node, Schemas, node_of, seen_node}
use Rattle.capnp_schema.specs.StructHandles.{number_of, set_of, struct_node}
use Rattle.capnp_schema.specs.declared.schema.structs.StructSchema.{StructSchema}
use Rattle.capnp_structs.specs.Names.{number_line}
use Rattle.capnp_structs.specs.Steps.Names.{IsNameMet, brand_met}
use Rattle.capnp_structs.proofs.NamesMet.{group_met, group_unnamed, line_of, struct_met}
use Rattle.capnp_structs.proofs.names.put_struct.Goals as goal

-- the node of a brand's schema
node_here : (set : Schemas) (s : StructSchema) (b : ℕ) (n : Node) → n ≡ struct_node s → set_of s ≡ set → number_of s ≡ b → node_of set b ≡ n
node_here set s b n is of_set number = sym (is ∙ (ap (λ (z : Schemas). node_of z (number_of s)) of_set ∙ ap (node_of set) number))

pub returns-then-node-clause-put : goal.returns-then-node-clause-put
returns-then-node-clause-put c =
    let set : Schemas = lists_seen c.args.schemas.now in
    let few : c.args.brand < 2 ^ 32 = omega arith in
    let here : node_of set c.args.brand ≡ seen_node c.get_proto-node.result.now = node_here set c.struct_schema.result c.args.brand _ c.get_proto-node.ensures c.struct_schema.ensures.set c.struct_schema.ensures.number in
    let group : (node_of set c.args.brand).is_group ≡ true = ap (λ (n : Node). n.is_group) here ∙ c.if-node.true in
    sym (ap (λ (xs : List ℕ). string_bytes c.args.lines.now ++ xs) (group_unnamed set c.args.brand c.args.met.now c.requires.inside few group c.requires.met) ∙ append-nil (string_bytes c.args.lines.now))

pub returns-then-node-clause-met : goal.returns-then-node-clause-met
returns-then-node-clause-met c =
    let set : Schemas = lists_seen c.args.schemas.now in
    let here : node_of set c.args.brand ≡ seen_node c.get_proto-node.result.now = node_here set c.struct_schema.result c.args.brand _ c.get_proto-node.ensures c.struct_schema.ensures.set c.struct_schema.ensures.number in
    let group : (node_of set c.args.brand).is_group ≡ true = ap (λ (n : Node). n.is_group) here ∙ c.if-node.true in
    group_met set c.args.brand c.args.met.now c.requires.inside group c.requires.met

pub returns-then-not-branch-clause-met : goal.returns-then-not-branch-clause-met
returns-then-not-branch-clause-met c =
    let set : Schemas = lists_seen c.args.schemas.now in
    let here : node_of set c.args.brand ≡ seen_node c.get_proto-node.result.now = node_here set c.struct_schema.result c.args.brand _ c.get_proto-node.ensures c.struct_schema.ensures.set c.struct_schema.ensures.number in
    let struct : (node_of set c.args.brand).is_group ≡ false = ap (λ (n : Node). n.is_group) here ∙ c.if-node.false in
    let name : c.as_str-name.result.now ≡ (node_of set c.args.brand).display_name = c.as_str-name.ensures.value ∙ sym (ap (λ (n : Node). n.display_name) here) in
    struct_met set c.args.brand c.args.met.now c.is_first.new.met c.requires.inside struct c.requires.met (subst (λ (xs : List ℕ). IsNameMet c.args.brand xs c.args.met.now c.is_first.new.met) name c.in_ok-is_first.ensures.met)

pub returns-clause-put : goal.returns-clause-put
returns-clause-put c =
    let set : Schemas = lists_seen c.args.schemas.now in
    let few : c.args.brand < 2 ^ 32 = omega arith in
    let here : node_of set c.args.brand ≡ seen_node c.get_proto-node.result.now = node_here set c.struct_schema.result c.args.brand _ c.get_proto-node.ensures c.struct_schema.ensures.set c.struct_schema.ensures.number in
    let struct : (node_of set c.args.brand).is_group ≡ false = ap (λ (n : Node). n.is_group) here ∙ c.if-node.false in
    let name : c.as_str-name.result.now ≡ (node_of set c.args.brand).display_name = c.as_str-name.ensures.value ∙ sym (ap (λ (n : Node). n.display_name) here) in
    let yes : c.in_ok-is_first.field-0 ≡ true = search rules in
    let first : true ≡ is_none (brand_met c.args.met.now (node_of set c.args.brand).display_name) = sym yes ∙ (c.in_ok-is_first.ensures.first ∙ ap (λ (xs : List ℕ). is_none (brand_met c.args.met.now xs)) name) in
    let line : number_line set (Some c.args.brand) ≡ (node_of set c.args.brand).display_name ++ 10 ∷ [] = line_of set c.args.brand c.args.met.now true c.requires.inside few struct c.requires.met first in
    c.in_ok-push_str-2.ensures.bytes
    ∙ (ap (λ (xs : List ℕ). xs ++ 10 ∷ []) c.in_ok-push_str.ensures.bytes
    ∙ (append_assoc (string_bytes c.args.lines.now) c.as_str-name.result.now (10 ∷ [])
    ∙ ap (λ (xs : List ℕ). string_bytes c.args.lines.now ++ xs) (ap (λ (xs : List ℕ). xs ++ 10 ∷ []) name ∙ sym line)))

pub returns-clause-met : goal.returns-clause-met
returns-clause-met c =
    let set : Schemas = lists_seen c.args.schemas.now in
    let here : node_of set c.args.brand ≡ seen_node c.get_proto-node.result.now = node_here set c.struct_schema.result c.args.brand _ c.get_proto-node.ensures c.struct_schema.ensures.set c.struct_schema.ensures.number in
    let struct : (node_of set c.args.brand).is_group ≡ false = ap (λ (n : Node). n.is_group) here ∙ c.if-node.false in
    let name : c.as_str-name.result.now ≡ (node_of set c.args.brand).display_name = c.as_str-name.ensures.value ∙ sym (ap (λ (n : Node). n.display_name) here) in
    struct_met set c.args.brand c.args.met.now c.is_first.new.met c.requires.inside struct c.requires.met (subst (λ (xs : List ℕ). IsNameMet c.args.brand xs c.args.met.now c.is_first.new.met) name c.in_ok-is_first.ensures.met)
