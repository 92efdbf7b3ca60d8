-- Elements that are no structs.
use Rattle.std.proofs.Common.{◌≡◌, subst, sym, false, IfErr, OnOk}
use Rattle.capnp_arena.specs.Forest.{tree}
use Rattle.capnp_arena.specs.Segment.{segment}
use Rattle.capnp_wire.specs.Tree.{Tree}
use Rattle.capnp_wire.specs.WellFormed.{IsWellFormed}
use Rattle.capnp_schema.specs.Entries.{lists_seen}
use Rattle.capnp_slots.specs.Inits.{IsRoomless}
use Rattle.capnp_slots.proofs.NewLists.{is_simple}
use Rattle.capnp_slots.proofs.make.make_elements.Goals as goal

pub make_list-requires-clause-kind : goal.make_list-requires-clause-kind
make_list-requires-clause-kind c = (is_simple (lists_seen c.args.schemas.now) c.args.count c.args.element c.which.result _ c.which.ensures c.expected_element_size.ensures c.in_default.not-Struct).simple

pub returns-in_default-clause-ok : goal.returns-in_default-clause-ok
returns-in_default-clause-ok c =
    let list = is_simple (lists_seen c.args.schemas.now) c.args.count c.args.element c.which.result _ c.which.ensures c.expected_element_size.ensures c.in_default.not-Struct in
    subst (λ (t : Tree). OnOk c.make_list.result (tree (segment c.make_list.new.arena) c.args.at ≡ t)) (sym list.list) c.make_list.ensures.ok

pub returns-in_default-clause-within : goal.returns-in_default-clause-within
returns-in_default-clause-within c =
    let list = is_simple (lists_seen c.args.schemas.now) c.args.count c.args.element c.which.result _ c.which.ensures c.expected_element_size.ensures c.in_default.not-Struct in
    subst (λ q. OnOk c.make_list.result (q ≡ false)) (sym list.past) c.make_list.ensures.within

pub returns-in_default-clause-formed : goal.returns-in_default-clause-formed
returns-in_default-clause-formed c =
    let list = is_simple (lists_seen c.args.schemas.now) c.args.count c.args.element c.which.result _ c.which.ensures c.expected_element_size.ensures c.in_default.not-Struct in
    subst (λ t. OnOk c.make_list.result (IsWellFormed t)) (sym list.list) c.make_list.ensures.formed

pub returns-in_default-clause-cause : goal.returns-in_default-clause-cause
returns-in_default-clause-cause c =
    let list = is_simple (lists_seen c.args.schemas.now) c.args.count c.args.element c.which.result _ c.which.ensures c.expected_element_size.ensures c.in_default.not-Struct in
    subst (λ q. IfErr c.make_list.result (λ e. IsRoomless q e.kind)) (sym list.past) c.make_list.ensures.cause
