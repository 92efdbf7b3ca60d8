-- A list of other elements stays, and is refused by the size of its elements.
use Rattle.std.proofs.Common.{◌≡◌, OnOk, IfErr, None, Option, subst, sym}
use Rattle.capnp_device.specs.declared.error.ErrorKind.{ErrorKind}
use Rattle.capnp_wire.specs.Edits.{IsDueRefusal}
use Rattle.capnp_wire.specs.Tree.{Tree}
use Rattle.capnp_arena.specs.Forest.{tree}
use Rattle.capnp_arena.specs.Segment.{segment}
use Rattle.capnp_schema.specs.Entries.{lists_seen}
use Rattle.capnp_slots.proofs.ElementFills.{always, due_cause, due_rests, due_within}
use Rattle.capnp_slots.proofs.Filled.{is_plain}
use Rattle.capnp_slots.proofs.element.fill_list.Goals as goal

pub check_list-requires-clause-simple : goal.check_list-requires-clause-simple
check_list-requires-clause-simple c = (is_plain (lists_seen c.args.schemas.now) c.args.element c.which.result _ c.which.ensures c.expected_element_size.ensures c.in_default.not-Struct).simple

pub returns-in_default-clause-filled : goal.returns-in_default-clause-filled
returns-in_default-clause-filled c =
    let x : Tree = tree (segment c.args.arena.now) c.args.at in
    let list = is_plain (lists_seen c.args.schemas.now) c.args.element c.which.result _ c.which.ensures c.expected_element_size.ensures c.in_default.not-Struct in
    always c.check_list.result (sym (list.enters x))

pub returns-in_default-clause-within : goal.returns-in_default-clause-within
returns-in_default-clause-within c =
    let x : Tree = tree (segment c.args.arena.now) c.args.at in
    let list = is_plain (lists_seen c.args.schemas.now) c.args.element c.which.result _ c.which.ensures c.expected_element_size.ensures c.in_default.not-Struct in
    subst (λ (o : Option ErrorKind). OnOk c.check_list.result (o ≡ None)) (sym (list.fills x)) (due_within c.check_list.result _ c.check_list.ensures)

pub returns-in_default-clause-cause : goal.returns-in_default-clause-cause
returns-in_default-clause-cause c =
    let x : Tree = tree (segment c.args.arena.now) c.args.at in
    let list = is_plain (lists_seen c.args.schemas.now) c.args.element c.which.result _ c.which.ensures c.expected_element_size.ensures c.in_default.not-Struct in
    subst (λ (o : Option ErrorKind). IfErr c.check_list.result (λ e. IsDueRefusal e o)) (sym (list.fills x)) (due_cause c.check_list.result _ c.check_list.ensures)

pub returns-in_default-clause-rests : goal.returns-in_default-clause-rests
returns-in_default-clause-rests c = λ h.
    let x : Tree = tree (segment c.args.arena.now) c.args.at in
    let list = is_plain (lists_seen c.args.schemas.now) c.args.element c.which.result _ c.which.ensures c.expected_element_size.ensures c.in_default.not-Struct in
    due_rests c.check_list.result _ c.check_list.ensures (list.still x h)
