-- The active member decides what a type is made of; a list's element and a struct's brand are meant one level down.
-- In the loops what is made, before what the rest makes, is the whole.
use Rattle.std.proofs.Common.{true, false, None, ◌-◌, ◌≤◌, ◌≡◌, ◌∙◌, arith, ap, refl, suc, sym, map, option_map, Err, Ok, Some, rules, List, []}
use Rattle.capnp_schema.specs.Types.{seen_type}
use Rattle.capnp_records.specs.Part.{which_of}
use Rattle.capnp_request.specs.Steps.Seen.{record_seen}
use Rattle.capnp_request.specs.Steps.Bindings.{bounds, flags, seen_bound, seen_marked, with_nothing}
use Rattle.capnp_request.specs.Steps.Done.{so_far}
use Rattle.capnp_request.specs.Steps.Handles.{values_left}
use Rattle.capnp_request.specs.Steps.Meant.{float_type}
use Rattle.capnp_request.specs.Steps.Nodes.{nodes_of}
use Rattle.capnp_request.specs.Steps.Numbers.{numbered_entries}
use Rattle.capnp_request.specs.Parts.{request_read_at}
use Rattle.capnp_request.specs.Reading.{binding_said, bindings_said, brand_in, enum_term, list_term, scope_said, scopes_said, struct_term, type_said, untyped_term}
use Rattle.capnp_request.specs.Terms.{Float32, Float64, Interface}
use Rattle.capnp_request.specs.Types.{bind_scope, binding_types, brand_types, interface, named_scopes, scope_types, type_of}
use Rattle.capnp_request.specs.Work.{each, plain}
use Rattle.capnp_request.specs.declared.schema_nodes.GenericScope.{GenericScope}
use Rattle.capnp_request.proofs.ListsRead.{all_left}
use Rattle.capnp_request.proofs.Numbering.{map_more}
use Rattle.capnp_request.proofs.Refused.{err_done}
use Rattle.capnp_request.proofs.ScopesBound.{bind_more, bind_over, bind_refused, binding_fault, binding_more, binding_refused, bindings_all, scopes_by, scopes_fault, scopes_none, scopes_unread}
use Rattle.capnp_request.proofs.TypesDone.{binding_is, binding_none, binding_past, binding_unbound, binding_unread, brand_none, brand_some, brand_unread, by_depth, by_none, done_as, inherits_end, list_end, list_refused, list_unread, none_said_by_member, past_by, said_by_member, scope_done, scope_none, scope_other, scope_refused, scope_unread, struct_done, struct_missing, struct_named, struct_refused, struct_unbound, term_done, type_by, work_done}
use Rattle.capnp_request.proofs.Walks.{begun_with, prefixed}
use Rattle.capnp_request.proofs.types.+types.Goals as goal

pub type_of-returns-then-depth-eq0-clause-done : goal.type_of-returns-then-depth-eq0-clause-done
type_of-returns-then-depth-eq0-clause-done t c =
    λ n. ap (λ k. type_of (nodes_of c.args.context.nodes.now) c.args.context.strict (bounds c.args.inside.now) k (so_far c.args.entries.now c.args.seen.now)) (by_depth c.args.depth (record_seen c.args.term) c.if-depth-eq0.true) ∙ ap (λ k. Err k) (sym c.from.ensures)

pub type_of-returns-in_default-clause-done : goal.type_of-returns-in_default-clause-done
type_of-returns-in_default-clause-done t c =
    let deep : c.args.depth ≡ suc (c.args.depth - 1) = omega (arith, c.if-depth-eq0.false) in
    λ n. ap (λ k. type_of (nodes_of c.args.context.nodes.now) c.args.context.strict (bounds c.args.inside.now) k (so_far c.args.entries.now c.args.seen.now)) (by_none (c.args.depth - 1) c.args.depth (record_seen c.args.term) deep (sym c.type_member.ensures ∙ c.in_default.is)) ∙ ap (λ k. Err k) (sym c.from-in_default.ensures)

pub type_of-returns-in-Some-type_said_by_member-clause-done : goal.type_of-returns-in-Some-type_said_by_member-clause-done
type_of-returns-in-Some-type_said_by_member-clause-done t c =
    let deep : c.args.depth ≡ suc (c.args.depth - 1) = omega (arith, c.if-depth-eq0.false) in
    let which : which_of (record_seen c.args.term) ≡ Some c.in-Some.member = sym c.type_member.ensures ∙ c.in-Some.is in
    ap (λ k. type_of (nodes_of c.args.context.nodes.now) c.args.context.strict (bounds c.args.inside.now) k (so_far c.args.entries.now c.args.seen.now)) (said_by_member (c.args.depth - 1) c.args.depth (record_seen c.args.term) c.in-Some.member (seen_type c.in-Some-type_said_by_member.said) deep which c.in-Some-type_said_by_member.ensures) ∙ ap (λ u. Ok (u, so_far c.args.entries.now c.args.seen.now)) (sym c.plain.ensures)

pub type_of-returns-in-10-clause-done : goal.type_of-returns-in-10-clause-done
type_of-returns-in-10-clause-done t c =
    let deep : c.args.depth ≡ suc (c.args.depth - 1) = omega (arith, c.if-depth-eq0.false) in
    let which : which_of (record_seen c.args.term) ≡ Some c.in-Some.member = sym c.type_member.ensures ∙ c.in-Some.is in
    work_done (nodes_of c.args.context.nodes.now) c.args.context.strict (bounds c.args.inside.now) seen_marked (type_said c.args.depth (record_seen c.args.term)) Float32 (float_type false c.args.context.strict) _ _ _ (type_by (c.args.depth - 1) c.args.depth (record_seen c.args.term) c.in-Some.member 10 deep which c.in-10.is) refl (c.float_type.ensures.done (numbered_entries c.args.entries.now))

pub type_of-returns-in-11-clause-done : goal.type_of-returns-in-11-clause-done
type_of-returns-in-11-clause-done t c =
    let deep : c.args.depth ≡ suc (c.args.depth - 1) = omega (arith, c.if-depth-eq0.false) in
    let which : which_of (record_seen c.args.term) ≡ Some c.in-Some.member = sym c.type_member.ensures ∙ c.in-Some.is in
    work_done (nodes_of c.args.context.nodes.now) c.args.context.strict (bounds c.args.inside.now) seen_marked (type_said c.args.depth (record_seen c.args.term)) Float64 (float_type true c.args.context.strict) _ _ _ (type_by (c.args.depth - 1) c.args.depth (record_seen c.args.term) c.in-Some.member 11 deep which c.in-11.is) refl (c.float_type-in-11.ensures.done (numbered_entries c.args.entries.now))

pub type_of-returns-in-17-clause-done : goal.type_of-returns-in-17-clause-done
type_of-returns-in-17-clause-done t c =
    let deep : c.args.depth ≡ suc (c.args.depth - 1) = omega (arith, c.if-depth-eq0.false) in
    let which : which_of (record_seen c.args.term) ≡ Some c.in-Some.member = sym c.type_member.ensures ∙ c.in-Some.is in
    work_done (nodes_of c.args.context.nodes.now) c.args.context.strict (bounds c.args.inside.now) seen_marked (type_said c.args.depth (record_seen c.args.term)) Interface (interface c.args.context.strict) _ _ _ (type_by (c.args.depth - 1) c.args.depth (record_seen c.args.term) c.in-Some.member 17 deep which c.in-17.is) refl (c.interface_type.ensures.done (numbered_entries c.args.entries.now))

pub type_of-returns-in-14-clause-done : goal.type_of-returns-in-14-clause-done
type_of-returns-in-14-clause-done t c =
    let deep : c.args.depth ≡ suc (c.args.depth - 1) = omega (arith, c.if-depth-eq0.false) in
    let which : which_of (record_seen c.args.term) ≡ Some c.in-Some.member = sym c.type_member.ensures ∙ c.in-Some.is in
    term_done (nodes_of c.args.context.nodes.now) c.args.context.strict (bounds c.args.inside.now) seen_marked (type_said c.args.depth (record_seen c.args.term)) (list_term (type_said (c.args.depth - 1)) (request_read_at 13 14 (record_seen c.args.term))) _ _ _ (type_by (c.args.depth - 1) c.args.depth (record_seen c.args.term) c.in-Some.member 14 deep which c.in-14.is) c.list_type_of.ensures.done

pub type_of-returns-in-15-clause-done : goal.type_of-returns-in-15-clause-done
type_of-returns-in-15-clause-done t c =
    let deep : c.args.depth ≡ suc (c.args.depth - 1) = omega (arith, c.if-depth-eq0.false) in
    let which : which_of (record_seen c.args.term) ≡ Some c.in-Some.member = sym c.type_member.ensures ∙ c.in-Some.is in
    term_done (nodes_of c.args.context.nodes.now) c.args.context.strict (bounds c.args.inside.now) seen_marked (type_said c.args.depth (record_seen c.args.term)) (enum_term (type_said (c.args.depth - 1)) (request_read_at 13 15 (record_seen c.args.term))) _ _ _ (type_by (c.args.depth - 1) c.args.depth (record_seen c.args.term) c.in-Some.member 15 deep which c.in-15.is) (c.enum_type_of.ensures.done (bounds c.args.inside.now) (c.args.depth - 1) (flags c.args.seen.now))

pub type_of-returns-in-16-clause-done : goal.type_of-returns-in-16-clause-done
type_of-returns-in-16-clause-done t c =
    let deep : c.args.depth ≡ suc (c.args.depth - 1) = omega (arith, c.if-depth-eq0.false) in
    let which : which_of (record_seen c.args.term) ≡ Some c.in-Some.member = sym c.type_member.ensures ∙ c.in-Some.is in
    term_done (nodes_of c.args.context.nodes.now) c.args.context.strict (bounds c.args.inside.now) seen_marked (type_said c.args.depth (record_seen c.args.term)) (struct_term (type_said (c.args.depth - 1)) (request_read_at 13 16 (record_seen c.args.term))) _ _ _ (type_by (c.args.depth - 1) c.args.depth (record_seen c.args.term) c.in-Some.member 16 deep which c.in-16.is) c.struct_type_of.ensures.done

pub type_of-returns-in-18-clause-done : goal.type_of-returns-in-18-clause-done
type_of-returns-in-18-clause-done t c =
    let deep : c.args.depth ≡ suc (c.args.depth - 1) = omega (arith, c.if-depth-eq0.false) in
    let which : which_of (record_seen c.args.term) ≡ Some c.in-Some.member = sym c.type_member.ensures ∙ c.in-Some.is in
    term_done (nodes_of c.args.context.nodes.now) c.args.context.strict (bounds c.args.inside.now) seen_marked (type_said c.args.depth (record_seen c.args.term)) (untyped_term (request_read_at 13 18 (record_seen c.args.term))) _ _ _ (type_by (c.args.depth - 1) c.args.depth (record_seen c.args.term) c.in-Some.member 18 deep which c.in-18.is) (c.untyped_or_bound.ensures.done (nodes_of c.args.context.nodes.now) c.args.context.strict (so_far c.args.entries.now c.args.seen.now))

pub type_of-returns-in_default-member-clause-done : goal.type_of-returns-in_default-member-clause-done
type_of-returns-in_default-member-clause-done t c =
    let deep : c.args.depth ≡ suc (c.args.depth - 1) = omega (arith, c.if-depth-eq0.false) in
    let which : which_of (record_seen c.args.term) ≡ Some c.in-Some.member = sym c.type_member.ensures ∙ c.in-Some.is in
    let none : c.type_said_by_member.result ≡ None = search rules in
    let other = none_said_by_member c.in-Some.member (option_map seen_type c.type_said_by_member.result) c.type_said_by_member.ensures (ap (option_map seen_type) none) in
    let no_float : 12 ≤ c.in-Some.member = omega (arith, other.0) in
    let behind : 14 ≤ c.in-Some.member = other.1 no_float in
    let past : 19 ≤ c.in-Some.member = omega (arith, behind) in
    λ n. ap (λ k. type_of (nodes_of c.args.context.nodes.now) c.args.context.strict (bounds c.args.inside.now) k (so_far c.args.entries.now c.args.seen.now)) (past_by (c.args.depth - 1) c.args.depth (record_seen c.args.term) c.in-Some.member deep which past) ∙ ap (λ k. Err k) (sym c.from-in_default-member.ensures)

pub list_type_of-returns-in_err-element-clause-done : goal.list_type_of-returns-in_err-element-clause-done
list_type_of-returns-in_err-element-clause-done t c =
    err_done seen_marked (type_of (nodes_of c.args.context.nodes.now) c.args.context.strict (bounds c.args.inside.now) (list_term (type_said c.args.depth) (request_read_at 13 14 (record_seen c.args.term)))) (so_far c.args.entries.now c.args.seen.now) _ c.from_residual.result _ c.from_residual.ensures.1 (λ n. list_unread (nodes_of c.args.context.nodes.now) c.args.context.strict (bounds c.args.inside.now) (type_said c.args.depth) (request_read_at 13 14 (record_seen c.args.term)) (record_seen c.group_at-list.result) c.group_at-list.ensures.read (so_far c.args.entries.now c.args.seen.now) _ c.in_err-element.ensures.refused)

pub list_type_of-returns-in_err-element_type-clause-done : goal.list_type_of-returns-in_err-element_type-clause-done
list_type_of-returns-in_err-element_type-clause-done t c =
    err_done seen_marked (type_of (nodes_of c.args.context.nodes.now) c.args.context.strict (bounds c.args.inside.now) (list_term (type_said c.args.depth) (request_read_at 13 14 (record_seen c.args.term)))) (so_far c.args.entries.now c.args.seen.now) _ c.from_residual-in_err-element_type.result _ c.from_residual-in_err-element_type.ensures.1 (λ n.
    list_refused (nodes_of c.args.context.nodes.now) c.args.context.strict (bounds c.args.inside.now) (type_said c.args.depth) (request_read_at 13 14 (record_seen c.args.term)) (record_seen c.group_at-list.result) c.group_at-list.ensures.read (record_seen c.in_ok-element.element) c.in_ok-element.ensures.read (so_far c.args.entries.now c.args.seen.now) _ (c.in_err-element_type.ensures.done n))

pub list_type_of-returns-clause-done : goal.list_type_of-returns-clause-done
list_type_of-returns-clause-done t c =
    list_end (nodes_of c.args.context.nodes.now) c.args.context.strict (bounds c.args.inside.now) (type_said c.args.depth) (request_read_at 13 14 (record_seen c.args.term)) (record_seen c.group_at-list.result) c.group_at-list.ensures.read (record_seen c.in_ok-element.element) c.in_ok-element.ensures.read (so_far c.args.entries.now c.args.seen.now) _ (seen_marked c.in_ok-element_type.element_type) c.in_ok-element_type.ensures.done c.marked_list.result c.marked_list.ensures.list c.marked_list.ensures.full c.marked_list.ensures.kinds

pub struct_type_of-returns-in_err-struct_node-clause-done : goal.struct_type_of-returns-in_err-struct_node-clause-done
struct_type_of-returns-in_err-struct_node-clause-done t c =
    err_done seen_marked (type_of (nodes_of c.args.context.nodes.now) c.args.context.strict (bounds c.args.inside.now) (struct_term (type_said c.args.depth) (request_read_at 13 16 (record_seen c.args.term)))) (so_far c.args.entries.now c.args.seen.now) _ c.from_residual.result _ c.from_residual.ensures.1 (λ n. struct_missing (nodes_of c.args.context.nodes.now) c.args.context.strict (bounds c.args.inside.now) (type_said c.args.depth) (request_read_at 13 16 (record_seen c.args.term)) (record_seen c.group_at-named.result) c.u64_at-id.result (brand_in (type_said c.args.depth) (request_read_at 16 1 (record_seen c.group_at-named.result))) c.group_at-named.ensures.read (struct_named (nodes_of c.args.context.nodes.now) c.args.context.strict (bounds c.args.inside.now) (type_said c.args.depth) (record_seen c.group_at-named.result) c.u64_at-id.result c.u64_at-id.ensures) (so_far c.args.entries.now c.args.seen.now) c.in_err-struct_node.ensures.missing ∙ ap (λ k. Err k) (sym c.in_err-struct_node.ensures.kinds))

pub struct_type_of-returns-in_err-scopes-clause-done : goal.struct_type_of-returns-in_err-scopes-clause-done
struct_type_of-returns-in_err-scopes-clause-done t c =
    err_done seen_marked (type_of (nodes_of c.args.context.nodes.now) c.args.context.strict (bounds c.args.inside.now) (struct_term (type_said c.args.depth) (request_read_at 13 16 (record_seen c.args.term)))) (so_far c.args.entries.now c.args.seen.now) _ c.from_residual-in_err-scopes.result _ c.from_residual-in_err-scopes.ensures.1 (λ n. struct_unbound (nodes_of c.args.context.nodes.now) c.args.context.strict (bounds c.args.inside.now) (type_said c.args.depth) (request_read_at 13 16 (record_seen c.args.term)) (record_seen c.group_at-named.result) c.u64_at-id.result (brand_in (type_said c.args.depth) (request_read_at 16 1 (record_seen c.group_at-named.result))) c.group_at-named.ensures.read (struct_named (nodes_of c.args.context.nodes.now) c.args.context.strict (bounds c.args.inside.now) (type_said c.args.depth) (record_seen c.group_at-named.result) c.u64_at-id.result c.u64_at-id.ensures) (so_far c.args.entries.now c.args.seen.now) c.in_ok-struct_node.ensures.found _ (c.in_err-scopes.ensures.done n))

pub struct_type_of-returns-in_err-number-clause-done : goal.struct_type_of-returns-in_err-number-clause-done
struct_type_of-returns-in_err-number-clause-done t c =
    err_done seen_marked (type_of (nodes_of c.args.context.nodes.now) c.args.context.strict (bounds c.args.inside.now) (struct_term (type_said c.args.depth) (request_read_at 13 16 (record_seen c.args.term)))) (so_far c.args.entries.now c.args.seen.now) _ c.from_residual-in_err-number.result _ c.from_residual-in_err-number.ensures.1 (λ n. struct_refused (nodes_of c.args.context.nodes.now) c.args.context.strict (bounds c.args.inside.now) (type_said c.args.depth) (request_read_at 13 16 (record_seen c.args.term)) (record_seen c.group_at-named.result) c.u64_at-id.result (brand_in (type_said c.args.depth) (request_read_at 16 1 (record_seen c.group_at-named.result))) c.group_at-named.ensures.read (struct_named (nodes_of c.args.context.nodes.now) c.args.context.strict (bounds c.args.inside.now) (type_said c.args.depth) (record_seen c.group_at-named.result) c.u64_at-id.result c.u64_at-id.ensures) (so_far c.args.entries.now c.args.seen.now) c.in_ok-struct_node.ensures.found (bounds c.in_ok-scopes.scopes.items) _ c.in_ok-scopes.ensures.done _ (c.in_err-number.ensures.refused n (flags c.bindings_of.new.seen)))

pub struct_type_of-returns-clause-done : goal.struct_type_of-returns-clause-done
struct_type_of-returns-clause-done t c =
    struct_done (nodes_of c.args.context.nodes.now) c.args.context.strict (bounds c.args.inside.now) (type_said c.args.depth) (request_read_at 13 16 (record_seen c.args.term)) (record_seen c.group_at-named.result) c.u64_at-id.result (brand_in (type_said c.args.depth) (request_read_at 16 1 (record_seen c.group_at-named.result))) c.group_at-named.ensures.read (struct_named (nodes_of c.args.context.nodes.now) c.args.context.strict (bounds c.args.inside.now) (type_said c.args.depth) (record_seen c.group_at-named.result) c.u64_at-id.result c.u64_at-id.ensures) (so_far c.args.entries.now c.args.seen.now) c.in_ok-struct_node.ensures.found (bounds c.in_ok-scopes.scopes.items) _ c.in_ok-scopes.ensures.done c.in_ok-number.number _ _ (c.in_ok-number.ensures.done (flags c.bindings_of.new.seen)) (c.plain.ensures ∙ ap plain c.entry_type.ensures)

pub bindings_of-returns-in_err-generic-clause-done : goal.bindings_of-returns-in_err-generic-clause-done
bindings_of-returns-in_err-generic-clause-done t c =
    err_done (λ scopes. bounds scopes.items) (named_scopes (nodes_of c.args.context.nodes.now) c.args.context.strict (bounds c.args.inside.now) c.args.id (brand_in (type_said c.args.depth) (request_read_at c.args.place.holder c.args.place.index (record_seen c.args.place.reader)))) (so_far c.args.entries.now c.args.seen.now) _ c.from_residual.result _ c.from_residual.ensures.1 (λ n. scopes_unread (nodes_of c.args.context.nodes.now) c.args.context.strict (bounds c.args.inside.now) c.args.id (brand_in (type_said c.args.depth) (request_read_at c.args.place.holder c.args.place.index (record_seen c.args.place.reader))) (so_far c.args.entries.now c.args.seen.now) _ (c.in_err-generic.ensures.refused n))

pub bindings_of-returns-then-count-eq0-clause-done : goal.bindings_of-returns-then-count-eq0-clause-done
bindings_of-returns-then-count-eq0-clause-done t c =
    let none : c.new.result.items ≡ [] = search rules in
    scopes_none (nodes_of c.args.context.nodes.now) c.args.context.strict (bounds c.args.inside.now) c.args.id (brand_in (type_said c.args.depth) (request_read_at c.args.place.holder c.args.place.index (record_seen c.args.place.reader))) (so_far c.args.entries.now c.args.seen.now) c.in_ok-generic.generic.items c.in_ok-generic.ensures.read (omega (arith, c.len-count.ensures)) _ (ap bounds none)

pub bindings_of-returns-in_err-said-clause-done : goal.bindings_of-returns-in_err-said-clause-done
bindings_of-returns-in_err-said-clause-done t c =
    err_done (λ scopes. bounds scopes.items) (named_scopes (nodes_of c.args.context.nodes.now) c.args.context.strict (bounds c.args.inside.now) c.args.id (brand_in (type_said c.args.depth) (request_read_at c.args.place.holder c.args.place.index (record_seen c.args.place.reader)))) (so_far c.args.entries.now c.args.seen.now) _ c.from_residual-in_err-said.result _ c.from_residual-in_err-said.ensures.1 (λ n. scopes_fault (nodes_of c.args.context.nodes.now) c.args.context.strict (bounds c.args.inside.now) c.args.id (brand_in (type_said c.args.depth) (request_read_at c.args.place.holder c.args.place.index (record_seen c.args.place.reader))) (so_far c.args.entries.now c.args.seen.now) c.in_ok-generic.generic.items c.in_ok-generic.ensures.read _ (λ none. omega (arith, none, c.len-count.ensures)) (c.in_err-said.ensures.refused (type_said c.args.depth)))

pub bindings_of-returns-clause-done : goal.bindings_of-returns-clause-done
bindings_of-returns-clause-done t c =
    done_as (λ scopes. bounds scopes.items) (each (bind_scope (brand_types (nodes_of c.args.context.nodes.now) c.args.context.strict (bounds c.args.inside.now) (scopes_said (type_said c.args.depth) (values_left c.in_ok-said.said 0)))) (map with_nothing c.as_slice.result.now)) (named_scopes (nodes_of c.args.context.nodes.now) c.args.context.strict (bounds c.args.inside.now) c.args.id (brand_in (type_said c.args.depth) (request_read_at c.args.place.holder c.args.place.index (record_seen c.args.place.reader)))) (so_far c.args.entries.now c.args.seen.now) _ _
    (scopes_by (nodes_of c.args.context.nodes.now) c.args.context.strict (bounds c.args.inside.now) c.args.id (brand_in (type_said c.args.depth) (request_read_at c.args.place.holder c.args.place.index (record_seen c.args.place.reader))) (so_far c.args.entries.now c.args.seen.now) c.in_ok-generic.generic.items c.in_ok-generic.ensures.read _ (c.in_ok-said.ensures.read (type_said c.args.depth))
    ∙ ap (λ (xs : List GenericScope). each (bind_scope (brand_types (nodes_of c.args.context.nodes.now) c.args.context.strict (bounds c.args.inside.now) (scopes_said (type_said c.args.depth) (values_left c.in_ok-said.said 0)))) (map with_nothing xs) (so_far c.args.entries.now c.args.seen.now)) (sym c.as_slice.ensures.value)) c.bound_scopes.ensures.done

pub scope_types-returns-in_err-found-clause-done : goal.scope_types-returns-in_err-found-clause-done
scope_types-returns-in_err-found-clause-done t c =
    err_done (λ types. map seen_marked types.items) (brand_types (nodes_of c.args.context.nodes.now) c.args.context.strict (bounds c.args.inside.now) (scopes_said (type_said c.args.depth) (values_left c.args.said 0)) (with_nothing c.args.scope)) (so_far c.args.entries.now c.args.seen.now) _ c.from_residual.result _ c.from_residual.ensures.1 (λ n. brand_unread (nodes_of c.args.context.nodes.now) c.args.context.strict (bounds c.args.inside.now) (scopes_said (type_said c.args.depth) (values_left c.args.said 0)) (with_nothing c.args.scope) (so_far c.args.entries.now c.args.seen.now) _ (c.in_err-found.ensures.said (type_said c.args.depth) n))

pub scope_types-returns-in-Some-clause-done : goal.scope_types-returns-in-Some-clause-done
scope_types-returns-in-Some-clause-done t c =
    done_as (λ types. map seen_marked types.items) (scope_types (nodes_of c.args.context.nodes.now) c.args.context.strict (bounds c.args.inside.now) (scope_said (type_said c.args.depth) (record_seen c.in-Some.own)) (with_nothing c.args.scope)) (brand_types (nodes_of c.args.context.nodes.now) c.args.context.strict (bounds c.args.inside.now) (scopes_said (type_said c.args.depth) (values_left c.args.said 0)) (with_nothing c.args.scope)) (so_far c.args.entries.now c.args.seen.now) _ _ (brand_some (nodes_of c.args.context.nodes.now) c.args.context.strict (bounds c.args.inside.now) (scopes_said (type_said c.args.depth) (values_left c.args.said 0)) (scope_said (type_said c.args.depth) (record_seen c.in-Some.own)) (with_nothing c.args.scope) (so_far c.args.entries.now c.args.seen.now) (c.in_ok-found.ensures.said (type_said c.args.depth) ∙ ap (λ o. Ok (option_map (λ s. scope_said (type_said c.args.depth) (record_seen s)) o)) c.in-Some.is)) c.said_types.ensures.done

pub scope_types-returns-in-None-clause-done : goal.scope_types-returns-in-None-clause-done
scope_types-returns-in-None-clause-done t c =
    let none : c.new.result.items ≡ [] = search rules in
    brand_none (nodes_of c.args.context.nodes.now) c.args.context.strict (bounds c.args.inside.now) (scopes_said (type_said c.args.depth) (values_left c.args.said 0)) (with_nothing c.args.scope) (so_far c.args.entries.now c.args.seen.now) _ (c.in_ok-found.ensures.said (type_said c.args.depth) ∙ ap (λ o. Ok (option_map (λ s. scope_said (type_said c.args.depth) (record_seen s)) o)) c.in-None.is) (ap (map seen_marked) none)

pub said_types-returns-in_default-clause-done : goal.said_types-returns-in_default-clause-done
said_types-returns-in_default-clause-done t c =
    λ n. scope_none (nodes_of c.args.context.nodes.now) c.args.context.strict (bounds c.args.inside.now) (type_said c.args.depth) (record_seen c.args.own) (with_nothing c.args.scope) (so_far c.args.entries.now c.args.seen.now) (sym c.scope_member.ensures ∙ c.in_default.is) ∙ ap (λ k. Err k) (sym c.from.ensures)

pub said_types-returns-in_err-bindings-in-1-clause-done : goal.said_types-returns-in_err-bindings-in-1-clause-done
said_types-returns-in_err-bindings-in-1-clause-done t c =
    err_done (λ types. map seen_marked types.items) (scope_types (nodes_of c.args.context.nodes.now) c.args.context.strict (bounds c.args.inside.now) (scope_said (type_said c.args.depth) (record_seen c.args.own)) (with_nothing c.args.scope)) (so_far c.args.entries.now c.args.seen.now) _ c.from_residual.result _ c.from_residual.ensures.1 (λ n. scope_unread (nodes_of c.args.context.nodes.now) c.args.context.strict (bounds c.args.inside.now) (type_said c.args.depth) (record_seen c.args.own) (with_nothing c.args.scope) (so_far c.args.entries.now c.args.seen.now) c.in-Some.member (sym c.scope_member.ensures ∙ c.in-Some.is) c.in-1.is _ c.in_err-bindings-in-1.ensures.refused)

pub said_types-returns-in_err-types-in-1-clause-done : goal.said_types-returns-in_err-types-in-1-clause-done
said_types-returns-in_err-types-in-1-clause-done t c =
    err_done (λ types. map seen_marked types.items) (scope_types (nodes_of c.args.context.nodes.now) c.args.context.strict (bounds c.args.inside.now) (scope_said (type_said c.args.depth) (record_seen c.args.own)) (with_nothing c.args.scope)) (so_far c.args.entries.now c.args.seen.now) _ c.from_residual-in_err-types-in-1.result _ c.from_residual-in_err-types-in-1.ensures.1 (λ n.
    scope_refused (nodes_of c.args.context.nodes.now) c.args.context.strict (bounds c.args.inside.now) (type_said c.args.depth) (record_seen c.args.own) (with_nothing c.args.scope) (so_far c.args.entries.now c.args.seen.now) c.in-Some.member (sym c.scope_member.ensures ∙ c.in-Some.is) c.in-1.is (values_left c.in_ok-bindings-in-1.bindings 0) (sym (all_left c.in_ok-bindings-in-1.bindings) ∙ c.in_ok-bindings-in-1.ensures.read) _ (c.in_err-types-in-1.ensures.done n))

pub said_types-returns-in_ok-types-in-1-clause-done : goal.said_types-returns-in_ok-types-in-1-clause-done
said_types-returns-in_ok-types-in-1-clause-done t c =
    scope_done (nodes_of c.args.context.nodes.now) c.args.context.strict (bounds c.args.inside.now) (type_said c.args.depth) (record_seen c.args.own) (with_nothing c.args.scope) (so_far c.args.entries.now c.args.seen.now) c.in-Some.member (sym c.scope_member.ensures ∙ c.in-Some.is) c.in-1.is (values_left c.in_ok-bindings-in-1.bindings 0) (sym (all_left c.in_ok-bindings-in-1.bindings) ∙ c.in_ok-bindings-in-1.ensures.read) _ _ _ c.in_ok-types-in-1.ensures.done c.drop_untyped.ensures

pub said_types-returns-in-2-clause-done : goal.said_types-returns-in-2-clause-done
said_types-returns-in-2-clause-done t c =
    inherits_end (nodes_of c.args.context.nodes.now) c.args.context.strict (bounds c.args.inside.now) (type_said c.args.depth) (record_seen c.args.own) (with_nothing c.args.scope) (so_far c.args.entries.now c.args.seen.now) c.in-Some.member (sym c.scope_member.ensures ∙ c.in-Some.is) (λ types. map seen_marked types.items) c.in-2.is c.inherited.result c.inherited.ensures.read c.inherited.ensures.kinds

pub said_types-returns-in_default-member-clause-done : goal.said_types-returns-in_default-member-clause-done
said_types-returns-in_default-member-clause-done t c =
    λ n. scope_other (nodes_of c.args.context.nodes.now) c.args.context.strict (bounds c.args.inside.now) (type_said c.args.depth) (record_seen c.args.own) (with_nothing c.args.scope) (so_far c.args.entries.now c.args.seen.now) c.in-Some.member (sym c.scope_member.ensures ∙ c.in-Some.is) (λ e. omega (arith, e)) (λ e. omega (arith, e)) ∙ ap (λ k. Err k) (sym c.from-in_default-member.ensures)

pub binding_type-returns-in_default-clause-done : goal.binding_type-returns-in_default-clause-done
binding_type-returns-in_default-clause-done t c =
    λ n. binding_none (nodes_of c.args.context.nodes.now) c.args.context.strict (bounds c.args.inside.now) (type_said c.args.depth) (record_seen c.args.binding) (so_far c.args.entries.now c.args.seen.now) (sym c.binding_member.ensures ∙ c.in_default.is) ∙ ap (λ k. Err k) (sym c.from.ensures)

pub binding_type-returns-in-0-clause-done : goal.binding_type-returns-in-0-clause-done
binding_type-returns-in-0-clause-done t c =
    binding_unbound (nodes_of c.args.context.nodes.now) c.args.context.strict (bounds c.args.inside.now) (type_said c.args.depth) (record_seen c.args.binding) (so_far c.args.entries.now c.args.seen.now) c.in-Some.member (sym c.binding_member.ensures ∙ c.in-Some.is) _ c.in-0.is c.untyped.ensures

pub binding_type-returns-in_err-term-in-1-clause-done : goal.binding_type-returns-in_err-term-in-1-clause-done
binding_type-returns-in_err-term-in-1-clause-done t c =
    err_done seen_marked (type_of (nodes_of c.args.context.nodes.now) c.args.context.strict (bounds c.args.inside.now) (binding_said (type_said c.args.depth) (record_seen c.args.binding))) (so_far c.args.entries.now c.args.seen.now) _ c.from_residual.result _ c.from_residual.ensures.1 (λ n. binding_unread (nodes_of c.args.context.nodes.now) c.args.context.strict (bounds c.args.inside.now) (type_said c.args.depth) (record_seen c.args.binding) (so_far c.args.entries.now c.args.seen.now) c.in-Some.member (sym c.binding_member.ensures ∙ c.in-Some.is) c.in-1.is _ c.in_err-term-in-1.ensures.refused)

pub binding_type-returns-in_ok-term-in-1-clause-done : goal.binding_type-returns-in_ok-term-in-1-clause-done
binding_type-returns-in_ok-term-in-1-clause-done t c =
    term_done (nodes_of c.args.context.nodes.now) c.args.context.strict (bounds c.args.inside.now) seen_marked (binding_said (type_said c.args.depth) (record_seen c.args.binding)) (type_said c.args.depth (record_seen c.in_ok-term-in-1.term)) _ _ _ (binding_is (nodes_of c.args.context.nodes.now) c.args.context.strict (bounds c.args.inside.now) (type_said c.args.depth) (record_seen c.args.binding) (so_far c.args.entries.now c.args.seen.now) c.in-Some.member (sym c.binding_member.ensures ∙ c.in-Some.is) c.in-1.is (record_seen c.in_ok-term-in-1.term) c.in_ok-term-in-1.ensures.read) c.type_of.ensures.done

pub binding_type-returns-in_default-member-clause-done : goal.binding_type-returns-in_default-member-clause-done
binding_type-returns-in_default-member-clause-done t c =
    λ n. binding_past (nodes_of c.args.context.nodes.now) c.args.context.strict (bounds c.args.inside.now) (type_said c.args.depth) (record_seen c.args.binding) (so_far c.args.entries.now c.args.seen.now) c.in-Some.member (sym c.binding_member.ensures ∙ c.in-Some.is) (omega arith) ∙ ap (λ k. Err k) (sym c.from-in_default-member.ensures)

pub bound_types-loop-index-init : goal.bound_types-loop-index-init
bound_types-loop-index-init t c =
    let none : c.new-types.result.items ≡ [] = search rules in
    let e : c.args.parameters ≡ c.args.parameters - 0 = omega arith in
    record {
      numbers = c.requires.numbers;
      below = omega arith;
      done = begun_with (map seen_marked c.new-types.result.items) (binding_types (nodes_of c.args.context.nodes.now) c.args.context.strict (bounds c.args.inside.now) (bindings_said (type_said c.args.depth) (values_left c.args.bindings 0)) c.args.parameters (so_far c.args.entries.now c.args.seen.now)) (ap (map seen_marked) none)
          ∙ ap (λ n. prefixed (map seen_marked c.new-types.result.items) (binding_types (nodes_of c.args.context.nodes.now) c.args.context.strict (bounds c.args.inside.now) (bindings_said (type_said c.args.depth) (values_left c.args.bindings 0)) n (so_far c.args.entries.now c.args.seen.now))) e;
    }

pub bound_types-returns-in_err-binding-clause-done : goal.bound_types-returns-in_err-binding-clause-done
bound_types-returns-in_err-binding-clause-done t c =
    err_done (λ types. map seen_marked types.items) (binding_types (nodes_of c.args.context.nodes.now) c.args.context.strict (bounds c.args.inside.now) (bindings_said (type_said c.args.depth) (values_left c.args.bindings 0)) c.args.parameters) (so_far c.args.entries.now c.args.seen.now) _ c.from_residual.result _ c.from_residual.ensures.1 (λ n. c.loop-index.invariant.done ∙ binding_fault (nodes_of c.args.context.nodes.now) c.args.context.strict (bounds c.args.inside.now) (type_said c.args.depth) c.args.bindings c.loop-index.index c.args.parameters (map seen_marked c.loop-index.types.items) (so_far c.loop-index.entries c.loop-index.seen) c.requires.is_list (omega arith) (omega arith) _ c.in_err-binding.ensures.refused)

pub bound_types-returns-in_err-bound-clause-done : goal.bound_types-returns-in_err-bound-clause-done
bound_types-returns-in_err-bound-clause-done t c =
    err_done (λ types. map seen_marked types.items) (binding_types (nodes_of c.args.context.nodes.now) c.args.context.strict (bounds c.args.inside.now) (bindings_said (type_said c.args.depth) (values_left c.args.bindings 0)) c.args.parameters) (so_far c.args.entries.now c.args.seen.now) _ c.from_residual-in_err-bound.result _ c.from_residual-in_err-bound.ensures.1 (λ n. c.loop-index.invariant.done ∙ binding_refused (nodes_of c.args.context.nodes.now) c.args.context.strict (bounds c.args.inside.now) (type_said c.args.depth) c.args.bindings c.loop-index.index c.args.parameters (map seen_marked c.loop-index.types.items) (so_far c.loop-index.entries c.loop-index.seen) c.requires.is_list (omega arith) (omega arith) (record_seen c.in_ok-binding.binding) c.in_ok-binding.ensures.read _ (c.in_err-bound.ensures.done n))

pub bound_types-loop-index-preserved : goal.bound_types-loop-index-preserved
bound_types-loop-index-preserved t c =
    record {
      numbers = c.in_ok-bound.ensures.numbers;
      below = omega arith;
      done = c.loop-index.invariant.done
          ∙ binding_more (nodes_of c.args.context.nodes.now) c.args.context.strict (bounds c.args.inside.now) (type_said c.args.depth) c.args.bindings c.loop-index.index c.args.parameters (map seen_marked c.loop-index.types.items) (so_far c.loop-index.entries c.loop-index.seen) c.requires.is_list (omega arith) (omega arith) (record_seen c.in_ok-binding.binding) c.in_ok-binding.ensures.read (seen_marked c.in_ok-bound.bound) _ _ c.in_ok-bound.ensures.done
          (map_more seen_marked c.loop-index.types.items _ _ (seen_marked c.in_ok-bound.bound) c.in_ok-push.ensures.items refl);
    }

pub bound_types-returns-clause-done : goal.bound_types-returns-clause-done
bound_types-returns-clause-done t c =
    c.loop-index.invariant.done ∙ bindings_all (nodes_of c.args.context.nodes.now) c.args.context.strict (bounds c.args.inside.now) (type_said c.args.depth) c.args.bindings c.loop-index.index c.args.parameters (map seen_marked c.loop-index.types.items) (so_far c.loop-index.entries c.loop-index.seen) (omega arith)

pub bound_scopes-loop-scope-init : goal.bound_scopes-loop-scope-init
bound_scopes-loop-scope-init t c =
    let none : c.new-scopes.result.items ≡ [] = search rules in
    record { numbers = c.requires.numbers; done = begun_with (bounds c.new-scopes.result.items) (each (bind_scope (brand_types (nodes_of c.args.context.nodes.now) c.args.context.strict (bounds c.args.inside.now) (scopes_said (type_said c.args.depth) (values_left c.args.said 0)))) (map with_nothing c.args.generic.now) (so_far c.args.entries.now c.args.seen.now)) (ap bounds none) }

pub bound_scopes-returns-in_err-types-clause-done : goal.bound_scopes-returns-in_err-types-clause-done
bound_scopes-returns-in_err-types-clause-done t c =
    err_done (λ scopes. bounds scopes.items) (each (bind_scope (brand_types (nodes_of c.args.context.nodes.now) c.args.context.strict (bounds c.args.inside.now) (scopes_said (type_said c.args.depth) (values_left c.args.said 0)))) (map with_nothing c.args.generic.now)) (so_far c.args.entries.now c.args.seen.now) _ c.from_residual.result _ c.from_residual.ensures.1 (λ n.
    c.loop-scope.invariant.done ∙ bind_refused (nodes_of c.args.context.nodes.now) c.args.context.strict (bounds c.args.inside.now) (scopes_said (type_said c.args.depth) (values_left c.args.said 0)) c.args.generic.now c.loop-scope.scope-index (bounds c.loop-scope.scopes.items) (so_far c.loop-scope.entries c.loop-scope.seen) _ c.loop-scope-test.true _ (c.in_err-types.ensures.done n))

pub bound_scopes-loop-scope-preserved : goal.bound_scopes-loop-scope-preserved
bound_scopes-loop-scope-preserved t c = record {
  numbers = c.in_ok-types.ensures.numbers;
  done = c.loop-scope.invariant.done
      ∙ bind_more (nodes_of c.args.context.nodes.now) c.args.context.strict (bounds c.args.inside.now) (scopes_said (type_said c.args.depth) (values_left c.args.said 0)) c.args.generic.now c.loop-scope.scope-index (bounds c.loop-scope.scopes.items) (so_far c.loop-scope.entries c.loop-scope.seen) _ c.loop-scope-test.true (map seen_marked c.in_ok-types.types.items) _ _ c.in_ok-types.ensures.done
      (map_more seen_bound c.loop-scope.scopes.items _ _ _ c.in_ok-push.ensures.items c.bound_scope.ensures);
}

pub bound_scopes-returns-clause-done : goal.bound_scopes-returns-clause-done
bound_scopes-returns-clause-done t c =
    c.loop-scope.invariant.done ∙ bind_over (nodes_of c.args.context.nodes.now) c.args.context.strict (bounds c.args.inside.now) (scopes_said (type_said c.args.depth) (values_left c.args.said 0)) c.args.generic.now c.loop-scope.scope-index (bounds c.loop-scope.scopes.items) (so_far c.loop-scope.entries c.loop-scope.seen) (omega arith)
