-- The declaration, the scopes bound by the brand, and the declared type inside them come in this order.
-- The whole brand is that of 64 levels, and nothing is noted.
use Rattle.std.proofs.Common.{◌∙◌, ap, refl, sym, Err, List}
use Rattle.capnp_request.specs.Steps.Seen.{record_seen}
use Rattle.capnp_request.specs.Steps.Bindings.{bounds, flags, seen_marked}
use Rattle.capnp_request.specs.Steps.Done.{between, so_far}
use Rattle.capnp_request.specs.Steps.Nodes.{nodes_of}
use Rattle.capnp_request.specs.Steps.Numbers.{numbered_entries}
use Rattle.capnp_request.specs.Parts.{request_read_at}
use Rattle.capnp_request.specs.Work.{nothing_seen, work_unnoted}
use Rattle.capnp_request.proofs.Refused.{err_done}
use Rattle.capnp_request.specs.Conversion.{declared_type}
use Rattle.capnp_request.specs.Reading.{brand_in, declaration_said, type_said, whole_type}
use Rattle.capnp_request.specs.Types.{named_scopes, type_of}
use Rattle.capnp_request.specs.Steps.Work.{named_with}
use Rattle.capnp_request.specs.declared.entries.BoundScope.{BoundScope}
use Rattle.capnp_request.proofs.AnnotationsDone.{by_levels, declaration_read, declaration_unread, done_type, refused_type, unbound_type, undeclared_type}
use Rattle.capnp_request.proofs.annotations.annotation_type.Goals as goal

pub returns-in_err-declaration-clause-done : goal.returns-in_err-declaration-clause-done
returns-in_err-declaration-clause-done c = err_done seen_marked (work_unnoted (declared_type (nodes_of c.args.context.nodes.now) c.args.context.strict c.args.id (bounds c.args.inside.now) (brand_in whole_type (request_read_at 12 2 (record_seen c.args.annotation))))) (between c.args.entries.now) _ c.from_residual.result _ c.from_residual.ensures.1 (λ n. undeclared_type (nodes_of c.args.context.nodes.now) c.args.context.strict c.args.id (bounds c.args.inside.now) (brand_in whole_type (request_read_at 12 2 (record_seen c.args.annotation))) (numbered_entries c.args.entries.now) c.in_err-declaration.ensures.missing ∙ ap (λ k. Err k) (sym c.in_err-declaration.ensures.kinds))

pub returns-in_err-scopes-clause-done : goal.returns-in_err-scopes-clause-done
returns-in_err-scopes-clause-done c = err_done seen_marked (work_unnoted (declared_type (nodes_of c.args.context.nodes.now) c.args.context.strict c.args.id (bounds c.args.inside.now) (brand_in whole_type (request_read_at 12 2 (record_seen c.args.annotation))))) (between c.args.entries.now) _ c.from_residual-in_err-scopes.result _ c.from_residual-in_err-scopes.ensures.1 (λ n. unbound_type (nodes_of c.args.context.nodes.now) c.args.context.strict c.args.id (bounds c.args.inside.now) (brand_in whole_type (request_read_at 12 2 (record_seen c.args.annotation))) (numbered_entries c.args.entries.now) (declaration_said (record_seen c.in_ok-declaration.declaration)) c.in_ok-declaration.ensures.read _ ((by_levels (nodes_of c.args.context.nodes.now) c.args.context.strict c.args.id (bounds c.args.inside.now) (brand_in whole_type (request_read_at 12 2 (record_seen c.args.annotation))) (numbered_entries c.args.entries.now) (request_read_at 12 2 (record_seen c.args.annotation)) c.levels_of_types-levels.result c.levels_of_types-levels.ensures (named_with (numbered_entries c.args.entries.now) nothing_seen)) ∙ ((ap (λ s. named_scopes (nodes_of c.args.context.nodes.now) c.args.context.strict (bounds c.args.inside.now) c.args.id (brand_in (type_said c.levels_of_types-levels.result) (request_read_at 12 2 (record_seen c.args.annotation))) (named_with (numbered_entries c.args.entries.now) s)) (sym c.nothing-seen.ensures.seen)) ∙ c.in_err-scopes.ensures.done n)))

pub returns-in_err-term-clause-done : goal.returns-in_err-term-clause-done
returns-in_err-term-clause-done c = err_done seen_marked (work_unnoted (declared_type (nodes_of c.args.context.nodes.now) c.args.context.strict c.args.id (bounds c.args.inside.now) (brand_in whole_type (request_read_at 12 2 (record_seen c.args.annotation))))) (between c.args.entries.now) _ c.from_residual-in_err-term.result _ c.from_residual-in_err-term.ensures.1 (λ n. refused_type (nodes_of c.args.context.nodes.now) c.args.context.strict c.args.id (bounds c.args.inside.now) (brand_in whole_type (request_read_at 12 2 (record_seen c.args.annotation))) (numbered_entries c.args.entries.now) (declaration_said (record_seen c.in_ok-declaration.declaration)) c.in_ok-declaration.ensures.read (bounds c.in_ok-scopes.scopes.items) (so_far c.bindings_of.new.entries c.bindings_of.new.seen) ((by_levels (nodes_of c.args.context.nodes.now) c.args.context.strict c.args.id (bounds c.args.inside.now) (brand_in whole_type (request_read_at 12 2 (record_seen c.args.annotation))) (numbered_entries c.args.entries.now) (request_read_at 12 2 (record_seen c.args.annotation)) c.levels_of_types-levels.result c.levels_of_types-levels.ensures (named_with (numbered_entries c.args.entries.now) nothing_seen)) ∙ ((ap (λ s. named_scopes (nodes_of c.args.context.nodes.now) c.args.context.strict (bounds c.args.inside.now) c.args.id (brand_in (type_said c.levels_of_types-levels.result) (request_read_at 12 2 (record_seen c.args.annotation))) (named_with (numbered_entries c.args.entries.now) s)) (sym c.nothing-seen.ensures.seen)) ∙ c.in_ok-scopes.ensures.done)) _ (declaration_unread (record_seen c.in_ok-declaration.declaration) _ c.in_err-term.ensures.refused) _ refl)

pub returns-in_err-annotation_type-clause-done : goal.returns-in_err-annotation_type-clause-done
returns-in_err-annotation_type-clause-done c = err_done seen_marked (work_unnoted (declared_type (nodes_of c.args.context.nodes.now) c.args.context.strict c.args.id (bounds c.args.inside.now) (brand_in whole_type (request_read_at 12 2 (record_seen c.args.annotation))))) (between c.args.entries.now) _ c.from_residual-in_err-annotation_type.result _ c.from_residual-in_err-annotation_type.ensures.1 (λ n. refused_type (nodes_of c.args.context.nodes.now) c.args.context.strict c.args.id (bounds c.args.inside.now) (brand_in whole_type (request_read_at 12 2 (record_seen c.args.annotation))) (numbered_entries c.args.entries.now) (declaration_said (record_seen c.in_ok-declaration.declaration)) c.in_ok-declaration.ensures.read (bounds c.in_ok-scopes.scopes.items) (so_far c.bindings_of.new.entries c.bindings_of.new.seen) ((by_levels (nodes_of c.args.context.nodes.now) c.args.context.strict c.args.id (bounds c.args.inside.now) (brand_in whole_type (request_read_at 12 2 (record_seen c.args.annotation))) (numbered_entries c.args.entries.now) (request_read_at 12 2 (record_seen c.args.annotation)) c.levels_of_types-levels.result c.levels_of_types-levels.ensures (named_with (numbered_entries c.args.entries.now) nothing_seen)) ∙ ((ap (λ s. named_scopes (nodes_of c.args.context.nodes.now) c.args.context.strict (bounds c.args.inside.now) c.args.id (brand_in (type_said c.levels_of_types-levels.result) (request_read_at 12 2 (record_seen c.args.annotation))) (named_with (numbered_entries c.args.entries.now) s)) (sym c.nothing-seen.ensures.seen)) ∙ c.in_ok-scopes.ensures.done)) (type_said c.levels_of_types-levels.result (record_seen c.in_ok-term.term)) (declaration_read (record_seen c.in_ok-declaration.declaration) (record_seen c.in_ok-term.term) c.levels_of_types-levels.result c.levels_of_types-levels.ensures c.in_ok-term.ensures.read) _ ((ap (λ (xs : List BoundScope). type_of (nodes_of c.args.context.nodes.now) c.args.context.strict (bounds xs) (type_said c.levels_of_types-levels.result (record_seen c.in_ok-term.term)) (so_far c.bindings_of.new.entries c.bindings_of.new.seen)) (sym c.as_slice.ensures.value)) ∙ c.in_err-annotation_type.ensures.done n))

pub returns-clause-done : goal.returns-clause-done
returns-clause-done c = done_type (nodes_of c.args.context.nodes.now) c.args.context.strict c.args.id (bounds c.args.inside.now) (brand_in whole_type (request_read_at 12 2 (record_seen c.args.annotation))) (numbered_entries c.args.entries.now) (declaration_said (record_seen c.in_ok-declaration.declaration)) c.in_ok-declaration.ensures.read (bounds c.in_ok-scopes.scopes.items) (so_far c.bindings_of.new.entries c.bindings_of.new.seen) ((by_levels (nodes_of c.args.context.nodes.now) c.args.context.strict c.args.id (bounds c.args.inside.now) (brand_in whole_type (request_read_at 12 2 (record_seen c.args.annotation))) (numbered_entries c.args.entries.now) (request_read_at 12 2 (record_seen c.args.annotation)) c.levels_of_types-levels.result c.levels_of_types-levels.ensures (named_with (numbered_entries c.args.entries.now) nothing_seen)) ∙ ((ap (λ s. named_scopes (nodes_of c.args.context.nodes.now) c.args.context.strict (bounds c.args.inside.now) c.args.id (brand_in (type_said c.levels_of_types-levels.result) (request_read_at 12 2 (record_seen c.args.annotation))) (named_with (numbered_entries c.args.entries.now) s)) (sym c.nothing-seen.ensures.seen)) ∙ c.in_ok-scopes.ensures.done)) (type_said c.levels_of_types-levels.result (record_seen c.in_ok-term.term)) (declaration_read (record_seen c.in_ok-declaration.declaration) (record_seen c.in_ok-term.term) c.levels_of_types-levels.result c.levels_of_types-levels.ensures c.in_ok-term.ensures.read) (seen_marked c.in_ok-annotation_type.annotation_type) (numbered_entries c.type_of.new.entries) (flags c.type_of.new.seen) ((ap (λ (xs : List BoundScope). type_of (nodes_of c.args.context.nodes.now) c.args.context.strict (bounds xs) (type_said c.levels_of_types-levels.result (record_seen c.in_ok-term.term)) (so_far c.bindings_of.new.entries c.bindings_of.new.seen)) (sym c.as_slice.ensures.value)) ∙ c.in_ok-annotation_type.ensures.done)
