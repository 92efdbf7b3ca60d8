-- The search from this index on finds what the search of the whole brand does.
-- A scope of another id is passed, and one of this id is found.
use Rattle.std.proofs.Common.{arith, refl, ◌∙◌}
use Rattle.std.specs.Option.{option_map}
use Rattle.capnp_request.specs.Steps.Seen.{record_seen}
use Rattle.capnp_request.specs.Steps.Handles.{values_left}
use Rattle.capnp_request.specs.Steps.Meant.{scope_in}
use Rattle.capnp_request.specs.Reading.{scope_said, scopes_said}
use Rattle.capnp_request.proofs.Refused.{err_said}
use Rattle.capnp_request.proofs.ScopesBound.{scope_end, scope_fault, scope_here, scope_next}
use Rattle.capnp_request.proofs.types.brand_scope.Goals as goal

pub loop-index-init : goal.loop-index-init
loop-index-init c = λ inner. refl

pub returns-in_err-scope-clause-said : goal.returns-in_err-scope-clause-said
returns-in_err-scope-clause-said c = λ inner.
    err_said (option_map (λ s. scope_said inner (record_seen s))) (scope_in (scopes_said inner (values_left c.args.said 0)) c.args.id) c.from_residual.result _ c.from_residual.ensures.1 (λ n.
    c.loop-index.invariant inner ∙ scope_fault inner c.args.said c.loop-index.index c.args.id c.requires (omega arith) _ c.in_err-scope.ensures.refused)

pub returns-then-scope_id-id-clause-said : goal.returns-then-scope_id-id-clause-said
returns-then-scope_id-id-clause-said c = λ inner.
    c.loop-index.invariant inner ∙ scope_here inner c.args.said c.loop-index.index c.args.id c.requires (omega arith) (record_seen c.in_ok-scope.scope) c.u64_at-scope_id.result c.in_ok-scope.ensures.read c.u64_at-scope_id.ensures c.if-scope_id-id.true

pub loop-index-preserved : goal.loop-index-preserved
loop-index-preserved c = λ inner.
    c.loop-index.invariant inner ∙ scope_next inner c.args.said c.loop-index.index c.args.id c.requires (omega arith) (record_seen c.in_ok-scope.scope) c.u64_at-scope_id.result c.in_ok-scope.ensures.read c.u64_at-scope_id.ensures c.if-scope_id-id.false

pub returns-clause-said : goal.returns-clause-said
returns-clause-said c = λ inner. c.loop-index.invariant inner ∙ scope_end inner c.args.said c.loop-index.index c.args.id (omega arith)
