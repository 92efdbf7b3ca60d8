-- No values, one, or those of two parts joined.
use Rattle.std.proofs.Common.{List, subst}
use Rattle.std.proofs.lemmas.Result.{err_from_is_err_and}
use Rattle.capnp_arena.specs.Message.{message_tree}
use Rattle.capnp_schema.specs.Entries.{lists_seen}
use Rattle.capnp_schema.specs.Types.{seen_type}
use Rattle.capnp_dynamic_readers.specs.declared.dynamic_value.Reader.{Reader as DynamicValue}
use Rattle.capnp_edits.specs.Changes.{AreListed, AreRefused}
use Rattle.capnp_edits.proofs.Results.{if_err, if_ok}
use Rattle.capnp_edit_calls.specs.ChangesSeen.{sources_of}
use Rattle.capnp_edit_calls.proofs.Joins.{listed_both, listed_none, listed_one, refused_both, refused_first, refused_one, refused_second}
use Rattle.capnp_edit_calls.proofs.appends.+list_all.Goals as goal

pub returns-then-values-eq0-clause-listed : goal.returns-then-values-eq0-clause-listed
returns-then-values-eq0-clause-listed t c =
    if_ok c.new_elements.result (λ m made. listed_none (lists_seen c.args.schemas.now) (seen_type c.args.element) c.args.values.now c.if-values-eq0.true (message_tree m) made) c.new_elements.ensures.made

pub returns-then-values-eq1-clause-listed : goal.returns-then-values-eq1-clause-listed
returns-then-values-eq1-clause-listed t c =
    if_ok c.list_one.result (λ m made. listed_one (lists_seen c.args.schemas.now) (seen_type c.args.element) c.args.values.now c.index-values-0.result c.if-values-eq1.true c.index-values-0.is (message_tree m) made) c.list_one.ensures.made

pub returns-then-values-eq1-clause-cause : goal.returns-then-values-eq1-clause-cause
returns-then-values-eq1-clause-cause t c =
    if_err c.list_one.result (λ x refused other. refused_one (lists_seen c.args.schemas.now) (seen_type c.args.element) c.args.values.now c.index-values-0.result c.if-values-eq1.true c.index-values-0.is x.kind (refused other)) c.list_one.ensures.cause

pub returns-in_err-first-clause-cause : goal.returns-in_err-first-clause-cause
returns-in_err-first-clause-cause t c =
    let p = err_from_is_err_and c.from_residual.result c.from_residual.ensures.1 in
    let set = lists_seen c.args.schemas.now in
    let e = seen_type c.args.element in
    rw (p.1, p.2) (λ other. refused_first set e c.args.values.now _ c.in_err-first.field-0.0.kind
    (subst (λ (vs : List DynamicValue). AreRefused set e (sources_of vs) c.in_err-first.field-0.0.kind) c.split_at.ensures.front (c.in_err-first.ensures.cause other)))

pub returns-in_err-second-clause-cause : goal.returns-in_err-second-clause-cause
returns-in_err-second-clause-cause t c =
    let p = err_from_is_err_and c.from_residual-in_err-second.result c.from_residual-in_err-second.ensures.1 in
    let set = lists_seen c.args.schemas.now in
    let e = seen_type c.args.element in
    rw (p.1, p.2) (λ other. refused_second set e c.args.values.now _ (message_tree c.in_ok-first.first) c.in_err-second.field-0.0.kind
    (subst (λ (vs : List DynamicValue). AreListed set e (sources_of vs) (message_tree c.in_ok-first.first)) c.split_at.ensures.front c.in_ok-first.ensures.listed)
    (subst (λ (vs : List DynamicValue). AreRefused set e (sources_of vs) c.in_err-second.field-0.0.kind) c.split_at.ensures.back (c.in_err-second.ensures.cause other)))

pub returns-clause-listed : goal.returns-clause-listed
returns-clause-listed t c =
    let set = lists_seen c.args.schemas.now in
    let e = seen_type c.args.element in
    if_ok c.join_made.result (λ m j. listed_both set e c.args.values.now _ (message_tree c.in_ok-first.first) (message_tree c.in_ok-second.second) (message_tree m)
    (subst (λ (vs : List DynamicValue). AreListed set e (sources_of vs) (message_tree c.in_ok-first.first)) c.split_at.ensures.front c.in_ok-first.ensures.listed)
    (subst (λ (vs : List DynamicValue). AreListed set e (sources_of vs) (message_tree c.in_ok-second.second)) c.split_at.ensures.back c.in_ok-second.ensures.listed) j) c.join_made.ensures.joined

pub returns-clause-cause : goal.returns-clause-cause
returns-clause-cause t c =
    let set = lists_seen c.args.schemas.now in
    let e = seen_type c.args.element in
    if_err c.join_made.result (λ x refused other. refused_both set e c.args.values.now _ (message_tree c.in_ok-first.first) (message_tree c.in_ok-second.second) x.kind
    (subst (λ (vs : List DynamicValue). AreListed set e (sources_of vs) (message_tree c.in_ok-first.first)) c.split_at.ensures.front c.in_ok-first.ensures.listed)
    (subst (λ (vs : List DynamicValue). AreListed set e (sources_of vs) (message_tree c.in_ok-second.second)) c.split_at.ensures.back c.in_ok-second.ensures.listed) (refused other)) c.join_made.ensures.cause
