-- The enum is named and then made; its record goes behind the enums made so far, and the rest of what is made stays.
use Rattle.std.proofs.Common.{◌∙◌, ap, inr, refl, sym, Ok}
use Rattle.std.proofs.lemmas.Result.{err_from_is_err_and}
use Rattle.capnp_schema.specs.Schema.{seen_enum}
use Rattle.capnp_request.specs.Steps.Done.{between}
use Rattle.capnp_request.specs.Steps.Nodes.{nodes_of}
use Rattle.capnp_request.specs.Steps.ProgressSeen.{made_of}
use Rattle.capnp_request.proofs.Numbering.{map_more}
use Rattle.capnp_request.proofs.OrderMade.{enum_done, enum_refused, enum_unmade, same_made}
use Rattle.capnp_request.proofs.conversion.Progress.add_enum.Goals as goal

pub returns-in_err-named-clause-done : goal.returns-in_err-named-clause-done
returns-in_err-named-clause-done c = λ hs.
    let p = err_from_is_err_and c.from_residual.result c.from_residual.ensures.1 in
    rw (p.1, p.2) (λ is. enum_refused (nodes_of c.args.context.nodes.now) c.args.context.strict (made_of c.args.self.now hs) (between c.args.entries.now) c.args.id _ (c.in_err-named.ensures.said is))

pub returns-in_err-record-clause-done : goal.returns-in_err-record-clause-done
returns-in_err-record-clause-done c = λ hs.
    let p = err_from_is_err_and c.from_residual-in_err-record.result c.from_residual-in_err-record.ensures.1 in
    rw (p.1, p.2) (λ is. enum_unmade (nodes_of c.args.context.nodes.now) c.args.context.strict (made_of c.args.self.now hs) (between c.args.entries.now) c.args.id _ _ c.in_ok-named.ensures.said _ (c.in_err-record.ensures.done is))

pub returns-clause-done : goal.returns-clause-done
returns-clause-done c = λ hs.
    enum_done (nodes_of c.args.context.nodes.now) c.args.context.strict (made_of c.args.self.now hs) (between c.args.entries.now) c.args.id _ _ c.in_ok-named.ensures.said _ _ c.in_ok-record.ensures.done
    ∙ ap (λ m. Ok (m, between c.enum_of.new.entries)) (same_made _ _ _ _ _ _ _ _ _ _ refl refl (sym (map_more seen_enum c.args.self.now.made.enums.items _ _ _ c.in_ok-push.ensures.items refl)) refl)

pub returns-clause-enums : goal.returns-clause-enums
returns-clause-enums c = inr (_, c.in_ok-push.ensures.items)
