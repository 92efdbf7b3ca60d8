-- A set is given what goes where its path leads, and an edit an element of the list there.
use Rattle.std.proofs.Common.{IfSome, Option, ap, subst, sym, ◌∙◌}
use Rattle.capnp_records.specs.Run.{root_type}
use Rattle.capnp_schema.specs.StructHandles.{number_of, set_of}
use Rattle.capnp_schema.specs.Types.{SchemaType, StructType}
use Rattle.capnp_words.specs.Seen.{op_text_seen, path_text_seen}
use Rattle.capnp_words.specs.Targets.{type_along}
use Rattle.capnp_words.specs.declared.call.WordOp.{WordOp}
use Rattle.riftcalico_core.specs.Calls.{given_spot, given_type}
use Rattle.riftcalico_core.specs.LastFields.{spot_along}
use Rattle.riftcalico_core.specs.Steps.Spots.{IsSpotAt}
use Rattle.riftcalico_core.proofs.CallsRead.{element_type_given, spot_element}
use Rattle.riftcalico_core.proofs.calls.find_given_spot.Goals as goal

pub returns-in-Set-clause-is : goal.returns-in-Set-clause-is
returns-in-Set-clause-is c =
    let set = set_of c.args.schema in
    c.find_spot.ensures.is
    ∙ (ap (λ (t : SchemaType). spot_along set t (path_text_seen c.args.call.now.path)) (ap (StructType (number_of c.args.schema)) c.requires.generic)
    ∙ ap (λ (op : WordOp). given_spot (op_text_seen op) (spot_along set (root_type set (number_of c.args.schema)) (path_text_seen c.args.call.now.path))) (sym c.in-Set.is))

pub returns-in-Set-clause-typed : goal.returns-in-Set-clause-typed
returns-in-Set-clause-typed c =
    let set = set_of c.args.schema in
    subst (λ (op : WordOp). IfSome c.find_spot.result (IsSpotAt set (given_type (op_text_seen op) (type_along set (root_type set (number_of c.args.schema)) (path_text_seen c.args.call.now.path)))))
    (sym c.in-Set.is)
    (subst (λ (t : SchemaType). IfSome c.find_spot.result (IsSpotAt set (type_along set t (path_text_seen c.args.call.now.path)))) (ap (StructType (number_of c.args.schema)) c.requires.generic)
    c.find_spot.ensures.typed)

pub returns-in-Append-clause-typed : goal.returns-in-Append-clause-typed
returns-in-Append-clause-typed c =
    let set = set_of c.args.schema in
    let type = type_along set (root_type set (number_of c.args.schema)) (path_text_seen c.args.call.now.path) in
    let there = subst (λ (t : SchemaType). IfSome c.find_spot-in-Append.result (IsSpotAt set (type_along set t (path_text_seen c.args.call.now.path)))) (ap (StructType (number_of c.args.schema)) c.requires.generic) c.find_spot-in-Append.ensures.typed in
    subst (λ (q : Option SchemaType). IfSome c.go_within.result (IsSpotAt set q)) (sym (element_type_given c.args.call.now.op type c.in-Append.is))
    (spot_element set type c.find_spot-in-Append.result c.go_within.result there (c.go_within.ensures.typed set))
