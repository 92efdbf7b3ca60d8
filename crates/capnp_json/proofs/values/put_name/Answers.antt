-- The separator leads on to the name's text, and this to the colon, whose outcome is the whole's.
-- What stops one of them stops the whole.
use Rattle.std.proofs.Common.{Err, subst, List, ℕ}
use Rattle.capnp_schema.specs.FieldLists.{typed_of}
use Rattle.capnp_json_fields.specs.Names.{field_name}
use Rattle.capnp_json.specs.Leaves.{text_json}
use Rattle.capnp_json.specs.Pieces.{after, colon, said, separator}
use Rattle.capnp_json.specs.Steps.Puts.{IsPut, IsStopped}
use Rattle.capnp_json.specs.Steps.Records.{named}
use Rattle.capnp_json.proofs.Puts.{last_put, last_stopped, stop_first, then}
use Rattle.capnp_json.proofs.values.put_name.Goals as goal

pub returns-in-Err-clause-stopped : goal.returns-in-Err-clause-stopped
returns-in-Err-clause-stopped c =
    stop_first c.args.out.now (said (separator c.args.at c.args.first)) (after (text_json (field_name (typed_of c.args.field).field)) (said (colon c.args.at))) c.in-Err.why c.in-Err.ensures.stopped

pub returns-in-Err-put_text-clause-stopped : goal.returns-in-Err-put_text-clause-stopped
returns-in-Err-put_text-clause-stopped c =
    then c.args.out.now c.put_separator.new.out (said (separator c.args.at c.args.first)) (after (text_json (field_name (typed_of c.args.field).field)) (said (colon c.args.at))) c.in_default.ensures.put (Err c.in-Err-put_text.why)
    (stop_first c.put_separator.new.out (text_json (field_name (typed_of c.args.field).field)) (said (colon c.args.at)) c.in-Err-put_text.why
    (subst (λ (bytes : List ℕ). IsStopped c.put_separator.new.out (text_json bytes) c.in-Err-put_text.why) c.json_name.ensures c.in-Err-put_text.ensures.stopped))

pub returns-clause-put : goal.returns-clause-put
returns-clause-put c =
    last_put c.args.out.now c.put_text.new.out c.put_colon.new.out (named c.args.at c.args.first (typed_of c.args.field)) (said (colon c.args.at))
    (λ r h.
    then c.args.out.now c.put_separator.new.out (said (separator c.args.at c.args.first)) (after (text_json (field_name (typed_of c.args.field).field)) (said (colon c.args.at))) c.in_default.ensures.put r
    (then c.put_separator.new.out c.put_text.new.out (text_json (field_name (typed_of c.args.field).field)) (said (colon c.args.at))
    (subst (λ (bytes : List ℕ). IsPut c.put_separator.new.out (text_json bytes) c.put_text.new.out) c.json_name.ensures c.in_default-put_text.ensures.put) r h)) c.put_colon.result c.put_colon.ensures.put

pub returns-clause-stopped : goal.returns-clause-stopped
returns-clause-stopped c =
    last_stopped c.args.out.now c.put_text.new.out c.put_colon.new.out (named c.args.at c.args.first (typed_of c.args.field)) (said (colon c.args.at))
    (λ r h.
    then c.args.out.now c.put_separator.new.out (said (separator c.args.at c.args.first)) (after (text_json (field_name (typed_of c.args.field).field)) (said (colon c.args.at))) c.in_default.ensures.put r
    (then c.put_separator.new.out c.put_text.new.out (text_json (field_name (typed_of c.args.field).field)) (said (colon c.args.at))
    (subst (λ (bytes : List ℕ). IsPut c.put_separator.new.out (text_json bytes) c.put_text.new.out) c.json_name.ensures c.in_default-put_text.ensures.put) r h)) c.put_colon.result c.put_colon.ensures.stopped
