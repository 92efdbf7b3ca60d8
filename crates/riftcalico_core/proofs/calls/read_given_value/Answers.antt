-- A struct or a list is read by its text, what has a word by that.
use Rattle.std.proofs.Common.{ap, rules, subst, sym, ◌∙◌, ◌≡◌}
use Rattle.std.specs.Option.{option_map}
use Rattle.capnp_schema.specs.Accepted.{NamesEntries}
use Rattle.capnp_schema.specs.Entries.{lists_seen}
use Rattle.capnp_schema.specs.Facts.Layers.{seen_which}
use Rattle.capnp_schema.specs.Schema.{Schemas}
use Rattle.capnp_schema.specs.StructHandles.{set_of}
use Rattle.capnp_schema.specs.Types.{seen_type, seen_variant}
use Rattle.capnp_json_messages.specs.Ones.{is_whole}
use Rattle.capnp_words.specs.Reads.{read_as}
use Rattle.riftcalico_core.specs.Calls.{IsSourceRead, plain_read}
use Rattle.riftcalico_core.specs.CallsSeen.{given_value_source}
use Rattle.riftcalico_core.specs.ShownValues.{IsGivenBy, shown_fault}
use Rattle.riftcalico_core.specs.SpotsSeen.{spot_seen}
use Rattle.riftcalico_core.proofs.CallsRead.{source_plain, source_whole, spot_so, with_ok}
use Rattle.riftcalico_core.proofs.calls.read_given_value.Goals as goal

pub read_whole_value-requires-clause-entries : goal.read_whole_value-requires-clause-entries
read_whole_value-requires-clause-entries c =
    subst (λ (set : Schemas). NamesEntries set (seen_type c.in-Some.target)) (sym c.get_set-schemas.ensures) (rw (c.in-Some.is) at c.requires.entries)

pub read_whole_value-requires-clause-whole : goal.read_whole_value-requires-clause-whole
read_whole_value-requires-clause-whole c =
    ap is_whole (sym (seen_which c.in-Some.target) ∙ sym (ap seen_variant c.which.ensures)) ∙ (sym c.is_whole.ensures ∙ (search rules))

pub read_whole_value-requires-clause-typed : goal.read_whole_value-requires-clause-typed
read_whole_value-requires-clause-typed c =
    spot_so (set_of c.args.schema) (lists_seen c.get_set-schemas.result.now) c.args.spot (option_map seen_type c.args.target) (seen_type c.in-Some.target) c.get_set-schemas.ensures (ap (option_map seen_type) c.in-Some.is) c.requires.typed

pub returns-then-is_whole-clause-read : goal.returns-then-is_whole-clause-read
returns-then-is_whole-clause-read c =
    with_ok (λ r. IsGivenBy (shown_fault c.args.value.now) (lists_seen c.get_set-schemas.result.now) (option_map spot_seen c.args.spot) c.args.floats (seen_type c.in-Some.target) c.args.value.now c.args.place (read_as given_value_source r))
    (λ r. IsSourceRead (set_of c.args.schema) (option_map spot_seen c.args.spot) c.args.floats (option_map seen_type c.args.target) c.args.value.now c.args.place (read_as given_value_source r)) c.read_whole_value.result c.read_whole_value.ensures.read
    (λ r given. source_whole (set_of c.args.schema) (lists_seen c.get_set-schemas.result.now) (option_map spot_seen c.args.spot) c.args.floats (option_map seen_type c.args.target) (seen_type c.in-Some.target) c.args.value.now c.args.place (read_as given_value_source r)
    c.get_set-schemas.ensures (ap (option_map seen_type) c.in-Some.is)
    (ap is_whole (sym (seen_which c.in-Some.target) ∙ sym (ap seen_variant c.which.ensures)) ∙ (sym c.is_whole.ensures ∙ (search rules))) given)

pub returns-clause-read : goal.returns-clause-read
returns-clause-read c =
    with_ok (λ r. read_as given_value_source r ≡ plain_read (lists_seen c.get_set-schemas.result.now) c.args.floats (seen_type c.in-Some.target) c.args.value.now c.args.place)
    (λ r. IsSourceRead (set_of c.args.schema) (option_map spot_seen c.args.spot) c.args.floats (option_map seen_type c.args.target) c.args.value.now c.args.place (read_as given_value_source r)) c.read_plain_value.result c.read_plain_value.ensures.read
    (λ r given. source_plain (set_of c.args.schema) (lists_seen c.get_set-schemas.result.now) (option_map spot_seen c.args.spot) c.args.floats (option_map seen_type c.args.target) (seen_type c.in-Some.target) c.args.value.now c.args.place (read_as given_value_source r)
    c.get_set-schemas.ensures (ap (option_map seen_type) c.in-Some.is)
    (ap is_whole (sym (seen_which c.in-Some.target) ∙ sym (ap seen_variant c.which.ensures)) ∙ (sym c.is_whole.ensures ∙ (search rules))) given)
