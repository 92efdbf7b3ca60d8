-- All that is read of the field is what the definition reads there, so the field made is the one that it gives.
use Rattle.std.proofs.Common.{◌≡◌, ◌∙◌, ap, rules, sym, string_bytes, true, Ok}
use Rattle.capnp_schema.specs.Schema.{seen_value}
use Rattle.capnp_schema.specs.Types.{seen_type}
use Rattle.capnp_request.specs.Steps.Seen.{record_seen}
use Rattle.capnp_request.specs.Steps.Work.{named_with}
use Rattle.capnp_request.specs.Work.{nothing_seen}
use Rattle.capnp_request.proofs.PlainFields.{IsReadField, IsReadSlot, plain_done}
use Rattle.capnp_request.proofs.field_lists.put_plain.Goals as goal

pub returns-clause-put : goal.returns-clause-put
returns-clause-put c =
    let slot : IsReadSlot (record_seen c.args.field) c.u32_at-offset.result (seen_value c.in-Ok-value_of.default) (seen_type c.in-Some-plain_type.said) = record {
      active = c.in-Some.ensures.active;
      slot = record_seen c.in-Some.slot;
      there = c.in-Some.ensures.read;
      number = c.u32_at-offset.ensures;
      term = c.in-Some-plain_type.ensures.said.0;
      typed = c.in-Some-plain_type.ensures.said.1;
      said = c.in-Some-plain_type.ensures.said.2;
      not_untyped = c.in-Some-plain_type.ensures.typed;
      stored = record_seen c.in-Ok.value;
      valued = c.in-Ok.ensures.read;
      stated = c.in-Ok-value_of.ensures.read;
    } in
    let bare : c.has_no_annotations.result ≡ true = search rules in
    let field : IsReadField (record_seen c.args.field) (string_bytes c.in-Ok-owned.name) c.u16_at-discriminant_value.result = record {
      bytes = c.in-Ok-text_at.text.now;
      text = c.in-Ok-text_at.ensures.read;
      named = c.in-Ok-owned.ensures.read;
      number = c.u16_at-discriminant_value.ensures;
      none = c.has_no_annotations.ensures bare;
    } in
    let put = c.in_ok-put_field.ensures in
    λ is. (
      c.plain_field-made.result,
      record { records = put.records; types = put.types; children = put.children },
      record {
        done = λ nodes strict inside n i s. plain_done nodes strict inside n i (record_seen c.args.field) _ _ _ slot s _ _ field ∙ ap (λ made. Ok (made, named_with s nothing_seen)) (sym (c.plain_field-made.ensures n i));
        notes = λ n i. ap (λ made. made.notes) (c.plain_field-made.ensures n i);
      },
    )
