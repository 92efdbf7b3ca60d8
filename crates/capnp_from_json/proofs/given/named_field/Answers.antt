use Rattle.std.proofs.Common.{◌≡◌, [], ◌∷◌, ◌++◌, ap, arith, drop, rules, subst, sym, ◌∙◌}
use Rattle.std.proofs.lemmas.Grind.{common_steps}
use Rattle.capnp_schema.specs.FieldLists.{IsFound}
use Rattle.capnp_schema.specs.StructHandles.{struct_records}
use Rattle.capnp_json_fields.specs.Names.{field_of_name}
use Rattle.capnp_json_text.specs.Contents.{string_content}
use Rattle.capnp_from_json.specs.Records.{is_given}
use Rattle.capnp_from_json.specs.declared.error.RefusalKind.TheVariants.{GivenTwice}
use Rattle.capnp_from_json.proofs.Named.{named_once, named_twice}
use Rattle.capnp_from_json.proofs.Refusals.{error_at}
use Rattle.capnp_from_json.proofs.given.named_field.Goals as goal

-- A name whose field is marked is refused as given twice; else its field is marked and read.
pub returns-then-is_given-clause-refused : goal.returns-then-is_given-clause-refused
returns-then-is_given-clause-refused c = λ rules of_set strict value rest levels r.
    let name = string_content (drop 1 c.args.bytes.now) in
    let same : c.args.given.now.items ≡ c.deref.result.now = cc c.deref.ensures.value in
    error_at _ c.refused-twice.result GivenTwice c.place_of-place.result _ c.refused-twice.ensures c.place_of-place.ensures
    (named_twice rules c.args.schema c.in-Some.field _ levels value rest r of_set name c.args.given.now.items c.mark_of-mark.result
    (subst (IsFound c.args.schema (field_of_name (struct_records c.args.schema) name)) c.in-Some.is c.in-Ok.ensures.found) c.mark_of-mark.ensures (ap (is_given c.mark_of-mark.result) same ∙ (sym c.is_given.ensures ∙ c.if-is_given.true)))

pub returns-clause-read : goal.returns-clause-read
returns-clause-read c = λ rules of_set strict value rest levels r.
    let name = string_content (drop 1 c.args.bytes.now) in
    let same : c.args.given.now.items ≡ c.deref.result.now = cc c.deref.ensures.value in
    named_once rules c.args.schema c.in-Some.field _ levels value rest r of_set name c.args.given.now.items c.push.new.self.items c.mark_of-mark.result
    (subst (IsFound c.args.schema (field_of_name (struct_records c.args.schema) name)) c.in-Some.is c.in-Ok.ensures.found) c.mark_of-mark.ensures (ap (is_given c.mark_of-mark.result) same ∙ (sym c.is_given.ensures ∙ c.if-is_given.false))
    (let p : c.args.given.now.items ++ c.mark_of-mark.result ∷ [] ≡ c.push.new.self.items = first_of (search rules, grind (arith, common_steps)) in p)
