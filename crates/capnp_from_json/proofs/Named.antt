-- The member of a name, by the field that was found.
use Rattle.std.proofs.Common.{ℕ, ◌≡◌, List, [], ◌∷◌, ◌++◌, true, false, Option, Some, None, ap, sym, subst, ◌∙◌}
use Rattle.capnp_schema.specs.FieldLists.{IsFieldOf, IsFound, index_of, typed_of}
use Rattle.capnp_schema.specs.Query.{records_of}
use Rattle.capnp_schema.specs.Schema.{Schemas, TypedField, field_at}
use Rattle.capnp_schema.specs.StructHandles.{number_of, set_of, struct_records}
use Rattle.capnp_schema.specs.declared.schema.fields.Field.{Field}
use Rattle.capnp_schema.specs.declared.schema.structs.StructSchema.{StructSchema}
use Rattle.capnp_records.specs.Record.{Record, Value}
use Rattle.capnp_json_fields.specs.Names.{field_of_name}
use Rattle.capnp_from_json.specs.Errors.{Read, refused}
use Rattle.capnp_from_json.specs.Leaves.{Target}
use Rattle.capnp_from_json.specs.Records.{MembersRead, Rules, field_target, is_given, mark_of, member_given, member_put, member_read}
use Rattle.capnp_from_json.specs.declared.error.RefusalKind.TheVariants.{GivenTwice}
use Rattle.capnp_from_json.specs.Given.{marks_of, named_read}
use Rattle.capnp_from_json.proofs.Marks.{given_same, marks_after}

-- a field was found at its index
pub record IsFoundAt (s : StructSchema) (o : Option ℕ) (f : Field) : Type 0 where
  pub field : IsFieldOf s (index_of f) f
  pub index : o ≡ Some (index_of f)

pub found_at : (s : StructSchema) (o : Option ℕ) (f : Field) → IsFound s o (Some f) → IsFoundAt s o f
found_at s None f h = absurd h
found_at s (Some i) f h = record { field = subst (λ n. IsFieldOf s n f) (sym h.index) h; index = ap Some (sym h.index) }

module _ (rules : Rules) (schema : StructSchema) (f : Field) (place levels : ℕ) (value : (levels : ℕ) → Target → Read Value) (rest : MembersRead) (r : Record) (of_set : rules.set ≡ set_of schema) where
  abbrev b : ℕ
  b = number_of schema

  abbrev mark : Option ℕ
  mark = mark_of (typed_of f) (index_of f)

  -- by the field's record
  abbrev by_field : List (Option ℕ) → TypedField → Read Record
  by_field given tf = member_given place (is_given (mark_of tf (index_of f)) given) (member_put tf (index_of f) r (rest levels b (mark_of tf (index_of f) ∷ given)) (value levels (field_target tf)))

  same_field : IsFieldOf schema (index_of f) f → field_at rules.set b (index_of f) ≡ typed_of f
  same_field is = ap (λ (z : Schemas). field_at z b (index_of f)) of_set ∙ ap (λ (z : StructSchema). field_at (set_of z) (number_of z) (index_of f)) (sym is.schema)

  member_is : (name : List ℕ) (given : List (Option ℕ)) → IsFoundAt schema (field_of_name (struct_records schema) name) f
      → member_read rules place value rest levels b given r (field_of_name (records_of rules.set b) name) ≡ by_field given (typed_of f)
  member_is name given found =
      ap (λ (z : Schemas). member_read rules place value rest levels b given r (field_of_name (records_of z b) name)) of_set
      ∙ (ap (member_read rules place value rest levels b given r) found.index ∙ ap (by_field given) (same_field found.field))

  -- it was given before
  pub named_twice : (name : List ℕ) (ms : List (Option ℕ)) (m : Option ℕ) → IsFound schema (field_of_name (struct_records schema) name) (Some f) → m ≡ mark → is_given m ms ≡ true
      → member_read rules place value rest levels b (marks_of ms) r (field_of_name (records_of rules.set b) name) ≡ refused GivenTwice place
  named_twice name ms m found same is =
      member_is name (marks_of ms) (found_at schema (field_of_name (struct_records schema) name) f found)
      ∙ ap (λ q. member_given place q (named_read value rest levels b (mark ∷ marks_of ms) r (Some f))) (given_same mark ms ∙ (ap (λ x. is_given x ms) (sym same) ∙ is))

  -- it is given now
  pub named_once : (name : List ℕ) (ms ms' : List (Option ℕ)) (m : Option ℕ) → IsFound schema (field_of_name (struct_records schema) name) (Some f) → m ≡ mark → is_given m ms ≡ false → ms ++ m ∷ [] ≡ ms'
      → member_read rules place value rest levels b (marks_of ms) r (field_of_name (records_of rules.set b) name) ≡ named_read value rest levels b (marks_of ms') r (Some f)
  named_once name ms ms' m found same is after =
      member_is name (marks_of ms) (found_at schema (field_of_name (struct_records schema) name) f found)
      ∙ (ap (λ q. member_given place q (named_read value rest levels b (mark ∷ marks_of ms) r (Some f))) (given_same mark ms ∙ (ap (λ x. is_given x ms) (sym same) ∙ is))
      ∙ ap (λ xs. named_read value rest levels b xs r (Some f)) (ap (λ x. x ∷ marks_of ms) (sym same) ∙ (sym (marks_after ms m) ∙ ap marks_of after)))
