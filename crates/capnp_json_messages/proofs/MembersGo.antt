-- The members of an object, one behind the other.
use Rattle.std.proofs.Common.{ℕ, ◌≡◌, ◌-◌, ◌≤◌, List, [], Option, None, Some, length, drop, refl, ap, sym, subst, ◌∙◌}
use Rattle.capnp_wire.specs.Tree.{StructTree}
use Rattle.capnp_schema.specs.FieldLists.{field_schema, index_of, typed_of}
use Rattle.capnp_schema.specs.Laws.{struct_spots}
use Rattle.capnp_schema.specs.Query.{records_of}
use Rattle.capnp_schema.specs.StructHandles.{number_of, set_of}
use Rattle.capnp_schema.specs.declared.schema.fields.Field.{Field}
use Rattle.capnp_schema.specs.declared.schema.structs.StructSchema.{StructSchema}
use Rattle.capnp_records.specs.Facts.FieldWrite.{fits_after, writes_refl}
use Rattle.capnp_records.specs.Facts.GroupWrite.{turns_trans}
use Rattle.capnp_records.specs.Reading.{reads}
use Rattle.capnp_records.specs.Record.{Record, Value}
use Rattle.capnp_records.specs.Writes.Overlay.{Turns}
use Rattle.capnp_slots.specs.Fields.{field_brand, field_set}
use Rattle.capnp_slots.specs.Standing.{IsUnder}
use Rattle.capnp_json_text.specs.Contents.{string_content}
use Rattle.capnp_json_text.specs.Laws.{StandsInSteps}
use Rattle.capnp_json_text.specs.Values.{Members, following_item, json_at, member_value, members_of, most_items}
use Rattle.capnp_json_fields.specs.Names.{field_of_name}
use Rattle.capnp_from_json.specs.Errors.{Read}
use Rattle.capnp_from_json.specs.Given.{named_read}
use Rattle.capnp_from_json.specs.Leaves.{Target}
use Rattle.capnp_from_json.specs.Records.{MembersRead, Rules, member_put, member_read, members_of_json, value_of_json}
use Rattle.capnp_from_json.specs.declared.error.Error.{Error}
use Rattle.capnp_from_json.specs.declared.reading.Reading.{Reading}
use Rattle.capnp_from_json.proofs.Refusals.{error_same, error_through}
use Rattle.capnp_json_messages.specs.Steps.Walks.{MemberRead}
use Rattle.capnp_json_messages.specs.Walks.{AreRules, FieldRead, IsRefused, StructRead, field_json, members_json}

-- the record of a struct under its schema
abbrev pub record_at : StructSchema → StructTree → Record
record_at schema s = reads (set_of schema) s (number_of schema)

pub turns_same : (schema : StructSchema) (s : StructTree) → Turns (set_of schema) (number_of schema) s s (record_at schema s)
turns_same schema s = record { writes = writes_refl (struct_spots (set_of schema) (number_of schema)) s; record_after = refl }

-- ---- a member ----

-- what stands behind a member, and its value
abbrev pub behind : Reading → List ℕ → Rules → MembersRead
behind reading bytes rules = members_of_json rules (members_of (json_at reading.whole) reading.whole (following_item (member_value bytes)))

abbrev pub its_value : Reading → List ℕ → Rules → (levels : ℕ) → Target → Read Value
its_value reading bytes rules = value_of_json rules (json_at reading.whole (member_value bytes))

-- a member by its name
abbrev pub by_name : Reading → (levels : ℕ) → StructSchema → List ℕ → (given : List (Option ℕ)) → Record → Rules → Read Record
by_name reading levels schema bytes given r rules =
    member_read rules (reading.whole - length bytes) (its_value reading bytes rules) (behind reading bytes rules) levels (number_of schema) given r (field_of_name (records_of rules.set (number_of schema)) (string_content (drop 1 bytes)))

-- what a name leads to: a field, or nothing
abbrev pub IsNamed : Reading → (levels : ℕ) → StructSchema → List ℕ → (given given' : List (Option ℕ)) → Record → Option Field → Type 0
IsNamed reading levels schema bytes given given' r o = (rules : Rules) → AreRules (set_of schema) reading.strict rules
    → by_name reading levels schema bytes given r rules ≡ named_read (its_value reading bytes rules) (behind reading bytes rules) levels (number_of schema) given' r o

module _ (steps : StandsInSteps) (reading : Reading) (levels : ℕ) (schema : StructSchema) (bytes : List ℕ) (given : List (Option ℕ)) (r : Record) where
  pub member_is : (rules : Rules) → members_json reading levels schema (Some bytes) given r rules ≡ by_name reading levels schema bytes given r rules
  member_is rules = ap (λ (ms : Members). members_of_json rules ms levels (number_of schema) given r) (steps.members (json_at reading.whole) reading.whole bytes)

  pub name_refused : (e : Error) → IsRefused (set_of schema) reading.strict (by_name reading levels schema bytes given r) e → IsRefused (set_of schema) reading.strict (members_json reading levels schema (Some bytes) given r) e
  name_refused e h = λ rules are. error_same (members_json reading levels schema (Some bytes) given r rules) (by_name reading levels schema bytes given r rules) e (member_is rules) (h rules are)

behind_is : (reading : Reading) (levels : ℕ) (schema : StructSchema) (bytes : List ℕ) (next : Option (List ℕ)) (given : List (Option ℕ)) (r : Record) (rules : Rules) → next ≡ following_item (member_value bytes)
    → behind reading bytes rules levels (number_of schema) given r ≡ members_json reading levels schema next given r rules
behind_is reading levels schema bytes next given r rules is = ap (λ (o : Option (List ℕ)). members_of_json rules (members_of (json_at reading.whole) reading.whole o) levels (number_of schema) given r) (sym is)

-- the item behind a member
pub record IsBehind (bytes : List ℕ) (next : Option (List ℕ)) : Type 0 where
  pub is : next ≡ following_item (member_value bytes)
  pub fewer : most_items next ≤ length bytes

-- one that is passed over
pub member_passed : StandsInSteps → (reading : Reading) (levels : ℕ) (schema : StructSchema) (bytes : List ℕ) (next : Option (List ℕ)) (given given' : List (Option ℕ)) (s : StructTree) → IsUnder schema s
    → IsBehind bytes next → IsNamed reading levels schema bytes given given' (record_at schema s) None → MemberRead schema reading levels bytes next given given' s s
member_passed steps reading levels schema bytes next given given' s room next_is named = record {
  turns = turns_same schema s;
  room = room;
  fewer = next_is.fewer;
  goes_on = λ rules are. member_is steps reading levels schema bytes given (record_at schema s) rules ∙ (named rules are ∙ behind_is reading levels schema bytes next given' (record_at schema s) rules next_is.is);
}

-- one whose field was read, by the field's own schema
module _ (steps : StandsInSteps) (reading : Reading) (levels : ℕ) (f : Field) (bytes : List ℕ) (given given' : List (Option ℕ)) (s : StructTree)
    (named : IsNamed reading levels (field_schema f) bytes given given' (record_at (field_schema f) s) (Some f)) where
  named_is : (rules : Rules) → AreRules (field_set f) reading.strict rules
      → members_json reading levels (field_schema f) (Some bytes) given (record_at (field_schema f) s) rules
      ≡ member_put (typed_of f) (index_of f) (record_at (field_schema f) s) (behind reading bytes rules levels (field_brand f) given') (field_json reading levels f (member_value bytes) rules)
  named_is rules are = member_is steps reading levels (field_schema f) bytes given (record_at (field_schema f) s) rules ∙ named rules are

  own_read : (next : Option (List ℕ)) (s' : StructTree) → IsUnder (field_schema f) s → IsBehind bytes next
      → FieldRead f reading.strict (field_json reading levels f (member_value bytes)) s s' → MemberRead (field_schema f) reading levels bytes next given given' s s'
  own_read next s' room next_is read = record {
    turns = record { writes = read.puts.writes; record_after = refl };
    room = fits_after _ (field_set f) (field_brand f) s s' read.puts.writes room;
    fewer = next_is.fewer;
    goes_on = λ rules are.
        named_is rules are
        ∙ (ap (member_put (typed_of f) (index_of f) (record_at (field_schema f) s) (behind reading bytes rules levels (field_brand f) given')) (read.is rules are)
        ∙ (ap (behind reading bytes rules levels (field_brand f) given') (sym read.puts.record_after)
        ∙ behind_is reading levels (field_schema f) bytes next given' (record_at (field_schema f) s') rules next_is.is));
  }

  own_refused : (e : Error) → IsRefused (field_set f) reading.strict (field_json reading levels f (member_value bytes)) e
      → IsRefused (field_set f) reading.strict (members_json reading levels (field_schema f) (Some bytes) given (record_at (field_schema f) s)) e
  own_refused e h = λ rules are.
      error_same (members_json reading levels (field_schema f) (Some bytes) given (record_at (field_schema f) s) rules)
      (member_put (typed_of f) (index_of f) (record_at (field_schema f) s) (behind reading bytes rules levels (field_brand f) given') (field_json reading levels f (member_value bytes) rules)) e (named_is rules are)
      (error_through (member_put (typed_of f) (index_of f) (record_at (field_schema f) s) (behind reading bytes rules levels (field_brand f) given')) (λ x. refl) (field_json reading levels f (member_value bytes) rules) e (h rules are))

-- the same by the schema in which it was found
module _ (steps : StandsInSteps) (reading : Reading) (levels : ℕ) (schema : StructSchema) (f : Field) (bytes : List ℕ) (given given' : List (Option ℕ)) (is : field_schema f ≡ schema) (s : StructTree)
    (named : IsNamed reading levels schema bytes given given' (record_at schema s) (Some f)) where
  own_name : IsNamed reading levels (field_schema f) bytes given given' (record_at (field_schema f) s) (Some f)
  own_name = subst (λ (z : StructSchema). IsNamed reading levels z bytes given given' (record_at z s) (Some f)) (sym is) named

  pub member_done : (next : Option (List ℕ)) (s' : StructTree) → IsUnder schema s → IsBehind bytes next
      → FieldRead f reading.strict (field_json reading levels f (member_value bytes)) s s' → MemberRead schema reading levels bytes next given given' s s'
  member_done next s' room next_is read =
      subst (λ (z : StructSchema). MemberRead z reading levels bytes next given given' s s') is
      (own_read steps reading levels f bytes given given' s own_name next s' (subst (λ (z : StructSchema). IsUnder z s) (sym is) room) next_is read)

  pub member_refused : (e : Error) → IsRefused (field_set f) reading.strict (field_json reading levels f (member_value bytes)) e
      → IsRefused (set_of schema) reading.strict (members_json reading levels schema (Some bytes) given (record_at schema s)) e
  member_refused e h =
      subst (λ (z : StructSchema). IsRefused (set_of z) reading.strict (members_json reading levels z (Some bytes) given (record_at z s)) e) is
      (own_refused steps reading levels f bytes given given' s own_name e h)

-- ---- those so far ----

-- a struct as the members so far left it: what is read of them all is what is read from the next on
pub record MembersSoFar (schema : StructSchema) (reading : Reading) (levels : ℕ) (first next : Option (List ℕ)) (given : List (Option ℕ)) (s s' : StructTree) : Type 0 where
  pub turns : Turns (set_of schema) (number_of schema) s s' (record_at schema s')
  pub room : IsUnder schema s'
  pub goes_on : (rules : Rules) → AreRules (set_of schema) reading.strict rules → members_json reading levels schema first [] (record_at schema s) rules ≡ members_json reading levels schema next given (record_at schema s') rules

pub members_begin : (schema : StructSchema) (reading : Reading) (levels : ℕ) (first : Option (List ℕ)) (given : List (Option ℕ)) (s : StructTree) → IsUnder schema s → given ≡ [] → MembersSoFar schema reading levels first first given s s
members_begin schema reading levels first given s room is = record {
  turns = turns_same schema s;
  room = room;
  goes_on = λ rules are. ap (λ (ms : List (Option ℕ)). members_json reading levels schema first ms (record_at schema s) rules) (sym is);
}

module _ (schema : StructSchema) (reading : Reading) (levels : ℕ) (first : Option (List ℕ)) (given : List (Option ℕ)) (s m : StructTree) where
  pub members_next : (bytes : List ℕ) (at next : Option (List ℕ)) (given' : List (Option ℕ)) (s' : StructTree) → at ≡ Some bytes → MembersSoFar schema reading levels first at given s m
      → MemberRead schema reading levels bytes next given given' m s' → MembersSoFar schema reading levels first next given' s s'
  members_next bytes at next given' s' is so_far read = record {
    turns = turns_trans (set_of schema) (number_of schema) s m s' (record_at schema m) (record_at schema s') so_far.turns read.turns;
    room = read.room;
    goes_on = λ rules are. so_far.goes_on rules are ∙ (ap (λ (o : Option (List ℕ)). members_json reading levels schema o given (record_at schema m) rules) is ∙ read.goes_on rules are);
  }

  pub members_stop : (bytes : List ℕ) (at : Option (List ℕ)) (e : Error) → at ≡ Some bytes → MembersSoFar schema reading levels first at given s m
      → IsRefused (set_of schema) reading.strict (members_json reading levels schema (Some bytes) given (record_at schema m)) e → IsRefused (set_of schema) reading.strict (members_json reading levels schema first [] (record_at schema s)) e
  members_stop bytes at e is so_far h = λ rules are.
      error_same (members_json reading levels schema first [] (record_at schema s) rules) (members_json reading levels schema (Some bytes) given (record_at schema m) rules) e
      (so_far.goes_on rules are ∙ ap (λ (o : Option (List ℕ)). members_json reading levels schema o given (record_at schema m) rules) is) (h rules are)

  pub members_end : StandsInSteps → (at : Option (List ℕ)) → at ≡ None → MembersSoFar schema reading levels first at given s m
      → StructRead schema reading.strict (members_json reading levels schema first [] (record_at schema s)) s m
  members_end steps at is so_far = record {
    turns = so_far.turns;
    room = so_far.room;
    is = λ rules are. so_far.goes_on rules are
        ∙ (ap (λ (o : Option (List ℕ)). members_json reading levels schema o given (record_at schema m) rules) is
        ∙ ap (λ (ms : Members). members_of_json rules ms levels (number_of schema) given (record_at schema m)) (steps.no_members (json_at reading.whole) reading.whole));
  }
