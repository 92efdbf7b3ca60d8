-- The calls by which a text makes a value of a type, from where the value stands on.
use Rattle.std.specs.Prelude.{ℕ, zero, suc, ◌+◌, List, [], ◌∷◌, ◌++◌, map, Bool, true, false, cond, ◌==◌, ◌||◌, min, nat_lt, pos, Option, Some, None, Ok, Err}
use Rattle.capnp_schema.specs.Query.{field_named, records_of}
use Rattle.capnp_schema.specs.Schema.{Schemas, TypedField, field_at, is_member}
use Rattle.capnp_schema.specs.Types.{SchemaType, VoidType, BoolType, IntType, UIntType, EnumType, TextType, DataType, StructType, ListType}
use Rattle.capnp_records.specs.Call.{BoolSource, Call, DataSource, ElementAt, EnumSource, FieldNumber, Init, Initn, IntSource, Op, PathStep, Set, Source, TextSource, UIntSource, VoidSource}
use Rattle.capnp_records.specs.Record as value
use Rattle.capnp_records.specs.Record.{Value}
use Rattle.capnp_json_fields.specs.Marks.{is_float}
use Rattle.capnp_words.specs.Marked.{marked_value_by_word}
use Rattle.capnp_words.specs.Reads as word
use Rattle.capnp_value_texts.specs.Errors.{Read, read_as, read_then, refused}
use Rattle.capnp_value_texts.specs.Written.{Fields, Items, Leaf, NoPart, Part, Parts, Written, written}
use Rattle.capnp_value_texts.specs.declared.error.RefusalKind.TheVariants.{CannotStand, GivenTwice, NameUnknown, SizePastFormat}

-- ---- where a value goes ----

-- the step that leads there, the type of what stands there, and whether its numbers are floats
pub record Target : Type 0 where
  pub step : PathStep
  pub type : SchemaType
  pub floats : Bool
  -- whether a struct stands there already, as in each element of a new list
  pub stands : Bool

abbrev pub field_target : TypedField → (index : ℕ) → Target
field_target f i = record { step = FieldNumber i; type = f.type; floats = is_float f; stands = false }

abbrev pub element_target : SchemaType → (floats : Bool) → (index : ℕ) → Target
element_target element floats i = record { step = ElementAt i; type = element; floats = floats; stands = true }

-- what parts are of: a struct or group by its brand, or a list
pub data Holder : Type 0 where
  InStruct : (brand : ℕ) → Holder
  InList : SchemaType → (floats : Bool) → Holder

-- what is given by a field: the field by its index, or the union by any of its members, as no index does
abbrev pub mark_of : TypedField → (index : ℕ) → ℕ
mark_of f i = cond (is_member f.field) 65536 i

abbrev pub is_given : (mark : ℕ) → List ℕ → Bool
is_given mark [] = false
is_given mark (m ∷ marks) = (mark == m) || is_given mark marks

-- the target of a part, and what is given from then on
abbrev pub field_given : (place : ℕ) → (given : List ℕ) → TypedField → (index : ℕ) → Read (Target × List ℕ)
field_given place given f i = cond (is_given (mark_of f i) given) (refused GivenTwice place) (Ok (field_target f i, given ++ mark_of f i ∷ []))

abbrev pub named_target : Schemas → (brand place : ℕ) → (given : List ℕ) → Option ℕ → Read (Target × List ℕ)
named_target set b place given None = refused NameUnknown place
named_target set b place given (Some i) = field_given place given (field_at set b i) i

abbrev pub target_of : Schemas → Holder → (index place : ℕ) → (name given : List ℕ) → Read (Target × List ℕ)
target_of set (InStruct b) i place name given = named_target set b place given (field_named (records_of set b) name)
target_of set (InList element floats) i place name given = Ok (element_target element floats i, given)

-- ---- calls ----

abbrev pub one_call : PathStep → Op → List Call
one_call step op = record { path = []; last = step; op = op } ∷ []

-- the same from one step further out
abbrev pub behind : PathStep → Call → Call
behind step c = record { path = step ∷ c.path; last = c.last; op = c.op }

abbrev pub all_behind : PathStep → List Call → List Call
all_behind step cs = map (behind step) cs

-- what is given to a set, by the type of what is set
abbrev pub source_taken : SchemaType → Value → Source
source_taken BoolType (value.Truth b) = BoolSource b
source_taken (IntType bytes) (value.Number n) = IntSource bytes n
source_taken (UIntType bytes) (value.Number (pos n)) = UIntSource bytes n
source_taken (EnumType e) (value.Enum n) = EnumSource n
source_taken TextType (value.Text bs) = TextSource bs
source_taken DataType (value.Data bs) = DataSource bs
source_taken t v = VoidSource

-- a word's place counts from its first byte; no text has more bytes than 64 bits count
abbrev pub greatest_place : ℕ
greatest_place = 18446744073709551615

abbrev pub at_place : {A : Type 0} → (place : ℕ) → word.Read A → Read A
at_place place (Ok x) = Ok x
at_place place (Err inner) = refused CannotStand (min (place + inner) greatest_place)

-- a leaf is set
abbrev pub set_call : Target → Value → List Call
set_call t v = one_call t.step (Set (source_taken t.type v))

abbrev pub leaf_calls : Schemas → (place : ℕ) → List ℕ → Target → Read (List Call)
leaf_calls set place bs t = read_as (set_call t) (at_place place (marked_value_by_word set t.floats t.type bs))

-- a struct or group is begun, unless it stands there
abbrev pub begun : Target → List Call
begun t = cond t.stands [] (one_call t.step Init)

abbrev pub list_begun : (count : ℕ) → Target → List Call
list_begun count t = one_call t.step (Initn count)

-- the most parts in brackets, which are the most elements of a list
abbrev pub most_parts : ℕ
most_parts = 536870911

-- so many parts, unless they are too many
abbrev pub counted : {A : Type 0} → (place count : ℕ) → Read A → Read A
counted place count parts = cond (nat_lt most_parts count) (refused SizePastFormat place) parts

-- what is begun, and then its parts behind the step
abbrev pub held_calls : (place count : ℕ) → PathStep → (first : List Call) → Read (List Call) → Read (List Call)
held_calls place count step first parts = counted place count (read_as (λ cs. first ++ all_behind step cs) parts)

-- what parts make of a holder
abbrev pub PartsMake : Type 0
PartsMake = Holder → (index : ℕ) → (given : List ℕ) → Read (List Call)

-- `()` is also a void
abbrev pub void_calls : (place count : ℕ) → Target → Read (List Call)
void_calls place count t = cond (count == 0) (Ok (one_call t.step (Set VoidSource))) (refused CannotStand place)

abbrev pub fields_calls : (place count : ℕ) → PartsMake → Target → SchemaType → Read (List Call)
fields_calls place count parts t VoidType = void_calls place count t
fields_calls place count parts t (StructType b g) = held_calls place count t.step (begun t) (parts (InStruct b) 0 [])
fields_calls place count parts t other = refused CannotStand place

abbrev pub items_calls : (place count : ℕ) → PartsMake → Target → SchemaType → Read (List Call)
items_calls place count parts t (ListType element) = held_calls place count t.step (list_begun count t) (parts (InList element t.floats) 0 [])
items_calls place count parts t other = refused CannotStand place

abbrev pub part_count : Parts → ℕ
part_count NoPart = 0
part_count (Part place name v ps) = suc (part_count ps)

-- a part's calls, and those of the parts behind it
abbrev pub both_calls : Read (List Call) → Read (List Call) → Read (List Call)
both_calls (Ok cs) (Ok ds) = Ok (cs ++ ds)
both_calls (Ok cs) (Err r) = Err r
both_calls (Err r) ds = Err r

abbrev pub part_calls : (Target → Read (List Call)) → PartsMake → Holder → (index : ℕ) → Read (Target × List ℕ) → Read (List Call)
part_calls value rest h i (Ok t) = both_calls (value t.0) (rest h (suc i) t.1)
part_calls value rest h i (Err r) = Err r

abbrev mutual
  pub value_calls : Schemas → Written → Target → Read (List Call)
  value_calls set (Leaf place bs) t = leaf_calls set place bs t
  value_calls set (Fields place ps) t = fields_calls place (part_count ps) (parts_calls set ps) t t.type
  value_calls set (Items place ps) t = items_calls place (part_count ps) (parts_calls set ps) t t.type

  pub parts_calls : Schemas → Parts → PartsMake
  parts_calls set NoPart h i given = Ok []
  parts_calls set (Part place name v ps) h i given = part_calls (value_calls set v) (parts_calls set ps) h i (target_of set h i place name given)

-- a root is made by its fields
abbrev pub root_calls : Schemas → (brand : ℕ) → Written → Read (List Call)
root_calls set b (Leaf place bs) = refused CannotStand place
root_calls set b (Fields place ps) = counted place (part_count ps) (parts_calls set ps (InStruct b) 0 [])
root_calls set b (Items place ps) = refused CannotStand place

-- ---- elements of lists ----

abbrev pub place_written : Written → ℕ
place_written (Leaf place bs) = place
place_written (Fields place ps) = place
place_written (Items place ps) = place

-- a list with one item
abbrev pub alone : Written → Written
alone v = Items (place_written v) (Part (place_written v) [] v NoPart)

-- so many lists, one within another, of which the innermost has this item
abbrev pub alone_within : (depth : ℕ) → Written → Written
alone_within zero v = v
alone_within (suc n) v = alone (alone_within n v)

-- the type of so many lists, one within another, of which the innermost has items of a type
abbrev pub lists_of : (depth : ℕ) → SchemaType → SchemaType
lists_of zero t = t
lists_of (suc n) t = ListType (lists_of n t)

-- ---- texts ----

-- the calls by which a text makes the value of a field of a struct, and those by which it makes a root
unfoldable pub field_of_text : Schemas → TypedField → (index : ℕ) → (text : List ℕ) → Read (List Call)
field_of_text set f i text = read_then (written text) (λ v. value_calls set v (field_target f i))

-- those by which it makes an element of the lists that a field is, one within another, each of which has it alone
unfoldable pub element_of_text : Schemas → TypedField → (index depth : ℕ) → (text : List ℕ) → Read (List Call)
element_of_text set f i depth text = read_then (written text) (λ v. value_calls set (alone_within depth v) (field_target f i))

unfoldable pub root_of_text : Schemas → (brand : ℕ) → (text : List ℕ) → Read (List Call)
root_of_text set b text = read_then (written text) (root_calls set b)
