-- What is read of a field after a write of it, by its handle.
use Rattle.std.proofs.Common.{ℕ, suc, ◌≡◌, refl, pos, List, Bool, true, false, ◌&&◌, ◌==◌, cond, length, ap, subst, sym, ◌∙◌}
use Rattle.capnp_device.specs.declared.error.ErrorKind.TheVariants.{TypeMismatch}
use Rattle.capnp_wire.specs.Tree.{Null, StructTree}
use Rattle.capnp_schema.specs.FieldLists.{index_of, typed_of}
use Rattle.capnp_schema.specs.Schema.{Schemas, default_of, field_at, is_member, Value as SchemaValue}
use Rattle.capnp_schema.specs.Types.{AnyPointerType, BoolType, DataType, EnumType, IntType, ListType, SchemaType, StructType, TextType, UIntType, VoidType}
use Rattle.capnp_schema.specs.declared.schema.fields.Field.{Field}
use Rattle.capnp_records.specs.Call.{BoolSource, DataSource, EnumSource, IntSource, ListSource, Source, StructSource, TextSource, UIntSource}
use Rattle.capnp_records.specs.Facts.GroupWrite.{suits_cleared}
use Rattle.capnp_records.specs.Facts.NewTrees.{copied_given}
use Rattle.capnp_records.specs.Facts.Numbers.{stored_given, suits_number}
use Rattle.capnp_records.specs.Given.{Copies, CopiesGroup, Fails, Given, Gives, data_past, given_slot, text_past}
use Rattle.capnp_records.specs.Laws.{IsFieldAt}
use Rattle.capnp_records.specs.Part.{has_of}
use Rattle.capnp_records.specs.ReadBack.{ClearIsRead, ClearedIsActive, CopiedIsActive, CopyIsRead, DataIsRead, GroupStartsAtFirst, IsGroupIn, IsSlotIn, NumberIsRead, OthersAreRead, OthersAreThere, NonUnionKeepsActive, TextIsRead, WrittenIsActive, field_got, AreApart as ArePlaces}
use Rattle.capnp_records.specs.Reading.{struct_record}
use Rattle.capnp_records.specs.Record as value
use Rattle.capnp_records.specs.Record.{Value}
use Rattle.capnp_records.specs.Writes.Contents.{SourceFits, init_tree, initn_tree, source_tree}
use Rattle.capnp_records.specs.Writes.ElementEnds.{InitnContent}
use Rattle.capnp_records.specs.Writes.Overlay.{cleared_content}
use Rattle.capnp_records.specs.Writes.Slots.{At, Content, Suits}
use Rattle.capnp_records.specs.Writes.TreeEnds.{InitContent}
use Rattle.capnp_slots.specs.Fields.{IsRoomFor, IsSlot, field_brand, field_set, slot_with}
use Rattle.capnp_slots.specs.Groups.{IsGroup}
use Rattle.capnp_slots.specs.Inits.{init_content, initn_content}
use Rattle.capnp_slots.specs.Primitives.{given_content, given_to, set_content}
use Rattle.capnp_slots.specs.ReadBack.{AreFieldsApart, ClearIsActive, ClearIsGot, CopyIsActive, CopyIsGot, DataIsGot, GroupIsActive, GroupStarts, HasKind, InitIsActive, InitnIsActive, IsActiveIn, IsWithoutParts, NumberIsGot, OtherIsGot, OtherIsThere, NonUnionStays, SetIsActive, TextIsGot, WholeIsGot, got_in, member_in, whole_value}
use Rattle.capnp_slots.specs.Sources.{IsSet, IsTaken}

-- ---- values without parts ----

-- how a slot takes such a value
data TakesWhole (set : Schemas) (t : SchemaType) (s : Source) : Type 0 where
  at_once : given_slot set t s ≡ Gives (whole_value s) → TakesWhole set t s
  as_text : (bytes : List ℕ) → s ≡ TextSource bytes → TextType ≡ t → TakesWhole set t s
  as_data : (bytes : List ℕ) → s ≡ DataSource bytes → DataType ≡ t → TakesWhole set t s

-- where a test that it passed was of its size
sized : (q : Bool) (v : Value) → IsTaken (cond q (Gives v) (Fails TypeMismatch)) → cond q (Gives v) (Fails TypeMismatch) ≡ Gives v
sized true v taken = refl
sized false v taken = absurd taken

takes_whole : (set : Schemas) (t : SchemaType) (s : Source) → IsWithoutParts s → HasKind t → IsTaken (given_slot set t s) → TakesWhole set t s
takes_whole set BoolType (BoolSource b) whole kind taken = at_once refl
takes_whole set (IntType k) (IntSource n x) whole kind taken = at_once (sized (k == n) (value.Number x) taken)
takes_whole set (UIntType k) (UIntSource n x) whole kind taken = at_once (sized (k == n) (value.Number (pos x)) taken)
takes_whole set (EnumType e) (EnumSource n) whole kind taken = at_once refl
takes_whole set TextType (TextSource bytes) whole kind taken = as_text bytes refl refl
takes_whole set DataType (DataSource bytes) whole kind taken = as_data bytes refl refl
takes_whole set VoidType s whole kind taken = absurd kind
takes_whole set AnyPointerType s whole kind taken = absurd kind
takes_whole set t (StructSource l x from) whole kind taken = absurd whole
takes_whole set t (ListSource l x e) whole kind taken = absurd whole
takes_whole set t s whole kind taken = absurd taken

-- the field of a handle
abbrev pub IsAt : Field → Type 0
IsAt f = IsFieldAt (field_set f) (field_brand f) (index_of f)

module _ (f : Field) (at : IsAt f) where
  abbrev b : ℕ
  b = field_brand f

  abbrev i : ℕ
  i = index_of f

  abbrev d : SchemaValue
  d = default_of (typed_of f).field

  abbrev t : SchemaType
  t = (typed_of f).type

  slot_in : (s : StructTree) → IsSlot f → IsRoomFor f s → IsSlotIn (field_set f) (field_brand f) (index_of f) s
  slot_in s slot room = record { at = at; slot = slot; room = room }

  group_in : (s : StructTree) → IsGroup f → IsRoomFor f s → IsGroupIn (field_set f) (field_brand f) (index_of f) s
  group_in s group room = record { at = at; group = group; room = room }

  -- ---- a set of a slot ----

  -- what a set wrote, where what is given is known
  set_wrote : (s : Source) (old new : StructTree) → IsSet f s old new → (g : Given) → given_to f s ≡ g → new ≡ slot_with f (given_content d t s g) old
  set_wrote s old new is g e = is.written ∙ ap (λ g. slot_with f (given_content d t s g) old) e

  pub number_got : NumberIsRead → (s : Source) → SourceFits s → NumberIsGot f s
  number_got law s fits old new slot room is v e l = ap (got_in f l) (set_wrote s old new is (Gives v) e) ∙ law (field_set f) b i old (slot_in old slot room) s fits v e l

  pub copy_got : CopyIsRead → (s : Source) → SourceFits s → CopyIsGot f s
  copy_got law s fits old new slot room is x past v e l =
      ap (got_in f l) (set_wrote s old new is (Copies x past v) e) ∙ law (field_set f) b i old (slot_in old slot room) s fits x past v e l

  pub text_got : TextIsRead → (s : Source) → TextIsGot f s
  text_got law s old new slot room is bytes source text l =
      ap (got_in f l) (set_wrote s old new is (Copies Null (text_past bytes) (value.Text bytes)) given ∙ ap (λ s. slot_with f (At (source_tree s)) old) source)
      ∙ law (field_set f) b i old (slot_in old slot room) text bytes l
    where
      given : given_to f s ≡ Copies Null (text_past bytes) (value.Text bytes)
      given = ap (given_slot (field_set f) t) source ∙ ap (λ t. given_slot (field_set f) t (TextSource bytes)) (sym text)

  pub data_got : DataIsRead → (s : Source) → DataIsGot f s
  data_got law s old new slot room is bytes source typed l =
      ap (got_in f l) (set_wrote s old new is (Copies Null (data_past bytes) (value.Data bytes)) given ∙ ap (λ s. slot_with f (At (source_tree s)) old) source)
      ∙ law (field_set f) b i old (slot_in old slot room) typed bytes l
    where
      given : given_to f s ≡ Copies Null (data_past bytes) (value.Data bytes)
      given = ap (given_slot (field_set f) t) source ∙ ap (λ t. given_slot (field_set f) t (DataSource bytes)) (sym typed)

  pub whole_got : NumberIsRead → TextIsRead → DataIsRead → (s : Source) → SourceFits s → WholeIsGot f s
  whole_got numbers texts data_read s fits old new slot room is whole kind l = go (takes_whole (field_set f) t s whole kind is.taken)
    where
      go : TakesWhole (field_set f) t s → got_in f l new ≡ whole_value s
      go (at_once e) = number_got numbers s fits old new slot room is (whole_value s) e l
      go (as_text bytes e typed) = text_got texts s old new slot room is bytes e typed l ∙ sym (ap whole_value e)
      go (as_data bytes e typed) = data_got data_read s old new slot room is bytes e typed l ∙ sym (ap whole_value e)

  suits_taken : (s : Source) → SourceFits s → (g : Given) → given_to f s ≡ g → IsTaken g → Suits t (given_content d t s g)
  suits_taken s fits (Gives v) e taken = suits_number d t v (stored_given (field_set f) t s v e fits) (at.ranges.masks b i at.brand at.index)
  suits_taken s fits (Copies x past v) e taken = (copied_given (field_set f) t s x past v e fits).pointer
  suits_taken s fits (CopiesGroup l x n) e taken = absurd taken
  suits_taken s fits (Fails kind) e taken = absurd taken

  written_got : WrittenIsActive → (c : Content) (s : StructTree) → IsSlot f → IsRoomFor f s → Suits t c → IsActiveIn f (slot_with f c s)
  written_got law c s slot room suits member l = law (field_set f) b i s (slot_in s slot room) c suits member l

  pub set_active : WrittenIsActive → (s : Source) → SourceFits s → SetIsActive f s
  set_active law s fits old new slot room is member l =
      ap (member_in f l) is.written ∙ written_got law (set_content f s) old slot room (suits_taken s fits (given_to f s) refl is.taken) member l

  -- ---- a slot that is cleared or started ----

  pub clear_got : ClearIsRead → ClearIsGot f
  clear_got law s slot room l = law (field_set f) b i s (slot_in s slot room) l

  pub clear_active : WrittenIsActive → ClearIsActive f
  clear_active law s slot room = written_got law (cleared_content t) s slot room (suits_cleared t)

  pub init_active : WrittenIsActive → InitIsActive f
  init_active law s slot room has = written_got law (init_content f) s slot room (suits t has)
    where
      suits : (t : SchemaType) → InitContent (field_set f) t (At (init_tree (field_set f) (typed_of f).type)) → Suits t (At (init_tree (field_set f) (typed_of f).type))
      suits (StructType n g) has = refl
      suits AnyPointerType has = refl
      suits t has = absurd has

  pub initn_active : WrittenIsActive → InitnIsActive f
  initn_active law s n slot room has = written_got law (initn_content f n) s slot room (suits t has)
    where
      suits : (t : SchemaType) → InitnContent (field_set f) n t (At (initn_tree (field_set f) (typed_of f).type n)) → Suits t (At (initn_tree (field_set f) (typed_of f).type n))
      suits TextType has = refl
      suits DataType has = refl
      suits (ListType e) has = refl
      suits t has = absurd has

  -- ---- groups ----

  pub group_starts : GroupStartsAtFirst → GroupStarts f
  group_starts law s group room g same k k_in member zero l = law (field_set f) b i s (group_in s group room) g same k k_in member zero l

  pub group_active : ClearedIsActive → GroupIsActive f
  group_active law s group room member l = law (field_set f) b i s (group_in s group room) member l

  pub copy_active : CopiedIsActive → CopyIsActive f
  copy_active law old new group room m x refused is member l = law (field_set f) b i (suc (length (field_set f).brands)) old (group_in old group room) m x refused new is member l

  -- ---- other fields ----

  pub plain_stays : NonUnionKeepsActive → NonUnionStays f
  plain_stays law plain s s' keeps l = law (field_set f) b i at plain s s' keeps.writes l

-- what holds of one set and brand holds of the same
moved : (P : Schemas → ℕ → Type 0) (f g : Field) → field_set f ≡ field_set g → field_brand f ≡ field_brand g → P (field_set f) (field_brand f) → P (field_set g) (field_brand g)
moved P f g e h p = subst (λ set. P set (field_brand g)) e (subst (P (field_set f)) h p)

places_apart : (f g : Field) → IsAt f → IsAt g → AreFieldsApart f g → ArePlaces (field_set f) (field_brand f) (index_of f) (index_of g)
places_apart f g at other apart = record {
  at = at;
  other = moved (λ set b. IsFieldAt set b (index_of g)) g f apart.set apart.brand other;
  differ = apart.differ;
  not_both = moved (λ set b. (is_member (typed_of f).field && is_member (field_at set b (index_of g)).field) ≡ false) g f apart.set apart.brand apart.not_both;
}

pub other_got : (f g : Field) → IsAt f → IsAt g → OthersAreRead → OtherIsGot f g
other_got f g at other law apart s s' keeps l =
    moved (λ set b. field_got set l s' (field_at set b (index_of g)) ≡ field_got set l s (field_at set b (index_of g))) f g (sym apart.set) (sym apart.brand)
    (law (field_set f) (field_brand f) (index_of f) (index_of g) (places_apart f g at other apart) s s' keeps.writes l)

pub other_there : (f g : Field) → IsAt f → IsAt g → OthersAreThere → OtherIsThere f g
other_there f g at other law apart s s' keeps l =
    moved (λ set b. has_of (struct_record set l s' b) (field_at set b (index_of g)).field (index_of g) ≡ has_of (struct_record set l s b) (field_at set b (index_of g)).field (index_of g)) f g (sym apart.set) (sym apart.brand)
    (law (field_set f) (field_brand f) (index_of f) (index_of g) (places_apart f g at other apart) s s' keeps.writes l)
