-- What calls make at a field of a record and at an element of a list.
use Rattle.std.specs.Prelude.{⊤}
use Rattle.std.proofs.Common.{ℕ, ◌<◌, ◌≡◌, inl, inr, refl, [], length, Bool, true, false, cond, nat_lt, Option, None, Some, Ok, Err, ap, sym, ◌∙◌, subst}
use Rattle.std.proofs.lemmas.Bool.{lt-ltb, true≢false}
use Rattle.capnp_device.specs.declared.error.ErrorKind.{ErrorKind}
use Rattle.capnp_device.specs.declared.error.ErrorKind.TheVariants.{NoSuchElement}
use Rattle.capnp_schema.specs.Types.{AnyPointerType, ListType, SchemaType, StructType}
use Rattle.capnp_schema.specs.Schema.{Schemas, TypedField, field_at, fields_of}
use Rattle.capnp_records.specs.Call.{Call, ElementAt, FieldNumber, Init, Initn, Op, PathStep, Reply, Set, Source}
use Rattle.capnp_records.specs.Default.{default_record}
use Rattle.capnp_records.specs.Facts.Frame.{chosen_first}
use Rattle.capnp_records.specs.Given.{Copies, CopiesGroup, Fails, Given, Gives, copy_refusal, given_element, given_slot}
use Rattle.capnp_records.specs.Operation.{CopiesWhole, Does, DoesAt, Initns, Inits, IsDone, Makes, Sets, elements_past, new_element}
use Rattle.capnp_records.specs.Part.{value_count, with_part, with_value}
use Rattle.capnp_records.specs.Record as value
use Rattle.capnp_records.specs.Record.{Endless, Record, Value, Values, values_from}
use Rattle.capnp_records.specs.Step.{StepTarget, element_target, field_target, is_group_field, step_target, walked_by_type, walked_result}
use Rattle.capnp_diffs.specs.Laws.{Brings, IsValueGiven}
use Rattle.capnp_diffs.proofs.Walked.{HasPlace, HasRoom, IsWalked, Nest, count_with, field_is_found, field_nest, inits, nth_with, puts, whole_solid, with_with, wrap}
use Rattle.capnp_value_texts.specs.Calls.{one_call}
use Rattle.capnp_value_laws.proofs.CallsLead.{CallMakes, CallsLead, lead_one}

-- types whose values a call sets
abbrev pub IsLeafType : SchemaType → Type 0
IsLeafType (StructType b g) = ⊥
IsLeafType (ListType e) = ⊥
IsLeafType AnyPointerType = ⊥
IsLeafType t = ⊤

abbrev pub call_at : PathStep → Op → Call
call_at step op = record { path = []; last = step; op = op }

-- a leaf is set there, a struct or list is made, and its parts are made in turn
pub record CanMake (set : Schemas) (s : SchemaType) (step : PathStep) (t : SchemaType) (stands : Bool) (here : Value) (put : Value → Value) : Type 0 where
  pub sets : IsLeafType t → (source : Source) (w : Value) → Brings set t source w → CallsLead set s here (one_call step (Set source)) (put w)
  pub begins : (b g : ℕ) → t ≡ StructType b g → CallsLead set s here (cond stands [] (one_call step Init)) (put (value.Struct (default_record set Endless b)))
  pub lists : (e : SchemaType) (n : ℕ) → t ≡ ListType e → CallsLead set s here (one_call step (Initn n)) (put (value.Elements (values_from (λ _. new_element set e) 0 n)))
  pub nest : IsWalked t → Nest set s t step put

-- ---- what an operation leaves where there is room ----

-- something new is made
made_new : (x : StepTarget) (past : Bool) (v old : Value) (reply : Reply) (new : Value) → Makes x past v old reply new → HasRoom reply → IsDone (x.put v) reply new
made_new x past v old reply new (inl refused) room = absurd (room.memory refused.0)
made_new x true v old reply new (inr refused) room = absurd (room.format refused.0)
made_new x false v old reply new (inr done) room = done

list_made : (set : Schemas) (x : StepTarget) (n : ℕ) (t e : SchemaType) (old : Value) (reply : Reply) (new : Value) → t ≡ ListType e → Initns set x n t old reply new → HasRoom reply →
    IsDone (x.put (value.Elements (values_from (λ _. new_element set e) 0 n))) reply new
list_made set x n t e old reply new is does room =
    made_new x (elements_past set e n) (value.Elements (values_from (λ _. new_element set e) 0 n)) old reply new (subst (λ z. Initns set x n z old reply new) is does) room

copied : (x : StepTarget) (u v old : Value) (reply : Reply) (new : Value) (past : Bool) (refusal : Option ErrorKind) → u ≡ v → refusal ≡ None → CopiesWhole x u old reply new refusal past → HasRoom reply → IsDone (x.put v) reply new
copied x u v old reply new past (Some kind) is none whole room = absurd (some_none none)
  where
    some_none : {kind : ErrorKind} → Some kind ≡ None → ⊥
    some_none e = cc
copied x u v old reply new true None is none whole room = absurd (room.format whole.0)
copied x u v old reply new false None is none whole room = (whole.0, whole.1 ∙ ap x.put is)

given_done : (set : Schemas) (x : StepTarget) (given : Given) (v old : Value) (reply : Reply) (new : Value) → IsValueGiven given v → Sets set x given old reply new → HasRoom reply → IsDone (x.put v) reply new
given_done set x (Gives u) v old reply new is sets room = (sets.0, sets.1 ∙ ap x.put is)
given_done set x (Copies source past u) v old reply new is (inl refused) room = absurd (room.memory refused.0)
given_done set x (Copies source past u) v old reply new is (inr whole) room = copied x u v old reply new past (copy_refusal source) is.0 is.1 whole room
given_done set x (CopiesGroup l s c) v old reply new is sets room = absurd is
given_done set x (Fails kind) v old reply new is sets room = absurd is

-- ---- a field ----

module _ (set : Schemas) (b g i : ℕ) (k : Bool) (r : Record) (inside : i < length (fields_of set b)) where
  abbrev f : TypedField
  f = field_at set b i

  abbrev put : Value → Value
  put w = wrap k (with_part r f.field i w)

  abbrev target : StepTarget
  target = field_target (wrap k) r f i

  does_here : (op : Op) (reply : Reply) (new : Value) → DoesAt set op (step_target set (StructType b g) (wrap k r) (FieldNumber i)) (wrap k r) reply new → Does set op target (wrap k r) reply new
  does_here op reply new does = subst (λ found. DoesAt set op found (wrap k r) reply new) (field_is_found set b g i k r inside) does

  leads_to : (op : Op) (w : Value) → CallMakes set (StructType b g) (wrap k r) (call_at (FieldNumber i) op) (put w) → CallsLead set (StructType b g) (wrap k r) (one_call (FieldNumber i) op) (put w)
  leads_to op w makes = lead_one set (StructType b g) (wrap k r) (put w) (call_at (FieldNumber i) op) (whole_solid set b g i k (with_part r f.field i w)) makes

  inits_struct : (t : SchemaType) (c h : ℕ) (reply : Reply) (new : Value) → t ≡ StructType c h → is_group_field f.field.kind ≡ false → Inits set target t (wrap k r) reply new → HasRoom reply → IsDone (put (value.Struct (default_record set Endless c))) reply new
  inits_struct t c h reply new is slot does room = at_slot (is_group_field f.field.kind) slot (subst (λ z. Inits set target z (wrap k r) reply new) is does)
    where
      at_slot : (q : Bool) → q ≡ false → Inits set (record target { is_group = q }) (StructType c h) (wrap k r) reply new → IsDone (put (value.Struct (default_record set Endless c))) reply new
      at_slot true e made = absurd (true≢false e)
      at_slot false e (inl done) = done
      at_slot false e (inr refused) = absurd (room.memory refused.0)

  -- a slot takes a value of its type
  pub field_can : is_group_field f.field.kind ≡ false → HasPlace r f.field i → CanMake set (StructType b g) (FieldNumber i) f.type false (wrap k r) put
  field_can slot place = record {
    sets = λ leaf source w brings. leads_to (Set source) w (λ reply new walks room. puts set b g i k r inside w slot (Set source) brings reply new walks room);
    begins = λ c h is. leads_to Init (value.Struct (default_record set Endless c)) (λ reply new walks room. inits_struct f.type c h reply new is slot (does_here Init reply new walks) room);
    lists = λ e n is. leads_to (Initn n) (value.Elements (values_from (λ _. new_element set e) 0 n)) (λ reply new walks room. list_made set target n f.type e (wrap k r) reply new is (does_here (Initn n) reply new walks) room);
    nest = λ walked. field_nest set b g i k r f.type refl inside place walked;
  }

  -- a group is made anew, also where it becomes the active member
  pub group_begins : (c h : ℕ) → f.type ≡ StructType c h → is_group_field f.field.kind ≡ true → CallsLead set (StructType b g) (wrap k r) (one_call (FieldNumber i) Init) (put (value.Group (default_record set Endless c)))
  group_begins c h is group =
      leads_to Init (value.Group (default_record set Endless c)) (λ reply new walks room. inits set b g i k r inside c h is group Init tt reply new walks room)

-- ---- an element ----

leaf_given : (set : Schemas) (t : SchemaType) (s : Source) → IsLeafType t → given_element set t s ≡ given_slot set t s
leaf_given set AnyPointerType s leaf = absurd leaf
leaf_given set (StructType b g) s leaf = absurd leaf
leaf_given set t s leaf = refl

walked_on : (x : StepTarget) (t : SchemaType) → IsWalked t → walked_by_type x t ≡ Ok x
walked_on x (StructType c h) is = refl
walked_on x (ListType e) is = refl
walked_on x t is = absurd is

module _ (set : Schemas) (e : SchemaType) (i : ℕ) (vs : Values) (inside : i < value_count vs) where
  abbrev put_in : Value → Value
  put_in w = value.Elements (with_value vs i w)

  abbrev element_here : StepTarget
  element_here = element_target e vs i

  element_found : (ws : Values) → i < value_count ws → step_target set (ListType e) (value.Elements ws) (ElementAt i) ≡ Ok (element_target e ws i)
  element_found ws h = chosen_first (nat_lt i (value_count ws)) (Ok (element_target e ws i)) (Err NoSuchElement) (lt-ltb i (value_count ws) h)

  element_does : (op : Op) (reply : Reply) (new : Value) → DoesAt set op (step_target set (ListType e) (value.Elements vs) (ElementAt i)) (value.Elements vs) reply new → Does set op element_here (value.Elements vs) reply new
  element_does op reply new does = subst (λ found. DoesAt set op found (value.Elements vs) reply new) (element_found vs inside) does

  element_leads : (op : Op) (w : Value) → CallMakes set (ListType e) (value.Elements vs) (call_at (ElementAt i) op) (put_in w) → CallsLead set (ListType e) (value.Elements vs) (one_call (ElementAt i) op) (put_in w)
  element_leads op w makes = lead_one set (ListType e) (value.Elements vs) (put_in w) (call_at (ElementAt i) op) tt makes

  element_nest : IsWalked e → Nest set (ListType e) e (ElementAt i) put_in
  element_nest walked = record {
    leads = λ p solid. record {
      target = element_target e (with_value vs i p) i;
      found =
          ap walked_result (element_found (with_value vs i p) (subst (λ n. i < n) (sym (count_with vs i p)) inside))
          ∙ walked_on (element_target e (with_value vs i p) i) e walked;
      type = refl;
      part = nth_with vs i p inside;
      puts = λ w. ap value.Elements (with_with vs i p w);
    };
    solid = λ p. tt;
  }

  -- an element takes a value of its type, where a struct stands there as its default
  pub element_can : ((b g : ℕ) → e ≡ StructType b g → value.Elements vs ≡ put_in (value.Struct (default_record set Endless b))) → CanMake set (ListType e) (ElementAt i) e true (value.Elements vs) put_in
  element_can stands = record {
    sets = λ leaf source w brings. element_leads (Set source) w (λ reply new walks room.
        given_done set element_here (given_slot set e source) w (value.Elements vs) reply new brings
        (subst (λ given. Sets set element_here given (value.Elements vs) reply new) (leaf_given set e source leaf) (element_does (Set source) reply new walks)) room);
    begins = stands;
    lists = λ t n is. element_leads (Initn n) (value.Elements (values_from (λ _. new_element set t) 0 n)) (λ reply new walks room. list_made set element_here n e t (value.Elements vs) reply new is (element_does (Initn n) reply new walks) room);
    nest = element_nest;
  }
