-- A call that takes no memory is not refused for the want of it, nor because the format has no room.
use Rattle.std.specs.Prelude.{ℕ, ◌≡◌, ◌≢◌, ◌⊎◌, refl, ⊤, pos, Bool, true, false, cond, nat_lt, ◌==◌, List, [], ◌∷◌, Option, Some, None, Ok, Err, length}
use Rattle.std.proofs.Common.{ap, inl, inr, sym, ◌∙◌}
use Rattle.std.proofs.lemmas.Bool.{true≢false}
use Rattle.capnp_device.specs.declared.error.ErrorKind.{ErrorKind}
use Rattle.capnp_device.specs.declared.error.ErrorKind.TheVariants.{FieldNotFound, InactiveMember, InitIsOnlyValidForStructAndAnyPointerFields, NoSuchElement, NotAContainer, OutOfMemory, SizePastFormat, TypeMismatch}
use Rattle.capnp_schema.specs.Query.{field_named, records_of}
use Rattle.capnp_wire.specs.Tree.{StructTree}
use Rattle.capnp_schema.specs.Schema.{Schemas, brand_at, field_at, fields_of}
use Rattle.capnp_schema.specs.StructHandles.{number_of, set_of}
use Rattle.capnp_schema.specs.declared.schema.structs.StructSchema.{StructSchema}
use Rattle.capnp_schema.specs.Types.{SchemaType, VoidType, BoolType, IntType, UIntType, EnumType, TextType, DataType, StructType, ListType, AnyPointerType, struct_number}
use Rattle.capnp_records.specs.Call.{BoolSource, Clear, DataSource, ElementAt, EnumSource, FieldNamed, FieldNumber, Get, Has, Init, Initn, IntSource, ListSource, Op, PathStep, Refused, Reply, Set, Source, StructSource, TextSource, UIntSource, Which}
use Rattle.capnp_records.specs.Default.{default_record, read_of}
use Rattle.capnp_records.specs.Facts.ReadFaults.{AllSound, IsReadKind, RecordSound, Sound, nth_value_sound, part_sound, read_of_sound, reads_sound, value_of_sound}
use Rattle.capnp_records.specs.Given.{Copies, CopiesGroup, Fails, Given, Gives, copied_struct, given_part, given_element, given_group, given_slot}
use Rattle.capnp_records.specs.Operation.{Answers, AtField, Does, Gets, Inits, IsDone, Sets, takes_memory}
use Rattle.capnp_records.specs.Part.{value_count}
use Rattle.capnp_records.specs.Reading.{value_of}
use Rattle.capnp_records.specs.Record as value
use Rattle.capnp_records.specs.Record.{Endless, NoValues, Record, Value, Values}
use Rattle.capnp_records.specs.Run.{Asks, root_type}
use Rattle.capnp_records.specs.Step.{Found, IsRefused, StepTarget, element_target, fault_of, field_found, field_target, in_list, in_record, step_target, walked_by_type, walked_result, walked_target}
use Rattle.capnp_records.specs.Writes.Stand.{OnGroup, OnList, OnStruct, Stand, StepRests, entered_stand, seen_stand}
use Rattle.capnp_records.specs.Writes.TreeEnds.{CopiesGiven, CopiesTo, TreeDoes, TreeDoesAt, TreeEnds}
use Rattle.capnp_records.specs.Writes.TreeRun.{TreeEnters, TreePasses, TreeWalks}
use Rattle.capnp_call.specs.Ends.{AsStruct}
use Rattle.capnp_call.specs.Memory.{CallRests, EndRests, IsNoCopy, IsNotForRoom, NeedsNone, NextRests, PathRests, is_made}
use Rattle.capnp_call.specs.Seen.{op_seen, path_seen, reply_seen, step_seen}
use Rattle.capnp_call.specs.Walks.{StructWalks}
use Rattle.capnp_call.specs.declared.calls.Ending.{Ending}
use Rattle.capnp_call.specs.declared.calls.Reply.{Reply as ReplyOf}
use Rattle.capnp_call.specs.declared.calls.Step.{Step}

-- ---- kinds ----

abbrev is_room : ErrorKind → Bool
is_room OutOfMemory = true
is_room SizePastFormat = true
is_room kind = false

abbrev kind_of : Reply → ErrorKind → ErrorKind
kind_of (Refused kind) other = kind
kind_of reply other = other

-- a refusal of another kind
other_kind : (reply : Reply) (kind : ErrorKind) → is_room kind ≡ false → reply ≡ Refused kind → IsNotForRoom reply
other_kind reply kind other is = record { memory = differs OutOfMemory refl; format = differs SizePastFormat refl }
  where
    differs : (k : ErrorKind) → is_room k ≡ true → reply ≢ Refused k
    differs k room same = true≢false (sym room ∙ (ap (λ (r : Reply). is_room (kind_of r OutOfMemory)) (sym same ∙ is) ∙ other))

-- a reply that is no refusal
abbrev is_refusal : Reply → Bool
is_refusal (Refused kind) = true
is_refusal reply = false

no_refusal : (reply : Reply) → is_refusal reply ≡ false → IsNotForRoom reply
no_refusal reply h = record { memory = λ same. true≢false (sym (ap is_refusal same) ∙ h); format = λ same. true≢false (sym (ap is_refusal same) ∙ h) }

read_kind : (kind : ErrorKind) → IsReadKind kind → is_room kind ≡ false
read_kind OutOfMemory h = absurd (true≢false (sym h))
read_kind SizePastFormat h = absurd (true≢false (sym h))
read_kind kind h = refl

-- ---- what stands there, and what a step names ----

abbrev FaultKind : Option ErrorKind → Type 0
FaultKind None = ⊤
FaultKind (Some kind) = is_room kind ≡ false

fault_kind : (v : Value) → Sound v → FaultKind (fault_of v)
fault_kind (value.Fault kind) h = read_kind kind h
fault_kind v h = tt

stand_sound : (set : Schemas) (t : SchemaType) (old : Stand) → Sound (seen_stand set t old)
stand_sound set t (OnStruct s) = reads_sound set s _
stand_sound set t (OnGroup s) = reads_sound set s _
stand_sound set t (OnList x) = value_of_sound set x Endless t

-- a refusal is not for memory, and what was found can be read or is refused as a read
abbrev FoundSound : Found → Type 0
FoundSound (Err kind) = is_room kind ≡ false
FoundSound (Ok x) = Sound x.part

module _ (set : Schemas) where
  field_sound : (whole : Record → Value) (r : Record) (b : ℕ) (o : Option ℕ) → RecordSound r → FoundSound (field_found set whole r b o)
  field_sound whole r b None h = refl
  field_sound whole r b (Some i) h = go (nat_lt i (length (fields_of set b)))
    where
      go : (q : Bool) → FoundSound (elim q as (λ _. Found) [ true ↦ Ok (field_target whole r (field_at set b i) i) | false ↦ Err FieldNotFound ])
      go true = part_sound r h (field_at set b i).field i
      go false = refl

  record_sound : (whole : Record → Value) (r : Record) (b : ℕ) (s : PathStep) → RecordSound r → FoundSound (in_record set whole r b s)
  record_sound whole r b (FieldNumber i) h = field_sound whole r b (Some i) h
  record_sound whole r b (FieldNamed name) h = field_sound whole r b (field_named (records_of set b) name) h
  record_sound whole r b (ElementAt i) h = refl

  list_sound : (e : SchemaType) (vs : Values) (s : PathStep) → AllSound vs → FoundSound (in_list e vs s)
  list_sound e vs (FieldNumber i) h = refl
  list_sound e vs (FieldNamed name) h = refl
  list_sound e vs (ElementAt i) h = go (nat_lt i (value_count vs))
    where
      go : (q : Bool) → FoundSound (elim q as (λ _. Found) [ true ↦ Ok (element_target e vs i) | false ↦ Err NoSuchElement ])
      go true = nth_value_sound vs h i
      go false = refl

  target_sound : (t : SchemaType) (v : Value) (s : PathStep) → Sound v → FoundSound (step_target set t v s)
  target_sound (StructType b g) (value.Struct r) s h = record_sound value.Struct r b s h
  target_sound (StructType b g) (value.Group r) s h = record_sound value.Group r b s h
  target_sound (ListType e) (value.Elements vs) s h = list_sound e vs s h
  target_sound (ListType e) (value.Missing l) s h = list_sound e NoValues s tt
  target_sound t v s h = refl

typed_sound : (x : StepTarget) (t : SchemaType) → Sound x.part → FoundSound (walked_by_type x t)
typed_sound x (StructType b g) h = h
typed_sound x (ListType e) h = h
typed_sound x t h = refl

walked_sound : (r : Found) → FoundSound r → FoundSound (walked_result r)
walked_sound (Err kind) h = h
walked_sound (Ok x) h = go x.inactive
  where
    go : (q : Bool) → FoundSound (elim q as (λ _. Found) [ true ↦ Err InactiveMember | false ↦ walked_by_type x x.type ])
    go true = refl
    go false = typed_sound x x.type h

-- ---- what is given ----

abbrev GivenKind : Given → Type 0
GivenKind (Fails kind) = is_room kind ≡ false
GivenKind g = ⊤

either_kind : (q : Bool) (g h : Given) → GivenKind g → GivenKind h → GivenKind (cond q g h)
either_kind true g h k l = k
either_kind false g h k l = l

slot_kind : (set : Schemas) (t : SchemaType) (s : Source) → GivenKind (given_slot set t s)
slot_kind set VoidType s = tt
slot_kind set BoolType (BoolSource b) = tt
slot_kind set (IntType k) (IntSource n x) = either_kind (k == n) (Gives (value.Number x)) (Fails TypeMismatch) tt refl
slot_kind set (UIntType k) (UIntSource n x) = either_kind (k == n) (Gives (value.Number (pos x))) (Fails TypeMismatch) tt refl
slot_kind set (EnumType e) (EnumSource n) = tt
slot_kind set TextType (TextSource bytes) = tt
slot_kind set DataType (DataSource bytes) = tt
slot_kind set (StructType b g) (StructSource l s from) = tt
slot_kind set (ListType e) (ListSource l t from) = tt
slot_kind set AnyPointerType (TextSource bytes) = tt
slot_kind set AnyPointerType (DataSource bytes) = tt
slot_kind set AnyPointerType (StructSource l s from) = tt
slot_kind set AnyPointerType (ListSource l t from) = tt
slot_kind set t s = refl

group_kind : (t : SchemaType) (s : Source) → GivenKind (given_group t s)
group_kind t (StructSource l s from) = either_kind (from == struct_number t) (CopiesGroup l s from) (Fails TypeMismatch) tt refl
group_kind t s = refl

element_kind : (set : Schemas) (t : SchemaType) (s : Source) → GivenKind (given_element set t s)
element_kind set AnyPointerType s = refl
element_kind set (StructType b g) (StructSource l s from) = either_kind (from == b) (Copies (copied_struct s) false (value_of set (copied_struct s) Endless (StructType b g))) (Fails TypeMismatch) tt refl
element_kind set t s = slot_kind set t s

given_kind : (set : Schemas) (x : StepTarget) (s : Source) → GivenKind (given_part set x s)
given_kind set x s = go x.is_group x.is_element
  where
    go : (p q : Bool) → GivenKind (elim p as (λ _. Given) [ true ↦ given_group x.type s | false ↦ elim q as (λ _. Given) [ true ↦ given_element set x.type s | false ↦ given_slot set x.type s ] ])
    go true q = group_kind x.type s
    go false true = element_kind set x.type s
    go false false = slot_kind set x.type s

-- ---- the operations ----

module _ (set : Schemas) (x : StepTarget) (old : Value) (reply : Reply) (new : Value) where
  gets : (t : SchemaType) (v : Value) (o : Option ErrorKind) → FaultKind o → takes_memory t ≡ false → Answers t v o old reply new → IsNotForRoom reply
  gets t v (Some kind) fault none h = other_kind reply kind fault h.0
  gets t v None fault none (inl h) = no_refusal reply (ap is_refusal h.0)
  gets t v None fault none (inr h) = absurd (true≢false (sym h.0 ∙ none))

  sets : (g : Given) → GivenKind g → IsNoCopy g → Sets set x g old reply new → IsNotForRoom reply
  sets (Gives v) kind none h = no_refusal reply (ap is_refusal h.0)
  sets (Fails k) kind none h = other_kind reply k kind h.0
  sets (Copies source past v) kind none h = absurd none
  sets (CopiesGroup l s b) kind none h = absurd none

  inits : (t : SchemaType) → is_made x.is_group t ≡ false → Inits set x t old reply new → IsNotForRoom reply
  inits (StructType b g) none h = go x.is_group none h
    where
      go : (q : Bool) → is_made q (StructType b g) ≡ false →
          (elim q as (λ _. Type 0) [ true ↦ IsDone (x.put (value.Group (default_record set Endless b))) reply new | false ↦ IsDone (x.put (value.Struct (default_record set Endless b))) reply new ⊎ IsRefused OutOfMemory reply old new ]) →
          IsNotForRoom reply
      go true none h = no_refusal reply (ap is_refusal h.0)
      go false none h = absurd (true≢false none)
  inits AnyPointerType none h = no_refusal reply (ap is_refusal h.0)
  inits t none h = other_kind reply InitIsOnlyValidForStructAndAnyPointerFields refl h.0

  at_field : (P : Type 0) → (P → IsNotForRoom reply) → AtField x reply old new P → IsNotForRoom reply
  at_field P f h = go x.is_element h
    where
      go : (q : Bool) → (elim q as (λ _. Type 0) [ true ↦ IsRefused NotAContainer reply old new | false ↦ P ]) → IsNotForRoom reply
      go true h = other_kind reply NotAContainer refl h.0
      go false h = f h

  does : (op : Op) → Sound x.part → NeedsNone set op x → Does set op x old reply new → IsNotForRoom reply
  does Get sound none h = go x.inactive h
    where
      go : (q : Bool) → (elim q as (λ _. Type 0) [ true ↦ IsRefused InactiveMember reply old new | false ↦ Gets set x old reply new ]) → IsNotForRoom reply
      go true h = other_kind reply InactiveMember refl h.0
      go false h = gets x.type (read_of set x.default x.type x.part) _ (fault_kind (read_of set x.default x.type x.part) (read_of_sound set x.default x.type x.part sound)) none h
  does Has sound none h = at_field _ (λ k. no_refusal reply (ap is_refusal k.0)) h
  does Which sound none h = absurd h
  does (Set s) sound none h = sets (given_part set x s) (given_kind set x s) none h
  does Init sound none h = at_field _ (inits x.type none) h
  does (Initn n) sound none h = absurd none
  does Clear sound none h = at_field _ (λ k. no_refusal reply (ap is_refusal k.0)) h

-- ---- the end of a path ----

asks : (v : Value) (reply : Reply) (new : Value) → Asks v reply new → IsNotForRoom reply
asks (value.Struct r) reply new h = no_refusal reply (ap is_refusal h.0)
asks (value.Group r) reply new h = no_refusal reply (ap is_refusal h.0)
asks v reply new h = other_kind reply NotAContainer refl h.0

module _ (set : Schemas) (t : SchemaType) (old : Stand) (last : PathStep) (reply : Reply) (new : Stand) where
  copies_given : (g : Given) → IsNoCopy g → CopiesGiven set g t old last reply new → ⊥
  copies_given (Gives v) none h = h
  copies_given (Fails kind) none h = h
  copies_given (Copies source past v) none h = h
  copies_given (CopiesGroup l s b) none h = none

  copies_to : (op : Op) (x : StepTarget) → NeedsNone set op x → CopiesTo set op x t old last reply new → ⊥
  copies_to (Set s) x none h = copies_given (given_part set x s) none h.1
  copies_to Get x none h = h
  copies_to Has x none h = h
  copies_to Which x none h = h
  copies_to Init x none h = h
  copies_to (Initn n) x none h = h
  copies_to Clear x none h = h

  tree_does : (op : Op) (x : StepTarget) → Sound x.part → NeedsNone set op x → TreeDoes set op x t old last reply new → IsNotForRoom reply
  tree_does op x sound none (inl h) = does set x (seen_stand set t old) reply (seen_stand set t old) op sound none h.0
  tree_does op x sound none (inr (inl (c, content, room, done, rest))) = no_refusal reply (ap is_refusal done)
  tree_does op x sound none (inr (inr (inl (c, slot, field, content, done, rest)))) = no_refusal reply (ap is_refusal done)
  tree_does op x sound none (inr (inr (inr (inl (group, clears, done, rest))))) = no_refusal reply (ap is_refusal done)
  tree_does op x sound none (inr (inr (inr (inr h)))) = absurd (copies_to op x none h)

  does_at : (op : Op) (r : Found) → FoundSound r → EndRests set op r → TreeDoesAt set op r t old last reply new → IsNotForRoom reply
  does_at op (Err kind) sound none h = other_kind reply kind sound h.0
  does_at op (Ok x) sound none h = tree_does op x sound none h

  end_found : FoundSound (step_target set t (seen_stand set t old) last)
  end_found = target_sound set t (seen_stand set t old) last (stand_sound set t old)

  ends : (op : Op) → EndRests set op (step_target set t (seen_stand set t old) last) → TreeEnds set last op t old reply new → IsNotForRoom reply
  ends Which none h = asks (seen_stand set t old) reply (seen_stand set t old) h.0
  ends Get none h = does_at Get _ end_found none h
  ends Has none h = does_at Has _ end_found none h
  ends (Set s) none h = does_at (Set s) _ end_found none h
  ends Init none h = does_at Init _ end_found none h
  ends (Initn n) none h = does_at (Initn n) _ end_found none h
  ends Clear none h = does_at Clear _ end_found none h

-- ---- the walk ----

pub walk_rests : (set : Schemas) (last : PathStep) (op : Op) (path : List PathStep) (t : SchemaType) (old : Stand) (reply : Reply) (new : Stand) → CallRests set last op path t old →
    TreeWalks set (TreeEnds set last op) path t old reply new → IsNotForRoom reply
walk_rests set last op [] t old reply new rests h = ends set t old last reply new op rests h
walk_rests set last op (step ∷ path) t old reply new rests h =
    passes (walk_rests set last op path) (walked_target set t (seen_stand set t old) step) (walked_sound (step_target set t (seen_stand set t old) step) (target_sound set t (seen_stand set t old) step (stand_sound set t old))) rests h
  where
    Next : Type 0
    Next = (u : SchemaType) (old : Stand) (reply : Reply) (new : Stand) → CallRests set last op path u old → TreeWalks set (TreeEnds set last op) path u old reply new → IsNotForRoom reply

    enters : Next → (x : StepTarget) (o : Option ErrorKind) → FaultKind o → StepRests set t old step → CallRests set last op path x.type (entered_stand set t old step) →
        TreeEnters set (TreeWalks set (TreeEnds set last op) path) t old step o x reply new → IsNotForRoom reply
    enters ih x (Some kind) fault still next h = other_kind reply kind fault h.0
    enters ih x None fault still next (inl stops) = absurd (stops.moves still)
    enters ih x None fault still next (inr goes) = ih x.type (entered_stand set t old step) reply goes.inner next goes.goes_on

    passes : Next → (r : Found) → FoundSound r → NextRests r (StepRests set t old step) (λ u. CallRests set last op path u (entered_stand set t old step)) →
        TreePasses set (TreeWalks set (TreeEnds set last op) path) t old step r reply new → IsNotForRoom reply
    passes ih (Err kind) sound rests h = other_kind reply kind sound h.0
    passes ih (Ok x) sound rests h = enters ih x (fault_of x.part) (fault_kind x.part sound) rests.0 rests.1 h

-- ---- a call as the code has it ----

pub path_rests : (schema : StructSchema) (path : List Step) (end : Ending) (s : StructTree) (r : ReplyOf) (s' : StructTree) → StructWalks (set_of schema) (number_of schema) path end s r s' → PathRests schema path end s →
    IsNotForRoom (reply_seen r)
unfolding StructWalks
path_rests schema path end s r s' walks rests =
    walk_rests (set_of schema) (step_seen end.call.now.last) (op_seen end.call.now.op) (path_seen path) (root_type (set_of schema) (number_of schema)) (OnStruct s) (reply_seen r) (OnStruct s') rests
    (walks AsStruct (brand_at (set_of schema) (number_of schema)).node)
