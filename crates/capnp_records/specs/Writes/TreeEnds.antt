-- What the end of a call's path does to trees, a call on the root of a brand, and a run.
use Rattle.std.specs.Prelude.{ℕ, suc, ◌≡◌, ◌≢◌, ◌⊎◌, ⊤, List, [], ◌∷◌, true, false, Option, Some, None, Ok, Err, length}
use Rattle.capnp_device.specs.declared.error.ErrorKind.{ErrorKind}
use Rattle.capnp_wire.specs.Tree.{StructTree, Null}
use Rattle.capnp_schema.specs.Types.{SchemaType, StructType, AnyPointerType, struct_number}
use Rattle.capnp_schema.specs.Schema.{Schemas, FieldKind, Slot, Group, TypedField, node_of}
use Rattle.capnp_records.specs.Call.{PathStep, Source, Op, Which, Set, Init, Initn, Clear, Call, Reply, Done, Refused}
use Rattle.capnp_records.specs.Step.{StepTarget, Found, step_target}
use Rattle.capnp_records.specs.Given.{copy_refusal, Given, Gives, Copies, CopiesGroup, given_part}
use Rattle.capnp_records.specs.Operation.{Does}
use Rattle.capnp_records.specs.Run.{Asks, root_type}
use Rattle.capnp_records.specs.Writes.Slots.{Content, At}
use Rattle.capnp_records.specs.Writes.Overlay.{switched_struct, with_slot, number_content, cleared_content, cleared_group}
use Rattle.capnp_records.specs.Writes.Contents.{source_tree, SourceFits, init_tree}
use Rattle.capnp_records.specs.Writes.Stand.{Stand, OnStruct, OnGroup, OnList, seen_stand, stand_struct, step_field}
use Rattle.capnp_records.specs.Writes.ElementEnds.{InitnContent, ElementContent, element_written_at, HasRoomAt}
use Rattle.capnp_records.specs.Writes.TreeCopy.{TreeCopiesWithin}
use Rattle.capnp_records.specs.Writes.TreeRun.{TreeEnd, IsTreeRefused, TreeWalks}

-- ---- what is written into a slot ----

abbrev pub SetContent : StepTarget → Source → Given → Content → Type 0
SetContent x s (Gives v) c = c ≡ number_content x.default x.type v
SetContent x s (Copies source past v) c = (copy_refusal source ≡ None) × (past ≡ false) × (c ≡ At (source_tree s))
SetContent x s g c = ⊥

abbrev pub InitContent : Schemas → SchemaType → Content → Type 0
InitContent set (StructType b g) c = c ≡ At (init_tree set (StructType b g))
InitContent set AnyPointerType c = c ≡ At Null
InitContent set t c = ⊥

abbrev pub OpContent : Schemas → Op → StepTarget → Content → Type 0
OpContent set (Set s) x c = SourceFits s × SetContent x s (given_part set x s) c
OpContent set Init x c = (x.is_element ≡ false) × InitContent set x.type c
OpContent set (Initn n) x c = InitnContent set n x.type c
OpContent set Clear x c = (x.is_element ≡ false) × (c ≡ cleared_content x.type)
OpContent set op x c = ⊥

abbrev pub offset_of : FieldKind → ℕ
offset_of (Slot offset d) = offset
offset_of (Group node) = 0

abbrev pub slot_written : Schemas → ℕ → TypedField → Content → StructTree → StructTree
slot_written set b f c s = with_slot set b f (offset_of f.field.kind) c s

-- the same stand with another struct
abbrev pub with_stand_struct : Stand → StructTree → Stand
with_stand_struct (OnStruct s) y = OnStruct y
with_stand_struct (OnGroup s) y = OnGroup y
with_stand_struct (OnList x) y = OnList x

abbrev pub written_stand : Schemas → SchemaType → Stand → PathStep → Content → Stand
written_stand set t old step c = with_stand_struct old (slot_written set (struct_number t) (step_field set (struct_number t) step) c (stand_struct old))

-- ---- a group ----

abbrev pub group_cleared : Schemas → ℕ → TypedField → StructTree → StructTree
group_cleared set b f s = cleared_group set (struct_number f.type) (switched_struct (node_of set b) f.field s)

abbrev pub cleared_at : Schemas → SchemaType → Stand → PathStep → Stand
cleared_at set t old step = with_stand_struct old (group_cleared set (struct_number t) (step_field set (struct_number t) step) (stand_struct old))

abbrev pub ClearsGroup : Op → Type 0
ClearsGroup Init = ⊤
ClearsGroup Clear = ⊤
ClearsGroup op = ⊥

-- ---- the end of a path ----

-- nothing was written: a reply or a refusal as the record has it, and none that says that a write was made
abbrev pub Stays : Schemas → Op → StepTarget → SchemaType → Stand → Reply → Stand → Type 0
Stays set op x t old reply new = Does set op x (seen_stand set t old) reply (seen_stand set t old) × (new ≡ old) × (reply ≢ Done)

-- a slot was written
abbrev pub WritesSlot : Schemas → Op → StepTarget → SchemaType → Stand → PathStep → Reply → Stand → Type 0
WritesSlot set op x t old step reply new = (c : Content) × (x.is_group ≡ false) × (x.is_element ≡ false) × OpContent set op x c × (reply ≡ Done) × (new ≡ written_stand set t old step c)

-- a group was cleared
abbrev pub Clears : Schemas → Op → StepTarget → SchemaType → Stand → PathStep → Reply → Stand → Type 0
Clears set op x t old step reply new = (x.is_group ≡ true) × ClearsGroup op × (reply ≡ Done) × (new ≡ cleared_at set t old step)

-- an element was written
abbrev pub WritesElement : Schemas → Op → StepTarget → SchemaType → Stand → PathStep → Reply → Stand → Type 0
WritesElement set op x t old step reply new = (c : Content) × ElementContent set op x c × HasRoomAt set t old step × (reply ≡ Done) × (new ≡ element_written_at set t old step c)

abbrev pub CopiedReply : Option ErrorKind → Reply → Type 0
CopiedReply None reply = reply ≡ Done
CopiedReply (Some kind) reply = reply ≡ Refused kind

-- a group was set: its struct was switched to and cleared, and has the fields that were copied until the first refusal
abbrev pub CopiesGiven : Schemas → Given → SchemaType → Stand → PathStep → Reply → Stand → Type 0
CopiesGiven set (CopiesGroup l source g) t old step reply new =
    (refused : Option ErrorKind) × (y : StructTree) × TreeCopiesWithin (suc (length set.brands)) set l source g (switched_struct (node_of set (struct_number t)) (step_field set (struct_number t) step).field (stand_struct old)) refused y
    × CopiedReply refused reply × (new ≡ with_stand_struct old y)
CopiesGiven set g t old step reply new = ⊥

abbrev pub CopiesTo : Schemas → Op → StepTarget → SchemaType → Stand → PathStep → Reply → Stand → Type 0
CopiesTo set (Set s) x t old step reply new = (x.is_group ≡ true) × CopiesGiven set (given_part set x s) t old step reply new
CopiesTo set op x t old step reply new = ⊥

abbrev pub WritesField : Schemas → Op → StepTarget → SchemaType → Stand → PathStep → Reply → Stand → Type 0
WritesField set op x t old step reply new = WritesSlot set op x t old step reply new ⊎ (Clears set op x t old step reply new ⊎ CopiesTo set op x t old step reply new)

abbrev pub TreeDoes : Schemas → Op → StepTarget → SchemaType → Stand → PathStep → Reply → Stand → Type 0
TreeDoes set op x t old step reply new = Stays set op x t old reply new ⊎ (WritesElement set op x t old step reply new ⊎ WritesField set op x t old step reply new)

abbrev pub TreeDoesAt : Schemas → Op → Found → SchemaType → Stand → PathStep → Reply → Stand → Type 0
TreeDoesAt set op (Err kind) t old step reply new = IsTreeRefused kind reply old new
TreeDoesAt set op (Ok x) t old step reply new = TreeDoes set op x t old step reply new

abbrev pub TreeEnds : Schemas → PathStep → Op → TreeEnd
TreeEnds set last Which t old reply new = Asks (seen_stand set t old) reply (seen_stand set t old) × (new ≡ old)
TreeEnds set last op t old reply new = TreeDoesAt set op (step_target set t (seen_stand set t old) last) t old last reply new

-- ---- a call, and a list of them, on the root of a brand ----

abbrev pub TreeStep : Schemas → ℕ → StructTree → Call → Reply → StructTree → Type 0
TreeStep set b old call reply new = TreeWalks set (TreeEnds set call.last call.op) call.path (root_type set b) (OnStruct old) reply (OnStruct new)

abbrev pub TreeRun : Schemas → ℕ → StructTree → List Call → List Reply → StructTree → Type 0
TreeRun set b old [] [] new = new ≡ old
TreeRun set b old (call ∷ calls) (reply ∷ replies) new = (mid : StructTree) × TreeStep set b old call reply mid × TreeRun set b mid calls replies new
TreeRun set b old [] (reply ∷ replies) new = ⊥
TreeRun set b old (call ∷ calls) [] new = ⊥
