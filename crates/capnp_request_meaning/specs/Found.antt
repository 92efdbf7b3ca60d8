-- How the structs of a set are found by their names, and which names groups have.
use Rattle.std.specs.Prelude.{ℕ, ◌≡◌, ◌⊎◌, ◌==◌, ◌||◌, List, [], ◌∷◌, Bool, true, false, slice_get, Some, Ok}
use Rattle.capnp_schema.specs.ByName.{brand_asked}
use Rattle.capnp_schema.specs.Schema.{Field, Node, Schemas}
use Rattle.capnp_request.specs.Names.{dotted_of}
use Rattle.capnp_request.specs.Scopes.{node_named}
use Rattle.capnp_request.specs.Terms.{FieldTerm, GroupTerm, SchemaNode, StructNode, StructPart}
use Rattle.capnp_request.specs.Work.{Entry, GroupOf, Place, Whole}
use Rattle.capnp_request_meaning.specs.Meaning.{AreUnbound, IsRead}
use Rattle.capnp_request_meaning.specs.Written.{AreStructsToldApart}

-- The struct of a requested file is the one that a query by its display name finds. That is the name of its schema node, or what
-- stands behind that name's last colon.
pub record IsStructFound (entries : List Entry) (set : Schemas) (id : ℕ) (n : SchemaNode) : Type 0 where
  pub number : ℕ
  pub entry : Entry
  pub node : Node
  pub display : List ℕ
  pub there : slice_get entries number ≡ Some entry
  pub numbered : slice_get set.nodes number ≡ Some node
  pub same_node : entry.node ≡ id
  pub whole : entry.place ≡ Whole
  pub unbound : AreUnbound entry.bound
  pub same_id : node.id ≡ id
  pub said : n.display_name ≡ Ok display
  pub name : (node.display_name ≡ dotted_of display) ⊎ (node.display_name ≡ display)
  pub found : brand_asked set node.display_name ≡ Some number

-- an entry with its node
pub record IsEntryNode (entries : List Entry) (set : Schemas) (i : ℕ) (e : Entry) (n : Node) : Type 0 where
  pub there : slice_get entries i ≡ Some e
  pub node : slice_get set.nodes i ≡ Some n

-- ---- groups ----

abbrev pub is_group_place : Place → Bool
is_group_place Whole = false
is_group_place (GroupOf parent field) = true

-- a name without dots and colons
abbrev pub IsOnePart : List ℕ → Type 0
IsOnePart [] = Unit {0}
IsOnePart (x ∷ xs) = ((x == 46) ≡ false) × ((x == 58) ≡ false) × IsOnePart xs

-- whether one of these bytes is a dot or a colon
abbrev pub has_parts : List ℕ → Bool
has_parts [] = false
has_parts (x ∷ xs) = ((x == 46) || (x == 58)) || has_parts xs

-- what stands behind the last dot or colon
abbrev pub last_part : List ℕ → List ℕ
last_part [] = []
last_part (x ∷ xs) = elim (has_parts (x ∷ xs)) [ true ↦ last_part xs | false ↦ x ∷ xs ]

-- the names of fields are one part each, and no two fields of a node have one name
pub record HasOwnFields (nodes : List SchemaNode) : Type 0 where
  pub part : (id : ℕ) (n : SchemaNode) (part : StructPart) (i : ℕ) (f : FieldTerm) (name : List ℕ) → node_named nodes id ≡ Some n → n.kind ≡ StructNode part → IsRead part.fields i f → f.name ≡ Ok name → IsOnePart name
  pub own : (id : ℕ) (n : SchemaNode) (part : StructPart) (i j : ℕ) (f g : FieldTerm) (name : List ℕ) → node_named nodes id ≡ Some n → n.kind ≡ StructNode part → IsRead part.fields i f → IsRead part.fields j g → f.name ≡ Ok name → g.name ≡ Ok name → i ≡ j

-- no struct that is no group is named as a group's field, behind the last dot or colon
abbrev pub HasApartGroups : List SchemaNode → Type 0
HasApartGroups nodes = (id other group : ℕ) (n m : SchemaNode) (part struct : StructPart) (i : ℕ) (f : FieldTerm) (display : List ℕ) → node_named nodes id ≡ Some n → n.kind ≡ StructNode part → part.is_group ≡ false → n.display_name ≡ Ok display
    → node_named nodes other ≡ Some m → m.kind ≡ StructNode struct → IsRead struct.fields i f → f.kind ≡ GroupTerm group → f.name ≡ Ok (last_part display) → ⊥

-- the entry of the group that field l of entry p names, with its node
pub record IsGroupAt (entries : List Entry) (set : Schemas) (i p l : ℕ) (e : Entry) (n : Node) : Type 0 where
  pub there : slice_get entries i ≡ Some e
  pub node : slice_get set.nodes i ≡ Some n
  pub place : e.place ≡ GroupOf p l

-- field l of entry p and field o of entry q have one name, as have those entries
pub record ShareNames (set : Schemas) (p l q o : ℕ) : Type 0 where
  pub parent : Node
  pub other : Node
  pub field : Field
  pub other_field : Field
  pub numbered : slice_get set.nodes p ≡ Some parent
  pub other_numbered : slice_get set.nodes q ≡ Some other
  pub member : slice_get parent.fields l ≡ Some field
  pub other_member : slice_get other.fields o ≡ Some other_field
  pub same_parent : parent.display_name ≡ other.display_name
  pub same_field : field.name ≡ other_field.name

-- field l of entry p is named as the last part of what the node of an id is named
pub record EndsAsField (nodes : List SchemaNode) (set : Schemas) (id p l : ℕ) : Type 0 where
  pub node : SchemaNode
  pub display : List ℕ
  pub parent : Node
  pub field : Field
  pub first : node_named nodes id ≡ Some node
  pub said : node.display_name ≡ Ok display
  pub numbered : slice_get set.nodes p ≡ Some parent
  pub member : slice_get parent.fields l ≡ Some field
  pub name : field.name ≡ last_part display

-- what tells all entries of a request apart by their names
pub record AreToldApart (nodes : List SchemaNode) : Type 0 where
  pub structs : AreStructsToldApart nodes
  pub fields : HasOwnFields nodes
  pub groups : HasApartGroups nodes
