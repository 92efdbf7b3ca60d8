-- The statements of the laws.
use Rattle.std.specs.Prelude.{ℕ, ◌≡◌, ◌↔◌, List, Bool, false, slice_get, Some, Ok, ◌≢◌, Err}
use Rattle.capnp_schema.specs.Accepted.{IsAccepted}
use Rattle.capnp_schema.specs.ByName.{brand_asked}
use Rattle.capnp_schema.specs.Schema.{Node, Schemas}
use Rattle.capnp_records.specs.Record.{Record}
use Rattle.capnp_request.specs.Conversion.{Note}
use Rattle.capnp_request.specs.Order.{and_said, conversion_of}
use Rattle.capnp_request.specs.Reading.{request_said}
use Rattle.capnp_request.specs.Scopes.{node_named}
use Rattle.capnp_request.specs.Terms.{RequestTerm, SchemaNode, StructNode, StructPart}
use Rattle.capnp_request.specs.Work.{Entry, Whole}
use Rattle.capnp_request_meaning.specs.Found.{AreToldApart, EndsAsField, HasOwnFields, IsEntryNode, IsGroupAt, IsStructFound, ShareNames, is_group_place}
use Rattle.capnp_request_meaning.specs.Meaning.{AreUnbound, IsListed, IsSetOf, numbers_in}
use Rattle.capnp_request_meaning.specs.Noted.{AreNotesOf}
use Rattle.capnp_request_meaning.specs.Passed.{IsCertain, IsPassed, bounds}
use Rattle.capnp_device.specs.declared.error.ErrorKind.TheVariants.{NodeNotFound, TooManyTypes}
use Rattle.capnp_request_meaning.specs.Plain.{AreNodesPlain}
use Rattle.capnp_request_meaning.specs.Sound.{IsRequestSound, Refusal}
use Rattle.capnp_request_meaning.specs.Written.{AreBoundAlike, AreStructsToldApart, AreWrittenAlike, HasBareNames, HasClearNames, HasNamedTypes, HasOwnNames, IsWholeAt}

-- the set that a request is converted to is that of the request
abbrev pub SetMeansItsRequest : Type 0
SetMeansItsRequest = (r : RequestTerm) (strict : Bool) (set : Schemas) (notes : List Note) → conversion_of r strict ≡ Ok (set, notes) → IsSetOf r strict set

-- A set and its notes are those of the request that a record says, of which no member type is a struct or an enum by number.
pub record IsSetOfRecord (r : Record) (strict : Bool) (set : Schemas) (notes : List Note) : Type 0 where
  pub request : RequestTerm
  pub said : request_said r ≡ Ok request
  pub plain : AreNodesPlain request.nodes
  pub is : IsSetOf request strict set
  pub told : AreNotesOf request strict set notes

-- the same of a request's record
abbrev pub SetMeansItsRecord : Type 0
SetMeansItsRecord = (r : Record) (strict : Bool) (set : Schemas) (notes : List Note) → and_said (request_said r) (λ request. conversion_of request strict) ≡ Ok (set, notes) → IsSetOfRecord r strict set notes

-- A query by its display name finds each struct of the files that a record requests, where nodes have names of their own without
-- brackets.
abbrev pub FindsRequested : Record → Schemas → Type 0
FindsRequested r set = (request : RequestTerm) → request_said r ≡ Ok request → HasOwnNames request.nodes → HasBareNames request.nodes → (entries : List Entry) × ((id : ℕ) (n : SchemaNode) (part : StructPart) →
    IsListed request id → node_named request.nodes id ≡ Some n → n.kind ≡ StructNode part → part.is_group ≡ false → IsStructFound entries set id n)

-- the notes beside a set are exactly of what stands so
abbrev pub NotesTellWhatStands : Type 0
NotesTellWhatStands = (r : RequestTerm) (strict : Bool) (set : Schemas) (notes : List Note) → conversion_of r strict ≡ Ok (set, notes) → AreNotesOf r strict set notes

-- the node of an entry with nothing bound that is no group
pub record IsUnboundAt (entries : List Entry) (set : Schemas) (i : ℕ) (e : Entry) (n : Node) : Type 0 where
  pub there : slice_get entries i ≡ Some e
  pub node : slice_get set.nodes i ≡ Some n
  pub whole : e.place ≡ Whole
  pub unbound : AreUnbound e.bound

-- where nodes have names of their own, two such nodes of a set have one name only where they are one
abbrev pub UnboundNamesDiffer : Type 0
UnboundNamesDiffer = (r : RequestTerm) (strict : Bool) (set : Schemas) (is : IsSetOf r strict set) → HasOwnNames r.nodes → (i j : ℕ) (e f : Entry) (n m : Node) →
    IsUnboundAt is.entries set i e n → IsUnboundAt is.entries set j f m → n.display_name ≡ m.display_name → i ≡ j

-- where such names have no brackets, two entries that are no groups have one name only where they are of one node and their
-- bindings are written alike
abbrev pub BoundNamesDiffer : Type 0
BoundNamesDiffer = (r : RequestTerm) (strict : Bool) (set : Schemas) (is : IsSetOf r strict set) → HasOwnNames r.nodes → HasBareNames r.nodes → (i j : ℕ) (e f : Entry) (n m : Node) →
    IsWholeAt is.entries set i e n → IsWholeAt is.entries set j f m → n.display_name ≡ m.display_name → AreWrittenAlike (numbers_in r strict is.entries set) set.nodes i j e f n.display_name m.display_name

-- and so, where such names have no commas either and each scope a part for itself, only where types that are alike are bound to
-- their parameters
abbrev pub BoundTypesAreAlike : Type 0
BoundTypesAreAlike = (r : RequestTerm) (strict : Bool) (set : Schemas) (is : IsSetOf r strict set) → HasOwnNames r.nodes → HasBareNames r.nodes → HasClearNames r.nodes → (i j : ℕ) (e f : Entry) (n m : Node) →
    IsWholeAt is.entries set i e n → IsWholeAt is.entries set j f m → n.display_name ≡ m.display_name → AreBoundAlike (numbers_in r strict is.entries set) set.nodes i j e f n.display_name m.display_name

-- And no two entries that are no groups have one name where besides no struct or enum is named as a built-in type, nor an enum as
-- another of these, and no member type is one of them by number.
abbrev pub BoundNamesAreOwn : Type 0
BoundNamesAreOwn = (r : RequestTerm) (strict : Bool) (set : Schemas) (is : IsSetOf r strict set) → AreStructsToldApart r.nodes → (i j : ℕ) (e f : Entry) (n m : Node) →
    IsWholeAt is.entries set i e n → IsWholeAt is.entries set j f m → n.display_name ≡ m.display_name → i ≡ j

-- where no member type of a request is a struct or an enum by number, all types that are bound in an entry have names
abbrev pub BoundTypesHaveNames : Type 0
BoundTypesHaveNames = (r : RequestTerm) (strict : Bool) (set : Schemas) (is : IsSetOf r strict set) → AreNodesPlain r.nodes → (i : ℕ) (e : Entry) (n : Node) →
    IsWholeAt is.entries set i e n → HasNamedTypes (numbers_in r strict is.entries set) set.nodes i e n.display_name

-- in a set that the check accepts the groups of fields are marked as groups, and no other entry is
abbrev pub GroupsAreMarked : Type 0
GroupsAreMarked = (r : RequestTerm) (strict : Bool) (set : Schemas) (is : IsSetOf r strict set) → IsAccepted set → (i : ℕ) (e : Entry) (n : Node) → IsEntryNode is.entries set i e n → n.is_group ≡ is_group_place e.place

-- Each struct of the requested files is the one that a query by its display name finds, where nodes have names of their own without
-- brackets. No group stands before it there, whatever its name is.
abbrev pub EachStructIsFound : Type 0
EachStructIsFound = (r : RequestTerm) (strict : Bool) (set : Schemas) (is : IsSetOf r strict set) → IsAccepted set → HasOwnNames r.nodes → HasBareNames r.nodes → (id : ℕ) (n : SchemaNode) (part : StructPart) →
    IsListed r id → node_named r.nodes id ≡ Some n → n.kind ≡ StructNode part → part.is_group ≡ false → IsStructFound is.entries set id n

-- and so is each entry that is no group, bound ones too, where no two of these have one name
abbrev pub NamesFindStructs : Type 0
NamesFindStructs = (r : RequestTerm) (strict : Bool) (set : Schemas) (is : IsSetOf r strict set) → IsAccepted set → AreStructsToldApart r.nodes →
    (i : ℕ) (e : Entry) (n : Node) → IsWholeAt is.entries set i e n → brand_asked set n.display_name ≡ Some i

-- Two groups have one name exactly where their fields have one, as have the entries that these are fields of: names of fields are
-- one part each.
abbrev pub GroupNamesAreShared : Type 0
GroupNamesAreShared = (r : RequestTerm) (strict : Bool) (set : Schemas) (is : IsSetOf r strict set) → HasOwnFields r.nodes → (i j p l q o : ℕ) (e f : Entry) (n m : Node) →
    IsGroupAt is.entries set i p l e n → IsGroupAt is.entries set j q o f m → (n.display_name ≡ m.display_name) ↔ ShareNames set p l q o

-- a group and an entry that is none have one name only where that entry's node is named so, behind the last dot or colon
abbrev pub GroupsShareWithStructs : Type 0
GroupsShareWithStructs = (r : RequestTerm) (strict : Bool) (set : Schemas) (is : IsSetOf r strict set) → HasBareNames r.nodes → HasOwnFields r.nodes → (i j p l : ℕ) (e f : Entry) (n m : Node) →
    IsGroupAt is.entries set i p l e n → IsWholeAt is.entries set j f m → n.display_name ≡ m.display_name → EndsAsField r.nodes set f.node p l

-- and no two entries have one name, where all these are told apart
abbrev pub AllNamesDiffer : Type 0
AllNamesDiffer = (r : RequestTerm) (strict : Bool) (set : Schemas) (is : IsSetOf r strict set) → IsAccepted set → AreToldApart r.nodes → (i j : ℕ) (e f : Entry) (n m : Node) →
    IsEntryNode is.entries set i e n → IsEntryNode is.entries set j f m → n.display_name ≡ m.display_name → i ≡ j

-- where no part of a request is a cause of a refusal, it isn't refused so; of bounds that isn't said
abbrev pub RefusalsHaveCauses : Type 0
RefusalsHaveCauses = (cause : Refusal) (r : RequestTerm) → cause.kind ≢ TooManyTypes → IsRequestSound cause r → conversion_of r cause.strict ≢ Err cause.kind

-- so where each id that a request's nodes name is that of a node of its kind, no node is missing
abbrev pub NothingIsMissing : Type 0
NothingIsMissing = (r : RequestTerm) (strict : Bool) → IsRequestSound (record { kind = NodeNotFound; strict = strict }) r → conversion_of r strict ≢ Err NodeNotFound

-- where no part of a request is refused for a bound itself, one that is refused so passes a bound
abbrev pub BoundsArePassed : Type 0
BoundsArePassed = (r : RequestTerm) (strict : Bool) → IsRequestSound (bounds strict) r → conversion_of r strict ≡ Err TooManyTypes → IsPassed r strict

-- And a request that passes one is not converted, where its member types are no structs or enums by number. Of the length of a
-- struct's name, which goes by the order of entries, that isn't said.
abbrev pub BoundsAreRefused : Type 0
BoundsAreRefused = (r : RequestTerm) (strict : Bool) → AreNodesPlain r.nodes → (passed : IsPassed r strict) → IsCertain r strict passed → (set : Schemas) (notes : List Note) → conversion_of r strict ≢ Ok (set, notes)
