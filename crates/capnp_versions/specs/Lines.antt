-- Differences as lines: a struct by its older display name, a field of it, what differs, and what stands on both sides.
use Rattle.std.specs.Prelude.{ℕ, zero, suc, List, [], ◌∷◌, ◌++◌, Bool, true, false, Option, Some, None, codes, decimal, length, nat_lt}
use Rattle.capnp_schema.specs.Discriminant.{discriminant_of}
use Rattle.capnp_schema.specs.Schema.{Field, Schemas, field_at, fields_of, node_of}
use Rattle.capnp_records.specs.Text.{Out, after, said_text}
use Rattle.capnp_structs.specs.Sides.{field_side}
use Rattle.capnp_differences.specs.declared.differences.Cause.{Cause}
use Rattle.capnp_differences.specs.declared.differences.Cause.TheVariants as cause
use Rattle.capnp_differences.specs.declared.differences.Difference.{Difference}

abbrev pub cause_words : Cause → List ℕ
cause_words cause.FieldGone = codes "is gone"
cause_words cause.KindChanged = codes "became a group, or is none any more"
cause_words cause.PlaceChanged = codes "stands elsewhere"
cause_words cause.DefaultChanged = codes "has another default"
cause_words cause.DiscriminantChanged = codes "has another discriminant value"
cause_words cause.LeftUnion = codes "left the union"
cause_words cause.EnteredUnion = codes "entered the union"
cause_words cause.TypeChanged = codes "has another type"
cause_words cause.ElementsBecameStructs = codes "has structs for elements of another kind"
cause_words cause.FewerEnumerants = codes "has an enum with fewer names"
cause_words cause.UnionGone = codes "has no union any more"
cause_words cause.FewerMembers = codes "has a union of fewer members"
cause_words cause.UnionMoved = codes "has its union's discriminant elsewhere"

-- the name of a field behind a point, where it is there
abbrev pub named_field : List Field → ℕ → List ℕ
named_field [] i = []
named_field (f ∷ fs) zero = 46 ∷ f.name
named_field (f ∷ fs) (suc i) = named_field fs i

abbrev pub field_word : List Field → (index : Option ℕ) → List ℕ
field_word fs None = []
field_word fs (Some i) = named_field fs i

-- ---- what stands on each side ----

-- the union of a struct, where it has one
abbrev pub union_words : (members bit : ℕ) → List ℕ
union_words members bit = decimal members ++ codes " members, tag at data bit " ++ decimal bit

abbrev pub union_side : (members : ℕ) → Option ℕ → Option Out
union_side members None = None
union_side members (Some bit) = Some (said_text (union_words members bit))

-- a field, where the struct has it
abbrev pub field_at_side : Schemas → (brand index : ℕ) → (stands : Bool) → Option Out
field_at_side set b i false = None
field_at_side set b i true = Some (field_side set b (field_at set b i))

-- what a difference is of: a field, or else the union
abbrev pub side_of : Schemas → (brand : ℕ) → (field : Option ℕ) → Option Out
side_of set b None = union_side (node_of set b).discriminant_count (discriminant_of (node_of set b))
side_of set b (Some i) = field_at_side set b i (nat_lt i (length (fields_of set b)))

-- it stands behind a word, where it is there
abbrev pub behind_word : (word : List ℕ) → Option Out → Out
behind_word word None = said_text []
behind_word word (Some o) = after (said_text word) o

-- ---- lines ----

-- what differs
abbrev pub difference_words : Schemas → Difference → List ℕ
difference_words set d = (node_of set d.pair.older).display_name ++ field_word (node_of set d.pair.older).fields d.field ++ codes " " ++ cause_words d.cause

-- and what was there, and is
abbrev pub difference_line : Schemas → Difference → Out
difference_line set d =
    after (said_text (difference_words set d))
    (after (behind_word (codes ": was ") (side_of set d.pair.older d.field))
    (after (behind_word (codes "; is ") (side_of set d.pair.newer d.field)) (said_text (10 ∷ []))))

abbrev pub differences_text : Schemas → List Difference → Out
differences_text set [] = said_text []
differences_text set (d ∷ ds) = after (difference_line set d) (differences_text set ds)
