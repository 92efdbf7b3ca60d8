-- The structs of two sets that have one display name.
use Rattle.std.specs.Prelude.{ℕ, zero, suc, ◌+◌, ◌<◌, ◌≤◌, ◌^◌, ◌≡◌, ◌==◌, List, [], ◌∷◌, ◌++◌, Bool, true, false, Option, Some, None, codes, decimal, if◌then◌else◌, length, string_bytes}
use Rattle.capnp_schema.specs.ByName.{brand_asked}
use Rattle.capnp_schema.specs.Schema.{Schemas, node_of}
use Rattle.capnp_differences.specs.declared.differences.Pair.{Pair}
use Rattle.capnp_versions.specs.declared.every.FullComparison.{FullComparison}
use Rattle.capnp_versions.specs.declared.versions.Comparison.{Comparison}

-- the display name of a brand
abbrev pub name_at : Schemas → ℕ → List ℕ
name_at set b = (node_of set b).display_name

abbrev pub same_number : Option ℕ → ℕ → Option ℕ
same_number None b = None
same_number (Some n) b = if n == b then Some b else None

-- a brand, where it is the one that is found by its display name: no group, and the first of that name
abbrev pub first_at : Schemas → ℕ → Option ℕ
first_at set b = same_number (brand_asked set (name_at set b)) b

-- ---- pairs ----

-- a brand, and one of the second of two joined sets
abbrev pub moved_pair : (by : ℕ) → ℕ → Option ℕ → Option Pair
moved_pair by a None = None
moved_pair by a (Some n) = Some (record { older = a; newer = n + by })

abbrev pub pair_of_first : (older newer : Schemas) → Option ℕ → Option Pair
pair_of_first older newer None = None
pair_of_first older newer (Some a) = moved_pair (length older.brands) a (brand_asked newer (name_at older a))

-- a struct of the older set and that of its name in the newer one, by their numbers in the joined set
abbrev pub shared_pair : (older newer : Schemas) → ℕ → Option Pair
shared_pair older newer b = pair_of_first older newer (first_at older b)

abbrev pub some_pair : Option Pair → List Pair
some_pair None = []
some_pair (Some p) = p ∷ []

-- those of the first so many brands of the older set
abbrev pub shared_among : (older newer : Schemas) → (count : ℕ) → List Pair
shared_among older newer zero = []
shared_among older newer (suc b) = shared_among older newer b ++ some_pair (shared_pair older newer b)

-- the structs whose display name stands in both sets, in the order of the older one
abbrev pub shared_pairs : (older newer : Schemas) → List Pair
shared_pairs older newer = shared_among older newer (length older.brands)

-- of such a pair the number of the newer struct has more than 32 bits
abbrev pub IsPast : (older newer : Schemas) → Type 0
IsPast older newer = (b : ℕ) × (b < length older.brands) × (p : Pair) × (shared_pair older newer b ≡ Some p) × (2 ^ 32 ≤ p.newer)

-- ---- structs that one of the sets has ----

abbrev pub note_unless : Option ℕ → (name words : List ℕ) → List ℕ
note_unless (Some n) name words = []
note_unless None name words = codes "note: " ++ name ++ words ++ 10 ∷ []

abbrev pub note_of_first : (set other : Schemas) → (words : List ℕ) → Option ℕ → List ℕ
note_of_first set other words None = []
note_of_first set other words (Some a) = note_unless (brand_asked other (name_at set a)) (name_at set a) words

-- the line of a struct whose display name the other set has not
abbrev pub note_line : (set other : Schemas) → (words : List ℕ) → ℕ → List ℕ
note_line set other words b = note_of_first set other words (first_at set b)

abbrev pub notes_among : (set other : Schemas) → (words : List ℕ) → (count : ℕ) → List ℕ
notes_among set other words zero = []
notes_among set other words (suc b) = notes_among set other words b ++ note_line set other words b

-- the structs that went, in the order of the older set, and those that came, in that of the newer one
abbrev pub notes_text : (older newer : Schemas) → List ℕ
notes_text older newer = notes_among older newer (codes " is gone") (length older.brands) ++ notes_among newer older (codes " is new") (length newer.brands)

-- ---- counts ----

abbrev pub one_if : Bool → ℕ
one_if true = 1
one_if false = 0

abbrev pub count_true : List Bool → ℕ
count_true [] = 0
count_true (t ∷ ts) = one_if t + count_true ts

-- ---- all that is told ----

-- nothing where only what breaks is told
abbrev pub notes_told : (breaking_only : Bool) → (notes : List ℕ) → List ℕ
notes_told true notes = []
notes_told false notes = notes

-- what is told of two versions of a struct
abbrev pub named_report_text : (breaking_only : Bool) → Comparison → List ℕ
named_report_text breaking_only c = string_bytes c.text ++ notes_told breaking_only (string_bytes c.notes)

abbrev pub counted : (before : List ℕ) → (count : ℕ) → (after : List ℕ) → List ℕ
counted before count after = before ++ decimal count ++ after

-- how many structs are compatible, and how many not
abbrev pub count_line : (compatible incompatible : ℕ) → List ℕ
count_line m n = counted (codes "structs: ") m (codes " compatible") ++ counted (codes ", ") n (codes " not\n")

abbrev pub report_text : (breaking_only : Bool) → FullComparison → List ℕ
report_text breaking_only c = string_bytes c.text ++ notes_told breaking_only (string_bytes c.notes) ++ count_line c.compatible c.incompatible
