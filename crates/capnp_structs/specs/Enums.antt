-- The lines of the enums that fields name: each with its annotations, its names by their numbers, and the annotations of these.
use Rattle.std.specs.Prelude.{ℕ, zero, suc, ◌==◌, List, [], ◌∷◌, ◌++◌, Bool, true, false, codes}
use Rattle.std.specs.List.{list_any}
use Rattle.capnp_schema.specs.Annotated.{enum_annotations, enumerant_annotations, enumerant_at}
use Rattle.capnp_schema.specs.Schema.{Schemas, Enumerant, enum_at}
use Rattle.capnp_records.specs.Text.{Out, after, said_text}
use Rattle.capnp_structs.specs.Values.{annotations_text}

-- what stands before the name of a number
abbrev pub before_name : ℕ → List ℕ
before_name zero = codes " "
before_name (suc i) = codes ", "

-- a name of an enum with its annotations
abbrev pub name_text : Schemas → (enumeration ordinal : ℕ) → Out
name_text set e i = after (said_text (before_name i ++ (enumerant_at set e i).name)) (annotations_text set (enumerant_annotations set e i))

-- the names that are left of an enum, from a number on
abbrev pub names_text : Schemas → (enumeration ordinal : ℕ) → List Enumerant → Out
names_text set e i [] = said_text []
names_text set e i (x ∷ xs) = after (name_text set e i) (names_text set e (suc i) xs)

-- a line for an enum
abbrev pub enum_line : Schemas → ℕ → Out
enum_line set e =
    after (said_text (codes "enum " ++ (enum_at set e).display_name))
    (after (annotations_text set (enum_annotations set e))
    (after (said_text (codes ":"))
    (after (names_text set e 0 (enum_at set e).enumerants) (said_text (10 ∷ [])))))

-- a line where its enum was not met before
abbrev pub unless_met : (is_met : Bool) → Out → Out
unless_met true line = said_text []
unless_met false line = line

-- a line for each of these enums, where it was not met before
abbrev pub enum_lines : Schemas → (met : List ℕ) → List ℕ → Out
enum_lines set met [] = said_text []
enum_lines set met (e ∷ es) = after (unless_met (list_any (λ (x : ℕ). x == e) met) (enum_line set e)) (enum_lines set (e ∷ met) es)
