-- Notes as lines: a struct by its older display name, a field of it, and what changes.
use Rattle.std.specs.Prelude.{ℕ, zero, suc, List, [], ◌∷◌, ◌++◌, Some, codes, decimal}
use Rattle.capnp_schema.specs.Schema.{Field, Schemas, node_of}
use Rattle.capnp_differences.specs.Notes.{enumerant_name}
use Rattle.capnp_differences.specs.declared.noted.Change.{Change}
use Rattle.capnp_differences.specs.declared.noted.Change.TheVariants as change
use Rattle.capnp_differences.specs.declared.noted.Note.{Note}
use Rattle.capnp_differences.specs.declared.differences.Pair.{Pair}
use Rattle.capnp_versions.specs.Lines.{field_word}

-- the struct that has the field, by the name that is told: the newer one where the field came
abbrev pub holder_of : Pair → Change → ℕ
holder_of p change.FieldCame = p.newer
holder_of p c = p.older

-- the name of a field, where it is there
abbrev pub name_of : List Field → ℕ → List ℕ
name_of [] i = []
name_of (f ∷ fs) zero = f.name
name_of (f ∷ fs) (suc i) = name_of fs i

abbrev pub change_words : Schemas → Pair → (field : ℕ) → Change → List ℕ
change_words set p i change.FieldCame = codes " is new"
change_words set p i change.FieldRenamed = codes " is named " ++ (name_of (node_of set p.newer).fields i ++ codes " now")
change_words set p i (change.EnumerantCame e k) = codes " has the new enumerant " ++ enumerant_name set e.newer k
change_words set p i (change.EnumerantRenamed e k) =
    codes " has the enumerant " ++ (enumerant_name set e.older k ++ (codes ", which is named " ++ (enumerant_name set e.newer k ++ codes " now")))
change_words set p i (change.ListsOfStructs levels) = codes " has lists of structs now; so many more levels are asked of readers: " ++ decimal levels

abbrev pub change_line : Schemas → Note → List ℕ
change_line set n =
    codes "note: " ++ ((node_of set n.pair.older).display_name ++ (field_word (node_of set (holder_of n.pair n.change)).fields (Some n.field) ++ (change_words set n.pair n.field n.change ++ 10 ∷ [])))

abbrev pub changes_text : Schemas → List Note → List ℕ
changes_text set [] = []
changes_text set (n ∷ ns) = change_line set n ++ changes_text set ns
