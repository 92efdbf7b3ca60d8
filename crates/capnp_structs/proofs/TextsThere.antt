-- Each part of a struct's text is there: none is refused.
use Rattle.std.proofs.Common.{ℕ, suc, ◌==◌, List, [], ◌∷◌, ◌++◌, Bool, true, false, codes, Option, Some, None, Ok, Err}
use Rattle.std.specs.List.{list_any}
use Rattle.std.specs.Str.{is_utf8}
use Rattle.capnp_schema.specs.Annotated.{TypedAnnotation, enum_annotations, enumerant_annotations, enumerant_at, field_annotations}
use Rattle.capnp_schema.specs.Plan.{plan_of}
use Rattle.capnp_schema.specs.Schema.{Schemas, BoolValue, IntValue, UIntValue, EnumValue, TextValue, DataValue, StructValue, ListValue, AnyPointerValue, VoidValue, Enumerant, default_of, enum_at, field_at, kind_target, Value as SchemaValue}
use Rattle.capnp_schema.specs.Types.{SchemaType}
use Rattle.capnp_records.specs.Facts.Spelled.{both_text, known_spelled, some_bytes, some_spelled}
use Rattle.capnp_records.specs.Text.{IsText, Out, Pieces, after, debug_pieces, decimals, enum_text, quoted_text, said_text}
use Rattle.capnp_dynamic_readers.specs.Annotated.{stored_read}
use Rattle.capnp_json_fields.specs.Marks.{is_float}
use Rattle.capnp_structs.specs.Enums.{before_name, enum_line, enum_lines, name_text, names_text, unless_met}
use Rattle.capnp_structs.specs.Fields.{Line, UnionLine, FieldLine, field_end, field_line, group_head, group_line, line_text, lines_text, member_text, slot_head, slot_line, union_line}
use Rattle.capnp_structs.specs.Values.{annotation_head, annotation_text, annotations_text, default_text, is_told, or_words, read_text, stored_text, told_default, words_text}
use Rattle.capnp_structs.specs.declared.values.Numbers.{Numbers}
use Rattle.capnp_structs.specs.declared.values.Numbers.TheVariants.{Integers, Floats}

-- a text can be spelled
abbrev pub HasText : Out → Type 0
HasText o = (bytes : List ℕ) × IsText o bytes

ok_there : (pieces : Pieces) → HasText (Ok pieces)
ok_there pieces = (some_bytes pieces, some_spelled pieces)

pub said_there : (bytes : List ℕ) → HasText (said_text bytes)
said_there bytes = (bytes, known_spelled bytes)

pub both_there : (x y : Out) → HasText x → HasText y → HasText (after x y)
both_there x y (xs, h) (ys, k) = (xs ++ ys, both_text x y xs ys h k)

-- ---- values ----

or_words_there : (o : Out) (words : List ℕ) → HasText (or_words o words)
or_words_there (Ok pieces) words = ok_there pieces
or_words_there (Err kind) words = said_there (words_text words)

quoted_there : (bs : List ℕ) → HasText (quoted_text bs)
quoted_there bs = go (is_utf8 bs)
  where
    go : (q : Bool) → HasText (elim q [ true ↦ Ok (debug_pieces bs) | false ↦ said_text (codes "<invalid utf-8: [" ++ decimals bs ++ codes "]>") ])
    go true = ok_there (debug_pieces bs)
    go false = said_there (codes "<invalid utf-8: [" ++ decimals bs ++ codes "]>")

integers_there : (set : Schemas) (t : SchemaType) (v : SchemaValue) → HasText (stored_text Integers set t v)
integers_there set t VoidValue = ok_there _
integers_there set t (BoolValue b) = ok_there _
integers_there set t (IntValue bytes n) = ok_there _
integers_there set t (UIntValue bytes n) = ok_there _
integers_there set t (EnumValue n) = said_there (enum_text set t n)
integers_there set t (TextValue bytes) = quoted_there bytes
integers_there set t (DataValue bytes) = ok_there _
integers_there set t (StructValue words) = or_words_there (read_text Integers set t (stored_read set (StructValue words) t)) words
integers_there set t (ListValue words) = or_words_there (read_text Integers set t (stored_read set (ListValue words) t)) words
integers_there set t (AnyPointerValue words) = said_there (words_text words)

floats_there : (own : Bool) (set : Schemas) (t : SchemaType) (v : SchemaValue) → HasText (stored_text (Floats own) set t v)
floats_there own set t VoidValue = ok_there _
floats_there own set t (BoolValue b) = ok_there _
floats_there own set t (IntValue bytes n) = ok_there _
floats_there own set t (UIntValue bytes n) = ok_there _
floats_there own set t (EnumValue n) = said_there (enum_text set t n)
floats_there own set t (TextValue bytes) = quoted_there bytes
floats_there own set t (DataValue bytes) = ok_there _
floats_there own set t (StructValue words) = or_words_there (read_text (Floats own) set t (stored_read set (StructValue words) t)) words
floats_there own set t (ListValue words) = or_words_there (read_text (Floats own) set t (stored_read set (ListValue words) t)) words
floats_there own set t (AnyPointerValue words) = said_there (words_text words)

stored_there : (numbers : Numbers) (set : Schemas) (t : SchemaType) (v : SchemaValue) → HasText (stored_text numbers set t v)
stored_there Integers set t v = integers_there set t v
stored_there (Floats own) set t v = floats_there own set t v

default_there : (q : Bool) (set : Schemas) (t : SchemaType) (v : SchemaValue) → HasText (default_text q set t v)
default_there q set t v = go (is_told v)
  where
    go : (p : Bool) → HasText (told_default p (stored_text (Floats q) set t v))
    go true = both_there (said_text (codes ", default ")) (stored_text (Floats q) set t v) (said_there (codes ", default ")) (stored_there (Floats q) set t v)
    go false = said_there []

annotation_there : (set : Schemas) (x : TypedAnnotation) → HasText (annotation_text set x)
annotation_there set x =
    both_there (said_text (annotation_head x.annotation.id)) (stored_text Integers set x.type x.annotation.value) (said_there (annotation_head x.annotation.id)) (stored_there Integers set x.type x.annotation.value)

pub annotations_there : (set : Schemas) (xs : List TypedAnnotation) → HasText (annotations_text set xs)
annotations_there set [] = said_there []
annotations_there set (x ∷ xs) = both_there (annotation_text set x) (annotations_text set xs) (annotation_there set x) (annotations_there set xs)

-- ---- fields ----

pub end_there : (set : Schemas) (b i : ℕ) → HasText (field_end set b i)
end_there set b i =
    let m : List ℕ = member_text (plan_of set b (field_at set b i)).member in
    let xs : List TypedAnnotation = field_annotations set b i in
    both_there (said_text m) (after (annotations_text set xs) (said_text (10 ∷ []))) (said_there m) (both_there (annotations_text set xs) (said_text (10 ∷ [])) (annotations_there set xs) (said_there (10 ∷ [])))

slot_there : (set : Schemas) (b i : ℕ) (prefix : List ℕ) → HasText (slot_line set b i prefix)
slot_there set b i prefix =
    let head : List ℕ = slot_head set prefix (field_at set b i) (plan_of set b (field_at set b i)).place in
    let default : Out = default_text (is_float (field_at set b i)) set (field_at set b i).type (default_of (field_at set b i).field) in
    both_there (said_text head) (after default (field_end set b i)) (said_there head)
    (both_there default (field_end set b i) (default_there (is_float (field_at set b i)) set (field_at set b i).type (default_of (field_at set b i).field)) (end_there set b i))

group_there : (set : Schemas) (b i : ℕ) (prefix : List ℕ) → HasText (group_line set b i prefix)
group_there set b i prefix =
    let head : List ℕ = group_head prefix (field_at set b i) in
    both_there (said_text head) (field_end set b i) (said_there head) (end_there set b i)

field_there : (set : Schemas) (b i : ℕ) (prefix : List ℕ) (o : Option ℕ) → HasText (field_line set b i prefix o)
field_there set b i prefix None = slot_there set b i prefix
field_there set b i prefix (Some g) = group_there set b i prefix

line_there : (set : Schemas) (l : Line) → HasText (line_text set l)
line_there set (UnionLine prefix b) = said_there (union_line set prefix b)
line_there set (FieldLine prefix b i) = field_there set b i prefix (kind_target (field_at set b i).field.kind (field_at set b i).type)

pub lines_there : (set : Schemas) (ls : List Line) → HasText (lines_text set ls)
lines_there set [] = said_there []
lines_there set (l ∷ ls) = both_there (line_text set l) (lines_text set ls) (line_there set l) (lines_there set ls)

-- ---- enums ----

name_there : (set : Schemas) (e i : ℕ) → HasText (name_text set e i)
name_there set e i =
    let head : List ℕ = before_name i ++ (enumerant_at set e i).name in
    both_there (said_text head) (annotations_text set (enumerant_annotations set e i)) (said_there head) (annotations_there set (enumerant_annotations set e i))

pub names_there : (set : Schemas) (e i : ℕ) (xs : List Enumerant) → HasText (names_text set e i xs)
names_there set e i [] = said_there []
names_there set e i (x ∷ xs) = both_there (name_text set e i) (names_text set e (suc i) xs) (name_there set e i) (names_there set e (suc i) xs)

enum_there : (set : Schemas) (e : ℕ) → HasText (enum_line set e)
enum_there set e =
    let head : List ℕ = codes "enum " ++ (enum_at set e).display_name in
    let xs : List TypedAnnotation = enum_annotations set e in
    let names : Out = names_text set e 0 (enum_at set e).enumerants in
    let last : Out = after names (said_text (10 ∷ [])) in
    let behind : Out = after (said_text (codes ":")) last in
    both_there (said_text head) (after (annotations_text set xs) behind) (said_there head)
    (both_there (annotations_text set xs) behind (annotations_there set xs)
    (both_there (said_text (codes ":")) last (said_there (codes ":"))
    (both_there names (said_text (10 ∷ [])) (names_there set e 0 (enum_at set e).enumerants) (said_there (10 ∷ [])))))

unless_there : (q : Bool) (line : Out) → HasText line → HasText (unless_met q line)
unless_there true line there = said_there []
unless_there false line there = there

pub enums_there : (set : Schemas) (met es : List ℕ) → HasText (enum_lines set met es)
enums_there set met [] = said_there []
enums_there set met (e ∷ es) =
    let q : Bool = list_any (λ (x : ℕ). x == e) met in
    both_there (unless_met q (enum_line set e)) (enum_lines set (e ∷ met) es) (unless_there q (enum_line set e) (enum_there set e)) (enums_there set (e ∷ met) es)
