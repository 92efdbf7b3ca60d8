-- A walk through the fields of a struct: the lines that are left of each struct or group that it stands in, and what stands
-- before the names there.
use Rattle.std.proofs.Common.{ℕ, suc, ◌+◌, ◌-◌, ◌<◌, ◌≤◌, List, [], ◌∷◌, ◌++◌, Contains, drop, length, Option, Some, None, ◌≡◌, ◌∙◌, ap, append_assoc, append-nil, arith, refl, subst, sym}
use Rattle.capnp_device.specs.declared.error.ErrorKind.{ErrorKind}
use Rattle.capnp_schema.specs.Schema.{Schemas, TypedField, field_at, fields_of, kind_target, no_field}
use Rattle.capnp_dynamic_readers.specs.Facts.Appended.{both, nothing}
use Rattle.capnp_dynamic_readers.specs.Pieces.{IsAppended}
use Rattle.capnp_structs.specs.Fields.{Line, UnionLine, FieldLine, all_enums, all_lines, field_lines, inside, line_enums, line_text, lines_inside, lines_text, lines_within}
use Rattle.capnp_structs.specs.Limits.{HasRefusedLine, HasRefusedPart, IsStopped}
use Rattle.capnp_structs.proofs.Stopped.{stopped_left}
use Rattle.capnp_structs.proofs.TextsThere.{lines_there}
use Rattle.capnp_structs.proofs.Lines.{from_entry, next, none_left, within_next, within_none}

-- ---- what is left ----

-- what stands before the names of a group's fields, by the frames above it: each is behind the group's field
unfoldable pub path_under : Schemas → List (ℕ × ℕ) → List ℕ
path_under set [] = []
path_under set ((b, j) ∷ rest) = inside (path_under set rest) (field_at set b (j - 1))

-- the lines of the fields of a brand from an index on, with frames above it, and through so many groups
abbrev pub lines_from_index : Schemas → (groups : ℕ) → List (ℕ × ℕ) → ℕ → ℕ → List Line
lines_from_index set groups rest b i = all_lines (field_lines b (lines_within set groups) (path_under set rest)) i (drop i (fields_of set b))

-- the lines that are left of each frame, those of the innermost first
unfoldable pub lines_left : Schemas → (groups : ℕ) → List (ℕ × ℕ) → List Line
lines_left set groups [] = []
lines_left set groups ((b, i) ∷ rest) = lines_from_index set groups rest b i ++ lines_left set (suc groups) rest

-- in a group the path is that of the struct or group around it, and the group's name and a point
pub path_group : (set : Schemas) (b i : ℕ) (rest : List (ℕ × ℕ)) → path_under set ((b, i + 1) ∷ rest) ≡ inside (path_under set rest) (field_at set b i)
unfolding path_under
path_group set b i rest =
    let back : i + 1 - 1 ≡ i = omega arith in
    ap (λ (k : ℕ). inside (path_under set rest) (field_at set b k)) back

module _ (set : Schemas) where
  left_frame : (groups b i : ℕ) (rest : List (ℕ × ℕ)) → lines_left set groups ((b, i) ∷ rest) ≡ lines_from_index set groups rest b i ++ lines_left set (suc groups) rest
  unfolding lines_left
  left_frame groups b i rest = refl

  pub left_none : (groups : ℕ) (fs : List (ℕ × ℕ)) → fs ≡ [] → lines_left set groups fs ≡ []
  unfolding lines_left
  left_none groups fs none = ap (lines_left set groups) none

  -- the lines of a struct are that of its union, and those of its fields
  pub left_first : (groups left b : ℕ) → (groups ≡ 0 → ⊥) → left ≡ groups - 1 → lines_within set groups [] b ≡ UnionLine [] b ∷ lines_left set left ((b, 0) ∷ [])
  unfolding lines_left path_under
  left_first groups left b some less =
      within_next set groups [] b (omega (arith, some))
      ∙ (ap (λ (n : ℕ). UnionLine [] b ∷ all_lines (field_lines b (lines_within set n) []) 0 (fields_of set b)) (sym less)
      ∙ ap (λ (ls : List Line). UnionLine [] b ∷ ls) (sym (append-nil (all_lines (field_lines b (lines_within set left) []) 0 (fields_of set b)))))

  -- past a field
  left_past : (groups b i : ℕ) (rest : List (ℕ × ℕ)) → i < length (fields_of set b) →
      lines_left set groups ((b, i) ∷ rest)
      ≡ field_lines b (lines_within set groups) (path_under set rest) i (field_at set b i) ++ lines_left set groups ((b, i + 1) ∷ rest)
  left_past groups b i rest within =
      let lines : ℕ → TypedField → List Line = field_lines b (lines_within set groups) (path_under set rest) in
      let f : List Line = lines i (field_at set b i) in
      let fs : List TypedField = drop (i + 1) (fields_of set b) in
      left_frame groups b i rest
      ∙ (ap (λ (gs : List TypedField). all_lines lines i gs ++ lines_left set (suc groups) rest) (from_entry no_field (fields_of set b) i within)
      ∙ (append_assoc f (all_lines lines (suc i) fs) (lines_left set (suc groups) rest)
      ∙ (ap (λ (n : ℕ). f ++ (all_lines lines n fs ++ lines_left set (suc groups) rest)) (sym (next i))
      ∙ ap (λ (ls : List Line). f ++ ls) (sym (left_frame groups b (i + 1) rest)))))

  -- a field's line, and what is behind it by what it leads to
  left_by : (groups b i : ℕ) (rest : List (ℕ × ℕ)) (o : Option ℕ) → i < length (fields_of set b) → o ≡ kind_target (field_at set b i).field.kind (field_at set b i).type →
      lines_left set groups ((b, i) ∷ rest)
      ≡ FieldLine (path_under set rest) b i ∷ (lines_inside (lines_within set groups) (path_under set rest) (field_at set b i) o ++ lines_left set groups ((b, i + 1) ∷ rest))
  left_by groups b i rest o within leads =
      left_past groups b i rest within
      ∙ ap (λ (p : Option ℕ). FieldLine (path_under set rest) b i ∷ (lines_inside (lines_within set groups) (path_under set rest) (field_at set b i) p ++ lines_left set groups ((b, i + 1) ∷ rest))) (sym leads)

  -- a slot
  pub left_slot : (groups b i : ℕ) (rest : List (ℕ × ℕ)) → i < length (fields_of set b) → None ≡ kind_target (field_at set b i).field.kind (field_at set b i).type →
      lines_left set groups ((b, i) ∷ rest) ≡ FieldLine (path_under set rest) b i ∷ lines_left set groups ((b, i + 1) ∷ rest)
  left_slot groups b i rest within leads = left_by groups b i rest None within leads

  -- a group that is not gone into
  pub left_group : (groups b i g : ℕ) (rest : List (ℕ × ℕ)) → groups ≡ 0 → i < length (fields_of set b) → Some g ≡ kind_target (field_at set b i).field.kind (field_at set b i).type →
      lines_left set groups ((b, i) ∷ rest) ≡ FieldLine (path_under set rest) b i ∷ lines_left set groups ((b, i + 1) ∷ rest)
  left_group groups b i g rest none within leads =
      left_by groups b i rest (Some g) within leads
      ∙ ap (λ (ls : List Line). FieldLine (path_under set rest) b i ∷ (ls ++ lines_left set groups ((b, i + 1) ∷ rest))) (within_none set groups (inside (path_under set rest) (field_at set b i)) g none)

  -- the lines of a group through one more group
  group_lines : (groups b i g : ℕ) (rest : List (ℕ × ℕ)) →
      lines_within set (suc groups) (inside (path_under set rest) (field_at set b i)) g
      ≡ UnionLine (inside (path_under set rest) (field_at set b i)) g ∷ lines_from_index set groups ((b, i + 1) ∷ rest) g 0
  unfolding lines_within
  group_lines groups b i g rest =
      ap (λ (p : List ℕ). UnionLine (inside (path_under set rest) (field_at set b i)) g ∷ all_lines (field_lines g (lines_within set groups) p) 0 (fields_of set g)) (sym (path_group set b i rest))

  -- a group that is gone into
  pub left_inside : (groups b i g : ℕ) (rest : List (ℕ × ℕ)) → i < length (fields_of set b) → Some g ≡ kind_target (field_at set b i).field.kind (field_at set b i).type →
      lines_left set (suc groups) ((b, i) ∷ rest)
      ≡ FieldLine (path_under set rest) b i ∷ UnionLine (inside (path_under set rest) (field_at set b i)) g ∷ lines_left set groups ((g, 0) ∷ (b, i + 1) ∷ rest)
  left_inside groups b i g rest within leads =
      let f : Line = FieldLine (path_under set rest) b i in
      let u : Line = UnionLine (inside (path_under set rest) (field_at set b i)) g in
      left_by (suc groups) b i rest (Some g) within leads
      ∙ (ap (λ (ls : List Line). f ∷ (ls ++ lines_left set (suc groups) ((b, i + 1) ∷ rest))) (group_lines groups b i g rest)
      ∙ ap (λ (ls : List Line). f ∷ u ∷ ls) (sym (left_frame groups g 0 ((b, i + 1) ∷ rest))))

  -- out of one
  pub left_outside : (groups b i : ℕ) (rest : List (ℕ × ℕ)) → length (fields_of set b) ≤ i → lines_left set groups ((b, i) ∷ rest) ≡ lines_left set (suc groups) rest
  left_outside groups b i rest past =
      left_frame groups b i rest
      ∙ ap (λ (fs : List TypedField). all_lines (field_lines b (lines_within set groups) (path_under set rest)) i fs ++ lines_left set (suc groups) rest) (none_left (fields_of set b) i past)

-- ---- what was said ----

-- once the lines that are left are appended, and the enums that they name added, all lines and enums stand behind the start
pub record IsListed (set : Schemas) (start first : List ℕ) (whole left : List Line) (text enums : List ℕ) : Type 0 where
  pub said : (new : List ℕ) → IsAppended text (lines_text set left) new → IsAppended start (lines_text set whole) new
  pub added : enums ++ all_enums set left ≡ first ++ all_enums set whole
  -- they are of the whole
  pub among : (l : Line) → Contains left l → Contains whole l

pub listed_first : (set : Schemas) (start first : List ℕ) (whole : List Line) → IsListed set start first whole whole start first
listed_first set start first whole = record { said = λ new put. put; added = refl; among = λ l there. there }

-- in a list is its first line, and what is in the rest
one_behind : (l x : Line) (ls : List Line) → Contains ls x → Contains (l ∷ ls) x
one_behind l x ls (k, inside, is) = (suc k, omega (arith, inside), is)

first_of : (l : Line) (ls : List Line) → Contains (l ∷ ls) l
first_of l ls = (0, omega arith, refl)

module _ (set : Schemas) (start first : List ℕ) (whole : List Line) where
  -- what stops the first line that is left stops the whole
  pub listed_stopped : (limit : ℕ) (l : Line) (left : List Line) (text enums : List ℕ) (kind : ErrorKind) → IsStopped limit text (line_text set l) (HasRefusedPart set l) kind → IsListed set start first whole (l ∷ left) text enums →
      IsStopped limit start (lines_text set whole) (HasRefusedLine set whole) kind
  listed_stopped limit l left text enums kind h before =
      stopped_left limit start (lines_text set whole) (line_text set l) (lines_text set left) text kind before.said (lines_there set left) (λ r. (l, before.among l (first_of l left), r)) h

  pub listed_more : (l : Line) (left : List Line) (text text' enums enums' : List ℕ) → IsAppended text (line_text set l) text' → enums' ≡ enums ++ line_enums set l →
      IsListed set start first whole (l ∷ left) text enums → IsListed set start first whole left text' enums'
  listed_more l left text text' enums enums' put add before = record {
    said = λ new more. before.said new (both (line_text set l) (lines_text set left) text text' new put more);
    added = ap (λ (es : List ℕ). es ++ all_enums set left) add ∙ (append_assoc enums (line_enums set l) (all_enums set left) ∙ before.added);
    among = λ x there. before.among x (one_behind l x left there);
  }

  -- a line that names no enum
  pub listed_plain : (l : Line) (left : List Line) (text text' enums : List ℕ) → IsAppended text (line_text set l) text' → line_enums set l ≡ [] →
      IsListed set start first whole (l ∷ left) text enums → IsListed set start first whole left text' enums
  listed_plain l left text text' enums put none before =
      listed_more l left text text' enums enums put (sym (append-nil enums) ∙ ap (λ (es : List ℕ). enums ++ es) (sym none)) before

  pub listed_left : (left left' : List Line) (text enums : List ℕ) → left ≡ left' → IsListed set start first whole left text enums → IsListed set start first whole left' text enums
  listed_left left left' text enums same before = subst (λ (ls : List Line). IsListed set start first whole ls text enums) same before

  pub all_said : (left : List Line) (text enums : List ℕ) → left ≡ [] → IsListed set start first whole left text enums → IsAppended start (lines_text set whole) text
  all_said left text enums none before = (listed_left left [] text enums none before).said text (nothing text)

  pub all_added : (left : List Line) (text enums : List ℕ) → left ≡ [] → IsListed set start first whole left text enums → enums ≡ first ++ all_enums set whole
  all_added left text enums none before = sym (append-nil enums) ∙ (listed_left left [] text enums none before).added
