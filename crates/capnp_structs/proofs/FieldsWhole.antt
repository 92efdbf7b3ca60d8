-- The text of a struct: its annotations, the lines of its fields, and those of the enums that these name.
use Rattle.std.proofs.Common.{ℕ, List, [], ◌++◌, ◌≡◌, ◌∙◌, ap, length, map, subst, sym}
use Rattle.std.proofs.lemmas.List.{length-map}
use Rattle.capnp_device.specs.declared.error.ErrorKind.{ErrorKind}
use Rattle.capnp_schema.specs.Annotated.{struct_annotations}
use Rattle.capnp_schema.specs.Schema.{Schemas, seen_brand}
use Rattle.capnp_schema.specs.declared.record.BrandRecord.{BrandRecord}
use Rattle.capnp_records.specs.Text.{Out, after}
use Rattle.capnp_dynamic_readers.specs.Facts.Appended.{both}
use Rattle.capnp_dynamic_readers.specs.Pieces.{IsAppended}
use Rattle.capnp_structs.specs.Enums.{enum_lines}
use Rattle.capnp_structs.specs.Fields.{all_enums, fields_text, head_line, lines_of, lines_text, lines_within}
use Rattle.capnp_structs.specs.Limits.{HasRefused, HasRefusedAmong, HasRefusedEnum, HasRefusedLine, IsStopped, OfEnum, OfLine, OfStruct}
use Rattle.capnp_structs.proofs.Stopped.{stopped_behind, stopped_front}
use Rattle.capnp_structs.proofs.TextsThere.{both_there, enums_there, lines_there}

-- through as many groups as there are brands
pub groups_are : (brands : List BrandRecord) (z set : Schemas) → map seen_brand brands ≡ z.brands → z ≡ set → length brands ≡ length set.brands
groups_are brands z set are same = sym (length-map brands seen_brand) ∙ (ap length are ∙ ap (λ (y : Schemas). length y.brands) same)

module _ (set : Schemas) (b : ℕ) where
  -- what is so of the lines through so many groups is so of the struct's
  pub of_lines : (P : ℕ → Type 0) (groups : ℕ) → groups ≡ length set.brands → P groups → P (length set.brands)
  of_lines P groups count so = subst P count so

  -- what is so of the enums that were added is so of those that the lines name
  pub of_enums : (P : Schemas → List ℕ → Type 0) (z : Schemas) (groups : ℕ) (first items enums : List ℕ) → z ≡ set → groups ≡ length set.brands → first ≡ [] → items ≡ first ++ all_enums set (lines_within set groups [] b) → enums ≡ items →
      P z enums → P set (all_enums set (lines_of set b))
  of_enums P z groups first items enums same count none added are so =
      subst (P set) (are ∙ (added ∙ (ap (λ (es : List ℕ). es ++ all_enums set (lines_within set groups [] b)) none ∙ ap (λ (n : ℕ). all_enums set (lines_within set n [] b)) count))) (subst (λ (y : Schemas). P y enums) same so)

  abbrev pub struct_lines : Out
  struct_lines = lines_text set (lines_of set b)

  abbrev pub struct_enums : Out
  struct_enums = enum_lines set [] (all_enums set (lines_of set b))

  pub whole_put : (first mid new : List ℕ) → IsAppended [] (head_line set b) first → IsAppended first struct_lines mid → IsAppended mid struct_enums new → IsAppended [] (fields_text set b) new
  whole_put first mid new head lines enums = both (head_line set b) (after struct_lines struct_enums) [] first new head (both struct_lines struct_enums first mid new lines enums)

  -- in a string that is empty yet
  pub head_begun : (limit : ℕ) (old : List ℕ) (kind : ErrorKind) → old ≡ [] → IsStopped limit old (head_line set b) (HasRefusedAmong set (struct_annotations set b)) kind → IsStopped limit [] (head_line set b) (HasRefusedAmong set (struct_annotations set b)) kind
  head_begun limit old kind none h = subst (λ (xs : List ℕ). IsStopped limit xs (head_line set b) (HasRefusedAmong set (struct_annotations set b)) kind) none h

  pub lines_counted : (limit : ℕ) (first : List ℕ) (groups : ℕ) (kind : ErrorKind) → groups ≡ length set.brands → IsStopped limit first (lines_text set (lines_within set groups [] b)) (HasRefusedLine set (lines_within set groups [] b)) kind →
      IsStopped limit first struct_lines (HasRefusedLine set (lines_of set b)) kind
  lines_counted limit first groups kind count h = of_lines (λ (n : ℕ). IsStopped limit first (lines_text set (lines_within set n [] b)) (HasRefusedLine set (lines_within set n [] b)) kind) groups count h

  pub enums_counted : (limit : ℕ) (mid : List ℕ) (kind : ErrorKind) (z : Schemas) (groups : ℕ) (first items enums : List ℕ) → z ≡ set → groups ≡ length set.brands → first ≡ [] → items ≡ first ++ all_enums set (lines_within set groups [] b) → enums ≡ items →
      IsStopped limit mid (enum_lines z [] enums) (HasRefusedEnum z enums) kind → IsStopped limit mid struct_enums (HasRefusedEnum set (all_enums set (lines_of set b))) kind
  enums_counted limit mid kind z groups first items enums same count none added are h =
      of_enums (λ (y : Schemas) (es : List ℕ). IsStopped limit mid (enum_lines y [] es) (HasRefusedEnum y es) kind) z groups first items enums same count none added are h

  pub head_part : (limit : ℕ) (kind : ErrorKind) → IsStopped limit [] (head_line set b) (HasRefusedAmong set (struct_annotations set b)) kind → IsStopped limit [] (fields_text set b) (HasRefused set b) kind
  head_part limit kind h =
      stopped_front limit (head_line set b) (after struct_lines struct_enums) [] kind (both_there struct_lines struct_enums (lines_there set (lines_of set b)) (enums_there set [] (all_enums set (lines_of set b)))) (λ r. OfStruct r) h

  pub lines_part : (limit : ℕ) (first : List ℕ) (kind : ErrorKind) → IsAppended [] (head_line set b) first → IsStopped limit first struct_lines (HasRefusedLine set (lines_of set b)) kind → IsStopped limit [] (fields_text set b) (HasRefused set b) kind
  lines_part limit first kind head h =
      stopped_behind limit (head_line set b) (after struct_lines struct_enums) [] first kind head (λ r. OfLine r)
      (stopped_front limit struct_lines struct_enums first kind (enums_there set [] (all_enums set (lines_of set b))) (λ r. r) h)

  pub enums_part : (limit : ℕ) (first mid : List ℕ) (kind : ErrorKind) → IsAppended [] (head_line set b) first → IsAppended first struct_lines mid → IsStopped limit mid struct_enums (HasRefusedEnum set (all_enums set (lines_of set b))) kind →
      IsStopped limit [] (fields_text set b) (HasRefused set b) kind
  enums_part limit first mid kind head lines h =
      stopped_behind limit (head_line set b) (after struct_lines struct_enums) [] first kind head (λ r. OfEnum r) (stopped_behind limit struct_lines struct_enums first mid kind lines (λ r. r) h)
