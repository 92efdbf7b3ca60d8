-- Why a value has no word is why its line has none; and what is told of that.
use Rattle.std.proofs.Common.{ℕ, ◌-◌, ◌≤◌, ◌≡◌, List, length, inr, subst}
use Rattle.capnp_call.specs.declared.calls.Op.TheVariants as op
use Rattle.capnp_dynamic_readers.specs.declared.dynamic_value.Reader.{Reader as DynamicValue}
use Rattle.capnp_json.specs.declared.error.JsonError.TheVariants.{OutOfMemory, TooLarge}
use Rattle.capnp_queries.specs.Floats.{form_at}
use Rattle.capnp_records.specs.Call.{PathStep}
use Rattle.capnp_records.specs.Run.{root_type}
use Rattle.capnp_schema.specs.StructHandles.{number_of, set_of}
use Rattle.capnp_schema.specs.declared.schema.structs.StructSchema.{StructSchema}
use Rattle.riftcalico_core.specs.ChangeLines.{IsWordless, set_heading}
use Rattle.riftcalico_core.specs.Diffs.{IsPutWordless}
use Rattle.riftcalico_core.specs.Replies.{types_along}
use Rattle.riftcalico_core.specs.Steps.Wordless.{HasNoLine}
use Rattle.riftcalico_core.specs.declared.change_line.NoWord.{NoWord}
use Rattle.riftcalico_core.specs.declared.change_line.NoWord.TheVariants as none

module _ (left : ℕ) (s : StructSchema) (path : List PathStep) (v : DynamicValue) where
  by_cause : (why : NoWord) → IsPutWordless left s path v why → HasNoLine left s path (op.Set v) why
  by_cause (none.Refused OutOfMemory) w = tt {0}
  by_cause (none.Refused TooLarge) w = inr w
  by_cause why w = w

  pub put_without : (why : NoWord) (h : List ℕ) → h ≡ set_heading path → length h ≤ left →
      IsWordless (left - length h) (set_of s) (form_at (set_of s) (number_of s) path) (types_along (set_of s) (root_type (set_of s) (number_of s)) path) v why → HasNoLine left s path (op.Set v) why
  put_without why h e fits w = by_cause why (record {
    fits = subst (λ (x : List ℕ). length x ≤ left) e fits;
    none = subst (λ (x : List ℕ). IsWordless (left - length x) (set_of s) (form_at (set_of s) (number_of s) path) (types_along (set_of s) (root_type (set_of s) (number_of s)) path) v why) e w;
  })
