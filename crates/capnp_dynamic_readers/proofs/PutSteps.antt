-- The steps of a print at the elements of a list: what was put, or why it stopped.
use Rattle.std.proofs.Common.{ℕ, ◌+◌, ◌-◌, ◌<◌, ◌≡◌, ◌==◌, true, Ok, Err, Result, IfErr, OnOk, sym, subst}
use Rattle.capnp_schema.specs.Schema.{TypedField}
use Rattle.capnp_records.specs.Text.{Layout, more_text, said_text, separator}
use Rattle.capnp_dynamic_readers.specs.Pieces.{Taken}
use Rattle.capnp_dynamic_readers.specs.Steps.Pieces.{IsPut, IsStopped, Leads}
use Rattle.capnp_dynamic_readers.specs.Steps.Shown.{count_of}
use Rattle.capnp_dynamic_readers.specs.Steps.Styled.{IsTexts, list_in, record_in}
use Rattle.capnp_dynamic_readers.specs.Styles.{Texts}
use Rattle.capnp_dynamic_readers.specs.declared.dynamic_list.Reader.{Reader as ListHandle}
use Rattle.capnp_dynamic_readers.specs.declared.dynamic_struct.Reader.{Reader as StructHandle}
use Rattle.capnp_dynamic_readers.specs.declared.dynamic_value.Reader.{Reader as DynamicValue}
use Rattle.capnp_dynamic_readers.specs.declared.dynamic_value.Reader.TheVariants as dynamic
use Rattle.capnp_dynamic_readers.specs.declared.walk.output.Stop.{Stop}
use Rattle.capnp_dynamic_readers.proofs.Steps.{element_next, element_stopped, elements_end, err_map, list_deep, ok_map, separator_stopped, some_left, struct_deep}
use Rattle.capnp_dynamic_readers.proofs.Streams.{same, same_put}

-- ---- elements ----

module _ (x : Texts) {under : TypedField → Texts} (law : IsTexts x under) (left : ℕ) (at : Layout) (l : ListHandle) (old : Taken) (i : ℕ) where
  -- what a print has put of a list where it stands before an element, and what is to come
  abbrev pub StandsBefore : Taken → Type 0
  StandsBefore p = Leads old (more_text at true (x.elements left at l 0 (count_of l))) p (more_text at (i == 0) (x.elements left at l i (count_of l - i)))

  pub elements_stopped : (p0 p1 : Taken) (stop : Stop) → i < count_of l → StandsBefore p0 → IsPut p0 (said_text (separator at (i == 0))) p1 →
      IsStopped p1 (x.element left at l i) stop → IsStopped old (more_text at true (x.elements left at l 0 (count_of l))) stop
  elements_stopped p0 p1 stop inside stands a h = stands (Err stop) (element_stopped x law left at l (count_of l) i inside p0 p1 stop a h)

  pub elements_stopped_before : (p : Taken) (stop : Stop) → i < count_of l → StandsBefore p → IsStopped p (said_text (separator at (i == 0))) stop →
      IsStopped old (more_text at true (x.elements left at l 0 (count_of l))) stop
  elements_stopped_before p stop inside stands h = stands (Err stop) (separator_stopped x law left at l (count_of l) i inside p stop h)

  pub elements_put : (p : Taken) → count_of l < i + 1 → StandsBefore p → IsPut old (more_text at true (x.elements left at l 0 (count_of l))) p
  elements_put p done stands = stands (Ok p) (elements_end x law left at l (count_of l) i (i == 0) done p)

pub elements_after : (x : Texts) {under : TypedField → Texts} (law : IsTexts x under) (left : ℕ) (at : Layout) (l : ListHandle) (old : Taken) (i : ℕ) (p0 p1 p2 : Taken) (v : DynamicValue) → i < count_of l → StandsBefore x law left at l old i p0 →
    IsPut p0 (said_text (separator at (i == 0))) p1 → x.element left at l i ≡ x.value left at v → IsPut p1 (x.value left at v) p2 → StandsBefore x law left at l old (i + 1) p2
elements_after x law left at l old i p0 p1 p2 v inside stands a e b = λ r k.
    stands r (element_next x law left at l (count_of l) i inside p0 p1 p2 a (same_put p1 p2 (x.element left at l i) (x.value left at v) e b) r k)

-- ---- structs and lists in their brackets ----

module _ {T : Type 0} (x : Texts) {under : TypedField → Texts} (law : IsTexts x under) (left : ℕ) (at : Layout) (v : DynamicValue) (result : Result T Stop) (h : left ≡ 0 → ⊥) where
  pub struct_put : (s : StructHandle) (old new : Taken) → v ≡ dynamic.Struct s → OnOk result (IsPut old (record_in x (left - 1) at s) new) → OnOk result (IsPut old (x.value left at v) new)
  struct_put s old new is put =
      subst (λ (z : DynamicValue). OnOk result (IsPut old (x.value left at z) new)) (sym is)
      (ok_map result (same_put old new (x.value left at (dynamic.Struct s)) (record_in x (left - 1) at s) (struct_deep x law left at s (some_left left h))) put)

  pub list_was_put : (l : ListHandle) (old new : Taken) → v ≡ dynamic.List l → OnOk result (IsPut old (list_in x (left - 1) at l) new) → OnOk result (IsPut old (x.value left at v) new)
  list_was_put l old new is put =
      subst (λ (z : DynamicValue). OnOk result (IsPut old (x.value left at z) new)) (sym is)
      (ok_map result (same_put old new (x.value left at (dynamic.List l)) (list_in x (left - 1) at l) (list_deep x law left at l (some_left left h))) put)

  pub struct_stopped : (s : StructHandle) (old : Taken) → v ≡ dynamic.Struct s → IfErr result (IsStopped old (record_in x (left - 1) at s)) → IfErr result (IsStopped old (x.value left at v))
  struct_stopped s old is stopped =
      subst (λ (z : DynamicValue). IfErr result (IsStopped old (x.value left at z))) (sym is)
      (err_map result (λ stop k. same old (struct_deep x law left at s (some_left left h)) (Err stop) k) stopped)

  pub list_stopped : (l : ListHandle) (old : Taken) → v ≡ dynamic.List l → IfErr result (IsStopped old (list_in x (left - 1) at l)) → IfErr result (IsStopped old (x.value left at v))
  list_stopped l old is stopped =
      subst (λ (z : DynamicValue). IfErr result (IsStopped old (x.value left at z))) (sym is)
      (err_map result (λ stop k. same old (list_deep x law left at l (some_left left h)) (Err stop) k) stopped)
