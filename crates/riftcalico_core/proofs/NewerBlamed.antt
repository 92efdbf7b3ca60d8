-- What is refused of the newer message is so with what it blames, where the older one is not refused so.
use Rattle.std.proofs.Common.{List, Result, ℕ, [], Err, None, Some, ap, inl, inr, subst, sym, ◌≡◌, ◌≢◌, ◌∙◌, string_bytes}
use Rattle.capnp_check.specs.Refusals.{text_refusal}
use Rattle.capnp_device.specs.declared.error.Error.{Error}
use Rattle.capnp_device.specs.declared.error.ErrorKind.{ErrorKind}
use Rattle.capnp_patch.specs.Places.{IsRefusedAt}
use Rattle.capnp_schema.specs.StructHandles.{number_of, set_of}
use Rattle.capnp_schema.specs.declared.schema.structs.StructSchema.{StructSchema}
use Rattle.riftcalico_core.specs.Diffs.{IsPlaceTold, IsRefusedElse}
use Rattle.riftcalico_core.specs.Shown.{IsNotShown, IsTextThere}
use Rattle.riftcalico_core.specs.declared.fault.Blamed.TheVariants as blamed
use Rattle.riftcalico_core.specs.declared.fault.Fault.{Fault}

err_same : {A : Type 0} (x y : ErrorKind) → ◌≡◌ {A = Result A ErrorKind} (Err x) (Err y) → x ≡ y
err_same x y h = cc

none_some : {A : Type 0} {a : A} → None ≡ Some a → ⊥
none_some h = cc

-- a text that is refused with another kind, or with none, is not refused with this one
pub refused_else : (s : StructSchema) (bytes : List ℕ) (f : Fault) (kind : ErrorKind) → IsNotShown s [] bytes f → f.error.kind ≢ kind → IsRefusedElse s bytes kind
refused_else s bytes f kind is other = λ i same. other (err_same f.error.kind kind (sym (is.refused i) ∙ same))

pub not_refused : (s : StructSchema) (bytes : List ℕ) (kind : ErrorKind) → IsTextThere s [] bytes → IsRefusedElse s bytes kind
not_refused s bytes kind there = λ i same. none_some (sym (there i) ∙ ap text_refusal same)

module _ (s : StructSchema) (old new : List ℕ) where
  pub newer_unread : (f g : Fault) → IsRefusedElse s old f.error.kind → IsNotShown s [] new f → g.error ≡ f.error → g.note ≡ f.note → g.blamed ≡ blamed.Calls → IsPlaceTold s old new g
  newer_unread f g other is error note blames = inr (
    blames,
    subst (λ (e : Error). IsRefusedElse s old e.kind) (sym error) other,
    inl (record {
      refused = λ i. is.refused i ∙ ap (λ (e : Error). Err e.kind) (sym error);
      place = is.place;
      at = subst (λ (e : Error). IsRefusedAt (set_of s) (number_of s) [] new e.kind is.place) (sym error) is.at;
      told = ap string_bytes note ∙ is.told;
    }),
  )

  pub no_place : (e : Error) (g : Fault) → IsRefusedElse s old e.kind → IsRefusedElse s new e.kind → g.error ≡ e → string_bytes g.note ≡ [] → g.blamed ≡ blamed.Calls → IsPlaceTold s old new g
  no_place e g other here error note blames = inr (
    blames,
    subst (λ (x : Error). IsRefusedElse s old x.kind) (sym error) other,
    inr (subst (λ (x : Error). IsRefusedElse s new x.kind) (sym error) here, note),
  )
