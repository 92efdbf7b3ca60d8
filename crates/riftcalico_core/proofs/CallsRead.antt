-- A call as it is read, by its value, its steps and its path.
use Rattle.std.proofs.Common.{ℕ, ◌≡◌, ◌⊎◌, ◌∙◌, inl, inr, Global, Vec, Bool, true, false, List, Option, None, Some, Result, Ok, Err, IfErr, IfOk, IfSome, IsOk, ap, subst, sym}
use Rattle.std.proofs.lemmas.Bool.{true≢false}
use Rattle.std.specs.Option.{option_and_then}
use Rattle.capnp_schema.specs.Schema.{Schemas}
use Rattle.capnp_schema.specs.Types.{ListType, SchemaType}
use Rattle.capnp_records.specs.Call.{PathStep, Source}
use Rattle.capnp_edit_calls.specs.ActsSeen.{ActSeen}
use Rattle.capnp_json_messages.specs.Ones.{is_whole}
use Rattle.capnp_words.specs.Calls.{CallText}
use Rattle.capnp_words.specs.Reads.{Read, read_as}
use Rattle.capnp_words.specs.Seen.{op_text_seen}
use Rattle.capnp_words.specs.Targets.{type_along}
use Rattle.capnp_words.specs.declared.call.WordOp.{WordOp}
use Rattle.capnp_words.specs.declared.call.WordOp.TheVariants.{Append, Insert}
use Rattle.riftcalico_core.specs.Calls.{IsCallRead, IsSourceGiven, IsSourceRead, IsValueBy, act_given, act_placed, element_of, floats_along, from_of, given_spot, given_type, plain_read}
use Rattle.riftcalico_core.specs.JsonValues.{IsWholeGiven}
use Rattle.riftcalico_core.specs.LastFields.{Spot, spot_along}
use Rattle.riftcalico_core.specs.ShownValues.{IsGivenBy, IsShownGiven, shown_fault}
use Rattle.riftcalico_core.specs.SpotsSeen.{IsSpotOf}
use Rattle.riftcalico_core.specs.Steps.Spots.{IsSpotAt}
use Rattle.riftcalico_core.specs.declared.last_field.Spot.{Spot as SpotHeld}

-- ---- what was answered ----

pub with_ok : {A E : Type 0} (P Q : A → Type 0) (r : Result A E) → IfOk r P → ((x : A) → P x → Q x) → IfOk r Q
with_ok P Q (Ok x) h f = f x h
with_ok P Q (Err e) h f = tt {0}

pub never : {A E : Type 0} (P : E → Type 0) (r : Result A E) → IsOk r → IfErr r P
never P (Ok x) is = tt {0}
never P (Err e) is = absurd (true≢false (sym is))

-- ---- what is read ----

pub act_is : (c : CallText) (steps from : List PathStep) (s : Source) → steps ≡ c.path → from ≡ from_of c.op → act_placed steps s from c.op ≡ act_given c s
act_is c steps from s path copied = ap (λ (p : List PathStep). act_placed p s from c.op) path ∙ ap (λ (p : List PathStep). act_placed c.path s p c.op) copied

pub call_is : (set : Schemas) (root : SchemaType) (c : CallText) (spot : Option Spot) (floats : Bool) (target : Option SchemaType) (source : Read Source) (r : Read ActSeen)
    → spot ≡ given_spot c.op (spot_along set root c.path) → floats ≡ floats_along set root c.path
    → target ≡ given_type c.op (type_along set root c.path) → IsSourceGiven set spot floats target c.op source → r ≡ read_as (act_given c) source → IsCallRead set root c r
call_is set root c spot floats target source r named floats_are of given act = record {
  source = source;
  given = subst (λ (t : Option SchemaType). IsSourceGiven set (given_spot c.op (spot_along set root c.path)) (floats_along set root c.path) t c.op source) of
      (subst (λ (q : Bool). IsSourceGiven set (given_spot c.op (spot_along set root c.path)) q target c.op source) floats_are
      (subst (λ (o : Option Spot). IsSourceGiven set o floats target c.op source) named given));
  act = act;
}

-- ---- values by their type ----

-- what is no printed text is JSON
pub given_json : (set : Schemas) (spot : Option Spot) (floats : Bool) (t : SchemaType) (bytes : List ℕ) (place : ℕ) (r : Read Source) → None ≡ shown_fault bytes
    → IsWholeGiven set floats t bytes place r → IsGivenBy (shown_fault bytes) set spot floats t bytes place r
given_json set spot floats t bytes place r is given = subst (λ (o : Option ℕ). IsGivenBy o set spot floats t bytes place r) is given

pub given_shown : (set : Schemas) (spot : Option Spot) (floats : Bool) (t : SchemaType) (bytes : List ℕ) (fault place : ℕ) (r : Read Source) → Some fault ≡ shown_fault bytes
    → IsShownGiven set spot t bytes fault place r → IsGivenBy (shown_fault bytes) set spot floats t bytes place r
given_shown set spot floats t bytes fault place r is given = subst (λ (o : Option ℕ). IsGivenBy o set spot floats t bytes place r) is given

pub source_whole : (set set' : Schemas) (spot : Option Spot) (floats : Bool) (o : Option SchemaType) (t : SchemaType) (bytes : List ℕ) (place : ℕ) (r : Read Source) → set' ≡ set → o ≡ Some t → is_whole t ≡ true
    → IsGivenBy (shown_fault bytes) set' spot floats t bytes place r → IsSourceRead set spot floats o bytes place r
source_whole set set' spot floats o t bytes place r same of whole given =
    subst (λ (p : Option SchemaType). IsSourceRead set spot floats p bytes place r) (sym of)
    (subst (λ (q : Bool). IsValueBy q set spot floats t bytes place r) (sym whole) (subst (λ (x : Schemas). IsGivenBy (shown_fault bytes) x spot floats t bytes place r) same given))

pub source_plain : (set set' : Schemas) (spot : Option Spot) (floats : Bool) (o : Option SchemaType) (t : SchemaType) (bytes : List ℕ) (place : ℕ) (r : Read Source) → set' ≡ set → o ≡ Some t → is_whole t ≡ false
    → r ≡ plain_read set' floats t bytes place → IsSourceRead set spot floats o bytes place r
source_plain set set' spot floats o t bytes place r same of plain given =
    subst (λ (p : Option SchemaType). IsSourceRead set spot floats p bytes place r) (sym of)
    (subst (λ (q : Bool). IsValueBy q set spot floats t bytes place r) (sym plain) (given ∙ ap (λ (x : Schemas). plain_read x floats t bytes place) same))

-- ---- the spot that is given ----

-- it is of the set and has the type, also as another call knows both
pub spot_so : (set set' : Schemas) (o : Option SpotHeld) (t : Option SchemaType) (u : SchemaType) → set' ≡ set → t ≡ Some u → IfSome o (IsSpotAt set t) → IfSome o (IsSpotOf set' u)
spot_so set set' o t u same of there =
    subst (λ (x : Schemas). IfSome o (IsSpotOf x u)) (sym same) (subst (λ (q : Option SchemaType). IfSome o (IsSpotAt set q)) of there)

untyped : (set : Schemas) (o : Option SpotHeld) → IfSome o (IsSpotAt set None)
untyped set None = tt
untyped set (Some p) = tt

-- an element of a list at a spot has the type of its elements
pub spot_element : (set : Schemas) (t : Option SchemaType) (o q : Option SpotHeld) → IfSome o (IsSpotAt set t) → ((e : SchemaType) → IfSome o (IsSpotOf set (ListType e)) → IfSome q (IsSpotOf set e))
    → IfSome q (IsSpotAt set (option_and_then element_of t))
spot_element set None o q there within = untyped set q
spot_element set (Some (ListType e)) o q there within = within e there
spot_element set (Some t) o q there within = untyped set q

-- what an edit puts there is read under the type of the list's elements
abbrev PutsElement : WordOp → Type 0
PutsElement op = ((bytes : Vec ℕ Global) × (place : ℕ) × (op ≡ Append bytes place)) ⊎ ((index : ℕ) × (bytes : Vec ℕ Global) × (place : ℕ) × (op ≡ Insert index bytes place))

pub element_type_given : (op : WordOp) (t : Option SchemaType) → PutsElement op → given_type (op_text_seen op) t ≡ option_and_then element_of t
element_type_given op t (inl (bytes, place, is)) = ap (λ (o : WordOp). given_type (op_text_seen o) t) is
element_type_given op t (inr (index, bytes, place, is)) = ap (λ (o : WordOp). given_type (op_text_seen o) t) is
