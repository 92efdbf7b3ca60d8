-- What was made so far.
use Rattle.std.proofs.Common.{String, ℕ, ◌<◌, ◌≤◌, ◌≡◌, ◌∙◌, ap, arith, length, map, refl, slice_get, subst, sym, suc, ◌+◌, ◌-◌, Bool, true, false, List, [], ◌∷◌, Option, Result, Ok, Err}
use Rattle.capnp_device.specs.declared.error.ErrorKind.{ErrorKind}
use Rattle.capnp_device.specs.declared.error.ErrorKind.TheVariants.{TooManyTypes}
use Rattle.capnp_schema.specs.Schema.{Brand, Node, seen_brand, seen_enum, seen_node}
use Rattle.capnp_schema.specs.declared.record.NodeRecord.{NodeRecord}
use Rattle.capnp_request.specs.Steps.Bindings.{bounds}
use Rattle.capnp_request.specs.Conversion.{Note}
use Rattle.capnp_request.specs.Names.{Holder}
use Rattle.capnp_request.specs.Steps.NamesMade.{AreHolders, texts}
use Rattle.capnp_request.specs.Order.{Begun, Made, add_struct, begin_struct, make_all, make_struct, name_entry, nothing_made, struct_made, with_struct}
use Rattle.capnp_request.specs.Steps.ProgressSeen.{begun_of, made_of, work_rest}
use Rattle.capnp_request.specs.StructsSeen.{seen_notes}
use Rattle.capnp_request.specs.Terms.{Said, SchemaNode}
use Rattle.capnp_request.specs.Within.{make_step}
use Rattle.capnp_request.specs.Work.{Bound, Entry, Named, Place, Work, work_of}
use Rattle.capnp_request.specs.declared.conversion.Converted.{Converted}
use Rattle.capnp_request.specs.declared.conversion.NextStruct.{NextStruct}
use Rattle.capnp_request.specs.declared.conversion.Progress.{Progress}
use Rattle.capnp_request.specs.declared.entries.BoundScope.{BoundScope}
use Rattle.capnp_request.specs.declared.names.Names.{Names}
use Rattle.capnp_request.proofs.OrderMade.{struct_begun}
use Rattle.capnp_request.proofs.Works.{then_err, then_ok}

pub map_length : {A B : Type 0} (f : A → B) (xs : List A) → length (map f xs) ≡ length xs
map_length f [] = refl
map_length f (x ∷ xs) = ap suc (map_length f xs)

pub few_nodes : (p : Progress) (hs : List Holder) (n : ℕ) → n ≡ length p.made.nodes.items → n < 4294967296 → length (made_of p hs).nodes < 4294967296
few_nodes p hs n e h = let same : length (map seen_node p.made.nodes.items) ≡ length p.made.nodes.items = map_length seen_node p.made.nodes.items in omega (arith, same, e, h)

pub many_nodes : (p : Progress) (hs : List Holder) (n : ℕ) → n ≡ length p.made.nodes.items → 4294967296 ≤ n → 4294967296 ≤ length (made_of p hs).nodes
many_nodes p hs n e h = let same : length (map seen_node p.made.nodes.items) ≡ length p.made.nodes.items = map_length seen_node p.made.nodes.items in omega (arith, same, e, h)

-- what stands at the number of the next node, and of the next enum
pub next_node : {A : Type 0} (p : Progress) (hs : List Holder) (n : ℕ) (xs : List A) (o : Option A) → n ≡ length p.made.nodes.items → slice_get xs n ≡ o → slice_get xs (length (made_of p hs).nodes) ≡ o
next_node p hs n xs o e h = ap (slice_get xs) (map_length seen_node p.made.nodes.items ∙ sym e) ∙ h

pub next_enum_id : {A : Type 0} (p : Progress) (hs : List Holder) (n : ℕ) (xs : List A) (o : Option A) → n ≡ length p.made.enums.items → slice_get xs n ≡ o → slice_get xs (length (made_of p hs).enums) ≡ o
next_enum_id p hs n xs o e h = ap (slice_get xs) (map_length seen_enum p.made.enums.items ∙ sym e) ∙ h

-- what names are held by, and what an entry is named among, where enums alone were named since
pub held_since : (old mid : Names) (hs : List Holder) → mid ≡ old → AreHolders old hs → AreHolders mid hs
held_since old mid hs same h = subst (λ (names : Names). AreHolders names hs) (sym same) h

pub named_since : {A : Type 0} (nodes : List SchemaNode) (structs : List NodeRecord) (enums : List (String A)) (old mid : Progress) (hs : List Holder) (e : Entry) (place : Place) (r : Said (List ℕ × List Holder)) → structs ≡ mid.made.nodes.items → texts enums ≡ texts mid.enum_names.items → mid.made ≡ old.made →
    name_entry nodes (map seen_node structs) (texts enums) hs e place ≡ r → name_entry nodes (map seen_node old.made.nodes.items) (texts mid.enum_names.items) hs e place ≡ r
named_since nodes structs enums old mid hs e place r is all same named =
    ap (λ (c : Converted). name_entry nodes (map seen_node c.nodes.items) (texts mid.enum_names.items) hs e place) (sym same)
    ∙ (ap (λ (xs : List NodeRecord). name_entry nodes (map seen_node xs) (texts mid.enum_names.items) hs e place) (sym is)
    ∙ (ap (λ (xs : List (List ℕ)). name_entry nodes (map seen_node structs) xs hs e place) (sym all) ∙ named))

-- an entry is added to what was made before it began
module _ (nodes : List SchemaNode) (strict : Bool) (id : ℕ) (bound : List Bound) (b : Begun) (s : Named) where
  abbrev added_to : Converted → Result (Made × Named) ErrorKind
  added_to c = add_struct nodes strict (record { nodes = map seen_node c.nodes.items; brands = map seen_brand c.brands.items; enums = map seen_enum c.enums.items; notes = seen_notes c.notes.items; enum_names = []; holders = [] }) id bound b s

  same_added : (old mid : Progress) (hs after : List Holder) → mid.made ≡ old.made → add_struct nodes strict (made_of old hs) id bound b s ≡ add_struct nodes strict (made_of mid after) id bound b s
  same_added old mid hs after e = sym (ap added_to e)

-- a struct of the same number, inside the same scopes
pub struct_moved : (nodes : List SchemaNode) (strict : Bool) (number count : ℕ) (id : ℕ) (slice scopes : List BoundScope) (name : List ℕ) (n : SchemaNode) (s : Named) (r : Result ((Node × Brand × List Note) × Named) ErrorKind) → count ≡ number → slice ≡ scopes →
    struct_made nodes strict number id (bounds slice) name n s ≡ r → struct_made nodes strict count id (bounds scopes) name n s ≡ r
struct_moved nodes strict number count id slice scopes name n s r same is done =
    ap (λ k. struct_made nodes strict k id (bounds scopes) name n s) same ∙ (ap (λ (xs : List BoundScope). struct_made nodes strict number id (bounds xs) name n s) (sym is) ∙ done)

module _ (nodes : List SchemaNode) (strict : Bool) (m : Made) (id : ℕ) (bound : List Bound) (b : Begun) (s : Named) where
  pub struct_unmade : (kind : ErrorKind) → struct_made nodes strict (length m.nodes) id bound b.name b.node s ≡ Err kind → add_struct nodes strict m id bound b s ≡ Err kind
  struct_unmade kind e = then_err (struct_made nodes strict (length m.nodes) id bound b.name b.node) (λ made. work_of (with_struct nodes strict m b made)) s kind e

  pub struct_added : (made : Node × Brand × List Note) (t : Named) → struct_made nodes strict (length m.nodes) id bound b.name b.node s ≡ Ok (made, t) → add_struct nodes strict m id bound b s ≡ Ok (with_struct nodes strict m b made, t)
  struct_added made t e = then_ok (struct_made nodes strict (length m.nodes) id bound b.name b.node) (λ x. work_of (with_struct nodes strict m b x)) s t made e

pub struct_so : (nodes : List SchemaNode) (strict : Bool) (old mid : Progress) (hs after : List Holder) (next : NextStruct) (e : Entry) (s : Named) → begin_struct nodes (made_of old hs) e s.enums ≡ Ok (begun_of mid after next) → mid.made ≡ old.made →
    next.place.id ≡ e.node → bounds next.scopes.items ≡ e.bound → make_struct nodes strict (made_of old hs) e s ≡ add_struct nodes strict (made_of mid after) next.place.id (bounds next.scopes.items) (begun_of mid after next) s
struct_so nodes strict old mid hs after next e s begun same id scopes =
    struct_begun nodes strict (made_of old hs) s e (begun_of mid after next) begun
    ∙ (same_added nodes strict e.node e.bound (begun_of mid after next) s old mid hs after same
    ∙ (ap (λ i. add_struct nodes strict (made_of mid after) i e.bound (begun_of mid after next) s) (sym id)
    ∙ ap (λ bs. add_struct nodes strict (made_of mid after) next.place.id bs (begun_of mid after next) s) (sym scopes)))

-- one step of what is left
module _ (nodes : List SchemaNode) (strict : Bool) (steps : ℕ) (m : Made) (s : Named) (whole : Result (Made × Named) ErrorKind) (left : make_all nodes strict steps m s ≡ whole) (some : 0 < steps) where
  one_fewer : steps ≡ suc (steps - 1)
  one_fewer = omega (arith, some)

  at_step : make_all nodes strict (suc (steps - 1)) m s ≡ whole
  at_step = ap (λ k. make_all nodes strict k m s) (sym one_fewer) ∙ left

  module _ (more : Bool) (new : Made) (after : Named) (next : (again : Made → Work Made) → make_step nodes strict again m s ≡ work_rest more again new after) where
    pub steps_more : more ≡ true → make_all nodes strict (steps - 1) new after ≡ whole
    steps_more e = sym (next (make_all nodes strict (steps - 1)) ∙ ap (λ q. work_rest q (make_all nodes strict (steps - 1)) new after) e) ∙ at_step

    pub steps_done : more ≡ false → whole ≡ Ok (new, after)
    steps_done e = sym at_step ∙ (next (make_all nodes strict (steps - 1)) ∙ ap (λ q. work_rest q (make_all nodes strict (steps - 1)) new after) e)

  pub steps_refused : (kind : ErrorKind) → ((again : Made → Work Made) → make_step nodes strict again m s ≡ Err kind) → whole ≡ Err kind
  steps_refused kind h = sym at_step ∙ h (make_all nodes strict (steps - 1))

pub steps_over : (nodes : List SchemaNode) (strict : Bool) (steps : ℕ) (m : Made) (s : Named) (whole : Result (Made × Named) ErrorKind) (kind : ErrorKind) → make_all nodes strict steps m s ≡ whole → steps ≡ 0 → kind ≡ TooManyTypes → whole ≡ Err kind
steps_over nodes strict steps m s whole kind left e k = sym left ∙ (ap (λ n. make_all nodes strict n m s) e ∙ ap (λ (x : ErrorKind). Err x) (sym k))

pub steps_begun : (nodes : List SchemaNode) (strict : Bool) (steps : ℕ) (m : Made) (s : Named) → steps ≡ 65536 + suc (length nodes) → m ≡ nothing_made → make_all nodes strict steps m s ≡ make_all nodes strict (65536 + suc (length nodes)) nothing_made s
steps_begun nodes strict steps m s e is = ap (λ n. make_all nodes strict n m s) e ∙ ap (λ x. make_all nodes strict (65536 + suc (length nodes)) x s) is
