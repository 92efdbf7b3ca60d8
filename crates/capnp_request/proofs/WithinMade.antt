-- Each step makes more, so what some first steps make is part of what all make.
use Rattle.std.proofs.Common.{ℕ, zero, suc, ◌+◌, ◌<◌, ◌≤◌, ◌≡◌, ◌∙◌, ◌++◌, ◌⊎◌, inl, inr, arith, ap, length, slice_get, subst, sym, Bool, List, ◌∷◌, [], Option, Some, None, Result, Ok, Err}
use Rattle.std.proofs.lemmas.List.Sums.{sum_by_push}
use Rattle.capnp_device.specs.declared.error.ErrorKind.{ErrorKind}
use Rattle.capnp_device.specs.declared.error.ErrorKind.TheVariants.{TooLarge}
use Rattle.capnp_schema.specs.Schema.{Brand, Enum, Node, Schemas}
use Rattle.capnp_request.specs.Conversion.{Note}
use Rattle.capnp_request.specs.Order.{Begun, Made, add_struct, and_said, begin_enum, begin_struct, conversion_of, enum_made, make_all, make_enum, make_next, make_struct, name_files, nothing_made, nothing_named, result_of, schemas_made, struct_made, with_struct}
use Rattle.capnp_request.specs.Reading.{request_with}
use Rattle.capnp_request.specs.Sizes.{enum_bytes, lists_bytes, node_bytes}
use Rattle.capnp_request.specs.Steps.Sizes.{IsLargeWork}
use Rattle.capnp_request.specs.Terms.{Said, SchemaNode}
use Rattle.capnp_request.specs.Within.{IsLargeConversion, conversion_in, made_in}
use Rattle.capnp_request.specs.Work.{Entry, Named, Work, work_continued, work_of, work_said, ◌>>=◌}
use Rattle.capnp_request.proofs.OrderMade.{roots_named}

abbrev bytes : Made → ℕ
bytes m = lists_bytes (schemas_made m)

-- work that was done made at least so many bytes
abbrev IsMore : ℕ → Result (Made × Named) ErrorKind → Type 0
IsMore n (Ok p) = n ≤ bytes p.0
IsMore n (Err kind) = Unit {0}

-- as many bytes as other work, where both were done
abbrev IsBefore : (first whole : Result (Made × Named) ErrorKind) → Type 0
IsBefore (Ok p) whole = IsMore (bytes p.0) whole
IsBefore (Err kind) whole = Unit {0}

no_more : (n m : ℕ) (r : Result (Made × Named) ErrorKind) → n ≤ m → IsMore m r → IsMore n r
no_more n m (Ok p) h g = omega arith
no_more n m (Err kind) h g = tt

before_none : (first : Result (Made × Named) ErrorKind) (kind : ErrorKind) → IsBefore first (Err kind)
before_none (Ok p) kind = tt
before_none (Err k) kind = tt

module _ (nodes : List SchemaNode) (strict : Bool) where
  -- ---- a step makes more ----

  struct_added : (m : Made) (b : Begun) (r : Result ((Node × Brand × List Note) × Named) ErrorKind) → IsMore (bytes m) (work_continued (λ made. work_of (with_struct nodes strict m b made)) r)
  struct_added m b (Ok p) = omega (arith, sum_by_push node_bytes m.nodes p.0.0)
  struct_added m b (Err kind) = tt

  struct_more : (m : Made) (e : Entry) (s : Named) → IsMore (bytes m) (make_struct nodes strict m e s)
  struct_more m e s = go (begin_struct nodes m e s.enums)
    where
      go : (r : Said Begun) → IsMore (bytes m) (work_continued (add_struct nodes strict m e.node e.bound) (work_said r s))
      go (Ok b) = struct_added m b (struct_made nodes strict (length m.nodes) e.node e.bound b.name b.node s)
      go (Err kind) = tt

  enum_added : (m : Made) (r : Result (Enum × Named) ErrorKind) → IsMore (bytes m) (work_continued (λ e. work_of (record m { enums = m.enums ++ e ∷ [] })) r)
  enum_added m (Ok p) = omega (arith, sum_by_push enum_bytes m.enums p.0)
  enum_added m (Err kind) = tt

  enum_more : (m : Made) (id : ℕ) (s : Named) → IsMore (bytes m) (make_enum nodes strict m id s)
  enum_more m id s = go (begin_enum nodes id)
    where
      go : (r : Said (List ℕ × SchemaNode)) → IsMore (bytes m) (work_continued (λ b. enum_made nodes strict id b.0 b.1 >>= (λ e. work_of (record m { enums = m.enums ++ e ∷ [] }))) (work_said r s))
      go (Ok b) = enum_added m (enum_made nodes strict id b.0 b.1 s)
      go (Err kind) = tt

  -- ---- so do all steps ----

  module _ (again : Made → Work Made) (more : (m : Made) (s : Named) → IsMore (bytes m) (again m s)) where
    rest_more : (n : ℕ) (r : Result (Made × Named) ErrorKind) → IsMore n r → IsMore n (work_continued again r)
    rest_more n (Ok p) h = no_more n (bytes p.0) (again p.0 p.1) h (more p.0 p.1)
    rest_more n (Err kind) h = tt

    next_more : (m : Made) (s : Named) (e : Option Entry) (id : Option ℕ) → IsMore (bytes m) (make_next nodes strict again m e id s)
    next_more m s (Some e) id = rest_more (bytes m) (make_struct nodes strict m e s) (struct_more m e s)
    next_more m s None (Some id) = rest_more (bytes m) (make_enum nodes strict m id s) (enum_more m id s)
    next_more m s None None = omega arith

  all_more : (steps : ℕ) (m : Made) (s : Named) → IsMore (bytes m) (make_all nodes strict steps m s)
  all_more zero m s = tt
  all_more (suc steps) m s = next_more (make_all nodes strict steps) (all_more steps) m s (slice_get s.entries (length m.nodes)) (slice_get s.enums (length m.enums))

  -- ---- and the first steps no more than all ----

  module _ (first whole : Made → Work Made) (before : (m : Made) (s : Named) → IsBefore (first m s) (whole m s)) where
    rest_before : (r : Result (Made × Named) ErrorKind) → IsBefore (work_continued first r) (work_continued whole r)
    rest_before (Ok p) = before p.0 p.1
    rest_before (Err kind) = tt

    next_before : (m : Made) (s : Named) (e : Option Entry) (id : Option ℕ) → IsBefore (make_next nodes strict first m e id s) (make_next nodes strict whole m e id s)
    next_before m s (Some e) id = rest_before (make_struct nodes strict m e s)
    next_before m s None (Some id) = rest_before (make_enum nodes strict m id s)
    next_before m s None None = omega arith

  first_steps : (k steps : ℕ) (m : Made) (s : Named) → IsBefore (made_in nodes strict k m s) (make_all nodes strict steps m s)
  first_steps zero steps m s = all_more steps m s
  first_steps (suc k) zero m s = before_none (made_in nodes strict (suc k) m s) _
  first_steps (suc k) (suc steps) m s = next_before (made_in nodes strict k) (make_all nodes strict steps) (first_steps k steps) m s (slice_get s.entries (length m.nodes)) (slice_get s.enums (length m.enums))

-- ---- a whole request ----

abbrev schemas_in : (none : Schemas) → Said (Schemas × List Note) → Schemas
schemas_in none (Ok q) = q.0
schemas_in none (Err kind) = none

large_whole : (limit n : ℕ) (r : Result (Made × Named) ErrorKind) (all : Schemas) (noted : List Note) → limit < n → IsMore n r → result_of r ≡ Ok (all, noted) → limit < lists_bytes all
large_whole limit n (Ok p) all noted h more e =
    let same : schemas_made p.0 ≡ all = ap (schemas_in all) e in
    subst (λ (x : Schemas). limit < lists_bytes x) same (omega (arith, h, more))
large_whole limit n (Err kind) all noted h more e = cc

module _ (files : Said (List ℕ)) (read : Said (List SchemaNode)) (strict : Bool) (nodes : List SchemaNode) (is : read ≡ Ok nodes) (ids : List ℕ) (after : Named) (named : name_files nodes strict files nothing_named ≡ Ok (ids, after)) (limit : ℕ) where
  abbrev all_steps : Result (Made × Named) ErrorKind
  all_steps = make_all nodes strict (65536 + suc (length nodes)) nothing_made after

  large_request : IsLargeWork limit nodes strict after → IsLargeConversion limit (request_with files read) strict
  large_request w = record {
    steps = w.steps;
    lists = schemas_made w.made;
    notes = w.made.notes;
    begun = ap (λ r. and_said (request_with files r) (λ r. conversion_in w.steps r strict)) is ∙ (ap (λ r. result_of (work_continued (λ none. made_in nodes strict w.steps nothing_made) r)) named ∙ ap result_of w.begun);
    large = w.large;
    whole = λ all noted e. large_whole limit (bytes w.made) all_steps all noted w.large (subst (λ r. IsBefore r all_steps) w.begun (first_steps nodes strict w.steps (65536 + suc (length nodes)) nothing_made after)) (sym (roots_named files read strict nodes is ids after named) ∙ e);
  }

  -- why all isn't made
  pub made_refused : (kind : ErrorKind) → (all_steps ≡ Err kind) ⊎ ((kind ≡ TooLarge) × IsLargeWork limit nodes strict after) →
      (and_said (request_with files read) (λ r. conversion_of r strict) ≡ Err kind) ⊎ ((kind ≡ TooLarge) × IsLargeConversion limit (request_with files read) strict)
  made_refused kind (inl e) = inl (roots_named files read strict nodes is ids after named ∙ ap result_of e)
  made_refused kind (inr (k, w)) = inr (k, large_request w)
