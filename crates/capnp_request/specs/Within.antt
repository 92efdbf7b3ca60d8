-- What a conversion makes step by step, and requests whose lists have more than so many bytes.
use Rattle.std.specs.Prelude.{ℕ, zero, suc, ◌<◌, ◌≡◌, List, Bool, length, slice_get, Ok}
use Rattle.capnp_schema.specs.Schema.{Schemas}
use Rattle.capnp_request.specs.Conversion.{Note}
use Rattle.capnp_request.specs.Order.{Made, and_said, conversion_of, make_next, name_files, nothing_made, nothing_named, result_of}
use Rattle.capnp_request.specs.Sizes.{lists_bytes}
use Rattle.capnp_request.specs.Terms.{RequestTerm, Said, SchemaNode}
use Rattle.capnp_request.specs.Work.{Work, work_of, ◌>>=◌}

module _ (nodes : List SchemaNode) (strict : Bool) where
  -- one step, and then the rest where there is more
  abbrev pub make_step : (Made → Work Made) → Made → Work Made
  make_step again m s = make_next nodes strict again m (slice_get s.entries (length m.nodes)) (slice_get s.enums (length m.enums)) s

  -- what is made in so many steps, or in fewer where that is all
  abbrev pub made_in : ℕ → Made → Work Made
  made_in zero m s = work_of m s
  made_in (suc steps) m s = make_step (made_in steps) m s

-- the lists and notes that the first so many steps of a conversion make
abbrev pub conversion_in : (steps : ℕ) → RequestTerm → (strict : Bool) → Said (Schemas × List Note)
conversion_in steps r strict = result_of ((name_files r.nodes strict r.files >>= (λ none. made_in r.nodes strict steps nothing_made)) nothing_named)

-- The lists that some first steps of a request's conversion make have more than so many bytes. So have its lists, where it
-- comes to its end.
pub record IsLargeConversion (limit : ℕ) (request : Said RequestTerm) (strict : Bool) : Type 0 where
  pub steps : ℕ
  pub lists : Schemas
  pub notes : List Note
  pub begun : and_said request (λ r. conversion_in steps r strict) ≡ Ok (lists, notes)
  pub large : limit < lists_bytes lists
  pub whole : (all : Schemas) (noted : List Note) → and_said request (λ r. conversion_of r strict) ≡ Ok (all, noted) → limit < lists_bytes all
