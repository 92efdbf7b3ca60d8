-- The queries of one query more that is asked, or the first that can't be told; and the paths of one.
use Rattle.std.proofs.Common.{ℕ, ◌+◌, ◌-◌, ◌<◌, ◌≤◌, List, [], ◌∷◌, ◌++◌, Bool, true, false, Option, Some, None, Ok, get_or, length, map, ap, append_assoc, arith, inl, inr, refl, subst, sym, ◌≡◌, ◌≢◌, ◌∙◌, ◌⊎◌}
use Rattle.std.proofs.lemmas.List.{append-nil, length-map, map-append}
use Rattle.std.specs.declared.alloc.Global.{Global}
use Rattle.std.specs.declared.vec.Vec.{Vec}
use Rattle.capnp_call.specs.Seen.{path_seen, step_seen}
use Rattle.capnp_call.specs.declared.calls.Step.{Step}
use Rattle.capnp_device.specs.declared.error.ErrorKind.TheVariants.{OutOfMemory}
use Rattle.capnp_patch.specs.Places.{IsWithin}
use Rattle.capnp_patch.specs.declared.place.Place.TheVariants as place
use Rattle.capnp_queries.specs.Patterns.{Listing, Stop, is_pattern, listed, listing_at}
use Rattle.capnp_queries.specs.PatternsSeen.{IsListed, IsNotListed, IsStop, paths_seen}
use Rattle.capnp_queries.specs.declared.patterns.NotListed.{NotListed}
use Rattle.capnp_queries.specs.declared.patterns.NotListed.TheVariants.{Refused, Unmade}
use Rattle.capnp_queries.specs.declared.patterns.RefusedPath.{RefusedPath}
use Rattle.capnp_records.specs.Call.{PathStep}
use Rattle.capnp_schema.specs.Schema.{Schemas}
use Rattle.capnp_schema.specs.StructHandles.{number_of, set_of}
use Rattle.capnp_schema.specs.declared.schema.structs.StructSchema.{StructSchema}
use Rattle.riftcalico_core.specs.Expanded.{AreAsked, HasManyPaths, IsNotAsked, IsStopTold, counted_paths, paths_by, paths_count, query_paths}
use Rattle.riftcalico_core.specs.Notes.{place_note}
use Rattle.riftcalico_core.specs.Queries.{Query, query_of}
use Rattle.riftcalico_core.specs.QueriesSeen.{asked_seen}
use Rattle.riftcalico_core.specs.Steps.Told.{IsListingTold, IsQueryPut, IsStopNoted}
use Rattle.riftcalico_core.specs.declared.fault.Fault.{Fault}
use Rattle.riftcalico_core.specs.declared.queries.AskedQuery.{AskedQuery}
use Rattle.riftcalico_core.proofs.Each.{item_from}
use Rattle.riftcalico_core.proofs.LinesGot.{left_of}
use Rattle.riftcalico_core.proofs.Noted.{none_left}

-- ---- the queries ----

next : (xs : List AskedQuery) (i : ℕ) (x : AskedQuery) → i < length xs → x ≡ get_or xs i x → left_of xs i ≡ asked_seen x ∷ left_of xs (i + 1)
next xs i x inside is = ap (map asked_seen) (item_from xs i x inside is)

module _ (s : StructSchema) (bytes : List ℕ) (most : ℕ) (all : List Query) where
  -- with the queries that those which are left stand for behind them these are all
  abbrev pub Gives : (left : ℕ) → List Query → (queries : List Query) → Type 0
  Gives left asked queries = (rest : List Query) → AreAsked left s bytes asked rest → AreAsked most s bytes all (queries ++ rest)

  -- what refuses those that are left refuses all
  abbrev pub Denies : (left : ℕ) → List Query → Type 0
  Denies left asked = (f : Fault) → IsNotAsked left s bytes asked f → IsNotAsked most s bytes all f

  one_more : (left : ℕ) (asked : List Query) (q : Query) (queries : List Query) (paths : List (List PathStep)) → Gives left (q ∷ asked) queries → query_paths s bytes q ≡ listed paths → paths_count q paths ≤ left →
      Gives (left - paths_count q paths) asked (queries ++ map (query_of q.counts) paths)
  unfolding AreAsked
  one_more left asked q queries paths gives is few = λ rest are.
      subst (AreAsked most s bytes all) (sym (append_assoc queries (map (query_of q.counts) paths) rest)) (gives (map (query_of q.counts) paths ++ rest) (paths, rest, is, few, are, refl))

  none_more : (left : ℕ) (asked queries : List Query) → asked ≡ [] → Gives left asked queries → AreAsked most s bytes all queries
  unfolding AreAsked
  none_more left asked queries none gives = subst (AreAsked most s bytes all) (append-nil queries) (gives [] (subst (λ (ys : List Query). AreAsked left s bytes ys []) (sym none) refl))

  denies_behind : (left : ℕ) (asked : List Query) (q : Query) (paths : List (List PathStep)) → Denies left (q ∷ asked) → query_paths s bytes q ≡ listed paths → paths_count q paths ≤ left →
      Denies (left - paths_count q paths) asked
  unfolding IsNotAsked
  denies_behind left asked q paths denies is few = λ f h. denies f (inr (paths, is, few, h))

  denied_here : (left : ℕ) (asked : List Query) (q : Query) (f : Fault) → Denies left (q ∷ asked) → IsStopTold s bytes q f ⊎ HasManyPaths left s bytes q f → IsNotAsked most s bytes all f
  unfolding IsNotAsked
  denied_here left asked q f denies h = denies f (inl h)

  pub gives_more : (left rest : ℕ) (xs : List AskedQuery) (i : ℕ) (x : AskedQuery) (queries more : List Query) → (i < length xs) × (x ≡ get_or xs i x) →
      IsQueryPut left s bytes (asked_seen x) queries more rest → Gives left (left_of xs i) queries → Gives rest (left_of xs (i + 1)) more
  gives_more left rest xs i x queries more at put gives =
      subst (λ (n : ℕ). Gives n (left_of xs (i + 1)) more) (sym put.rest_is)
      (subst (λ (qs : List Query). Gives (left - paths_count (asked_seen x) put.paths) (left_of xs (i + 1)) qs) (sym put.after_is)
      (one_more left (left_of xs (i + 1)) (asked_seen x) queries put.paths (subst (λ (qs : List Query). Gives left qs queries) (next xs i x at.0 at.1) gives) put.are put.few))

  pub denies_more : (left rest : ℕ) (xs : List AskedQuery) (i : ℕ) (x : AskedQuery) (queries more : List Query) → (i < length xs) × (x ≡ get_or xs i x) →
      IsQueryPut left s bytes (asked_seen x) queries more rest → Denies left (left_of xs i) → Denies rest (left_of xs (i + 1))
  denies_more left rest xs i x queries more at put denies =
      subst (λ (n : ℕ). Denies n (left_of xs (i + 1))) (sym put.rest_is)
      (denies_behind left (left_of xs (i + 1)) (asked_seen x) put.paths (subst (Denies left) (next xs i x at.0 at.1) denies) put.are put.few)

  pub denied_at : (left : ℕ) (xs : List AskedQuery) (i : ℕ) (x : AskedQuery) (f : Fault) → i < length xs → x ≡ get_or xs i x → Denies left (left_of xs i) →
      IsStopTold s bytes (asked_seen x) f ⊎ HasManyPaths left s bytes (asked_seen x) f → IsNotAsked most s bytes all f
  denied_at left xs i x f inside is denies h = denied_here left (left_of xs (i + 1)) (asked_seen x) f (subst (Denies left) (next xs i x inside is) denies) h

  pub all_given : (left : ℕ) (xs : List AskedQuery) (i : ℕ) (queries : List Query) → length xs ≤ i → Gives left (left_of xs i) queries → AreAsked most s bytes all queries
  all_given left xs i queries past gives = none_more left (left_of xs i) queries (ap (map asked_seen) (none_left xs i past)) gives

-- ---- the paths of one ----

-- a listing that nothing stops is its paths
pub is_listed : (l : Listing) (paths : List (List PathStep)) → l.stop ≡ None → paths ≡ l.paths → l ≡ listed paths
is_listed l paths none e = ap (λ (o : Option Stop). record { paths = l.paths; stop = o }) none ∙ ap (λ (ps : List (List PathStep)). listed ps) (sym e)

-- a stop, as it is told
pub stop_told : (s : StructSchema) (bytes : List ℕ) (q : Query) (l : Listing) (x : RefusedPath) (f : Fault) → query_paths s bytes q ≡ l → IsStop (set_of s) l.stop x → IsStopNoted x f → IsStopTold s bytes q f
stop_told s bytes q l x f is h noted = told l.stop refl h
  where
    told : (o : Option Stop) → l.stop ≡ o → IsStop (set_of s) o x → IsStopTold s bytes q f
    told None e stop = absurd stop
    told (Some y) e stop = record {
      stop = y;
      refused = ap (λ (z : Listing). z.stop) is ∙ e;
      kind = noted.kind ∙ stop.1;
      step = noted.step;
      step_kind = noted.step_kind ∙ stop.1;
      last = omega (arith, noted.last, ap length stop.0, length-map x.steps.items step_seen);
      within = subst (λ (w : Option StructSchema). IsWithin (set_of s) w y.type) (sym noted.within) stop.2;
      told = noted.told ∙ ap (λ (p : List PathStep). place_note p (place.Step noted.step)) stop.0;
    }

module _ (s : StructSchema) (bytes : List ℕ) (q : Query) where
  pub pattern_paths : is_pattern q.path ≡ true → query_paths s bytes q ≡ listing_at (set_of s) (number_of s) q.path bytes
  pattern_paths is = ap (λ (b : Bool). paths_by b s bytes q.path) is

  pub own_path : is_pattern q.path ≡ false → query_paths s bytes q ≡ listed (q.path ∷ [])
  own_path is = ap (λ (b : Bool). paths_by b s bytes q.path) is

pub pattern_count : (q : Query) (paths : List (List PathStep)) → is_pattern q.path ≡ true → paths_count q paths ≡ length paths
pattern_count q paths is = ap (λ (b : Bool). counted_paths b paths) is

pub own_count : (q : Query) (paths : List (List PathStep)) → is_pattern q.path ≡ false → paths_count q paths ≡ 0
own_count q paths is = ap (λ (b : Bool). counted_paths b paths) is

-- one path more among those that are put behind queries
pub put_more : (qs : List AskedQuery) (before : List Query) (counts : Bool) (done : List (Vec Step Global)) (q : AskedQuery) (steps : Vec Step Global) →
    map asked_seen qs ≡ before ++ map (query_of counts) (paths_seen done) → asked_seen q ≡ query_of counts (path_seen steps.items) →
    map asked_seen (qs ++ q ∷ []) ≡ before ++ map (query_of counts) (paths_seen (done ++ steps ∷ []))
put_more qs before counts done q steps e is =
    map-append asked_seen qs (q ∷ [])
    ∙ (ap (λ (xs : List Query). xs ++ asked_seen q ∷ []) e
    ∙ (append_assoc before (map (query_of counts) (paths_seen done)) (asked_seen q ∷ [])
    ∙ ap (λ (ys : List Query). before ++ ys)
    (ap (λ (y : Query). map (query_of counts) (paths_seen done) ++ y ∷ []) is
    ∙ sym (ap (map (query_of counts)) (map-append (λ (p : Vec Step Global). path_seen p.items) done (steps ∷ [])) ∙ map-append (query_of counts) (paths_seen done) (path_seen steps.items ∷ [])))))

-- why there is no listing of a pattern, as it is told
pub unlisted : (left : ℕ) (s : StructSchema) (bytes : List ℕ) (q : Query) (why : NotListed) (f : Fault) → is_pattern q.path ≡ true →
    IsNotListed left 0 (set_of s) (listing_at (set_of s) (number_of s) q.path bytes) why → f.error.kind ≢ OutOfMemory → IsListingTold why f → IsStopTold s bytes q f ⊎ HasManyPaths left s bytes q f
unlisted left s bytes q (Refused x) f is h memory told = inl (stop_told s bytes q (listing_at (set_of s) (number_of s) q.path bytes) x f (pattern_paths s bytes q is) h.0 told)
unlisted left s bytes q (Unmade kind) f is h memory told =
    let many = h (λ k. memory (told.kind ∙ k)) in
    inr (record {
      kind = told.kind ∙ many.0;
      more = omega (arith, many.1, pattern_count q (query_paths s bytes q).paths is, ap (λ (l : Listing). length l.paths) (pattern_paths s bytes q is));
      note = told.note;
    })

-- the paths of a pattern, which are few enough
pub few_paths : (left : ℕ) (set : Schemas) (l : Listing) (q : Query) (paths : Vec (Vec Step Global) Global) → is_pattern q.path ≡ true → IsListed left [] set l (Ok paths) → paths_count q (paths_seen paths.items) ≤ left
few_paths left set l q paths is h = omega (arith, h.2 (omega arith), ap length h.1, pattern_count q (paths_seen paths.items) is)
