-- What meets in a set.
use Rattle.std.proofs.Common.{◌≡◌, ℕ, ◌<◌, inl, inr, List, length, Option, Some, None, refl, sym, ◌∙◌, subst, arith}
use Rattle.std.specs.Option.{option_map}
use Rattle.std.proofs.lemmas.Bool.{cases_lt}
use Rattle.capnp_schema.specs.Schema.{Schemas, enum_at, node_at}
use Rattle.capnp_json_names.specs.Labels.{AreApart, Label, Meet, enumerant_labels, field_labels}
use Rattle.capnp_json_names.specs.Meetings.{EnumerantsMeet, FieldsMeet, Meeting, enumerants_meeting, fields_meeting, first_of, meeting_of, or_else, pair_of}
use Rattle.capnp_json_names.specs.Distinct.{FirstMeetingIsFirst, HasJsonNames, IsFirstMeeting, IsMeeting, IsNoLater, NoneMeetWhereApart, Precedes}
use Rattle.capnp_json_names.proofs.First.{first_none, first_some}
use Rattle.capnp_json_names.proofs.Pairs.{IsFirstPair, IsNoLaterPair, first_pair, mapped_none, none_meet}

left_none : (a b : Option Meeting) → or_else a b ≡ None → a ≡ None
left_none None b h = refl
left_none (Some x) b h = h

right_none : (a b : Option Meeting) → or_else a b ≡ None → b ≡ None
right_none None b h = h
right_none (Some x) b h = let no : ⊥ = cc in absurd no

-- ---- lists of labels, by numbers ----

-- the first pair of the first of so many lists that has one
pub record IsFirstOf (labels : ℕ → List Label) (count a b c : ℕ) : Type 0 where
  pub below : a < count
  pub pair : IsFirstPair (labels a) b c
  pub before : (k : ℕ) → k < a → AreApart (labels k)

abbrev pub met_at : (labels : ℕ → List Label) → (ℕ → ℕ → ℕ → Meeting) → ℕ → Option Meeting
met_at labels make a = option_map (λ (p : ℕ × ℕ). make a p.0 p.1) (pair_of (labels a))

-- what is found is made of such a pair
pub record IsMadeOf (labels : ℕ → List Label) (make : ℕ → ℕ → ℕ → Meeting) (count : ℕ) (m : Meeting) : Type 0 where
  pub number : ℕ
  pub first : ℕ
  pub second : ℕ
  pub is : make number first second ≡ m
  pub found : IsFirstOf labels count number first second

none_apart : (labels : ℕ → List Label) (make : ℕ → ℕ → ℕ → Meeting) (count : ℕ) → first_of (met_at labels make) count ≡ None → (a : ℕ) → a < count → AreApart (labels a)
none_apart labels make count e a below =
    none_meet (labels a) (mapped_none (λ (p : ℕ × ℕ). make a p.0 p.1) (pair_of (labels a)) (first_none (met_at labels make) count e a below))

made_at : (labels : ℕ → List Label) (make : ℕ → ℕ → ℕ → Meeting) (count a : ℕ) (m : Meeting) (o : Option (ℕ × ℕ)) → pair_of (labels a) ≡ o → option_map (λ (p : ℕ × ℕ). make a p.0 p.1) o ≡ Some m → a < count → ((k : ℕ) → k < a → AreApart (labels k))
    → IsMadeOf labels make count m
made_at labels make count a m None is e below before = let no : ⊥ = cc in absurd no
made_at labels make count a m (Some p) is e below before =
    record { number = a; first = p.0; second = p.1; is = cc; found = record { below = below; pair = first_pair (labels a) p is; before = before } }

some_made : (labels : ℕ → List Label) (make : ℕ → ℕ → ℕ → Meeting) (count : ℕ) (m : Meeting) → first_of (met_at labels make) count ≡ Some m → IsMadeOf labels make count m
some_made labels make count m e =
    let f = first_some (met_at labels make) count m e in
    made_at labels make count f.at m (pair_of (labels f.at)) refl f.is f.below
    (λ k below. none_meet (labels k) (mapped_none (λ (p : ℕ × ℕ). make k p.0 p.1) (pair_of (labels k)) (f.before k below)))

later_pair : (a b c k l : ℕ) → IsNoLaterPair b c k l → IsNoLater a b c a k l
later_pair a b c k l h = inr (refl, h)

comes_first : (labels : ℕ → List Label) (count a b c : ℕ) → IsFirstOf labels count a b c → (x k l : ℕ) → Meet (labels x) k l → IsNoLater a b c x k l
comes_first labels count a b c f x k l other = elim (cases_lt x a) [
  | inl sooner ↦ absurd (f.before x sooner k l other)
  | inr later ↦ elim (cases_lt a x) [
    | inl much_later ↦ inl much_later
    | inr here ↦
        let same : x ≡ a = omega arith in
        inr (sym same, f.pair.first k l (subst (λ n. Meet (labels n) k l) same other))
  ]
]

-- ---- the two kinds of meetings ----

fields_first : (set : Schemas) (m : Meeting) → IsMadeOf (λ (n : ℕ). field_labels (node_at set n).fields) FieldsMeet (length set.nodes) m → IsFirstMeeting set m
fields_first set m made =
    let f = made.found in
    let meets : IsMeeting set (FieldsMeet made.number made.first made.second) = (f.below, f.pair.meet) in
    subst (λ n. IsFirstMeeting set n) made.is (record { meets = meets; first = before })
  where
    before : (n : Meeting) → IsMeeting set n → Precedes (FieldsMeet made.number made.first made.second) n
    before (FieldsMeet x k l) h = comes_first (λ (n : ℕ). field_labels (node_at set n).fields) (length set.nodes) made.number made.first made.second made.found x k l h.1
    before (EnumerantsMeet x k l) h = tt

enumerants_first : (set : Schemas) (m : Meeting) → fields_meeting set ≡ None → IsMadeOf (λ (e : ℕ). enumerant_labels (enum_at set e).enumerants) EnumerantsMeet (length set.enums) m → IsFirstMeeting set m
enumerants_first set m none made =
    let f = made.found in
    let meets : IsMeeting set (EnumerantsMeet made.number made.first made.second) = (f.below, f.pair.meet) in
    subst (λ n. IsFirstMeeting set n) made.is (record { meets = meets; first = before })
  where
    before : (n : Meeting) → IsMeeting set n → Precedes (EnumerantsMeet made.number made.first made.second) n
    before (FieldsMeet x k l) h = none_apart (λ (n : ℕ). field_labels (node_at set n).fields) FieldsMeet (length set.nodes) none x h.0 k l h.1
    before (EnumerantsMeet x k l) h = comes_first (λ (e : ℕ). enumerant_labels (enum_at set e).enumerants) (length set.enums) made.number made.first made.second made.found x k l h.1

by_fields : (set : Schemas) (m : Meeting) (o : Option Meeting) → fields_meeting set ≡ o → or_else o (enumerants_meeting set) ≡ Some m → IsFirstMeeting set m
by_fields set m (Some n) is e = fields_first set m (some_made (λ (n : ℕ). field_labels (node_at set n).fields) FieldsMeet (length set.nodes) m (is ∙ e))
by_fields set m None is e = enumerants_first set m is (some_made (λ (e : ℕ). enumerant_labels (enum_at set e).enumerants) EnumerantsMeet (length set.enums) m e)

pub first_is_first : FirstMeetingIsFirst
first_is_first set m e = by_fields set m (fields_meeting set) refl e

no_meeting : (set : Schemas) → HasJsonNames set → (m : Meeting) → IsMeeting set m → ⊥
no_meeting set names (FieldsMeet b i j) h = names.fields b h.0 i j h.1
no_meeting set names (EnumerantsMeet e i j) h = names.enumerants e h.0 i j h.1

by_meeting : (set : Schemas) → HasJsonNames set → (o : Option Meeting) → meeting_of set ≡ o → o ≡ None
by_meeting set names None is = refl
by_meeting set names (Some m) is = absurd (no_meeting set names m (first_is_first set m is).meets)

pub none_where_apart : NoneMeetWhereApart
none_where_apart set = (
  λ e. record {
    fields = none_apart (λ (n : ℕ). field_labels (node_at set n).fields) FieldsMeet (length set.nodes) (left_none (fields_meeting set) (enumerants_meeting set) e);
    enumerants = none_apart (λ (e : ℕ). enumerant_labels (enum_at set e).enumerants) EnumerantsMeet (length set.enums) (right_none (fields_meeting set) (enumerants_meeting set) e);
  },
  λ names. by_meeting set names (meeting_of set) refl,
)
