-- A tree, level by level, and parts that grow at their end.
use Rattle.std.proofs.Common.{◌≡◌, ℕ, List, [], ◌∷◌, ◌++◌, Ok, Err, refl, ap, rules}
use Rattle.std.specs.declared.alloc.Global.{Global}
use Rattle.std.specs.declared.vec.Vec.{Vec}
use Rattle.capnp_value_texts.specs.Errors.{Read, read_as}
use Rattle.capnp_value_texts.specs.Seen.{shown_view}
use Rattle.capnp_value_texts.specs.Steps.Seen.{name_seen, parts_view}
use Rattle.capnp_value_texts.specs.Written.{Fields, Items, NoPart, Part, Parts, with_part}
use Rattle.capnp_value_texts.specs.declared.parts.Name.{Name}
use Rattle.capnp_value_texts.specs.declared.shown.Shown.{Shown, the_lemmas}
use Rattle.capnp_value_texts.specs.declared.shown.Shown.TheVariants as shown

abbrev pub PartHeld : Type 0
PartHeld = Name × Shown

abbrev pub parts_before : List PartHeld → Parts → Parts
parts_before [] rest = rest
parts_before (p ∷ ps) rest = Part p.0.place p.0.bytes.now (shown_view p.1) (parts_before ps rest)

-- the same with what is left
abbrev pub onto : List PartHeld → Parts × List ℕ → Parts × List ℕ
onto ps q = (parts_before ps q.0, q.1)

pub before_none : (ps : List PartHeld) → parts_before ps NoPart ≡ parts_view ps
before_none [] = refl
before_none (p ∷ ps) = ap (Part p.0.place p.0.bytes.now (shown_view p.1)) (before_none ps)

pub parts_pushed : (ps : List PartHeld) (p : PartHeld) (rest : Parts) → parts_before ps (Part p.0.place p.0.bytes.now (shown_view p.1) rest) ≡ parts_before (ps ++ p ∷ []) rest
parts_pushed [] p rest = refl
parts_pushed (q ∷ ps) p rest = ap (Part q.0.place q.0.bytes.now (shown_view q.1)) (parts_pushed ps p rest)

pub one_more : (ps : List PartHeld) (p : PartHeld) (r : Read (Parts × List ℕ)) →
    read_as (onto ps) (read_as (with_part (name_seen p.0, shown_view p.1)) r) ≡ read_as (onto (ps ++ p ∷ [])) r
one_more ps p (Err x) = refl
one_more ps p (Ok q) = ap (λ qs. Ok (qs, q.1)) (parts_pushed ps p q.0)

pub onto_none : (r : Read (Parts × List ℕ)) → r ≡ read_as (onto []) r
onto_none (Err x) = refl
onto_none (Ok q) = refl

pub view_fields : (place : ℕ) (ps : Vec PartHeld Global) → shown_view (shown.Fields place ps) ≡ Fields place (parts_view ps.items)
view_fields place ps = search (rules, the_lemmas)

pub view_items : (place : ℕ) (ps : Vec PartHeld Global) → shown_view (shown.Items place ps) ≡ Items place (parts_view ps.items)
view_items place ps = search (rules, the_lemmas)
