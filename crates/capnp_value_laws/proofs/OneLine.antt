-- Without lines what is written has one text, its line.
use Rattle.std.proofs.Common.{◌≡◌, ℕ, List, [], ◌∷◌, ◌++◌, inl, inr, None, append_assoc, append-nil, refl, ap, ap₂, sym, ◌∙◌}
use Rattle.capnp_value_texts.specs.Lines.{first_on, line_on, more_on, name_on}
use Rattle.capnp_value_texts.specs.Written.{Fields, Items, Leaf, NoPart, Part, Parts, Written}
use Rattle.capnp_value_texts.specs.declared.parts.Bracket.{Bracket}
use Rattle.capnp_value_texts.specs.declared.parts.Bracket.TheVariants.{Round, Square}
use Rattle.capnp_value_laws.specs.Texts.{AreFirst, AreMore, IsTextOf}

named_split : (k : Bracket) (name xs rest : List ℕ) → name_on k name (xs ++ rest) ≡ name_on k name xs ++ rest
named_split Round name xs rest = sym (append_assoc name (32 ∷ 61 ∷ 32 ∷ xs) rest)
named_split Square name xs rest = refl

part_split : (k : Bracket) (name : List ℕ) (w : Written) (more rest : List ℕ) → ((xs : List ℕ) → line_on w xs ≡ line_on w [] ++ xs) → name_on k name (line_on w (more ++ rest)) ≡ name_on k name (line_on w more) ++ rest
part_split k name w more rest split =
    ap (name_on k name) (split (more ++ rest) ∙ (sym (append_assoc (line_on w []) more rest) ∙ ap (λ (xs : List ℕ). xs ++ rest) (sym (split more)))) ∙ named_split k name (line_on w more) rest

mutual
  line_split : (w : Written) (rest : List ℕ) → line_on w rest ≡ line_on w [] ++ rest
  line_split (Leaf place bs) rest = ap (λ (xs : List ℕ). xs ++ rest) (sym (append-nil bs))
  line_split (Fields place ps) rest = ap (λ (xs : List ℕ). 40 ∷ xs) (first_split Round ps rest)
  line_split (Items place ps) rest = ap (λ (xs : List ℕ). 91 ∷ xs) (first_split Square ps rest)

  first_split : (k : Bracket) (ps : Parts) (rest : List ℕ) → first_on k ps rest ≡ first_on k ps [] ++ rest
  first_split k NoPart rest = refl
  first_split k (Part place name w ps) rest = ap (λ (xs : List ℕ). name_on k name (line_on w xs)) (more_split k ps rest) ∙ part_split k name w (more_on k ps []) rest (line_split w)

  more_split : (k : Bracket) (ps : Parts) (rest : List ℕ) → more_on k ps rest ≡ more_on k ps [] ++ rest
  more_split k NoPart rest = refl
  more_split k (Part place name w ps) rest =
      ap (λ (xs : List ℕ). 44 ∷ 32 ∷ xs) (ap (λ (xs : List ℕ). name_on k name (line_on w xs)) (more_split k ps rest) ∙ part_split k name w (more_on k ps []) rest (line_split w))

part_line : (k : Bracket) (name : List ℕ) (w : Written) (value more rest : List ℕ) → value ≡ line_on w [] → more ≡ rest → name_on k name (value ++ more) ≡ name_on k name (line_on w rest)
part_line k name w value more rest e f = ap (name_on k name) (ap₂ (λ (xs ys : List ℕ). xs ++ ys) e f ∙ sym (line_split w rest))

mutual
  pub one_line : (w : Written) (text : List ℕ) → IsTextOf None w text → text ≡ line_on w []
  one_line (Leaf place bs) text is = is ∙ sym (append-nil bs)
  one_line (Fields place ps) text is = is.2 ∙ ap (λ (xs : List ℕ). 40 ∷ xs) (first_line Round ps is.0 is.1)
  one_line (Items place ps) text is = is.2 ∙ ap (λ (xs : List ℕ). 91 ∷ xs) (first_line Square ps is.0 is.1)

  first_line : (k : Bracket) (ps : Parts) (text : List ℕ) → AreFirst None k ps text → text ≡ first_on k ps []
  first_line k NoPart text (inl is) = is
  first_line k NoPart text (inr is) = is
  first_line k (Part place name w ps) text is = is.4 ∙ part_line k name w is.0 is.1 (more_on k ps []) (one_line w is.0 is.2) (more_line k ps is.1 is.3)

  more_line : (k : Bracket) (ps : Parts) (text : List ℕ) → AreMore None k ps text → text ≡ more_on k ps []
  more_line k NoPart text is = is
  more_line k (Part place name w ps) text is =
      is.4 ∙ ap (λ (xs : List ℕ). 44 ∷ 32 ∷ xs) (part_line k name w is.0 is.1 (more_on k ps []) (one_line w is.0 is.2) (more_line k ps is.1 is.3))
