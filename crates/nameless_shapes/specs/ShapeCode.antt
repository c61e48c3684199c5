-- Shapes and resources as lists of words from which they can be read again, by which a proof tells them apart.
use Rattle.std.specs.Prelude.{◌≡◌, ℕ, Bool, List, [], ◌∷◌, ◌⊎◌}
use Rattle.std.proofs.Common.{inl, inr, refl, ap, ◌∙◌}
use Rattle.std.specs.Coded.{Coded, code_by, coded_ℕ, coded_bool, coded_list, coded×, coded⊎}
use base.Stored.{coded_unit}
use Rattle.core_language.specs.Names.{Ident}
use Rattle.core_language.specs.Terms.{Relation, AtMost, Less, Same}
use Rattle.outline_language.specs.LinearForms.{LinearForm}
use Rattle.outline_language.specs.Nameless as nameless
use Rattle.outline_language.specs.Nameless.{Ref, Limit, Shape, Res, Resources}
use Rattle.nameless_forms.specs.Codes.{form_code}

-- ---- references and limits

abbrev pub RefParts : Type 0
RefParts = Bool × (List ℕ × List LinearForm)

abbrev pub ref_code : Coded Ref
ref_code = code_by RefParts (coded× coded_bool (coded× (coded_list coded_ℕ) (coded_list form_code)))
    (λ r. (r.dual, (r.name, r.args))) (λ p. record { dual = p.0; name = p.1.0; args = p.1.1 }) (λ r. refl)

abbrev pub Three : Type 0
Three = Unit {0} ⊎ (Unit {0} ⊎ Unit {0})

abbrev pub which : Relation → Three
which AtMost = inl tt
which Less = inr (inl tt)
which Same = inr (inr tt)

abbrev pub relation_at : Three → Relation
relation_at (inl _) = AtMost
relation_at (inr (inl _)) = Less
relation_at (inr (inr _)) = Same

pub relation_at_which : (r : Relation) → relation_at (which r) ≡ r
relation_at_which AtMost = refl
relation_at_which Less = refl
relation_at_which Same = refl

abbrev pub relation_code : Coded Relation
relation_code = code_by Three (coded⊎ coded_unit (coded⊎ coded_unit coded_unit)) which relation_at relation_at_which

abbrev pub LimitParts : Type 0
LimitParts = LinearForm × (Relation × LinearForm)

abbrev pub limit_code : Coded Limit
limit_code = code_by LimitParts (coded× form_code (coded× relation_code form_code))
    (λ l. (l.left, (l.relation, l.right))) (λ p. record { left = p.0; relation = p.1.0; right = p.1.1 }) (λ l. refl)

-- ---- words

-- unit, an integer, or an end
abbrev pub Leaf : Type 0
Leaf = Unit {0} ⊎ (LinearForm ⊎ Ref)

-- a pair of the resources before it, binders and limits for the last one, no arm, or one arm more
abbrev pub Whole : Type 0
Whole = Unit {0} ⊎ ((ℕ × List Limit) ⊎ (Unit {0} ⊎ Unit {0}))

abbrev pub Word : Type 0
Word = Leaf ⊎ Whole

abbrev pub word_code : Coded Word
word_code = coded⊎ (coded⊎ coded_unit (coded⊎ form_code ref_code))
    (coded⊎ coded_unit (coded⊎ (coded× coded_ℕ (coded_list limit_code)) (coded⊎ coded_unit coded_unit)))

abbrev pub unit : Word
unit = inl (inl tt)

abbrev pub int : LinearForm → Word
int form = inl (inr (inl form))

abbrev pub end : Ref → Word
end ref = inl (inr (inr ref))

abbrev pub pair : Word
pair = inr (inl tt)

abbrev pub binds : ℕ → List Limit → Word
binds n limits = inr (inr (inl (n, limits)))

abbrev pub none : Word
none = inr (inr (inr (inl tt)))

abbrev pub one_more : Word
one_more = inr (inr (inr (inr tt)))

-- the words of a shape, before other words
abbrev mutual
  pub shape_words : Shape → List Word → List Word
  shape_words nameless.Unit rest = unit ∷ rest
  shape_words (nameless.Int form) rest = int form ∷ rest
  shape_words (nameless.End ref) rest = end ref ∷ rest
  shape_words (nameless.Pair r s) rest = res_words r (res_words s (pair ∷ rest))
  shape_words (nameless.Sum rs) rest = resources_words rs rest

  pub res_words : Res → List Word → List Word
  res_words (nameless.Binds n limits s) rest = shape_words s (binds n limits ∷ rest)

  pub resources_words : Resources → List Word → List Word
  resources_words nameless.NoMore rest = none ∷ rest
  resources_words (nameless.More r rs) rest = res_words r (resources_words rs (one_more ∷ rest))

-- ---- reading: the resources so far, the last one first; a shape stands there without binders

abbrev pub bare : Shape → Res
bare shape = nameless.Binds 0 [] shape

abbrev pub under : Res → Shape
under (nameless.Binds n limits s) = s

abbrev pub arms : Shape → Resources
arms (nameless.Sum rs) = rs
arms _ = nameless.NoMore

abbrev pub shape_of_leaf : Leaf → Shape
shape_of_leaf (inl _) = nameless.Unit
shape_of_leaf (inr (inl form)) = nameless.Int form
shape_of_leaf (inr (inr ref)) = nameless.End ref

abbrev pub after_whole : Whole → List Res → List Res
after_whole (inl _) (s ∷ r ∷ rest) = bare (nameless.Pair r s) ∷ rest
after_whole (inr (inl bound)) (r ∷ rest) = nameless.Binds bound.0 bound.1 (under r) ∷ rest
after_whole (inr (inr (inl _))) rest = bare (nameless.Sum nameless.NoMore) ∷ rest
after_whole (inr (inr (inr _))) (rs ∷ r ∷ rest) = bare (nameless.Sum (nameless.More r (arms (under rs)))) ∷ rest
after_whole _ rest = rest

abbrev pub after : Word → List Res → List Res
after (inl leaf) rest = bare (shape_of_leaf leaf) ∷ rest
after (inr whole) rest = after_whole whole rest

abbrev pub read : List Word → List Res → List Res
read [] stack = stack
read (word ∷ words) stack = read words (after word stack)

abbrev pub first_of : List Res → Res
first_of [] = bare nameless.Unit
first_of (r ∷ rs) = r

mutual
  pub read_shape : (s : Shape) (rest : List Word) (stack : List Res) → read (shape_words s rest) stack ≡ read rest (bare s ∷ stack)
  read_shape nameless.Unit rest stack = refl
  read_shape (nameless.Int form) rest stack = refl
  read_shape (nameless.End ref) rest stack = refl
  read_shape (nameless.Pair r s) rest stack = read_res r (res_words s (pair ∷ rest)) stack ∙ read_res s (pair ∷ rest) (r ∷ stack)
  read_shape (nameless.Sum rs) rest stack = read_resources rs rest stack

  pub read_res : (r : Res) (rest : List Word) (stack : List Res) → read (res_words r rest) stack ≡ read rest (r ∷ stack)
  read_res (nameless.Binds n limits s) rest stack = read_shape s (binds n limits ∷ rest) stack

  pub read_resources : (rs : Resources) (rest : List Word) (stack : List Res) → read (resources_words rs rest) stack ≡ read rest (bare (nameless.Sum rs) ∷ stack)
  read_resources nameless.NoMore rest stack = refl
  read_resources (nameless.More r rs) rest stack =
      read_res r (resources_words rs (one_more ∷ rest)) stack ∙ read_resources rs (one_more ∷ rest) (r ∷ stack)

abbrev pub res_code : Coded Res
res_code = code_by (List Word) (coded_list word_code) (λ r. res_words r []) (λ words. first_of (read words [])) (λ r. ap first_of (read_res r [] []))

abbrev pub shape_code : Coded Shape
shape_code = code_by Res res_code bare under (λ s. refl)
