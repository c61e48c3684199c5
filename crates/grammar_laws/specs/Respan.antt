-- Trees and tokens without their places.
use Rattle.std.specs.Prelude.{◌≡◌, List, map}
use Rattle.grammar_laws.specs.Grammar.{Grammar, pure, one, seq, either, many, call, spanned, nest}

module _ {T X : Type 0} {Tree : X → Type 0} (h : T → T) (tree : (x : X) → Tree x → Tree x) where
  -- The grammar makes of tokens without their places what it makes of the tokens, without its places: h takes the places from a token, tree
  -- from the tree of a name, and e from a tree of the grammar.
  abbrev pub Even : {A : Type 0} → Grammar T X Tree A → (A → A) → Type 0
  Even (pure x) e = e x ≡ x
  Even (one c p f) e = ((t : T) → p (h t) ≡ p t) × ((t : T) → e (f t) ≡ f (h t))
  Even (seq {A = P} {B = Q} f a b) e = (l : P → P) × (r : Q → Q) × Even a l × Even b r × ((x : P) (y : Q) → e (f x y) ≡ f (l x) (r y))
  Even (either fs a b) e = Even a e × Even b e
  Even (many {A = P} fs f a) e = (l : P → P) × Even a l × ((xs : List P) → e (f xs) ≡ f (map l xs))
  Even (call x f) e = (t : Tree x) → e (f t) ≡ f (tree x t)
  Even (spanned {A = P} f a) e = (l : P → P) × Even a l × ((ts : List T) (x : P) → e (f ts x) ≡ f (map h ts) (l x))
  Even (nest c a) e = Even a e
