-- Ends that are left, entry by entry.
use Rattle.std.proofs.Common.{◌≡◌, ℕ, ◌+◌, Bool, true, false, not, ◌&&◌, List, [], ◌∷◌, drop, refl, ap, ◌∙◌, Ok, Err}
use Rattle.core_language.specs.Names.{Ident}
use Rattle.outline_language.specs.Nameless.{Shape, has_end}
use Rattle.outline_language.specs.Contexts.{Left, and_then, provided, nothing, nothing_left}
use Rattle.outline_contexts.specs.Kept.{entries_by}

-- none is left of no entries
pub none_left : (hs : List Bool) (xs : List Ident) (ss : List Shape) → ss ≡ [] → nothing_left (entries_by hs xs ss) ≡ Ok nothing
none_left hs xs ss is = ap (λ ts. nothing_left (entries_by hs xs ts)) is ∙ none hs xs
  where
    none : (hs : List Bool) (xs : List Ident) → nothing_left (entries_by hs xs []) ≡ Ok nothing
    none [] xs = refl
    none (h ∷ hs) [] = refl
    none (h ∷ hs) (x ∷ xs) = refl

module _ (hs : List Bool) (xs : List Ident) (ss : List Shape) (i : ℕ) (h : Bool) (x : Ident) (s : Shape)
    (held : drop i hs ≡ h ∷ drop (i + 1) hs) (named : drop i xs ≡ x ∷ drop (i + 1) xs) (shaped : drop i ss ≡ s ∷ drop (i + 1) ss) where
  here : nothing_left (entries_by (drop i hs) (drop i xs) (drop i ss))
      ≡ and_then (provided (not (h && has_end s)) (Left x) nothing) (λ _. nothing_left (entries_by (drop (i + 1) hs) (drop (i + 1) xs) (drop (i + 1) ss)))
  here = rw (held, named, shaped) refl

  pub left_here : (h && has_end s) ≡ true → nothing_left (entries_by (drop i hs) (drop i xs) (drop i ss)) ≡ Err (Left x)
  left_here is = here ∙ ap (λ b. and_then (provided (not b) (Left x) nothing) (λ _. nothing_left (entries_by (drop (i + 1) hs) (drop (i + 1) xs) (drop (i + 1) ss)))) is

  pub left_later : (h && has_end s) ≡ false
      → nothing_left (entries_by (drop i hs) (drop i xs) (drop i ss)) ≡ nothing_left (entries_by (drop (i + 1) hs) (drop (i + 1) xs) (drop (i + 1) ss))
  left_later is = here ∙ ap (λ b. and_then (provided (not b) (Left x) nothing) (λ _. nothing_left (entries_by (drop (i + 1) hs) (drop (i + 1) xs) (drop (i + 1) ss)))) is

pub and_false : (b : Bool) → (b && false) ≡ false
and_false true = refl
and_false false = refl
