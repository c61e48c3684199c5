-- Lists that grow by one, through `map` and `flat_map`.
use Rattle.std.proofs.Common.{◌≡◌, ℕ, ◌+◌, ◌<◌, ℤ, ◌*ℤ◌, arith, List, [], ◌∷◌, ◌++◌, map, flat_map, take, get_or, length, sym, ◌∙◌, ap, refl}
use Rattle.std.proofs.lemmas.List.{take_more, map-append, append-nil, append_assoc, length-take-le}
use Rattle.std.proofs.lemmas.List.Concat.{flat_map-append}
use Rattle.core_language.specs.Names.{Ident}
use Rattle.core_language.specs.Terms.{Term as Sum}
use Rattle.linear_forms.specs.Terms.{times_of, put_of}
use Rattle.linear_forms.specs.Replacing.{counting, scaled}
use Rattle.chan_syntax.specs.Reading.{part_of, term_of}
use Rattle.chan_syntax.specs.declared.linear.Part.{Part}
use Rattle.chan_syntax.specs.declared.linear.Term.{Term}
use Rattle.substitution.specs.declared.scope.Put.{Put}
use Rattle.substitution.specs.Places.{puts_for}
use Rattle.substitution.specs.Scopes.{put_in}

pub map_more : {X Y : Type 0} (f : X → Y) (xs : List X) (i : ℕ) (d : X) → i < length xs → map f (take (i + 1) xs) ≡ map f (take i xs) ++ f (get_or xs i d) ∷ []
map_more f xs i d h = ap (map f) (take_more xs i d h) ∙ map-append f (take i xs) (get_or xs i d ∷ [])

pub flat_map_more : {X Y Z : Type 0} (g : Y → List Z) (f : X → Y) (xs : List X) (i : ℕ) (d : X) → i < length xs → flat_map g (map f (take (i + 1) xs)) ≡ flat_map g (map f (take i xs)) ++ g (f (get_or xs i d))
flat_map_more g f xs i d h = ap (flat_map g) (map_more f xs i d h) ∙ flat_map-append g (map f (take i xs)) (f (get_or xs i d) ∷ []) ∙ ap (λ l. flat_map g (map f (take i xs)) ++ l) (append-nil (g (f (get_or xs i d))))

-- the first items of a list, one more
pub flat_taken : {X Y : Type 0} (f : X → List Y) (xs : List X) (i : ℕ) (x : X) → i < length xs → get_or xs i x ≡ x → flat_map f (take (i + 1) xs) ≡ flat_map f (take i xs) ++ f x
flat_taken f xs i x l e = ap (flat_map f) (take_more xs i x l ∙ ap (λ y. take i xs ++ y ∷ []) e) ∙ flat_map-append f (take i xs) (x ∷ []) ∙ ap (λ l. flat_map f (take i xs) ++ l) (append-nil (f x))

pub puts_in : (xs : List Ident) (ts : List Term) → map put_in (puts_for xs ts) ≡ put_of xs (map term_of ts)
puts_in [] ts = refl
puts_in (x ∷ xs) [] = refl
puts_in (x ∷ xs) (t ∷ ts) = ap (λ l. record { name = x; term = term_of t } ∷ l) (puts_in xs ts)

put_joined : (xs : List Ident) (ts : List Term) (x : Ident) (t : Term) → length xs ≡ length ts → puts_for (xs ++ x ∷ []) (ts ++ t ∷ []) ≡ puts_for xs ts ++ record { name = x; term = t } ∷ []
put_joined [] [] x t e = refl
put_joined [] (u ∷ us) x t e = absurd (omega arith)
put_joined (y ∷ ys) [] x t e = absurd (omega arith)
put_joined (y ∷ ys) (u ∷ us) x t e = ap (λ l. record { name = y; term = u } ∷ l) (put_joined ys us x t (omega arith))

put_more : (xs : List Ident) (ts : List Term) (i : ℕ) (x : Ident) (t : Term) → i < length xs → i < length ts → puts_for (take (i + 1) xs) (take (i + 1) ts) ≡ puts_for (take i xs) (take i ts) ++ record { name = get_or xs i x; term = get_or ts i t } ∷ []
put_more xs ts i x t h k =
    rw (take_more xs i x h, take_more ts i t k) (put_joined (take i xs) (take i ts) (get_or xs i x) (get_or ts i t) (omega (arith, length-take-le i xs (omega arith), length-take-le i ts (omega arith))))

-- a term some times, of one part more
pub scaled_more : (sum : Sum) (w : ℤ) (ps : List Part) (i : ℕ) (p : Part) → i < length ps → get_or ps i p ≡ p → (sum ++ scaled w (map part_of (take i ps))) ++ counting (w *ℤ times_of (part_of p)) p.name ∷ [] ≡ sum ++ scaled w (map part_of (take (i + 1) ps))
scaled_more sum w ps i p h e =
    append_assoc sum (scaled w (map part_of (take i ps))) (counting (w *ℤ times_of (part_of p)) p.name ∷ [])
    ∙ ap (λ l. sum ++ l) (sym (ap (scaled w) (map_more part_of ps i p h ∙ ap (λ q. map part_of (take i ps) ++ part_of q ∷ []) e) ∙ map-append (λ q. counting (w *ℤ times_of q) q.name) (map part_of (take i ps)) (part_of p ∷ [])))

pub put_step : (xs : List Ident) (ts : List Term) (i : ℕ) (x : Ident) (t : Term) (put more : List Put) (p : Put) → i < length xs → i < length ts → get_or xs i x ≡ x → get_or ts i t ≡ t → more ≡ put ++ p ∷ [] → p.name ≡ x → p.term ≡ t → put ≡ puts_for (take i xs) (take i ts) → more ≡ puts_for (take (i + 1) xs) (take (i + 1) ts)
put_step xs ts i x t put more p h k e f m n o inv =
    let one : p ≡ record { name = x; term = t } = ap (λ y. record { name = y; term = p.term }) n ∙ ap (λ u. record { name = x; term = u }) o in
    rw (m, inv, one) (sym (put_more xs ts i x t h k ∙ rw (e, f) refl))
