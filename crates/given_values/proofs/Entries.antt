-- The values of a context's entries: what terms mean, and what is taken.
use Rattle.std.proofs.Common.{◌≡◌, ◌≢◌, ℕ, zero, suc, ◌+◌, ◌≤◌, ◌<◌, ℤ, pos, negsuc, neg_ℤ, ◌+ℤ◌, ◌-ℤ◌, ◌*ℤ◌, Bool, true, false, not, ◌&&◌, ◌||◌, cond, if◌then◌else◌, List, [], ◌∷◌, ◌++◌, map, length, Option, Some, None, is_some, unwrap_or, Result, Ok, Err, refl, ap, sym, subst, ◌∙◌, arith}
use Rattle.std.proofs.lemmas.Int.{ints}
use Rattle.std.proofs.lemmas.Bool.{and_parts}
use Rattle.std.specs.Option.{option_map}
use Rattle.std.specs.List.{list_all, list_any}
use Rattle.core_language.specs.Names.{Ident, same}
use Rattle.core_language.specs.Terms.{Part, Term}
use Rattle.core_language.specs.Resources.{Proto}
use Rattle.core_language.specs.Values.{Value}
use Rattle.core_language.specs.Values as value
use Rattle.core_language.specs.Computing.{unbounded, Computed, Done, Env, value_of, as_int, product, joined, sum_from, sum_of}
use Rattle.farkas_check.proofs.Products.{neg_times}
use Rattle.linear_forms.specs.Terms.{times_of}
use Rattle.linear_forms.specs.Normal.{names_of}
use Rattle.linear_forms.specs.Substitution.{place_of}
use Rattle.outline_language.specs.LinearForms.{Free, Inside, LinearForm, constant_form, variable_form, add_times, of_name, form_of_term, form_at}
use Rattle.outline_language.specs.Nameless.{Shape, Int, has_end}
use Rattle.outline_language.specs.Nameless as shape
use Rattle.outline_language.specs.Contexts.{Why, NotHeld, WrongForm, TooLarge, and_then, or_why, provided, Entry, Context, int_of, entry_named, variable_in, int_entry, integer_named, formed, meaning, meanings, Taken, without, held_shape, take}
use Rattle.graphs.specs.Graph.{count}
use Rattle.graphs.proofs.Counts.{count-append}
use Rattle.good_configurations.specs.Ends.{at, integer_at}
use Rattle.good_configurations.specs.Values.{Use, HasShape}
use Rattle.good_configurations.specs.Uses.{AreSame}
use Rattle.outline_values.specs.Proper.{HasEntries, HasHeld, ProperForm, ProperForms, ProperShape}
use Rattle.outline_values.specs.Formed.{IsOne, NamesAre}
use Rattle.outline_values.proofs.Answers.{one_ok, err_ok, and_then-ok, provided-ok, or_why-ok, one_some, none_some}
use Rattle.outline_language.proofs.Values.{add_times-at, constant-at}
use Rattle.outline_values.proofs.Proper.{term-proper, place-within}
use Rattle.outline_values.proofs.Shapes.{no_uses}

times_one : (z : ℤ) → z *ℤ pos 1 ≡ z
times_one z = omega (arith, ints)

abbrev pub entry_names : List Entry → List Ident
entry_names es = map (λ e. e.name) es

module _ (protos : List Proto) (n : ℕ) (w : ℕ → ℤ) where
  -- an entry that is an integer has it as its value
  int-typed : (F : Env) (es : List Entry) (us : List Use) → HasEntries protos n w F es us → (x : Ident) (e : Entry) → entry_named es x ≡ Some e → (f : LinearForm) → int_of (e.shape) ≡ Some f → (value_of F x ≡ Some (value.Int (form_at (at w []) f))) × ProperForm n 0 f
  int-typed [] [] us has x e found f is = none_some found
  int-typed [] (d ∷ es) us has x e found f is = absurd has
  int-typed (b ∷ F) [] us has x e found f is = absurd has
  int-typed (b ∷ F) (d ∷ es) us (vs, ws, split, named, proper, held, rest) x e found f is = go (same (d.name) x) refl found (λ found. int-typed F es ws rest x e found f is)
    where
      here : (s : Shape) → int_of s ≡ Some f → ProperShape protos n 0 s → (h : Bool) → HasHeld w b.1 s h vs → (b.1 ≡ value.Int (form_at (at w []) f)) × ProperForm n 0 f
      here (Int g) is proper true held = (held.0 ∙ ap (λ z. value.Int (form_at (at w []) z)) (one_some is), subst (ProperForm n 0) (one_some is) proper)
      here (Int g) is proper false held = cc
      here shape.Unit is proper h held = none_some is
      here (shape.End r) is proper h held = none_some is
      here (shape.Pair r s) is proper h held = none_some is
      here (shape.Sum rs) is proper h held = none_some is

      go : (t : Bool) → same (d.name) x ≡ t → (if t then Some d else entry_named es x) ≡ Some e → (entry_named es x ≡ Some e → (value_of F x ≡ Some (value.Int (form_at (at w []) f))) × ProperForm n 0 f)
          → ((if same b.0 x then Some b.1 else value_of F x) ≡ Some (value.Int (form_at (at w []) f))) × ProperForm n 0 f
      go true t found ih = let y = here (d.shape) (subst (λ z. int_of (z.shape) ≡ Some f) (sym (one_some found)) is) proper (d.held) held in (rw (named, t) (ap Some (y.0)), y.1)
      go false t found ih = let y = ih found in (rw (named, t) (y.0), y.1)

  entry-there : (es : List Entry) (x : Ident) → list_any (λ y. same y x) (entry_names es) ≡ true → (e : Entry) × (entry_named es x ≡ Some e)
  entry-there [] x h = cc
  entry-there (d ∷ es) x h = go (same (d.name) x) h (entry-there es x)
    where
      go : (t : Bool) → (t || list_any (λ y. same y x) (entry_names es)) ≡ true → (list_any (λ y. same y x) (entry_names es) ≡ true → (e : Entry) × (entry_named es x ≡ Some e)) → (e : Entry) × ((if t then Some d else entry_named es x) ≡ Some e)
      go true h ih = (d, refl)
      go false h ih = ih h

  module _ (ctx : Context) (vars : length (ctx.ints) ≡ n) (F : Env) (us : List Use) (has : HasEntries protos n w F (ctx.entries) us) where
    abbrev stands_for : Ident → LinearForm
    stands_for x = unwrap_or (integer_named ctx x) (constant_form (pos 0))

    named-proper : (x : Ident) → ProperForm n 0 (stands_for x)
    named-proper x = go (entry_named (ctx.entries) x) refl
      where
        by_int : (e : Entry) → entry_named (ctx.entries) x ≡ Some e → (o : Option LinearForm) → int_of (e.shape) ≡ o → ProperForm n 0 (unwrap_or o (constant_form (pos 0)))
        by_int e found None is = tt
        by_int e found (Some f) is = (int-typed F (ctx.entries) us has x e found f is).1

        by_place : (o : Option ℕ) → place_of (ctx.ints) x ≡ o → ProperForm n 0 (unwrap_or (option_map (λ i. variable_form (Free i)) o) (constant_form (pos 0)))
        by_place None e = tt
        by_place (Some i) e = (omega (arith, place-within (ctx.ints) x i e, vars), tt)

        go : (o : Option Entry) → entry_named (ctx.entries) x ≡ o → ProperForm n 0 (unwrap_or (int_entry o (variable_in (ctx.ints) x)) (constant_form (pos 0)))
        go None e = by_place (place_of (ctx.ints) x) refl
        go (Some e) found = by_int e found (int_of (e.shape)) refl

    meaning-is : (t : Term) (f : LinearForm) → meaning ctx t ≡ Ok f → (list_all (λ x. is_some (integer_named ctx x)) (names_of t) ≡ true) × (f ≡ form_of_term stands_for t)
    meaning-is t f e = go (list_all (λ x. is_some (integer_named ctx x)) (names_of t)) refl e
      where
        go : (b : Bool) → list_all (λ x. is_some (integer_named ctx x)) (names_of t) ≡ b → (if b then formed (form_of_term stands_for t) else Err WrongForm) ≡ Ok f → (list_all (λ x. is_some (integer_named ctx x)) (names_of t) ≡ true) × (f ≡ form_of_term stands_for t)
        go true h e = (h, sym ((provided-ok _ TooLarge (form_of_term stands_for t) f e).1))
        go false h e = err_ok e

    pub meaning-proper : (t : Term) (f : LinearForm) → meaning ctx t ≡ Ok f → ProperForm n 0 f
    meaning-proper t f e = subst (ProperForm n 0) (sym ((meaning-is t f e).1)) (term-proper n 0 stands_for named-proper t)

    pub meanings-proper : (ts : List Term) (fs : List LinearForm) → meanings ctx ts ≡ Ok fs → ProperForms n 0 fs × (length fs ≡ length ts)
    meanings-proper [] fs e = subst (λ z. ProperForms n 0 z × (length z ≡ 0)) (one_ok e) (tt, refl)
    meanings-proper (t ∷ ts) fs e = go (and_then-ok (meaning ctx t) (λ form. and_then (meanings ctx ts) (λ forms. Ok (form ∷ forms))) fs e) (λ gs h. meanings-proper ts gs h)
      where
        go : (f : LinearForm) × (meaning ctx t ≡ Ok f) × (and_then (meanings ctx ts) (λ forms. Ok (f ∷ forms)) ≡ Ok fs) → ((gs : List LinearForm) → meanings ctx ts ≡ Ok gs → ProperForms n 0 gs × (length gs ≡ length ts)) → ProperForms n 0 fs × (length fs ≡ suc (length ts))
        go (f, e₁, e₂) ih = by (and_then-ok (meanings ctx ts) (λ forms. Ok (f ∷ forms)) fs e₂)
          where
            by : (gs : List LinearForm) × (meanings ctx ts ≡ Ok gs) × (◌≡◌ {A = Result (List LinearForm) Why} (Ok (f ∷ gs)) (Ok fs)) → ProperForms n 0 fs × (length fs ≡ suc (length ts))
            by (gs, e₃, e₄) = let x = ih gs e₃ in subst (λ z. ProperForms n 0 z × (length z ≡ suc (length ts))) (one_ok e₄) ((meaning-proper t f e₁, x.0), ap suc (x.1))

    -- a name of a term has the integer that stands for it
    name-typed : (x : Ident) → list_any (λ y. same y x) (entry_names (ctx.entries)) ≡ true → is_some (integer_named ctx x) ≡ true → value_of F x ≡ Some (value.Int (form_at (at w []) (stands_for x)))
    name-typed x there some = go (entry-there (ctx.entries) x there)
      where
        go : (e : Entry) × (entry_named (ctx.entries) x ≡ Some e) → value_of F x ≡ Some (value.Int (form_at (at w []) (stands_for x)))
        go (e, found) = by (int_of (e.shape)) refl
          where
            by : (o : Option LinearForm) → int_of (e.shape) ≡ o → value_of F x ≡ Some (value.Int (form_at (at w []) (stands_for x)))
            by (Some f) is = (int-typed F (ctx.entries) us has x e found f is).0 ∙ ap (λ z. Some (value.Int (form_at (at w []) z))) (sym (ap (λ z. unwrap_or (int_entry z (variable_in (ctx.ints) x)) (constant_form (pos 0))) found ∙ ap (λ z. unwrap_or z (constant_form (pos 0))) is))
            by None is = let z : integer_named ctx x ≡ None = ap (λ z. int_entry z (variable_in (ctx.ints) x)) found ∙ is in let y : is_some (integer_named ctx x) ≡ false = ap is_some z in cc

    sum-typed : (t : Term) → NamesAre (entry_names (ctx.entries)) t → list_all (λ x. is_some (integer_named ctx x)) (names_of t) ≡ true → (total : ℤ) → sum_from unbounded F total t ≡ Done (total +ℤ form_at (at w []) (form_of_term stands_for t))
    sum-typed [] names all total = ap Done (omega (arith, ints))
    sum-typed (p ∷ ps) names all total = by (p.name) (names.0) all (λ rest total. sum-typed ps (names.1) rest total)
      where
        negated : (b : Bool) (z : ℤ) → joined b total (p.factor *ℤ z) ≡ total +ℤ ((if b then neg_ℤ (p.factor) else p.factor) *ℤ z)
        negated true z = omega (arith, ints, neg_times (p.factor) z)
        negated false z = refl

        last : (z : ℤ) (g : LinearForm) → form_at (at w []) g ≡ z → ((total : ℤ) → sum_from unbounded F total ps ≡ Done (total +ℤ form_at (at w []) (form_of_term stands_for ps))) → sum_from unbounded F (joined (p.negative) total (p.factor *ℤ z)) ps ≡ Done (total +ℤ form_at (at w []) (add_times (times_of p) g (form_of_term stands_for ps)))
        last z g is ih = ih (joined (p.negative) total (p.factor *ℤ z)) ∙ ap Done (omega (arith, ints, negated (p.negative) z, add_times-at (at w []) (times_of p) g (form_of_term stands_for ps), ap (λ y. times_of p *ℤ y) is))

        by : (o : Option Ident) → IsOne (entry_names (ctx.entries)) o → list_all (λ x. is_some (integer_named ctx x)) (names_of (record { negative = p.negative; factor = p.factor; name = o } ∷ ps)) ≡ true
            → (list_all (λ x. is_some (integer_named ctx x)) (names_of ps) ≡ true → (total : ℤ) → sum_from unbounded F total ps ≡ Done (total +ℤ form_at (at w []) (form_of_term stands_for ps)))
            → sum_from unbounded F total (record { negative = p.negative; factor = p.factor; name = o } ∷ ps) ≡ Done (total +ℤ form_at (at w []) (add_times (times_of p) (of_name stands_for o) (form_of_term stands_for ps)))
        by None one all ih = subst (λ y. sum_from unbounded F (joined (p.negative) total y) ps ≡ Done (total +ℤ form_at (at w []) (add_times (times_of p) (constant_form (pos 1)) (form_of_term stands_for ps)))) (times_one (p.factor)) (last (pos 1) (constant_form (pos 1)) (constant-at (at w []) (pos 1)) (ih all))
        by (Some x) one all ih = let a = and_parts (is_some (integer_named ctx x)) (list_all (λ x. is_some (integer_named ctx x)) (names_of ps)) all in rw (name-typed x one (a.0)) (last (form_at (at w []) (stands_for x)) (stands_for x) refl (ih (a.1)))

    -- a term is worth what it means
    pub meaning-typed : (t : Term) (f : LinearForm) → NamesAre (entry_names (ctx.entries)) t → meaning ctx t ≡ Ok f → sum_of unbounded F t ≡ Done (form_at (at w []) f)
    meaning-typed t f names e = let x = meaning-is t f e in sum-typed t names (x.0) (pos 0) ∙ ap Done (omega (arith, ints, ap (form_at (at w [])) (x.1)))

  -- ---- what is taken

  abbrev pub TakenAs : Env → Ident → Shape → List Entry → List Use → Type 0
  TakenAs F x s es us =
      (v : Value) × (vs rest : List Use) × (value_of F x ≡ Some v) × HasShape w [] s v vs × ProperShape protos n 0 s × HasEntries protos n w F es rest × AreSame us (vs ++ rest)

  abbrev HereAs : Env → Ident × Value → List Entry → Entry → Ident → Shape → List Use → Bool → Type 0
  HereAs F b es d x s us t =
      (v : Value) × (vs rest : List Use) × ((if same b.0 x then Some b.1 else value_of F x) ≡ Some v) × HasShape w [] s v vs × ProperShape protos n 0 s
      × HasEntries protos n w (b ∷ F) (if t then (record d { held = not (has_end (d.shape)) } ∷ es) else (d ∷ without x es)) rest × AreSame us (vs ++ rest)

  taken-typed : (F : Env) (es : List Entry) (us : List Use) → HasEntries protos n w F es us → (x : Ident) (s : Shape) → held_shape (entry_named es x) ≡ Some s → TakenAs F x s (without x es) us
  taken-typed [] [] us has x s found = none_some found
  taken-typed [] (d ∷ es) us has x s found = absurd has
  taken-typed (b ∷ F) [] us has x s found = absurd has
  taken-typed (b ∷ F) (d ∷ es) us (vs, ws, split, named, proper, held, rest) x s found = go (same (d.name) x) refl found (λ found. taken-typed F es ws rest x s found)
    where
      after : (v : Value) (s : Shape) (vs : List Use) → HasShape w [] s v vs → (e : Bool) → has_end s ≡ e → (left : List Use) × HasHeld w v s (not e) left × AreSame vs (vs ++ left)
      after v s vs has true e = ([], (refl, e), λ q. omega (arith, count-append q vs []))
      after v s vs has false e = (vs, has, λ q. omega (arith, count-append q vs vs, nothing q))
        where
          nothing : (q : Use → Bool) → count q vs ≡ 0
          nothing q = ap (count q) (no_uses w [] s v vs e has)

      go : (t : Bool) → same (d.name) x ≡ t → held_shape (if t then Some d else entry_named es x) ≡ Some s → (held_shape (entry_named es x) ≡ Some s → TakenAs F x s (without x es) ws) → HereAs F b es d x s us t
      go true t found ih = by (d.held) refl held found
        where
          by : (h : Bool) → d.held ≡ h → HasHeld w b.1 (d.shape) h vs → (if h then Some (d.shape) else None) ≡ Some s → HereAs F b es d x s us true
          by false h held found = none_some found
          by true h held found = let is = one_some found in let x = after b.1 (d.shape) vs held (has_end (d.shape)) refl in
              (b.1, vs, x.0 ++ ws, rw (named, t) refl, subst (λ z. HasShape w [] z b.1 vs) is held, subst (ProperShape protos n 0) is proper, (x.0, ws, refl, named, proper, x.1, rest), λ q. omega (arith, ap (count q) split, count-append q vs ws, (x.2) q, count-append q vs (x.0), count-append q vs (x.0 ++ ws), count-append q (x.0) ws))
      go false t found ih = by (ih found)
        where
          by : TakenAs F x s (without x es) ws → HereAs F b es d x s us false
          by (v, us₁, us₂, at_x, has, proper', stays, split') =
              (v, us₁, vs ++ us₂, rw (named, t) at_x, has, proper', (vs, us₂, refl, named, proper, held, stays), λ q. omega (arith, ap (count q) split, count-append q vs ws, split' q, count-append q us₁ us₂, count-append q us₁ (vs ++ us₂), count-append q vs us₂))

  pub take-typed : (ctx : Context) (F : Env) (us : List Use) → HasEntries protos n w F (ctx.entries) us → (x : Ident) (taken : Taken) → take ctx x ≡ Ok taken → (taken.context ≡ record ctx { entries = without x (ctx.entries) }) × TakenAs F x (taken.shape) (without x (ctx.entries)) us
  take-typed ctx F us has x taken e = go (and_then-ok (or_why (held_shape (entry_named (ctx.entries) x)) (NotHeld x)) (λ shape. Ok (record { shape = shape; context = record ctx { entries = without x (ctx.entries) } })) taken e)
    where
      go : (s : Shape) × (or_why (held_shape (entry_named (ctx.entries) x)) (NotHeld x) ≡ Ok s) × (◌≡◌ {A = Result Taken Why} (Ok (record { shape = s; context = record ctx { entries = without x (ctx.entries) } })) (Ok taken)) → (taken.context ≡ record ctx { entries = without x (ctx.entries) }) × TakenAs F x (taken.shape) (without x (ctx.entries)) us
      go (s, e₁, e₂) = let is = one_ok e₂ in (sym (ap (λ z. z.context) is), subst (λ z. TakenAs F x z (without x (ctx.entries)) us) (ap (λ z. z.shape) is) (taken-typed F (ctx.entries) us has x s (or_why-ok _ (NotHeld x) s e₁)))
