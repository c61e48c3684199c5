-- Places of an outlined program that have just these uses.
use Rattle.standing_contexts.specs.Places.{Agree, BodyAt, Owed, Pays, PlaceAt, StackAt, Standing, names_of_env}
use Rattle.std.proofs.Common.{◌≡◌, ℕ, suc, ◌+◌, ◌≤◌, ℤ, Bool, true, false, not, ◌||◌, ◌&&◌, List, [], ◌∷◌, ◌++◌, map, length, append-nil, Option, Some, None, Result, Ok, Err, refl, ap, sym, subst, ◌∙◌, arith}
use Rattle.std.proofs.lemmas.Bool.{not-true}
use Rattle.core_language.specs.Names.{Ident}
use Rattle.core_language.specs.Terms.{Term}
use Rattle.core_language.specs.Resources.{Proto}
use Rattle.core_language.specs.Programs.{Body, Program}
use Rattle.core_language.specs.Values.{Value}
use Rattle.core_language.specs.Computing.{unbounded, Done, Env, sum_of}
use Rattle.core_language.specs.Configurations.{in_term, names, kept, Caller, Place, Ended, Running}
use Rattle.core_language.specs.Acts.{at, bound}
use Rattle.graphs.specs.Graph.{count}
use Rattle.graphs.proofs.Counts.{count-append}
use Rattle.outline_language.specs.LinearForms.{LinearForm, form_at}
use Rattle.outline_language.specs.Nameless.{Res, has_end}
use Rattle.outline_language.specs.Contexts.{Why, Entry, Context, meaning, nothing_left, nothing, and_then, provided, Left}
use Rattle.outline_language.specs.Outlined.{OutlinedBody}
use Rattle.good_configurations.specs.Ends.{integer_at}
use Rattle.good_configurations.specs.Ends as ends
use Rattle.good_configurations.specs.Values.{Use}
use Rattle.good_configurations.specs.Uses.{AreSame}
use Rattle.good_configurations.specs.Acts.{Typing, Stands}
use Rattle.outline_values.specs.Proper.{HasEntries, HasHeld, ProperForm}
use Rattle.outline_values.specs.Formed.{NamesAre, NamesBound}
use Rattle.outline_values.proofs.Answers.{and_then-ok, provided-ok}
use Rattle.given_values.proofs.Entries.{entry_names, meaning-typed, meaning-proper}
use Rattle.outline_values.proofs.Shapes.{no_uses}
use Rattle.standing_contexts.proofs.Operands.{kept-value, bound-value, sum-agrees}

pub none_same : (us : List Use) → AreSame us [] → us ≡ []
none_same [] h = refl
none_same (u ∷ us) h = absurd (omega (arith, h (λ _. true)))

module _ (P : Program) where
  pub goes_on : (rest : Body) (env F : Env) (callers : List Caller) (owed : Owed) (us vs ws : List Use) → AreSame us (vs ++ ws) → Agree (names rest) env F → BodyAt P owed rest F vs → StackAt P callers owed ws → Stands (PlaceAt P) (at rest env callers) us
  goes_on rest env F callers owed us vs ws split agree body stack = (us, (λ q. refl), (F, owed, vs, ws, split, (λ x e. kept-value rest env x e ∙ agree x e), body, stack))

pub names-bound : (F : Env) (x : Ident) (v : Value) → names_of_env (bound F x v) ≡ names_of_env F ++ x ∷ []
names-bound [] x v = refl
names-bound (b ∷ F) x v = ap (λ z. b.0 ∷ z) (names-bound F x v)

pub entry-names-are : (protos : List Proto) (n : ℕ) (w : ℕ → ℤ) (F : Env) (es : List Entry) (us : List Use) → HasEntries protos n w F es us → entry_names es ≡ names_of_env F
entry-names-are protos n w [] [] us has = refl
entry-names-are protos n w [] (e ∷ es) us has = absurd has
entry-names-are protos n w (b ∷ F) [] us has = absurd has
entry-names-are protos n w (b ∷ F) (e ∷ es) us (vs, ws, split, named, proper, held, rest) = joined (sym named) (entry-names-are protos n w F es ws rest)
  where
    joined : e.name ≡ b.0 → entry_names es ≡ names_of_env F → e.name ∷ entry_names es ≡ b.0 ∷ names_of_env F
    joined p q = λ i. p i ∷ q i

-- where no end is left, nothing is used
pub left-none : (protos : List Proto) (n : ℕ) (w : ℕ → ℤ) (F : Env) (es : List Entry) (us : List Use) → HasEntries protos n w F es us → (t : Unit {0}) → nothing_left es ≡ Ok t → us ≡ []
left-none protos n w [] [] us has t e = has
left-none protos n w [] (d ∷ es) us has t e = absurd has
left-none protos n w (b ∷ F) [] us has t e = absurd has
left-none protos n w (b ∷ F) (d ∷ es) us (vs, ws, split, named, proper, held, rest) t e = go (and_then-ok (provided (not (d.held && has_end (d.shape))) (Left (d.name)) nothing) (λ _. nothing_left es) t e) (λ t e. left-none protos n w F es ws rest t e)
  where
    one : (h : Bool) → HasHeld w b.1 (d.shape) h vs → not (h && has_end (d.shape)) ≡ true → vs ≡ []
    one false held e = held.0
    one true held e = no_uses w [] (d.shape) b.1 vs (not-true (has_end (d.shape)) e) held

    go : (t' : Unit {0}) × (provided (not (d.held && has_end (d.shape))) (Left (d.name)) nothing ≡ Ok t') × (nothing_left es ≡ Ok t) → ((t : Unit {0}) → nothing_left es ≡ Ok t → ws ≡ []) → us ≡ []
    go (t', e₁, e₂) ih = split ∙ ap (λ z. z ++ ws) (one (d.held) held ((provided-ok _ (Left (d.name)) nothing t' e₁).0)) ∙ ih t e₂

module _ (P : Program) (owed : Owed) (own : Res) (ctx : Context) (ks : List ℤ) (F : Env) (us : List Use) (s : Standing (P.protos) owed own ctx ks F us) where
  -- a term of the body, in the frame's own variables
  pub term-typed : (env : Env) (t : Term) (f : LinearForm) → NamesAre (names_of_env F) t → Agree (λ x. in_term x t) env F → meaning ctx t ≡ Ok f → sum_of unbounded env t ≡ Done (form_at (ends.at (integer_at ks) []) f)
  term-typed env t f names agree e = sum-agrees unbounded env F t _ agree ∙ meaning-typed (P.protos) (length (ctx.ints)) (integer_at ks) ctx refl F us (s.entries) t f (subst (λ z. NamesAre z t) (sym (entry-names-are (P.protos) (length (ctx.ints)) (integer_at ks) F (ctx.entries) us (s.entries))) names) e

  pub term-proper : (t : Term) (f : LinearForm) → meaning ctx t ≡ Ok f → ProperForm (length (ctx.ints)) 0 f
  term-proper t f e = meaning-proper (P.protos) (length (ctx.ints)) (integer_at ks) ctx refl F us (s.entries) t f e
