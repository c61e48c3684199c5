-- The binders y are the instances of the message.
use Rattle.std.proofs.Common.{◌≡◌, ℕ, suc, pos, Bool, true, false, if◌then◌else◌, codes, List, [], ◌∷◌, ◌++◌, length, map, slice_get, ◌+◌, ◌&&◌, Option, Some, None, is_some, unwrap_or, option_map, Result, Ok, Err, refl, sym, ap, ◌∙◌, append_assoc, arith}
use Rattle.core_language.specs.Names.{Ident, same}
use Rattle.core_language.specs.Terms.{Term}
use Rattle.core_language.specs.Operands.{Proof}
use Rattle.linear_forms.specs.Substitution.{place_of}
use Rattle.outline_language.specs.LinearForms.{Free, LinearForm, variable_form, constant_form, add_times}
use Rattle.outline_language.specs.Nameless.{Shape}
use Rattle.outline_language.specs.Contexts.{Why, InstanceCount, Context, Entry, Cursor, Supplied, or_why, and_then, provided, entry_named, variable_in, int_entry, integer_named, formed, meaning, next_instance, take_instances, WrongForm}
use Rattle.helper_outlines.specs.Helpers.{named, IsBinder, AreBinders}
use Rattle.helper_outlines.proofs.Steps.{chain, there}
use Rattle.helper_outlines.proofs.Certificates.{at_length}
use Rattle.helper_outlines.proofs.Standing.{length_more, cursor_at}

-- the context of a helper, where d, c and v are held or not
abbrev pub entry : Ident → Shape → Bool → Entry
entry x shape held = record { name = x; shape = shape; held = held }

abbrev pub three : (end channel value : Shape) → (end_held channel_held value_held : Bool) → List Entry
three end channel value a b c = entry (codes "d") end a ∷ entry (codes "c") channel b ∷ entry (codes "v") value c ∷ []

-- a binder is no entry
pub no_entry : (end channel value : Shape) (a b c : Bool) (ints : List Ident) (x : Ident) (form : LinearForm) → IsBinder ints x form
    → entry_named (three end channel value a b c) x ≡ None
no_entry end channel value a b c ints x form is =
    ap (λ t. if t then Some (entry (codes "d") end a) else entry_named (entry (codes "c") channel b ∷ entry (codes "v") value c ∷ []) x) is.not_end
    ∙ ap (λ t. if t then Some (entry (codes "c") channel b) else entry_named (entry (codes "v") value c ∷ []) x) is.not_channel
    ∙ ap (λ t. if t then Some (entry (codes "v") value c) else None) is.not_value

its_variable : (ctx : Context) (x : Ident) (form : LinearForm) → entry_named ctx.entries x ≡ None → IsBinder ctx.ints x form → integer_named ctx x ≡ Some form
its_variable ctx x form none is =
    ap (λ e. int_entry e (variable_in ctx.ints x)) none
    ∙ ap (λ p. option_map (λ i. variable_form (Free i)) p) is.at_place
    ∙ ap Some (sym is.form_is)

-- its meaning is its variable
means_at : (place : ℕ) (ctx : Context) (x : Ident) → integer_named ctx x ≡ Some (variable_form (Free place)) → meaning ctx (named x) ≡ Ok (variable_form (Free place))
means_at place ctx x is =
    ap (λ o. if is_some o && true then formed (add_times (pos 1) (unwrap_or o (constant_form (pos 0))) (constant_form (pos 0))) else Err WrongForm) is

means : (ctx : Context) (x : Ident) (form : LinearForm) → entry_named ctx.entries x ≡ None → IsBinder ctx.ints x form → meaning ctx (named x) ≡ Ok form
means ctx x form none is =
    means_at is.place ctx x (its_variable ctx x form none is ∙ ap Some is.form_is) ∙ ap Ok (sym is.form_is)

-- instances are taken one by one
abbrev pub Taken : Context → List Ident → List LinearForm → Proof → ℕ → ℕ → Type 0
Taken ctx names forms proof taken cert =
    take_instances ctx (length names) (cursor_at proof taken cert) ≡ Ok (record { forms = forms; cursor = cursor_at proof (taken + length names) cert })

pub takes_binders : (ctx : Context) (names : List Ident) (forms : List LinearForm) (before : List Term) (proof : Proof) (taken cert : ℕ)
    → ((x : Ident) (form : LinearForm) → IsBinder ctx.ints x form → entry_named ctx.entries x ≡ None)
    → AreBinders ctx.ints names forms → proof.instances ≡ before ++ map named names → taken ≡ length before → Taken ctx names forms proof taken cert
takes_binders ctx [] [] before proof taken cert none are instances count = ap (λ n. Ok (record { forms = []; cursor = cursor_at proof n cert })) (omega arith)
takes_binders ctx [] (f ∷ fs) before proof taken cert none are instances count = absurd are
takes_binders ctx (x ∷ xs) [] before proof taken cert none are instances count = absurd are
takes_binders ctx (x ∷ xs) (f ∷ fs) before proof taken cert none (is, are) instances count =
    first (takes_binders ctx xs fs (before ++ named x ∷ []) proof (suc taken) cert none are (instances ∙ sym (append_assoc before (named x ∷ []) (map named xs))) (ap suc count ∙ sym (length_more before (named x))))
  where
    here : slice_get proof.instances taken ≡ Some (named x)
    here = ap (λ ts. slice_get ts taken) instances ∙ ap (slice_get (before ++ named x ∷ map named xs)) count ∙ at_length before (named x) (map named xs)

    next : next_instance ctx (cursor_at proof taken cert) ≡ Ok f
    next = chain (or_why (slice_get proof.instances taken) InstanceCount) (meaning ctx) (named x) f (there (slice_get proof.instances taken) InstanceCount (named x) here) (means ctx x f (none x f is) is)

    put : LinearForm → Supplied → Result Supplied Why
    put form rest = Ok (record { forms = form ∷ rest.forms; cursor = rest.cursor })

    counted : taken + suc (length xs) ≡ suc taken + length xs
    counted = omega arith

    first : Taken ctx xs fs proof (suc taken) cert → Taken ctx (x ∷ xs) (f ∷ fs) proof taken cert
    first others =
        chain (next_instance ctx (cursor_at proof taken cert)) (λ form. and_then (take_instances ctx (length xs) (cursor_at proof (suc taken) cert)) (put form)) f
        (record { forms = f ∷ fs; cursor = cursor_at proof (taken + suc (length xs)) cert }) next
        (chain (take_instances ctx (length xs) (cursor_at proof (suc taken) cert)) (put f) (record { forms = fs; cursor = cursor_at proof (suc taken + length xs) cert })
        (record { forms = f ∷ fs; cursor = cursor_at proof (taken + suc (length xs)) cert }) others
        (ap (λ n. Ok (record { forms = f ∷ fs; cursor = cursor_at proof n cert })) (sym counted)))
