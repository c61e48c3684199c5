-- Rules over the header that is read are those over the function.
use Rattle.std.proofs.Common.{◌≡◌, List, Option, Some, None, Result, Ok, Err, refl, ap, ◌∙◌}
use Rattle.std.specs.Option.{option_map}
use Rattle.core_language.specs.Names.{Ident}
use Rattle.core_language.specs.Operands.{Proof, Supply}
use Rattle.core_language.specs.Resources as written
use Rattle.core_language.specs.Programs.{Function}
use Rattle.outline_language.specs.LinearForms.{LinearForm}
use Rattle.outline_language.specs.Nameless.{Ref, Shape}
use Rattle.outline_language.specs.Contexts.{Why, WrongForm, Context, and_then, or_why, meanings}
use Rattle.outline_language.specs.Rules.{called_with, fork_form, forked_with}
use Rattle.function_headers.specs.Headers.{Header, header_read}
use Rattle.call_rules.specs.Headed.{called_by, fork_form_of, own_end_in, begun_by, forked_by}

module _ (ctx : Context) (values : List Supply) (proof : Proof) where
  pub called_header : (o : Option Function) (h : Header) → option_map header_read o ≡ Some h
      → and_then (or_why o WrongForm) (λ f. called_with ctx f values proof) ≡ called_by h ctx values proof
  called_header None h is = cc
  called_header (Some f) h is = let read : header_read f ≡ h = cc in ap (λ (x : Header). called_by x ctx values proof) read

  pub called_none : (o : Option Function) → option_map header_read o ≡ None → and_then (or_why o WrongForm) (λ f. called_with ctx f values proof) ≡ Err WrongForm
  called_none None is = refl
  called_none (Some f) is = cc

  module _ (x : Ident) (ref : written.Ref) where
    abbrev forks : Function → Result Context Why
    forks f = and_then (fork_form f) (λ form. forked_with ctx x ref f form values proof)

    -- the end is made of its arguments first
    with_args : (h : Header) (form : Ref × List Shape) (r : Result (List LinearForm) Why)
        → and_then r (λ args. begun_by h ctx x (record { dual = ref.dual; name = ref.name; args = args }) form.0 form.1 values proof)
        ≡ and_then (and_then r (λ args. Ok (record { dual = ref.dual; name = ref.name; args = args }))) (λ own. begun_by h ctx x own form.0 form.1 values proof)
    with_args h form (Ok args) = refl
    with_args h form (Err why) = refl

    read_forks : (f : Function) → forks f ≡ forked_by (header_read f) ctx x ref values proof
    read_forks f = by (fork_form_of (header_read f))
      where
        by : (r : Result (Ref × List Shape) Why) → and_then r (λ form. forked_with ctx x ref f form values proof)
            ≡ and_then r (λ form. and_then (own_end_in ctx ref) (λ own. begun_by (header_read f) ctx x own form.0 form.1 values proof))
        by (Ok form) = with_args (header_read f) form (meanings ctx ref.args)
        by (Err why) = refl

    pub forked_header : (o : Option Function) (h : Header) → option_map header_read o ≡ Some h → and_then (or_why o WrongForm) forks ≡ forked_by h ctx x ref values proof
    forked_header None h is = cc
    forked_header (Some f) h is = let read : header_read f ≡ h = cc in read_forks f ∙ ap (λ (y : Header). forked_by y ctx x ref values proof) read

    pub forked_none : (o : Option Function) → option_map header_read o ≡ None → and_then (or_why o WrongForm) forks ≡ Err WrongForm
    forked_none None is = refl
    forked_none (Some f) is = cc
