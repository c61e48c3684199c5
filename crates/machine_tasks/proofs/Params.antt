-- Parameters and their values, one after another.
use Rattle.std.proofs.Common.{◌≡◌, ◌+◌, List, [], ◌∷◌, ◌++◌, map, drop, length, refl, sym, ap, ◌∙◌, arith, append-nil, append_assoc}
use Rattle.std.proofs.lemmas.List.{length-append, map-append}
use Rattle.core_language.specs.Computing.{Env}
use Rattle.core_language.specs.Programs as core
use Rattle.core_language.specs.Acts.{params_env}
use Rattle.chan_syntax.specs.declared.resources.Param.{Param}
use Rattle.core_programs.specs.Bodies.{param_of}
use Rattle.machine_values.specs.declared.binds.Bind.{Bind}
use Rattle.machine_values.specs.declared.values.Value.{Value}
use Rattle.machine_values.specs.Reading.{env_of, value_as}

pub no_value : (ps : List core.Param) → params_env ps [] ≡ []
no_value [] = refl
no_value (p ∷ ps) = refl

-- the variables so far, and those still to come
abbrev pub with_rest : List Param → List Bind → List Value → Env
with_rest params binds vs = env_of binds ++ params_env (map param_of (drop (length binds) params)) (map value_as vs)

pub binds_all : (params : List Param) (binds : List Bind) (vs : List Value) (goal : Env) → length vs ≡ 0 → with_rest params binds vs ≡ goal → env_of binds ≡ goal
binds_all params binds [] goal none so_far = sym (append-nil (env_of binds)) ∙ ap (λ e. env_of binds ++ e) (sym (no_value (map param_of (drop (length binds) params)))) ∙ so_far
binds_all params binds (v ∷ vs) goal none so_far = absurd (omega (arith, none))

-- one more variable
pub binds_one : (params : List Param) (binds : List Bind) (param : Param) (bind : Bind) (vs : List Value) → drop (length binds) params ≡ param ∷ drop (length binds + 1) params → bind.name ≡ param.name
    → with_rest params (binds ++ bind ∷ []) vs ≡ with_rest params binds (bind.value ∷ vs)
binds_one params binds param bind vs next named =
    let later : Env = params_env (map param_of (drop (length binds + 1) params)) (map value_as vs) in
    ap (λ n. env_of (binds ++ bind ∷ []) ++ params_env (map param_of (drop n params)) (map value_as vs)) (length-append binds (bind ∷ []))
    ∙ ap (λ e. e ++ later) (map-append (λ (b : Bind). (b.name, value_as b.value)) binds (bind ∷ []))
    ∙ append_assoc (env_of binds) ((bind.name, value_as bind.value) ∷ []) later
    ∙ ap (λ x. env_of binds ++ (x, value_as bind.value) ∷ later) named
    ∙ ap (λ ps. env_of binds ++ params_env (map param_of ps) (value_as bind.value ∷ map value_as vs)) (sym next)
