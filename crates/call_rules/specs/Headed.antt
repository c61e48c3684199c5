-- The rules on calls and forks, over the header of the function that is called or forked.
use Rattle.std.specs.Prelude.{List, Result, Ok}
use Rattle.core_language.specs.Names.{Ident}
use Rattle.core_language.specs.Operands.{Proof, Supply}
use Rattle.core_language.specs.Resources as written
use Rattle.outline_language.specs.Nameless.{Ref, Shape, End, dual_ref}
use Rattle.outline_language.specs.Contexts.{Why, ForkForm, and_then, or_why, provided, nothing, Context, start_of, meanings, instances, leftovers, put_in_res, hold}
use Rattle.outline_language.specs.Giving.{give_all}
use Rattle.outline_language.specs.Rules.{Called, first_end, give_end}
use Rattle.function_headers.specs.Headers.{Header}

-- instances and limits, each value at its parameter, leftovers, and then the result with the instances put in
abbrev pub called_by : Header → Context → List Supply → Proof → Result Called Why
called_by header ctx values proof =
    and_then (instances ctx header.binders header.limits (start_of proof)) (λ supplied.
    and_then (give_all supplied.forms values header.shapes (record { context = ctx; cursor = supplied.cursor })) (λ given.
    and_then (leftovers given.cursor) (λ _.
    and_then (put_in_res supplied.forms header.result) (λ result.
    Ok (record { context = given.context; result = result })))))

-- a function that may be forked
abbrev pub fork_form_of : Header → Result (Ref × List Shape) Why
fork_form_of header = and_then (provided header.gives_unit ForkForm nothing) (λ _. or_why (first_end header.shapes) ForkForm)

-- the parent's end, with what the arguments mean
abbrev pub own_end_in : Context → written.Ref → Result Ref Why
own_end_in ctx ref = and_then (meanings ctx ref.args) (λ args. Ok (record { dual = ref.dual; name = ref.name; args = args }))

-- instances and limits, the child's end, each value, leftovers; then the parent has the other end
abbrev pub begun_by : Header → Context → Ident → (own first : Ref) → List Shape → List Supply → Proof → Result Context Why
begun_by header ctx x own first shapes values proof =
    and_then (instances ctx header.binders header.limits (start_of proof)) (λ supplied.
    and_then (give_end supplied.forms (dual_ref own) first (record { context = ctx; cursor = supplied.cursor })) (λ begun.
    and_then (give_all supplied.forms values shapes begun) (λ given.
    and_then (leftovers given.cursor) (λ _.
    Ok (hold given.context x (End own))))))

-- a function that may be forked, the arguments, and what is behind them
abbrev pub forked_by : Header → Context → Ident → written.Ref → List Supply → Proof → Result Context Why
forked_by header ctx x ref values proof =
    and_then (fork_form_of header) (λ form.
    and_then (own_end_in ctx ref) (λ own. begun_by header ctx x own form.0 form.1 values proof))
