-- A program of form that is outlined.
use Rattle.std.proofs.Common.{◌≡◌, ℕ, zero, suc, List, [], ◌∷◌, Some, None, refl, sym, subst}
use Rattle.chan_syntax.specs.declared.operands.Letter.{Letter}
use Rattle.chan_syntax.specs.declared.operands.Letter.TheVariants as letter
use Rattle.form_faults.specs.Faults.{past, unless}
use Rattle.narrow_terms.specs.Numbers.{is_narrow, are_narrow}
use Rattle.form_faults.specs.Scopes.{sort_of, unscoped, twice, bind, bind_all, twice_all, binders}
use Rattle.form_faults.specs.Terms.{part_faults, parts_faults, term_faults, terms_faults, fixed_term_faults, fixed_terms_faults, limits_faults, limits_past, bound_scope, bound_faults, count_of, use_faults, fixed_ref_faults, ref_faults}
use Rattle.form_faults.specs.Resources.{shape_faults, res_faults, depth_of, unless_shallow, next_faults, message_faults, equation_faults, proto_faults, param_faults, params_faults, params_scope, params_past, header_scope, header_faults}
use Rattle.form_faults.specs.Operands.{supply_faults, supplies_faults, certs_faults, proof_faults, path_faults}
use Rattle.protocol_guard.specs.Guards.{graph_of, step, walk, IsGuarded}
use Rattle.core_programs.specs.Bodies.{rest_within, program_of}
use Rattle.core_programs.specs.Trees.{tree_within}
use Rattle.core_programs.specs.Passes.{twice_faults, name_faults, count_faults, main_faults, no_main, call_faults, operand_faults, binders_at, body_faults, func_faults, funcs_faults, protos_faults}
use Rattle.outline_language.specs.Examples as outline
use Rattle.outline_language.specs.Outlined.{faults_of_program, IsOutlined}
use Rattle.outline_language.proofs.Bodies.{functions_of_none}
use Rattle.outline_language.proofs.FirstFaults.{least_is_none}
use Rattle.outline_language.proofs.Examples.{receiving}
use Rattle.form_soundness.specs.Examples.{receives}
use Rattle.form_soundness.specs.Laws.{SomeHasForm}

program_is : program_of receives ≡ outline.receives
unfolding rest_within
program_is = refl

is_outlined : IsOutlined outline.receives
is_outlined = functions_of_none outline.receives (outline.receives.funcs) (least_is_none (faults_of_program outline.receives) receiving)

none_twice : twice_faults receives ≡ []
unfolding twice_all twice sort_of bind
none_twice = refl

names_none : name_faults receives ≡ []
unfolding protos_faults funcs_faults func_faults body_faults operand_faults call_faults binders_at tree_within header_faults params_faults param_faults params_scope params_past header_scope shape_faults res_faults depth_of unless_shallow next_faults message_faults equation_faults proto_faults part_faults parts_faults term_faults terms_faults fixed_term_faults fixed_terms_faults limits_faults limits_past bound_scope bound_faults count_of use_faults fixed_ref_faults ref_faults supply_faults supplies_faults certs_faults proof_faults path_faults sort_of unscoped twice bind bind_all twice_all binders past unless is_narrow are_narrow
names_none = refl

counts_none : count_faults receives ≡ []
unfolding past
counts_none = refl

main_none : main_faults receives ≡ []
unfolding no_main
main_none = refl

-- no turn leads on from the one protocol
no_turn : (i : ℕ) (turn : Letter) → step (graph_of receives.protos) i turn ≡ None
unfolding step graph_of
no_turn zero letter.Left = refl
no_turn zero letter.Right = refl
no_turn (suc i) letter.Left = refl
no_turn (suc i) letter.Right = refl

never_back : (i : ℕ) (turn : Letter) (way : List Letter) → walk (graph_of receives.protos) i (turn ∷ way) ≡ Some i → ⊥
unfolding walk
never_back i turn way leads = let none = no_turn i turn in cc

guarded : IsGuarded receives.protos
guarded i [] returns = returns
guarded i (turn ∷ way) returns = never_back i turn way returns

pub some_has_form : SomeHasForm
some_has_form = (receives, (none_twice, (names_none, (counts_none, (guarded, main_none)))), subst IsOutlined (sym program_is) is_outlined)
